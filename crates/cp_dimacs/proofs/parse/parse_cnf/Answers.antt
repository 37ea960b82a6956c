use Rattle.cp_dimacs.proofs.Readings.{answers, valid-read}
use Rattle.cp_dimacs.proofs.parse.parse_cnf.Goals as goal

pub returns-clause-answer : goal.returns-clause-answer
returns-clause-answer c = answers c.args.limits.now c.args.bytes.now c.within-seen.result c.read_document-found.result c.judge.result c.within-seen.ensures c.read_document-found.ensures c.judge.ensures.answer

pub returns-clause-valid : goal.returns-clause-valid
returns-clause-valid c =
    valid-read c.args.limits.now c.args.bytes.now c.judge.result (answers c.args.limits.now c.args.bytes.now c.within-seen.result c.read_document-found.result c.judge.result c.within-seen.ensures c.read_document-found.ensures c.judge.ensures.answer)
    c.judge.ensures.valid
