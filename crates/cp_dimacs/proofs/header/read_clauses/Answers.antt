use Rattle.std.proofs.lemmas.Result.{err_from_is_err_and}
use Rattle.cp_dimacs.specs.Grammar.{header_count}
use Rattle.cp_dimacs.specs.Headers.{word_of}
use Rattle.cp_dimacs.proofs.HeaderWords.{fails-word, no_count}
use Rattle.cp_dimacs.proofs.header.read_clauses.Goals as goal

pub returns-in_err-read_count : goal.returns-in_err-read_count
returns-in_err-read_count c =
    let p = err_from_is_err_and c.from_residual-in_err-read_count.result c.from_residual-in_err-read_count.ensures.1 in
    let w = word_of c.in_ok-count.count in
    rw (p.1, p.2)
    (fails-word (header_count c.args.variables) c.args.text w c.in_ok-count.count.behind.text.now c.in_err-read_count.field-0.0 c.in_ok-count.ensures.0 (λ words e. no_count c.args.variables w words e c.in_err-read_count.field-0.0 c.in_err-read_count.ensures))
