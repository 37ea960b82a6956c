use Rattle.cp_dimacs.specs.Headers.{word_of}
use Rattle.cp_dimacs.proofs.Counts.{count_is}
use Rattle.cp_dimacs.proofs.header.read_count.Goals as goal

pub returns : goal.returns
returns c = count_is (word_of c.args.word.now) c.in-Some.number c.unwrap_or.result c.in-Some.ensures c.if-not-number.false c.unwrap_or.ensures
