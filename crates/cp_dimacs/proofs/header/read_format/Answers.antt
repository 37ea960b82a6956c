use Rattle.std.specs.Prelude.{codes}
use Rattle.std.specs.Str.{bytes_eq}
use Rattle.cp_dimacs.specs.Grammar.{header_format}
use Rattle.cp_dimacs.specs.Headers.{word_of}
use Rattle.cp_dimacs.proofs.HeaderWords.{fails-word, not_true, no_format}
use Rattle.cp_dimacs.proofs.header.read_format.Goals as goal

pub returns-then-ne : goal.returns-then-ne
returns-then-ne c =
    let w = word_of c.in_ok-format.format in
    let differs = rw c.as_slice.ensures at c.if-ne.ensures in
    rw c.bad_header.ensures
    (fails-word (header_format c.args.limits.now) c.args.text w c.in_ok-format.format.behind.text.now _ c.in_ok-format.ensures.0 (λ words e. no_format c.args.limits.now w words e (not_true (bytes_eq w.bytes (codes "cnf")) differs)))
