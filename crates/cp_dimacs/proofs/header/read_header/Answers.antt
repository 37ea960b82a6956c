use Rattle.std.specs.Prelude.{codes}
use Rattle.std.specs.Str.{bytes_eq}
use Rattle.cp_dimacs.specs.Grammar.{header}
use Rattle.cp_dimacs.specs.Headers.{word_of}
use Rattle.cp_dimacs.proofs.HeaderWords.{fails-word, not_true, no_name}
use Rattle.cp_dimacs.proofs.header.read_header.Goals as goal

pub returns-then-ne : goal.returns-then-ne
returns-then-ne c =
    let w = word_of c.in_ok-name.name in
    let differs = rw c.as_slice.ensures at c.if-ne.ensures in
    fails-word (header c.args.limits.now) c.args.text w c.in_ok-name.name.behind.text.now _ c.in_ok-name.ensures.0 (λ words e. no_name c.args.limits.now w words e (not_true (bytes_eq w.bytes (codes "p")) differs))
