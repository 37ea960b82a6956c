use Rattle.std.proofs.Common.{refl}
use Rattle.cp_dimacs.specs.Grammar.{no_more}
use Rattle.cp_dimacs.proofs.HeaderWords.{fails-word}
use Rattle.cp_dimacs.proofs.header.read_end.Goals as goal

pub returns-in-Word : goal.returns-in-Word
returns-in-Word c =
    rw c.bad_header.ensures
    (fails-word (λ words end. no_more c.args.variables words) c.args.text (record { at = c.in-Word.at; bytes = c.in-Word.word.now }) c.in-Word.rest.now _ c.in-Word.ensures.whole (λ words e. refl))
