-- What is left to read, item by item.
use Rattle.std.proofs.Common.{◌≡◌, ℕ, List, [], ◌∷◌, ◌∙◌, ap}
use Rattle.cp_text.specs.Text.{Word, Line}
use Rattle.cp_text.specs.Items.{with_word}
use Rattle.cp_stack.specs.declared.reading.Reading.{Reading}
use Rattle.cp_stack.specs.Grammar.{words_of, end_of}
use Rattle.cp_stack.specs.Resume.{resume}
use Rattle.cp_text.proofs.LinesAhead.{HasLine}
use Rattle.cp_stack.proofs.LinesAhead.{words_of-word, end_of-word, end_of-empty}

-- a word stands first
pub resume-word : (r : Reading) (w : Word) (lines rest : List Line) → lines ≡ with_word w rest → HasLine rest → resume r (words_of lines) (end_of lines) ≡ resume r (w ∷ words_of rest) (end_of rest)
resume-word r w lines rest is some =
    ap (λ (ws : List Word). resume r ws (end_of lines)) (words_of-word w lines rest is some) ∙ ap (resume r (w ∷ words_of rest)) (end_of-word w lines rest is some)

-- a line ends
pub resume-empty : (r : Reading) (at : ℕ) (lines rest : List Line) → lines ≡ record { words = []; end = at } ∷ rest → HasLine rest → resume r (words_of lines) (end_of lines) ≡ resume r (words_of rest) (end_of rest)
resume-empty r at lines rest is some =
    ap (λ (ws : List Word). resume r ws (end_of lines)) (ap words_of is) ∙ ap (resume r (words_of rest)) (end_of-empty at lines rest is some)
