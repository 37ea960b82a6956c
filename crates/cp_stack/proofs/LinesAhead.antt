-- The lines of a text, item by item.
use Rattle.std.proofs.Common.{◌≡◌, ℕ, List, [], ◌∷◌, Ok, refl, sym, ◌∙◌, ap}
use Rattle.cp_text.specs.Text.{Word, Line}
use Rattle.cp_text.specs.Items.{with_word}
use Rattle.cp_text.proofs.LinesAhead.{HasLine}
use Rattle.cp_stack.specs.declared.refusal.StackKind.TheVariants.{BadHeader}
use Rattle.cp_stack.specs.Grammar.{Taken, bad, next_word, from_words, no_word, words_of, end_of}

pub next_word-word : (w : Word) (lines rest : List Line) → lines ≡ with_word w rest → HasLine rest → Ok (record { word = w; lines = rest }) ≡ next_word lines
next_word-word w lines rest is some = ap (λ (ls : List Line). let t : Taken = record { word = w; lines = ls } in Ok t) some.2 ∙ sym (ap next_word (is ∙ ap (with_word w) some.2))

pub from_words-empty : (at : ℕ) (lines rest : List Line) → lines ≡ record { words = []; end = at } ∷ rest → HasLine rest → from_words lines ≡ from_words rest
from_words-empty at lines rest is some =
    ap from_words (is ∙ ap (λ (ls : List Line). let line : Line = record { words = []; end = at } in line ∷ ls) some.2) ∙ ap from_words (sym some.2)

pub no_word-word : (w : Word) (lines rest : List Line) → lines ≡ with_word w rest → HasLine rest → bad w.at BadHeader ≡ no_word lines
no_word-word w lines rest is some = sym (ap no_word (is ∙ ap (with_word w) some.2))

pub words_of-word : (w : Word) (lines rest : List Line) → lines ≡ with_word w rest → HasLine rest → words_of lines ≡ w ∷ words_of rest
words_of-word w lines rest is some = ap words_of (is ∙ ap (with_word w) some.2) ∙ ap (λ (ls : List Line). w ∷ words_of ls) (sym some.2)

pub end_of-word : (w : Word) (lines rest : List Line) → lines ≡ with_word w rest → HasLine rest → end_of lines ≡ end_of rest
end_of-word w lines rest is some = ap end_of (is ∙ ap (with_word w) some.2) ∙ first some.1 ∙ ap end_of (sym some.2)
  where
    first : (behind : List Line) → end_of (with_word w (some.0 ∷ behind)) ≡ end_of (some.0 ∷ behind)
    first [] = refl
    first (next ∷ behind) = refl

pub end_of-empty : (at : ℕ) (lines rest : List Line) → lines ≡ record { words = []; end = at } ∷ rest → HasLine rest → end_of lines ≡ end_of rest
end_of-empty at lines rest is some =
    ap end_of (is ∙ ap (λ (ls : List Line). let line : Line = record { words = []; end = at } in line ∷ ls) some.2) ∙ ap end_of (sym some.2)
