-- The words of the header line are taken one after the other.
use Rattle.std.proofs.Common.{◌≡◌, ℕ, ◌+◌, Bool, List, ◌∷◌, length, Result, Ok, Err, true, false, not, ◌<◌, refl, ◌∙◌, ap}
use Rattle.cp_text.specs.declared.ahead.Ahead.{Ahead}
use Rattle.cp_text.specs.Text.{Word, Line, lines_from}
use Rattle.cp_text.specs.Items.{with_word}
use Rattle.cp_text.proofs.WordFronts.{some_line_from}
use Rattle.cp_dimacs.specs.declared.refusal.InputKind.TheVariants.{NoHeader, BadHeader}
use Rattle.cp_dimacs.specs.declared.refusal.CnfRefusal.{CnfRefusal}
use Rattle.cp_dimacs.specs.declared.refusal.CnfRefusal.TheVariants.{BadInput, TooLarge}
use Rattle.std.specs.Prelude.{codes}
use Rattle.std.specs.Str.{bytes_eq}
use Rattle.std.proofs.lemmas.Bool.{lt-ltb}
use Rattle.cp_io.specs.declared.limits.Limits.{Limits}
use Rattle.cp_io.specs.declared.limits.Limit.TheVariants.{Variables}
use Rattle.cp_text.specs.Cut.{whole_words}
use Rattle.cp_dimacs.specs.Grammar.{count_in, header, header_format, header_variables, header_count}
use Rattle.cp_text.specs.Ahead.{text_end, IsWordAhead}
use Rattle.cp_dimacs.specs.Headers.{SaysLine, FailsLine}

-- ---- a word in front

-- what a line says with a word in front of it, the word being looked at
says-word : (says after : List Word → ℕ → Result ℕ CnfRefusal) (a : Ahead) (w : Word) (rest : List ℕ) (answer : Result ℕ CnfRefusal) (line : Line) (behind : List Line) → IsWordAhead a.cut a.at a.text.now w rest → lines_from (w.at + length w.bytes) rest ≡ line ∷ behind
    → says (w ∷ whole_words a.cut (text_end a) line.words) line.end ≡ answer → SaysLine says a answer behind
says-word says after a w rest answer line behind ahead is so =
    record {
      line = record { words = w ∷ line.words; end = line.end };
      is = ahead.lines ∙ ap (with_word w) is;
      says_so = ap (λ (ws : List Word). says ws line.end) (ahead.whole line.words) ∙ so;
    }

pub fails-word : (says : List Word → ℕ → Result ℕ CnfRefusal) (a : Ahead) (w : Word) (rest : List ℕ) (refusal : CnfRefusal) → IsWordAhead a.cut a.at a.text.now w rest → ((words : List Word) (e : ℕ) → says (w ∷ words) e ≡ Err refusal) → FailsLine says a refusal
fails-word says a w rest refusal ahead is =
    let some = some_line_from (w.at + length w.bytes) rest in
    let line : Line = some.0 in
    record { behind = some.1; line = says-word says says a w rest (Err refusal) line some.1 ahead some.2 (is (whole_words a.cut (text_end a) line.words) line.end) }

-- ---- the words

pub not_true : (b : Bool) → true ≡ not b → b ≡ false
not_true true e = absurd cc
not_true false e = refl

pub no_name : (limits : Limits) (w : Word) (words : List Word) (e : ℕ) → bytes_eq w.bytes (codes "p") ≡ false → header limits (w ∷ words) e ≡ Err (BadInput w.at NoHeader)
no_name limits w words e is = rw is refl

pub no_format : (limits : Limits) (w : Word) (words : List Word) (e : ℕ) → bytes_eq w.bytes (codes "cnf") ≡ false → header_format limits (w ∷ words) e ≡ Err (BadInput w.at BadHeader)
no_format limits w words e is = rw is refl

pub no_variables : (limits : Limits) (w : Word) (words : List Word) (e : ℕ) (refusal : CnfRefusal) → count_in w ≡ Err refusal → header_variables limits (w ∷ words) e ≡ Err refusal
no_variables limits w words e refusal is = rw is refl

pub too_many : (limits : Limits) (w : Word) (words : List Word) (e k : ℕ) → count_in w ≡ Ok k → limits.variables < k → header_variables limits (w ∷ words) e ≡ Err (TooLarge Variables w.at)
too_many limits w words e k is past = rw (is, lt-ltb limits.variables k past) refl

pub no_count : (n : ℕ) (w : Word) (words : List Word) (e : ℕ) (refusal : CnfRefusal) → count_in w ≡ Err refusal → header_count n (w ∷ words) e ≡ Err refusal
no_count n w words e refusal is = rw is refl
