-- A header line is read, word by word.
use Rattle.std.specs.Prelude.{◌≡◌, ℕ, ◌+◌, ◌-◌, ◌^◌, min, List, ◌∷◌, length, Result, Ok, Err}
use Rattle.std.specs.Option.{option_copied}
use Rattle.cp_text.specs.declared.ahead.Ahead.{Ahead}
use Rattle.cp_text.specs.Text.{Word as TextWord, Line}
use Rattle.cp_dimacs.specs.declared.header.WordAhead.{WordAhead}
use Rattle.cp_dimacs.specs.declared.header_line.Header.{Header}
use Rattle.cp_dimacs.specs.declared.refusal.InputKind.TheVariants.{BadHeader}
use Rattle.cp_dimacs.specs.declared.refusal.CnfRefusal.{CnfRefusal}
use Rattle.cp_dimacs.specs.declared.refusal.CnfRefusal.TheVariants.{BadInput}
use Rattle.cp_text.specs.Cut.{whole_words}
use Rattle.cp_dimacs.specs.Grammar.{count_in}
use Rattle.cp_text.specs.Ahead.{all_lines, text_end, IsWordAhead, IsLineAhead}
use Rattle.cp_text.specs.Stops.{lines_behind, StopsWithin}

-- no word is left in the line in front
pub record LacksWord (a : Ahead) (refusal : CnfRefusal) : Type 0 where
  pub at : ℕ
  pub behind : List Line
  pub ahead : IsLineAhead a.cut a.at a.text.now at behind
  pub is : refusal ≡ BadInput at BadHeader

abbrev pub word_of : WordAhead → TextWord
word_of w = record { at = w.at; bytes = w.word.now }

abbrev pub IsHeaderWord : Ahead → Result WordAhead CnfRefusal → Type 0
IsHeaderWord a (Ok w) = IsWordAhead a.cut a.at a.text.now (word_of w) w.behind.text.now × (w.behind.at ≡ w.at + length w.word.now) × (w.behind.cut ≡ a.cut)
IsHeaderWord a (Err refusal) = LacksWord a refusal

-- what the words of the line in front of a text say, and the lines behind it
pub record SaysLine (says : List TextWord → ℕ → Result ℕ CnfRefusal) (a : Ahead) (answer : Result ℕ CnfRefusal) (behind : List Line) : Type 0 where
  pub line : Line
  pub is : all_lines a ≡ line ∷ behind
  pub says_so : says (whole_words a.cut (text_end a) line.words) line.end ≡ answer

-- The first fault stands in the line in front of a text.
pub record FailsLine (says : List TextWord → ℕ → Result ℕ CnfRefusal) (a : Ahead) (refusal : CnfRefusal) : Type 0 where
  pub behind : List Line
  pub line : SaysLine says a (Err refusal) behind

pub record IsHeader (says : List TextWord → ℕ → Result ℕ CnfRefusal) (a : Ahead) (h : Header) : Type 0 where
  pub line : SaysLine says a (Ok h.variables) (lines_behind h.stop.at (option_copied h.stop.rest))
  pub within : StopsWithin a.at a.text.now h.stop.at (option_copied h.stop.rest)

abbrev pub AnswersHeader : (List TextWord → ℕ → Result ℕ CnfRefusal) → Ahead → Result Header CnfRefusal → Type 0
AnswersHeader says a (Ok h) = IsHeader says a h
AnswersHeader says a (Err refusal) = FailsLine says a refusal

-- the number of a word, or the largest of its type where it is larger
abbrev pub IsCount : TextWord → Result ℕ CnfRefusal → Type 0
IsCount w (Ok n) = (k : ℕ) × (count_in w ≡ Ok k) × (n ≡ min k (2 ^ 64 - 1))
IsCount w (Err refusal) = count_in w ≡ Err refusal
