-- A whole text is read.
use Rattle.std.specs.Prelude.{◌≡◌, ℕ, List, Bool, Result, Ok, Err}
use Rattle.std.specs.Option.{option_copied}
use Rattle.cp_io.specs.declared.limits.Limits.{Limits}
use Rattle.cp_logic.specs.Formulas.{Formula}
use Rattle.cp_text.specs.declared.ahead.Ahead.{Ahead}
use Rattle.cp_text.specs.Ahead.{all_lines, text_end}
use Rattle.cp_text.specs.Text.{Line}
use Rattle.cp_dimacs.specs.declared.header_line.Header.{Header}
use Rattle.cp_dimacs.specs.declared.parse.Found.{Found}
use Rattle.cp_dimacs.specs.declared.refusal.CnfRefusal.{CnfRefusal}
use Rattle.cp_dimacs.specs.declared.refusal.CnfRefusal.TheVariants.{NoMemory}
use Rattle.cp_dimacs.specs.Written.{formula_of}
use Rattle.cp_logic.specs.Slots.{Held}
use Rattle.cp_text.specs.Results.{◌>>=◌}
use Rattle.cp_dimacs.specs.Grammar.{clauses_in, document, judged}
use Rattle.cp_text.specs.Stops.{lines_behind, StopsWithin}

-- the document of a header that names so many variables and of the lines behind it
abbrev pub document_of : Limits → Bool → ℕ → ℕ → List Line → Result (Formula × Bool) CnfRefusal
document_of limits cut most variables lines = clauses_in limits cut most lines >>= λ found. Ok (formula_of variables found.0, found.1)

-- the document of the lines that are ahead
abbrev pub document_ahead : Limits → Ahead → Result (Formula × Bool) CnfRefusal
document_ahead limits a = document limits a.cut (text_end a) (all_lines a)

-- The header was found.
pub record FindsHeader (limits : Limits) (a : Ahead) (h : Header) : Type 0 where
  pub is : document_ahead limits a ≡ document_of limits a.cut (text_end a) h.variables (lines_behind h.stop.at (option_copied h.stop.rest))
  pub within : StopsWithin a.at a.text.now h.stop.at (option_copied h.stop.rest)

abbrev pub AnswersFind : Limits → Ahead → Result Header CnfRefusal → Type 0
AnswersFind limits a (Ok h) = FindsHeader limits a h
AnswersFind limits a (Err refusal) = document_ahead limits a ≡ Err refusal

abbrev pub AnswersDocument : Result (Formula × Bool) CnfRefusal → Result Found CnfRefusal → Type 0
AnswersDocument wanted (Ok found) = wanted ≡ Ok (found.formula.formula, found.ended)
AnswersDocument wanted (Err NoMemory) = Unit {0}
AnswersDocument wanted (Err refusal) = wanted ≡ Err refusal

-- what was found in the bytes within the limit, as an answer on an input that may be longer
abbrev pub found_of : Result Found CnfRefusal → Result (Formula × Bool) CnfRefusal
found_of (Ok found) = Ok (found.formula.formula, found.ended)
found_of (Err refusal) = Err refusal

abbrev pub formula_in : Result Held CnfRefusal → Result Formula CnfRefusal
formula_in (Ok f) = Ok f.formula
formula_in (Err refusal) = Err refusal

abbrev pub AnswersJudge : Result Found CnfRefusal → Bool → ℕ → Result Held CnfRefusal → Type 0
AnswersJudge found past limit result = formula_in result ≡ judged past limit (found_of found)
