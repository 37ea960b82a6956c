-- What the parts of the reader give, as the definitions see it.
use Rattle.std.specs.Prelude.{ℕ, List, Option, Result, Ok, Err}
use Rattle.cp_text.specs.Text.{Line}
use Rattle.cp_text.specs.Numbers.{kept_size}
use Rattle.cp_text.specs.Ahead.{lines_of}
use Rattle.cp_stack.specs.declared.header.FirstWord.{FirstWord}
use Rattle.cp_stack.specs.declared.header.Size.{Size}
use Rattle.cp_stack.specs.declared.header.VariableCount.{VariableCount}
use Rattle.cp_stack.specs.declared.header.PairCount.{PairCount}
use Rattle.cp_stack.specs.declared.header.Header.{Header as FoundHeader}
use Rattle.cp_stack.specs.declared.refusal.StackRefusal.{StackRefusal}
use Rattle.cp_stack.specs.Grammar.{Taken, Counted, Header}

-- what was found, by what it is to the definitions
abbrev pub seen_by : {A B : Type 0} → (A → B) → Result A StackRefusal → Result B StackRefusal
seen_by f (Ok a) = Ok (f a)
seen_by f (Err e) = Err e

abbrev pub word_seen : FirstWord → Taken
word_seen w = record { word = record { at = w.at; bytes = w.bytes.now }; lines = lines_of w.ahead }

-- a number as the reader keeps it
pub record KeptSize : Type 0 where
  pub size : Option ℕ
  pub at : ℕ
  pub lines : List Line

abbrev pub size_kept : Counted → KeptSize
size_kept c = record { size = kept_size c.size; at = c.at; lines = c.lines }

abbrev pub size_seen : Size → KeptSize
size_seen s = record { size = s.size; at = s.at; lines = lines_of s.ahead }

-- a number of variables or of pairs, and the lines behind it
pub record Behind : Type 0 where
  pub size : ℕ
  pub lines : List Line

abbrev pub behind_size : Counted → Behind
behind_size c = record { size = c.size; lines = c.lines }

abbrev pub variables_seen : VariableCount → Behind
variables_seen v = record { size = v.variables; lines = lines_of v.ahead }

abbrev pub pairs_seen : PairCount → Behind
pairs_seen p = record { size = p.pairs; lines = lines_of p.ahead }

abbrev pub header_seen : FoundHeader → Header
header_seen h = record { variables = h.variables; pairs = h.pairs; lines = lines_of h.ahead }
