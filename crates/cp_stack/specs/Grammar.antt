-- What the text of a witness stack reads as: its number of variables and its pairs, or its first fault.
--
-- The first line with words is `p stack 1 V N`, with V the number of variables and N the number of pairs. Behind it stand the pairs, as
-- number words in any division into lines: the literals of a clause, its pair's own first, and a 0.
use Rattle.std.specs.Prelude.{ℕ, ◌-◌, ◌^◌, List, [], ◌∷◌, ◌++◌, length, flat_map, slice_index, codes, ◌&&◌, ◌==◌, nat_lt, nat_le, if◌then◌else◌, Option, Some, None, ok_or, Result, Ok, Err}
use Rattle.std.specs.Str.{bytes_eq}
use Rattle.cp_io.specs.declared.limits.Limits.{Limits}
use Rattle.cp_io.specs.declared.limits.Limit.TheVariants.{Variables, Bytes}
use Rattle.cp_logic.specs.Assignments.{Pair}
use Rattle.cp_logic.specs.Clauses.{clause_of}
use Rattle.cp_logic.specs.Signs.{signed}
use Rattle.cp_text.specs.Text.{Word, Line}
use Rattle.cp_text.specs.Numbers.{NumberWord, number_of}
use Rattle.cp_text.specs.Cut.{lines_within}
use Rattle.cp_text.specs.Results.{◌>>=◌}
use Rattle.cp_stack.specs.declared.refusal.StackKind.{StackKind}
use Rattle.cp_stack.specs.declared.refusal.StackKind.TheVariants.{BadHeader, BadWord, TooGreat, EmptyPair, OpenPair, Count}
use Rattle.cp_stack.specs.declared.refusal.StackRefusal.{StackRefusal}
use Rattle.cp_stack.specs.declared.refusal.StackRefusal.TheVariants.{BadStack, TooLarge, NoMemory}

-- what a text says: the number of variables, and the pairs from the first to the last
pub record Stack : Type 0 where
  pub variables : ℕ
  pub pairs : List Pair

-- a fault of a kind at a place
abbrev pub bad : {A : Type 0} → ℕ → StackKind → Result A StackRefusal
bad at kind = Err (BadStack at kind)

-- the lines from the first one with words on; the last line stays
abbrev pub from_words : List Line → List Line
from_words [] = []
from_words (line ∷ []) = line ∷ []
from_words (line ∷ next ∷ lines) = if length line.words == 0 then from_words (next ∷ lines) else line ∷ (next ∷ lines)

-- ---- the header

-- a word, and the lines without it
pub record Taken : Type 0 where
  pub word : Word
  pub lines : List Line

-- The first word of a line. Where the line has none, the header is bad where it ends.
abbrev pub taken_from : Line → List Line → List Word → Result Taken StackRefusal
taken_from line lines [] = bad line.end BadHeader
taken_from line lines (w ∷ words) = Ok (record { word = w; lines = record { words = words; end = line.end } ∷ lines })

-- the first word of the first line
abbrev pub next_word : List Line → Result Taken StackRefusal
next_word [] = bad 0 BadHeader
next_word (line ∷ lines) = taken_from line lines line.words

-- the lines behind this word
abbrev pub named : List ℕ → List Line → Result (List Line) StackRefusal
named name lines = next_word lines >>= λ t. if bytes_eq t.word.bytes name then Ok t.lines else bad t.word.at BadHeader

-- a number without a `-`, the place of its word, and the lines behind that
pub record Counted : Type 0 where
  pub size : ℕ
  pub at : ℕ
  pub lines : List Line

abbrev pub size_of : Taken → Option NumberWord → Result Counted StackRefusal
size_of t None = bad t.word.at BadHeader
size_of t (Some n) = if n.positive then Ok (record { size = n.size; at = t.word.at; lines = t.lines }) else bad t.word.at BadHeader

abbrev pub counted : List Line → Result Counted StackRefusal
counted lines = next_word lines >>= λ t. size_of t (number_of t.word.bytes)

-- the lines, of which the first has no word left
abbrev pub unless_word : List Line → List Word → Result (List Line) StackRefusal
unless_word lines [] = Ok lines
unless_word lines (w ∷ words) = bad w.at BadHeader

abbrev pub no_word : List Line → Result (List Line) StackRefusal
no_word [] = Ok []
no_word (line ∷ lines) = unless_word (line ∷ lines) line.words

-- the numbers of variables and of pairs, and the lines behind the last word of the header
pub record Header : Type 0 where
  pub variables : ℕ
  pub pairs : ℕ
  pub lines : List Line

-- a number of variables that is no more than the limit
abbrev pub variables_in : ℕ → List Line → Result Counted StackRefusal
variables_in most lines = counted lines >>= λ v. if nat_lt most v.size then Err (TooLarge Variables v.at) else Ok v

-- a number of pairs below 2^64
abbrev pub number_of_pairs : List Line → Result Counted StackRefusal
number_of_pairs lines = counted lines >>= λ n. if nat_le (2 ^ 64) n.size then bad n.at BadHeader else Ok n

-- `p stack 1 V N`
abbrev pub header : Limits → List Line → Result Header StackRefusal
header limits lines =
    named (codes "p") lines >>= named (codes "stack") >>= named (codes "1") >>= variables_in limits.variables >>= λ v.
    number_of_pairs v.lines >>= λ n.
    no_word n.lines >>= λ lines. Ok (record { variables = v.size; pairs = n.size; lines = lines })

-- ---- the pairs

-- what a number word says
abbrev pub number_at : Word → Result NumberWord StackRefusal
number_at w = ok_or (number_of w.bytes) (BadStack w.at BadWord)

-- the first of these literals with the clause of all
abbrev pub pair_with : List ℕ → Pair
pair_with literals = record { literal = slice_index literals 0; clause = clause_of literals }

-- one pair in front of others
abbrev pub with_pair : Pair → List Pair → Result (List Pair) StackRefusal
with_pair pair pairs = Ok (pair ∷ pairs)

-- The pairs of words that end at a place, behind the literals of a pair that is open, where so many pairs are still to be ended. Of the
-- faults that a word may have the first one here counts.
abbrev pub pairs_in : ℕ → ℕ → List ℕ → List Word → ℕ → Result (List Pair) StackRefusal
pairs_in variables left literals [] end = if nat_lt 0 (length literals) then bad end OpenPair else if nat_lt 0 left then bad end Count else Ok []
pairs_in variables left literals (w ∷ words) end = number_at w >>= λ n.
    if nat_lt variables n.size then bad w.at TooGreat
    else if n.size == 0 && length literals == 0 then bad w.at EmptyPair
    else if left == 0 then bad w.at Count
    else if n.size == 0 then pairs_in variables (left - 1) [] words end >>= with_pair (pair_with literals)
    else pairs_in variables left (literals ++ signed n.positive n.size ∷ []) words end

-- ---- the text

-- the words of all lines, and where the last line ends
abbrev pub words_of : List Line → List Word
words_of lines = flat_map (λ line. line.words) lines

abbrev pub end_of : List Line → ℕ
end_of [] = 0
end_of (line ∷ []) = line.end
end_of (line ∷ next ∷ lines) = end_of (next ∷ lines)

-- the header and the pairs
abbrev pub document : Limits → List Line → Result Stack StackRefusal
document limits lines = header limits (from_words lines) >>= λ h.
    pairs_in h.variables h.pairs [] (words_of h.lines) (end_of h.lines) >>= λ pairs. Ok (record { variables = h.variables; pairs = pairs })

-- the place of a fault
abbrev pub place_of : StackRefusal → ℕ
place_of (BadStack at kind) = at
place_of (TooLarge limit at) = at
place_of NoMemory = 0

-- Of a text that passes the limit of bytes a fault before the limit stands. Else that limit is the fault.
abbrev pub cut_at : ℕ → Result Stack StackRefusal → Result Stack StackRefusal
cut_at limit (Ok stack) = Err (TooLarge Bytes limit)
cut_at limit (Err e) = if nat_lt (place_of e) limit then Err e else Err (TooLarge Bytes limit)

-- what the bytes of a text read as within the limits
unfoldable pub stack_reads : Limits → List ℕ → Result Stack StackRefusal
stack_reads limits bytes =
    if nat_lt limits.bytes (length bytes) then cut_at limits.bytes (document limits (lines_within limits.bytes bytes))
    else document limits (lines_within limits.bytes bytes)
