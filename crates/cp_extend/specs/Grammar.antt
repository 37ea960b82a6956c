-- What a text reads as a model of so many variables: their values, or the first fault. The lines are those that the SAT
-- competitions ask of a solver: comments, a status line, and value lines up to a 0.
use Rattle.std.specs.Prelude.{ℕ, ◌+◌, List, [], ◌∷◌, length, map, codes, Bool, true, false, ◌&&◌, ◌||◌, ◌==◌, nat_lt, nat_le, not, if◌then◌else◌, Option, Some, None, ok_or, Result, Ok, Err}
use Rattle.std.specs.List.{range_with_len}
use Rattle.std.specs.Str.{bytes_eq}
use Rattle.cp_io.specs.declared.limits.Limits.{Limits}
use Rattle.cp_io.specs.declared.limits.Limit.TheVariants.{Variables, Bytes}
use Rattle.cp_text.specs.Text.{Word, Line, begins_with}
use Rattle.cp_text.specs.Numbers.{NumberWord, number_of}
use Rattle.cp_text.specs.Cut.{lines_within}
use Rattle.cp_text.specs.Results.{◌>>=◌}
use Rattle.cp_extend.specs.declared.refusal.ModelKind.{ModelKind}
use Rattle.cp_extend.specs.declared.refusal.ModelKind.TheVariants.{BadWord, BadStatus, Contradiction, NoEnd}
use Rattle.cp_extend.specs.declared.refusal.ModelRefusal.{ModelRefusal}
use Rattle.cp_extend.specs.declared.refusal.ModelRefusal.TheVariants.{BadModel, NoModel, TooLarge}
use Rattle.cp_extend.specs.declared.refusal.Stop.{Stop}

-- a fault of the grammar
abbrev pub fault : ℕ → ModelKind → Stop
fault at kind = record { at = at; refusal = BadModel at kind }

abbrev pub bad : {A : Type 0} → ℕ → ModelKind → Result A Stop
bad at kind = Err (fault at kind)

-- ---- values

-- the value that was given to each variable
abbrev pub Given : Type 0
Given = ℕ → Option Bool

abbrev pub nothing_given : Given
nothing_given x = None

abbrev pub with_literal : Given → NumberWord → Given
with_literal given literal x = if x == literal.size then Some literal.positive else given x

-- whether this value was given
abbrev pub is_value : Bool → Option Bool → Bool
is_value value None = false
is_value value (Some other) = if value then other else not other

-- whether the negation of the literal was given
abbrev pub contradicts : Given → NumberWord → Bool
contradicts given literal = is_value (not literal.positive) (given literal.size)

-- the values of the variables 1, 2, .. up to the last: one that wasn't named is false
abbrev pub values_of : ℕ → Given → List Bool
values_of variables given = map (λ k. is_value true (given (k + 1))) (range_with_len 0 variables)

-- ---- lines

-- what was read: whether there was a status line, and the values that were given
pub record Reading : Type 0 where
  pub status : Bool
  pub given : Given

abbrev pub nothing_read : Reading
nothing_read = record { status = false; given = nothing_given }

abbrev pub with_status : Reading → Reading
with_status r = record r { status = true }

abbrev pub with_given : Reading → NumberWord → Reading
with_given r literal = record r { given = with_literal r.given literal }

-- the number that a word says, or that the word is bad
abbrev pub number_at : Word → Result NumberWord Stop
number_at w = ok_or (number_of w.bytes) (fault w.at BadWord)

-- The words behind the `v` of a value line: what is read with them, and whether a 0 was met. What is behind the 0 isn't looked at.
abbrev pub value_words : Limits → Reading → List Word → Result (Reading × Bool) Stop
value_words limits r [] = Ok (r, false)
value_words limits r (w ∷ words) = number_at w >>= λ n.
    if n.size == 0 then Ok (r, true)
    else if nat_lt limits.variables n.size then Err (record { at = w.at; refusal = TooLarge Variables w.at })
    else if contradicts r.given n then bad w.at Contradiction
    else value_words limits (with_given r n) words

-- the answer, where no word is one too many
abbrev pub no_more : {A : Type 0} → List Word → Result A Stop → Result A Stop
no_more [] answer = answer
no_more (w ∷ words) answer = bad w.at BadStatus

abbrev pub names_no_model : List ℕ → Bool
names_no_model word = bytes_eq word (codes "UNSATISFIABLE") || bytes_eq word (codes "UNKNOWN")

-- The words behind the `s` of a status line that ends at a place: that there is a model, or that there is none.
abbrev pub status_words : Reading → List Word → ℕ → Result Reading Stop
status_words r [] end = bad end BadStatus
status_words r (w ∷ words) end =
    if bytes_eq w.bytes (codes "SATISFIABLE") then no_more words (Ok (with_status r))
    else if names_no_model w.bytes then no_more words (Err (record { at = end; refusal = NoModel }))
    else bad w.at BadStatus

abbrev pub unended : Result Reading Stop → Result (Reading × Bool) Stop
unended read = read >>= λ r. Ok (r, false)

-- A line by its first word: a comment begins with `c`; a second status line is bad at its `s`. A line without words is passed over.
abbrev pub line_words : Limits → Reading → List Word → ℕ → Result (Reading × Bool) Stop
line_words limits r [] end = Ok (r, false)
line_words limits r (w ∷ words) end =
    if begins_with 99 w.bytes then Ok (r, false)
    else if bytes_eq w.bytes (codes "v") then value_words limits r words
    else if bytes_eq w.bytes (codes "s") then (if r.status then bad w.at BadStatus else unended (status_words r words end))
    else bad w.at BadWord

-- The lines behind what was read, where the last line before them ended at a place: the values that are given up to the 0.
abbrev pub document : Limits → Reading → ℕ → List Line → Result Given Stop
document limits r end [] = bad end NoEnd
document limits r end (line ∷ lines) = line_words limits r line.words line.end >>= λ (read, ended).
    if ended then Ok read.given else document limits read line.end lines

-- ---- texts

-- What is told of a stop: where a text passes the limit on bytes, a stop that isn't before the limit is that the text is too large.
abbrev pub told : Bool → ℕ → Stop → ModelRefusal
told past limit stop = if past && nat_le limit stop.at then TooLarge Bytes limit else stop.refusal

abbrev pub answer : Limits → ℕ → Bool → Result Given Stop → Result (List Bool) ModelRefusal
answer limits variables past (Ok given) = Ok (values_of variables given)
answer limits variables past (Err stop) = Err (told past limits.bytes stop)

-- what a text reads as, of so many variables
unfoldable pub model_reads : Limits → ℕ → List ℕ → Result (List Bool) ModelRefusal
model_reads limits variables bytes =
    answer limits variables (nat_lt limits.bytes (length bytes)) (document limits nothing_read 0 (lines_within limits.bytes bytes))
