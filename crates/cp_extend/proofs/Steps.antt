-- Steps of reading a model: a word is in front of the lines that are left.
use Rattle.std.proofs.Common.{◌≡◌, ℕ, ◌^◌, ◌<◌, ◌≤◌, Bool, true, false, List, [], ◌∷◌, eqb, ltb, Option, Some, None, Result, Ok, Err, refl, sym, ◌∙◌, ap, arith}
use Rattle.std.specs.Prelude.{codes}
use Rattle.std.specs.Option.{option_map}
use Rattle.std.specs.Str.{bytes_eq}
use Rattle.std.proofs.lemmas.Bool.Decides.{nat_tests}
use Rattle.cp_io.specs.declared.limits.Limits.{Limits}
use Rattle.cp_io.specs.declared.limits.Limit.TheVariants.{Variables}
use Rattle.cp_text.specs.Cut.{lines_seen}
use Rattle.cp_text.specs.Items.{with_word}
use Rattle.cp_text.specs.Numbers.{NumberWord, kept, kept_size, number_of}
use Rattle.cp_text.specs.Text.{Word, Line, begins_with}
use Rattle.cp_text.specs.declared.numbers.Number.{Number}
use Rattle.cp_text.proofs.LinesAhead.{HasLine, some_line_seen}
use Rattle.cp_extend.specs.declared.refusal.ModelKind.TheVariants.{BadWord, BadStatus}
use Rattle.cp_extend.specs.declared.refusal.ModelRefusal.TheVariants.{TooLarge}
use Rattle.cp_extend.specs.declared.refusal.Stop.{Stop}
use Rattle.cp_text.specs.declared.lines.LineStop.{LineStop}
use Rattle.cp_text.specs.Results.{◌>>=◌}
use Rattle.cp_extend.specs.Grammar.{Given, Reading, fault, unended, value_words, status_words, document}
use Rattle.cp_extend.specs.Steps.{TakesWord, GoesOn, ReadsLines, SaysModel, EndsStatus, in_values, in_status, behind_line}

-- ---- words of a value line

huge : (limits : Limits) (r : Reading) (w : Word) (n : NumberWord) (words : List Word) → limits.variables < 2 ^ 32 → 2 ^ 64 ≤ n.size → number_of w.bytes ≡ Some n
    → value_words limits r (w ∷ words) ≡ Err (record { at = w.at; refusal = TooLarge Variables w.at })
huge limits r w n words fits great is =
    let some : eqb n.size 0 ≡ false = grind (arith, nat_tests) in
    let past : ltb limits.variables n.size ≡ true = grind (arith, nat_tests) in
    rw (is, some, past) refl

kept-huge : (n : ℕ) → kept_size n ≡ None → 2 ^ 64 ≤ n
kept-huge n is = by_test (ltb n (2 ^ 64)) refl
  where
    by_test : (b : Bool) → ltb n (2 ^ 64) ≡ b → 2 ^ 64 ≤ n
    by_test true e = absurd (cc (rw e at is))
    by_test false e = grind (arith, nat_tests)

-- a size that isn't kept passes every limit
pub too_great-word : (limits : Limits) (r : Reading) (w : Word) (number : Number) → limits.variables < 2 ^ 32 → Some number ≡ option_map kept (number_of w.bytes) → number.size ≡ None
    → (words : List Word) → value_words limits r (w ∷ words) ≡ Err (record { at = w.at; refusal = TooLarge Variables w.at })
too_great-word limits r w number fits is none words = by_number (number_of w.bytes) refl is
  where
    by_number : (o : Option NumberWord) → number_of w.bytes ≡ o → Some number ≡ option_map kept o → value_words limits r (w ∷ words) ≡ Err (record { at = w.at; refusal = TooLarge Variables w.at })
    by_number None e i = absurd cc
    by_number (Some n) e i = let same : number ≡ kept n = cc in huge limits r w n words fits (kept-huge n.size (ap (λ (k : Number). k.size) (sym same) ∙ none)) e

-- the word is taken
pub values-word : (limits : Limits) (old new : Reading) (w : Word) (lines : List Line) → ((words : List Word) → value_words limits old (w ∷ words) ≡ value_words limits new words)
    → in_values limits old (with_word w lines) ≡ in_values limits new lines
values-word limits old new w [] step = refl
values-word limits old new w (line ∷ lines) step = ap (λ x. x >>= behind_line limits line.end lines) (step line.words)

-- the word is the 0
pub values-ended : (limits : Limits) (now new : Reading) (w : Word) (lines : List Line) → HasLine lines → ((words : List Word) → value_words limits now (w ∷ words) ≡ Ok (new, true))
    → in_values limits now (with_word w lines) ≡ Ok new.given
values-ended limits now new w lines some step = rw (some.2, step some.0.words) refl

-- the word is where reading stops
pub values-stopped : (limits : Limits) (now : Reading) (w : Word) (lines : List Line) (stop : Stop) → HasLine lines → ((words : List Word) → value_words limits now (w ∷ words) ≡ Err stop)
    → in_values limits now (with_word w lines) ≡ Err stop
values-stopped limits now w lines stop some step = rw (some.2, step some.0.words) refl

pub values-refused : (limits : Limits) (cut : Bool) (old now : Reading) (w : Word) (lines rest after : List Line) (stop : Stop) (new : Reading) → in_values limits old lines ≡ in_values limits now rest → rest ≡ with_word w after → HasLine after
    → TakesWord limits now w (Err stop) new → GoesOn limits cut (in_values limits old lines) (Err stop) new
values-refused limits cut old now w lines rest after stop new so_far is some stops = λ not. so_far ∙ ap (in_values limits now) is ∙ values-stopped limits now w after stop some (stops not)

-- ---- words of a status line

-- the word is wrong
pub status-wrong : (limits : Limits) (cut : Bool) (r new : Reading) (w : Word) (lines after : List Line) (stop : Stop) → lines ≡ with_word w after → HasLine after → SaysModel w (Err stop) → GoesOn limits cut (in_status limits r lines) (Err stop) new
status-wrong limits cut r new w lines after stop is some says = λ _. rw (is, some.2, says.0, says.1, says.2) refl

two_words : (limits : Limits) (r : Reading) (w next : Word) (line : Line) (behind : List Line) (has_model : Bool) → SaysModel w (Ok has_model)
    → in_status limits r (with_word w (with_word next (line ∷ behind))) ≡ Err (fault next.at BadStatus)
two_words limits r w next line behind true says = rw says refl
two_words limits r w next line behind false says = rw (says.0, says.1) refl

-- a word is one too many
pub status-longer : (limits : Limits) (cut : Bool) (r new : Reading) (w : Word) (lines after : List Line) (has_model : Bool) (stop : Stop) → lines ≡ with_word w after → HasLine after → SaysModel w (Ok has_model) → EndsStatus cut after (Err stop)
    → GoesOn limits cut (in_status limits r lines) (Err stop) new
status-longer limits cut r new w lines after has_model stop is some says ends = by_lines ends.1 refl
  where
    by_lines : (ls : List Line) → ends.1 ≡ ls → GoesOn limits cut (in_status limits r lines) (Err stop) new
    by_lines [] e = let none : after ≡ [] = ends.2 ∙ ap (with_word ends.0) e in absurd (cc (none, some.2))
    by_lines (line ∷ behind) e = λ _. rw (is, ends.2, e, ends.3) (two_words limits r w ends.0 line behind has_model says)

-- ---- the first word of a line

-- a line that begins with this word
pub record BeginsLine (lines : List Line) (w : Word) (after : List Line) : Type 0 where
  pub is : lines ≡ with_word w after
  pub some : HasLine after

pub line-values : (limits : Limits) (r : Reading) (lines after : List Line) (w : Word) → BeginsLine lines w after → begins_with 99 w.bytes ≡ false → bytes_eq w.bytes (codes "v") ≡ true
    → (e : ℕ) → document limits r e lines ≡ in_values limits r after
line-values limits r lines after w h comment values e = rw (h.is, h.some.2, comment, values) refl

pub line-bad : (limits : Limits) (r : Reading) (lines after : List Line) (w : Word) → BeginsLine lines w after → begins_with 99 w.bytes ≡ false → bytes_eq w.bytes (codes "v") ≡ false → bytes_eq w.bytes (codes "s") ≡ false
    → (e : ℕ) → document limits r e lines ≡ Err (fault w.at BadWord)
line-bad limits r lines after w h comment values status e = rw (h.is, h.some.2, comment, values, status) refl

pub line-second : (limits : Limits) (r : Reading) (lines after : List Line) (w : Word) → BeginsLine lines w after → begins_with 99 w.bytes ≡ false → bytes_eq w.bytes (codes "v") ≡ false → bytes_eq w.bytes (codes "s") ≡ true
    → r.status ≡ true → (e : ℕ) → document limits r e lines ≡ Err (fault w.at BadStatus)
line-second limits r lines after w h comment values status seen e = rw (h.is, h.some.2, comment, values, status, seen) refl

unended-behind : (limits : Limits) (read : Result Reading Stop) (end : ℕ) (lines : List Line) → (unended read >>= behind_line limits end lines) ≡ (read >>= λ r. document limits r end lines)
unended-behind limits (Ok r) end lines = refl
unended-behind limits (Err stop) end lines = refl

pub line-status : (limits : Limits) (r : Reading) (lines after : List Line) (w : Word) → BeginsLine lines w after → begins_with 99 w.bytes ≡ false → bytes_eq w.bytes (codes "v") ≡ false → bytes_eq w.bytes (codes "s") ≡ true
    → r.status ≡ false → (e : ℕ) → document limits r e lines ≡ in_status limits r after
line-status limits r lines after w h comment values status seen e =
    rw (h.is, h.some.2, comment, values, status, seen) (unended-behind limits (status_words r h.some.0.words h.some.0.end) h.some.0.end h.some.1)

-- what a line is gives what a text that begins with it is
pub goes-on : (limits : Limits) (cut : Bool) (expected is : Result Given Stop) (result : Result (Option LineStop) Stop) (new : Reading) → expected ≡ is → GoesOn limits cut is result new → GoesOn limits cut expected result new
goes-on limits cut expected is (Ok (Some stop)) new e h = e ∙ h
goes-on limits cut expected is (Ok None) new e h = e ∙ h
goes-on limits cut expected is (Err stop) new e h = λ not. e ∙ h not

-- ---- the lines of a text

-- the place before the first line doesn't matter
pub any_end : (limits : Limits) (r : Reading) (cut : Bool) (p : ℕ) (text : List ℕ) (e f : ℕ) → document limits r e (lines_seen cut p text) ≡ document limits r f (lines_seen cut p text)
any_end limits r cut p text e f = let some = some_line_seen cut p text in rw some.2 refl

-- a step that stops
pub lines-stopped : (limits : Limits) (cut : Bool) (expected is : Result Given Stop) (stop : Stop) (new : Reading) → expected ≡ is → GoesOn limits cut is (Err stop) new → ReadsLines expected (Err stop) new
lines-stopped limits cut expected is stop new e h = λ not. e ∙ h not
