-- The steps of reading a model, each as a law over what is left of the text.
use Rattle.std.specs.Prelude.{◌≡◌, ◌≢◌, ℕ, List, [], ◌∷◌, codes, Bool, true, false, Option, Some, None, Result, Ok, Err, if◌then◌else◌}
use Rattle.std.specs.Option.{option_copied}
use Rattle.std.specs.Str.{bytes_eq}
use Rattle.cp_io.specs.declared.limits.Limits.{Limits}
use Rattle.cp_text.specs.Numbers.{NumberWord}
use Rattle.cp_text.specs.declared.ahead.Ahead.{Ahead}
use Rattle.cp_text.specs.declared.lines.LineStop.{LineStop}
use Rattle.cp_text.specs.Items.{with_word}
use Rattle.cp_text.specs.Stops.{StopsWithin, seen_behind}
use Rattle.cp_text.specs.Text.{Word, Line}
use Rattle.cp_extend.specs.declared.refusal.ModelKind.TheVariants.{BadStatus, NoEnd}
use Rattle.cp_extend.specs.declared.refusal.ModelRefusal.TheVariants.{NoMemory}
use Rattle.cp_extend.specs.declared.refusal.Stop.{Stop}
use Rattle.std.specs.declared.alloc.AllocError.{AllocError}
use Rattle.cp_text.specs.Results.{◌>>=◌}
use Rattle.cp_extend.specs.Grammar.{Given, Reading, bad, fault, with_given, contradicts, value_words, status_words, names_no_model, document}

-- The literal is given, or its negation was given.
abbrev pub GivesLiteral : Reading → NumberWord → Result Bool AllocError → Reading → Type 0
GivesLiteral old n (Ok true) new = (contradicts old.given n ≡ false) × (new ≡ with_given old n)
GivesLiteral old n (Ok false) new = (contradicts old.given n ≡ true) × (new ≡ old)
GivesLiteral old n (Err e) new = Unit {0}

-- The next word of a value line is taken; true where it is the 0.
abbrev pub TakesWord : Limits → Reading → Word → Result Bool Stop → Reading → Type 0
TakesWord limits old w (Ok true) new = (words : List Word) → value_words limits old (w ∷ words) ≡ Ok (new, true)
TakesWord limits old w (Ok false) new = (words : List Word) → value_words limits old (w ∷ words) ≡ value_words limits new words
TakesWord limits old w (Err stop) new = stop.refusal ≢ NoMemory → (words : List Word) → value_words limits old (w ∷ words) ≡ Err stop

-- ---- what the lines read as, where the first of them was begun

abbrev pub behind_line : Limits → ℕ → List Line → Reading × Bool → Result Given Stop
behind_line limits end lines (r, ended) = if ended then Ok r.given else document limits r end lines

-- the words left of the first line are those of a value line
abbrev pub in_values : Limits → Reading → List Line → Result Given Stop
in_values limits r [] = bad 0 NoEnd
in_values limits r (line ∷ lines) = value_words limits r line.words >>= behind_line limits line.end lines

-- they are those of a status line, behind its `s`
abbrev pub in_status : Limits → Reading → List Line → Result Given Stop
in_status limits r [] = bad 0 NoEnd
in_status limits r (line ∷ lines) = status_words r line.words line.end >>= λ read. document limits read line.end lines

-- reading goes on behind a line
abbrev pub behind_stop : Limits → Bool → Reading → LineStop → Result Given Stop
behind_stop limits cut r stop = document limits r stop.at (seen_behind cut stop.at (option_copied stop.rest))

-- Reading goes on behind the line, or the 0 was met, or it stops.
abbrev pub GoesOn : Limits → Bool → Result Given Stop → Result (Option LineStop) Stop → Reading → Type 0
GoesOn limits cut expected (Ok (Some stop)) new = expected ≡ behind_stop limits cut new stop
GoesOn limits cut expected (Ok None) new = expected ≡ Ok new.given
GoesOn limits cut expected (Err stop) new = stop.refusal ≢ NoMemory → expected ≡ Err stop

abbrev pub AnswersWithin : Ahead → Option LineStop → Type 0
AnswersWithin a None = Unit {0}
AnswersWithin a (Some stop) = StopsWithin a.at a.text.now stop.at (option_copied stop.rest)

-- All lines are read, up to the 0, or reading stops.
abbrev pub ReadsLines : Result Given Stop → Result (Unit {0}) Stop → Reading → Type 0
ReadsLines expected (Ok done) new = expected ≡ Ok new.given
ReadsLines expected (Err stop) new = stop.refusal ≢ NoMemory → expected ≡ Err stop

-- The word of a status line: whether it says that there is a model.
abbrev pub SaysModel : Word → Result Bool Stop → Type 0
SaysModel w (Ok true) = bytes_eq w.bytes (codes "SATISFIABLE") ≡ true
SaysModel w (Ok false) = (bytes_eq w.bytes (codes "SATISFIABLE") ≡ false) × (names_no_model w.bytes ≡ true)
SaysModel w (Err stop) = (bytes_eq w.bytes (codes "SATISFIABLE") ≡ false) × (names_no_model w.bytes ≡ false) × (stop ≡ fault w.at BadStatus)

-- No word of the first line is left, or a word is one too many.
abbrev pub EndsStatus : Bool → List Line → Result LineStop Stop → Type 0
EndsStatus cut lines (Ok stop) = lines ≡ record { words = []; end = stop.at } ∷ seen_behind cut stop.at (option_copied stop.rest)
EndsStatus cut lines (Err stop) = (w : Word) × (after : List Line) × (lines ≡ with_word w after) × (stop ≡ fault w.at BadStatus)
