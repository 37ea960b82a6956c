-- Where a line stops.
use Rattle.std.specs.Prelude.{◌≡◌, ℕ, ◌+◌, ◌≤◌, List, [], ◌∷◌, length, Bool, Option, Some, None}
use Rattle.cp_text.specs.Text.{Line, lines_from}
use Rattle.cp_text.specs.Cut.{lines_seen}

-- the lines behind a line that ends at a place
abbrev pub lines_behind : ℕ → Option (List ℕ) → List Line
lines_behind at None = []
lines_behind at (Some rest) = lines_from (at + 1) rest

-- those of them that are seen of a text whose last word may be cut
abbrev pub seen_behind : Bool → ℕ → Option (List ℕ) → List Line
seen_behind cut at None = []
seen_behind cut at (Some rest) = lines_seen cut (at + 1) rest

-- Where a line stops, the text ends or the rest of it follows the line feed.
abbrev pub StopsWithin : ℕ → List ℕ → ℕ → Option (List ℕ) → Type 0
StopsWithin place text at None = at ≡ place + length text
StopsWithin place text at (Some rest) = (place ≤ at) × (at + 1 + length rest ≡ place + length text)

-- A line in front was passed over.
pub record SkipsLine (lines : List Line) (end : ℕ) (behind : List Line) : Type 0 where
  pub line : Line
  pub is : lines ≡ line ∷ behind
  pub ends : line.end ≡ end
