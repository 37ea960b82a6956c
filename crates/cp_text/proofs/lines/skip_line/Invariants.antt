use Rattle.std.proofs.Common.{◌≡◌, ◌+◌, ◌≤◌, List, length}
use Rattle.cp_text.specs.Text.{Word, lines_from}
use Rattle.cp_text.proofs.LinesAhead.{with_words}
use Rattle.cp_text.proofs.lines.skip_line.Given as goal

abbrev pub invariant-words : goal.invariant-words
invariant-words l = ((words : List Word) × (lines_from l.place l.text ≡ with_words words (lines_from l.at l.rest))) × (l.place ≤ l.at) × (l.at + length l.rest ≡ l.place + length l.text)

abbrev pub decreases-words : goal.decreases-words
decreases-words l = length l.rest
