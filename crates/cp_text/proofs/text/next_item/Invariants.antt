use Rattle.std.proofs.Common.{◌≡◌, ◌+◌, ◌≤◌, length}
use Rattle.cp_text.specs.Text.{lines_from}
use Rattle.cp_text.proofs.text.next_item.Given as goal

abbrev pub invariant-loop-rest : goal.invariant-loop-rest
invariant-loop-rest l = record { later : l.place ≤ l.at; lines : lines_from l.at l.rest ≡ lines_from l.place l.text; length : l.at + length l.rest ≡ l.place + length l.text }

abbrev pub decreases-loop-rest : goal.decreases-loop-rest
decreases-loop-rest l = length l.rest
