use Rattle.std.proofs.Common.{◌≡◌, ◌+◌, ◌≤◌, length}
use Rattle.cp_text.specs.Text.{lines_from}
use Rattle.cp_text.specs.Ahead.{text_end}
use Rattle.cp_dimacs.proofs.TakingLines.{TakenSoFar}
use Rattle.cp_dimacs.proofs.body.take_line.Given as goal

abbrev pub invariant-words : goal.invariant-words
invariant-words l = record {
  taken : TakenSoFar l.limits l.text l.initial.reading (lines_from l.at l.rest) l.reading;
  later : l.text.at ≤ l.at;
  length : l.at + length l.rest ≡ text_end l.text;
}

abbrev pub decreases-words : goal.decreases-words
decreases-words l = length l.rest
