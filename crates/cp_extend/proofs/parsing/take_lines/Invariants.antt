use Rattle.std.proofs.Common.{◌≡◌, ℕ, ◌+◌, ◌≤◌, length}
use Rattle.cp_text.specs.Cut.{lines_seen}
use Rattle.cp_text.specs.Ahead.{lines_of, text_end}
use Rattle.cp_extend.specs.Grammar.{document}
use Rattle.cp_extend.specs.Held.{reading_of}
use Rattle.cp_extend.proofs.parsing.take_lines.Given as goal

abbrev pub invariant-lines : goal.invariant-lines
invariant-lines l = record {
  goes_on : (end : ℕ) → document l.limits (reading_of l.initial.progress) 0 (lines_of l.text) ≡ document l.limits (reading_of l.progress) end (lines_seen l.text.cut l.at l.rest);
  later : l.text.at ≤ l.at;
  length : l.at + length l.rest ≡ text_end l.text;
}

abbrev pub decreases-lines : goal.decreases-lines
decreases-lines l = length l.rest
