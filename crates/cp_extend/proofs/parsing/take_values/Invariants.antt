use Rattle.std.proofs.Common.{◌≡◌, ◌+◌, ◌≤◌, length}
use Rattle.cp_text.specs.Cut.{lines_seen}
use Rattle.cp_text.specs.Ahead.{lines_of, text_end}
use Rattle.cp_extend.specs.Held.{reading_of}
use Rattle.cp_extend.specs.Steps.{in_values}
use Rattle.cp_extend.proofs.parsing.take_values.Given as goal

abbrev pub invariant-words : goal.invariant-words
invariant-words l = record {
  goes_on : in_values l.limits (reading_of l.initial.progress) (lines_of l.text) ≡ in_values l.limits (reading_of l.progress) (lines_seen l.text.cut l.from l.rest);
  later : l.text.at ≤ l.from;
  length : l.from + length l.rest ≡ text_end l.text;
}

abbrev pub decreases-words : goal.decreases-words
decreases-words l = length l.rest
