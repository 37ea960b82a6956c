use Rattle.std.proofs.Common.{◌≡◌, ◌+◌, length}
use Rattle.cp_text.specs.Cut.{lines_seen}
use Rattle.cp_text.specs.Ahead.{lines_of}
use Rattle.cp_stack.specs.Grammar.{words_of, end_of}
use Rattle.cp_stack.specs.Resume.{resume, IsReading}
use Rattle.cp_stack.proofs.reading.read_pairs.Given as goal

abbrev pub invariant-words : goal.invariant-words
invariant-words l = record {
  goes_on : resume l.fn.start (words_of (lines_of l.text)) (end_of (lines_of l.text)) ≡ resume l.reading (words_of (lines_seen l.text.cut l.place l.left)) (end_of (lines_seen l.text.cut l.place l.left));
  reading : IsReading l.reading;
  within : l.place + length l.left ≡ l.text.at + length l.text.text.now;
}

abbrev pub decreases-words : goal.decreases-words
decreases-words l = length l.left
