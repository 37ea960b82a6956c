use Rattle.std.proofs.Common.{◌≡◌, ◌+◌, length}
use Rattle.cp_text.specs.Cut.{lines_seen}
use Rattle.cp_text.specs.Ahead.{lines_of}
use Rattle.cp_stack.specs.Grammar.{from_words}
use Rattle.cp_stack.proofs.header.skip_empty.Given as goal

abbrev pub invariant-lines : goal.invariant-lines
invariant-lines l = record {
  lines : from_words (lines_seen l.text.cut l.place l.left) ≡ from_words (lines_of l.text);
  within : l.place + length l.left ≡ l.text.at + length l.text.text.now;
}

abbrev pub decreases-lines : goal.decreases-lines
decreases-lines l = length l.left
