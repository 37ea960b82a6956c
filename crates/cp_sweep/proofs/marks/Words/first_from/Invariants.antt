use Rattle.std.proofs.Common.{◌≡◌, ℕ, ◌+◌, ◌-◌, ◌*◌, ◌<◌, ◌≤◌, false, length}
use Rattle.cp_sweep.specs.Marks.{is_set}
use Rattle.cp_sweep.proofs.marks.Words.first_from.Given as goal

abbrev pub invariant-words : goal.invariant-words
invariant-words l = record {
  low : l.low < 64;
  from : l.i ≤ 64 * l.word + l.low;
  none : (k : ℕ) → l.i ≤ k → k < 64 * l.word + l.low → is_set l.self k ≡ false;
}

abbrev pub decreases-words : goal.decreases-words
decreases-words l = length l.self - l.word
