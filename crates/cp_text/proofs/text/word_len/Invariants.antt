use Rattle.std.proofs.Common.{◌≡◌, ℕ, ◌<◌, false, get_or}
use Rattle.cp_text.specs.Text.{separates}
use Rattle.cp_text.proofs.text.word_len.Given as goal

abbrev pub invariant-loop-count : goal.invariant-loop-count
invariant-loop-count l = (k : ℕ) → k < l.count → separates (get_or l.text k 0) ≡ false
