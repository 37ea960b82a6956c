use Rattle.std.proofs.Common.{◌≡◌, ◌<◌, ◌≤◌, ℕ, None}
use Rattle.cp_chain.specs.Chains.{find_item}
use Rattle.cp_chain.proofs.chain.Chain.find_from.Given as goal

-- no number that was passed over is a handle
abbrev pub invariant-loop-at : goal.invariant-loop-at
invariant-loop-at g l = (k : ℕ) → l.index ≤ k → k < l.at → find_item l.self.entries k ≡ None
