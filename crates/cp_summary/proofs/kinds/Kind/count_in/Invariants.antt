use Rattle.std.proofs.Common.{◌≡◌, ◌+◌, ◌≤◌, drop, map}
use Rattle.cp_logic.specs.Views.{post_of}
use Rattle.cp_summary.specs.Text.{count_of}
use Rattle.cp_summary.proofs.kinds.Kind.count_in.Given as goal

abbrev pub invariant-loop-post : goal.invariant-loop-post
invariant-loop-post l = record {
  few : l.count ≤ l.post-index;
  whole : l.count + count_of l.self (map (λ p. post_of p) (drop l.post-index l.posts)) ≡ count_of l.self (map (λ p. post_of p) l.posts);
}
