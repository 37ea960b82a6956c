use Rattle.std.proofs.Common.{◌≡◌, Some, drop, map}
use Rattle.cp_io.specs.declared.role.Way.TheVariants.{Out}
use Rattle.cp_io.specs.declared.role.Role.TheVariants.{Proof}
use Rattle.cp_logic.specs.Views.{post_of}
use Rattle.cp_drat.specs.Log.{log_of}
use Rattle.cp_drat.specs.Text.{log_text}
use Rattle.cp_io.proofs.PrintsUpTo.{PrintsUpTo}
use Rattle.cp_drat.proofs.printing.put_posts.Given as goal

abbrev pub invariant-loop-post : goal.invariant-loop-post
invariant-loop-post g l = record {
  prints : PrintsUpTo Proof (log_text l.form (log_of (map (λ p. post_of p) l.posts))) (log_text l.form (log_of (map (λ p. post_of p) (drop l.post-index l.posts)))) l.fn.buffer (g.D.Desk.port l.fn.desk) l.buffer (g.D.Desk.port l.desk);
  bound : (g.D.Desk.port l.desk Proof).way ≡ Some Out;
}
