use Rattle.std.proofs.Common.{◌≡◌, Some, drop, map}
use Rattle.cp_io.specs.declared.role.Way.TheVariants.{Out}
use Rattle.cp_io.specs.declared.role.Role.TheVariants.{Proof}
use Rattle.cp_drat.specs.Log.{lemma_of, cut, has_end}
use Rattle.cp_drat.specs.Text.{log_text}
use Rattle.cp_io.proofs.PrintsUpTo.{PrintsUpTo}
use Rattle.cp_drat.proofs.printing.put_lemmas.Given as goal

abbrev pub invariant-loop-named : goal.invariant-loop-named
invariant-loop-named g l = record {
  prints : PrintsUpTo Proof (log_text l.form (cut (map lemma_of l.list))) (log_text l.form (cut (map lemma_of (drop l.named-index l.list)))) l.fn.buffer (g.D.Desk.port l.fn.desk) l.buffer (g.D.Desk.port l.desk);
  ends : has_end (map lemma_of (drop l.named-index l.list)) ≡ has_end (map lemma_of l.list);
  bound : (g.D.Desk.port l.desk Proof).way ≡ Some Out;
}
