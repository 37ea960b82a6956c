use Rattle.std.proofs.Common.{◌+◌, drop, map, subst}
use Rattle.std.proofs.lemmas.List.{at_drop_more}
use Rattle.cp_io.specs.declared.role.Role.TheVariants.{Proof}
use Rattle.cp_io.specs.Prints.{Prints}
use Rattle.cp_logic.specs.declared.named.Named.{Named}
use Rattle.cp_drat.specs.Log.{deletion_of}
use Rattle.cp_drat.specs.Text.{log_text, item_text}
use Rattle.cp_io.proofs.PrintsUpTo.{Prints-step, Prints-start}
use Rattle.cp_drat.proofs.printing.put_deletions.Goals as goal

pub loop-named-init : goal.loop-named-init
loop-named-init g c = record { prints = Prints-start Proof _ _ _; bound = c.requires }

pub loop-named-preserved : goal.loop-named-preserved
loop-named-preserved g c =
    let list = c.args.list.now in
    let i = c.loop-named.named-index in
    record {
      prints = Prints-step (log_text c.args.form (map deletion_of list)) (log_text c.args.form (map deletion_of (drop i list))) (log_text c.args.form (map deletion_of (drop (i + 1) list)))
          (at_drop_more (λ cs. log_text c.args.form (map deletion_of cs)) list i c.named-item.result c.loop-named-test.true) c.loop-named.invariant.prints
          (subst (λ (d : Named). Prints Proof (item_text c.args.form (deletion_of d)) c.loop-named.buffer (g.D.Desk.port c.loop-named.desk) c.put_deletion.new.buffer (g.D.Desk.port c.put_deletion.new.desk)) c.named-item.is c.put_deletion.ensures.prints);
      bound = c.put_deletion.ensures.bound;
    }
