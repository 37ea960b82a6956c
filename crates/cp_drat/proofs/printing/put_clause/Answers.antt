use Rattle.std.proofs.Common.{ℕ, ◌+◌, drop, ap, subst}
use Rattle.std.specs.List.{flat_map}
use Rattle.std.proofs.lemmas.List.{at_drop_more}
use Rattle.std.proofs.Math.ListN.{drop_of_length-le}
use Rattle.cp_io.specs.declared.role.Role.TheVariants.{Proof}
use Rattle.cp_io.specs.Prints.{Prints}
use Rattle.cp_io.proofs.Printing.{Prints-then}
use Rattle.cp_drat.specs.Text.{literal_text}
use Rattle.cp_io.proofs.PrintsUpTo.{Prints-step, Prints-whole, Prints-start}
use Rattle.cp_drat.proofs.printing.put_clause.Goals as goal

pub loop-lit-init : goal.loop-lit-init
loop-lit-init g c = record { prints = Prints-start Proof _ _ _; bound = c.requires }

pub loop-lit-preserved : goal.loop-lit-preserved
loop-lit-preserved g c =
    let lits = c.args.lits.now in
    let i = c.loop-lit.lit-index in
    record {
      prints = Prints-step (flat_map (literal_text c.args.form) lits) (flat_map (literal_text c.args.form) (drop i lits)) (flat_map (literal_text c.args.form) (drop (i + 1) lits))
          (at_drop_more (flat_map (literal_text c.args.form)) lits i c.lit-item.result c.loop-lit-test.true) c.loop-lit.invariant.prints
          (subst (λ (l : ℕ). Prints Proof (literal_text c.args.form l) c.loop-lit.buffer (g.D.Desk.port c.loop-lit.desk) c.put_literal.new.buffer (g.D.Desk.port c.put_literal.new.desk)) c.lit-item.is c.put_literal.ensures.prints);
      bound = c.put_literal.ensures.bound;
    }

pub returns-clause-prints : goal.returns-clause-prints
returns-clause-prints g c =
    let lits = c.args.lits.now in
    let i = c.loop-lit.lit-index in
    Prints-then (Prints-whole (flat_map (literal_text c.args.form) lits) (flat_map (literal_text c.args.form) (drop i lits)) (ap (flat_map (literal_text c.args.form)) (drop_of_length-le lits c.loop-lit-test.false)) c.loop-lit.invariant.prints) (rw c.end_mark.ensures at c.put.ensures.prints)
