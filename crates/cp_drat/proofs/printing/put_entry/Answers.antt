use Rattle.std.proofs.Common.{◌≡◌, ◌++◌, map, sym, ◌∙◌, ap, subst, List}
use Rattle.cp_io.specs.declared.role.Role.TheVariants.{Proof}
use Rattle.cp_io.specs.Prints.{Prints}
use Rattle.cp_logic.specs.Views.{entry_of}
use Rattle.cp_drat.specs.Log.{Item, items_of, lemma_of, deletion_of, has_end, cut}
use Rattle.cp_drat.specs.Text.{log_text}
use Rattle.cp_drat.proofs.Cuts.{items_of-eliminate}
use Rattle.cp_drat.proofs.printing.put_entry.Goals as goal

pub returns-in-Eliminate-clause-prints : goal.returns-in-Eliminate-clause-prints
returns-in-Eliminate-clause-prints g c =
    let e = c.in-Eliminate in
    let is : items_of (entry_of c.args.entry.now) ≡ map lemma_of e.new.items ++ (map deletion_of e.pos.items ++ map deletion_of e.neg.items) =
    ap (λ x. items_of (entry_of x)) e.is ∙ items_of-eliminate e.var e.pos.items e.neg.items e.new.items in
    let prints = rw (c.as_slice.ensures, c.as_slice-in-Eliminate.ensures, c.as_slice-in-Eliminate-2.ensures) at c.put_resolvents.ensures.prints in
    subst (λ (t : List Item). Prints Proof (log_text c.args.form (cut t)) c.args.buffer.now (g.D.Desk.port c.args.desk.now) c.put_resolvents.new.buffer (g.D.Desk.port c.put_resolvents.new.desk)) (sym is) prints

pub returns-in-Eliminate-clause-ends : goal.returns-in-Eliminate-clause-ends
returns-in-Eliminate-clause-ends g c =
    let e = c.in-Eliminate in
    let is : items_of (entry_of c.args.entry.now) ≡ map lemma_of e.new.items ++ (map deletion_of e.pos.items ++ map deletion_of e.neg.items) =
    ap (λ x. items_of (entry_of x)) e.is ∙ items_of-eliminate e.var e.pos.items e.neg.items e.new.items in
    let ends = rw (c.as_slice.ensures, c.as_slice-in-Eliminate.ensures, c.as_slice-in-Eliminate-2.ensures) at c.put_resolvents.ensures.ends in
    ends ∙ ap has_end (sym is)
