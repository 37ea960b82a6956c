use Rattle.std.proofs.Common.{sym, subst}
use Rattle.std.specs.List.{All}
use Rattle.std.specs.Prelude.{IsTrue}
use Rattle.std.proofs.lemmas.List.Elements.{All-contains}
use Rattle.cp_logic.specs.declared.named.Named.{Named}
use Rattle.cp_logic.specs.Literals.{variable_of}
use Rattle.cp_logic.specs.Clauses.{contains}
use Rattle.cp_logic.specs.Entries.{new_clauses}
use Rattle.cp_logic.specs.Views.{entry_of}
use Rattle.cp_occ.specs.Cells.{variables_of}
use Rattle.cp_occ.specs.Changes.{HasRoom, IsChange}
use Rattle.cp_hood.specs.Hoods.{HoodView}
use Rattle.cp_hood.proofs.Following.{IsHood-placed, IsPlaced-same, Covers-after}
use Rattle.cp_hood.proofs.hood.Hood.follow.Goals as goal

pub apply-requires-clause-change : goal.apply-requires-clause-change
apply-requires-clause-change c = subst (λ (h : HoodView). IsChange h.cells (entry_of c.args.prepared.second)) (sym c.self.view_is) c.requires.change

pub apply-requires-clause-room : goal.apply-requires-clause-room
apply-requires-clause-room c = subst (λ (h : HoodView). HasRoom h.cells (entry_of c.args.prepared.second)) (sym c.self.view_is) c.requires.room

pub apply-requires-clause-ascending : goal.apply-requires-clause-ascending
apply-requires-clause-ascending c = c.self.invariant.2

pub invariant_of-self : goal.invariant_of-self
invariant_of-self c =
    let h = c.self.inside in let e = entry_of c.args.prepared.second in let i = c.self.invariant in
    let change = subst (λ (h : HoodView). IsChange h.cells e) (sym c.self.view_is) c.requires.change in
    let covers = Covers-after e h.centre h.cells.items c.apply.new.self.items (IsHood-placed h.centre h.at h.cells.items i).centre i.3
    (λ n m. All-contains (λ (c : Named). All (λ l. IsTrue (contains (variables_of h.cells.items) (variable_of l))) c.clause) (new_clauses e) n change.new_within m)
    c.apply.ensures.variables c.apply.ensures.lists in
    IsPlaced-same h.centre h.at h.cells.items c.apply.new.self.items i c.apply.ensures.variables covers
