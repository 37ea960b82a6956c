use Rattle.std.proofs.Common.{◌≡◌, rules, [], List, ◌∷◌, ◌++◌, sym, ap, ◌∙◌, subst}
use Rattle.std.proofs.lemmas.Bool.{false≢true}
use Rattle.cp_logic.specs.Clauses.{IsAscending}
use Rattle.cp_occ.specs.Cells.{CellView, variables_of}
use Rattle.cp_yard.specs.Views.{SeatView, held_of, unlocked}
use Rattle.cp_hood.specs.Hoods.{HoldsJust}
use Rattle.cp_hood.specs.Seats.{GoesOn}
use Rattle.cp_hood.proofs.Holding.{listed-last, front-ascends, HoldsJust-unlocked, IsIdle-none, none-left}
use Rattle.cp_hood.proofs.Going.{GoesOn-then, GoesOn-unlocked}
use Rattle.cp_hood.proofs.locking.give_back.Goals as goal

pub unlock-requires-clause-held : goal.unlock-requires-clause-held
unlock-requires-clause-held c = let i = c.loop-cell.invariant in let rest : List CellView = c.pop.new.self.items in let cell : CellView = c.in-Some.cell in
    let items : c.loop-cell.cells.items ≡ rest ++ cell ∷ [] = c.in-Some.ensures.items in
    let up : IsAscending (variables_of (rest ++ cell ∷ [])) = subst (λ (cs : List CellView). IsAscending (variables_of cs)) items i.ascending in
    let holds : HoldsJust c.loop-cell.seat.view (rest ++ cell ∷ []) = subst (HoldsJust c.loop-cell.seat.view) items i.holds in
    ap (λ x. held_of x c.loop-cell.seat.view.held) c.var-var.ensures.value ∙ (holds.held cell.variable ∙ listed-last rest cell up)

pub loop-cell-preserved : goal.loop-cell-preserved
loop-cell-preserved c = let i = c.loop-cell.invariant in let rest : List CellView = c.pop.new.self.items in let cell : CellView = c.in-Some.cell in let seat : SeatView = c.loop-cell.seat.view in
    let items : c.loop-cell.cells.items ≡ rest ++ cell ∷ [] = c.in-Some.ensures.items in
    let up : IsAscending (variables_of (rest ++ cell ∷ [])) = subst (λ (cs : List CellView). IsAscending (variables_of cs)) items i.ascending in
    let holds : HoldsJust seat (rest ++ cell ∷ []) = subst (HoldsJust seat) items i.holds in
    let view : unlocked cell.variable seat ≡ c.unlock.new.seat.view = sym (c.unlock.ensures.unlocked ∙ ap (λ x. unlocked x seat) c.var-var.ensures.value) in record {
      table = search rules;
      same = GoesOn-then c.args.seat.now.view seat c.unlock.new.seat.view [] [] [] [] i.same (subst (λ (v : SeatView). GoesOn seat v [] []) view (GoesOn-unlocked cell.variable seat));
      holds = subst (λ (v : SeatView). HoldsJust v rest) view (HoldsJust-unlocked seat rest cell up holds);
      ascending = front-ascends rest cell up;
    }

pub returns-clause-idle : goal.returns-clause-idle
returns-clause-idle c = IsIdle-none c.loop-cell.seat.view (subst (HoldsJust c.loop-cell.seat.view) (none-left c.loop-cell.cells.items (λ l. false≢true (c.in_default.ensures.some.1 l))) c.loop-cell.invariant.holds)
