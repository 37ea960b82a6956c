use Rattle.std.proofs.Common.{◌≡◌, ℕ, ◌≤◌, List, [], ◌∷◌, length, sym, ap, ◌∙◌, subst, All}
use Rattle.cp_logic.specs.Formulas.{neighbourhood}
use Rattle.cp_occ.specs.Cells.{CellView}
use Rattle.cp_yard.specs.Views.{Base, Got, SeatView}
use Rattle.cp_yard.specs.Rule.{AreClausesAt}
use Rattle.cp_hood.specs.Seats.{GoesOn}
use Rattle.cp_hood.specs.Tries.{IsTry}
use Rattle.cp_hood.proofs.Going.{GoesOn-then, GoesOn-locked}
use Rattle.cp_hood.proofs.Ranges.{neighbours-within}
use Rattle.cp_hood.proofs.locking.try_hood.Goals as goal

pub lock_others-requires-clause-range : goal.lock_others-requires-clause-range
lock_others-requires-clause-range c = let cell : CellView = c.in-Ok.cell in let x : ℕ = c.args.x in let f : Base = c.args.yard.now.base in
    subst (All (λ (y : ℕ). (1 ≤ y) × (y ≤ f.formula.variables))) (sym (c.as_slice.ensures.value ∙ (c.in-Ok-plan.ensures.variables ∙ ap (neighbourhood cell.clauses) c.in-Ok.ensures.got.0)))
    (neighbours-within f x cell.clauses (subst (λ (g : Base). AreClausesAt g x cell.clauses) c.requires.base c.in-Ok.ensures.clauses) c.requires.low c.requires.high)

pub returns-in-Ok-plan-clause-tries : goal.returns-in-Ok-plan-clause-tries
returns-in-Ok-plan-clause-tries c = let cell : CellView = c.in-Ok.cell in let x : ℕ = c.args.x in
    let seat : SeatView = c.args.seat.now.view in let one : SeatView = c.try_lock.new.seat.view in let got = c.in-Ok.ensures.got in let t = c.lock_others.ensures.tries in
    let small : length c.as_slice.result.now ≤ c.args.limit = subst (λ (xs : List ℕ). length xs ≤ c.args.limit) (sym c.as_slice.ensures.value) c.in-Ok-plan.ensures.within in
    let n : ℕ = length seat.own.posts in let still : length one.own.posts ≡ n = ap (λ (v : SeatView). length v.own.posts) got.1 in (
      Got x cell.clauses n ∷ t.0,
      GoesOn-then seat one c.lock_others.new.seat.view (Got x cell.clauses n ∷ []) t.0 [] [] (subst (λ (v : SeatView). GoesOn seat v (Got x cell.clauses n ∷ []) []) (sym got.1) (GoesOn-locked x cell.clauses seat)) t.1,
      subst (λ (p : ℕ × ℕ). IsTry p.0 c.args.limit p.1 (Got p.0 cell.clauses p.1 ∷ t.0) c.lock_others.result) (λ i. (got.0 i, still i)) (t.2 c.args.limit small),
    )
