-- A seat that tries the turn, has it and ends it.
use Rattle.std.proofs.Common.{◌≡◌, ℕ, ◌<◌, ◌≤◌, List, [], ◌∷◌, ◌++◌, length, get_or, append_assoc, append-nil, refl, sym, ◌∙◌, ap, subst, arith}
use Rattle.std.specs.List.{All}
use Rattle.std.proofs.lemmas.List.{map-append, get_or-map, length-map}
use Rattle.cp_logic.specs.Journals.{Post}
use Rattle.cp_occ.specs.Cells.{CellView, variables_of, lists_of}
use Rattle.cp_occ.specs.Changes.{lists_after}
use Rattle.cp_yard.specs.Views.{Note, GotTurn, MetTurn, SeatView, noted, with_turn, without_turn, with_post}
use Rattle.cp_hood.specs.Hoods.{HoldsJust}
use Rattle.cp_hood.specs.Seats.{GoesOn, met_turns, noted_all}
use Rattle.cp_hood.proofs.Following.{held-follow, listed-same}

-- ---- the seat

with_notes : List Note → SeatView → SeatView
with_notes ns v = record v { own = record v.own { notes = ns } }

pub noted-none : (v : SeatView) → v ≡ noted_all (met_turns []) v
unfolding with_notes
noted-none v = ap (λ ns. with_notes ns v) (sym (append-nil v.own.notes))

pub noted-push : (v : SeatView) (met : List ℕ) (by : ℕ) → noted (MetTurn by) (noted_all (met_turns met) v) ≡ noted_all (met_turns (met ++ by ∷ [])) v
unfolding with_notes
noted-push v met by = ap (λ ns. with_notes ns v)
    (append_assoc v.own.notes (met_turns met) (MetTurn by ∷ []) ∙ ap (λ ns. v.own.notes ++ ns) (sym (map-append MetTurn met (by ∷ []))))

-- cells of the same variables are within the same range
in_range : (n : ℕ) (old new : List CellView) → variables_of new ≡ variables_of old → All (λ c. c.variable ≤ n) old → All (λ c. c.variable ≤ n) new
in_range n old new vs h = λ k d l.
    let long : length new ≡ length old = sym (length-map new (λ (c : CellView). c.variable)) ∙ ap length vs ∙ length-map old (λ (c : CellView). c.variable) in
    let inside : k < length old = omega arith in
    let same : (get_or new k d).variable ≡ (get_or old k d).variable =
    sym (get_or-map (λ (c : CellView). c.variable) new k d 0 l) ∙ ap (λ xs. get_or xs k 0) vs ∙ get_or-map (λ (c : CellView). c.variable) old k d 0 inside in
    subst (λ x. x ≤ n) (sym same) (h k d inside)

pub HoldsJust-same : (v : SeatView) (old new : List CellView) → variables_of new ≡ variables_of old → lists_of new ≡ lists_of old → HoldsJust v old → HoldsJust v new
HoldsJust-same v old new vs ls h = record {
  turn = h.turn;
  range = in_range v.base.formula.variables old new vs h.range;
  held = λ x. h.held x ∙ sym (listed-same x old new vs ls);
}

module _ (v : SeatView) (met : List ℕ) where
  pub GoesOn-met : (by : ℕ) → GoesOn v (noted (MetTurn by) (noted_all (met_turns met) v)) (met_turns met ++ MetTurn by ∷ []) []
  GoesOn-met by = record { base = refl; number = refl; made = refl; own = refl; others = refl; notes = append_assoc v.own.notes (met_turns met) (MetTurn by ∷ []); posts = sym (append-nil v.own.posts) }

  pub GoesOn-ended : (h : List Post) → GoesOn v (without_turn (with_turn h (noted_all (met_turns met) v))) (met_turns met ++ GotTurn h ∷ []) []
  GoesOn-ended h = record { base = refl; number = refl; made = refl; own = refl; others = refl; notes = append_assoc v.own.notes (met_turns met) (GotTurn h ∷ []); posts = sym (append-nil v.own.posts) }

  pub GoesOn-posted : (h : List Post) (n : ℕ) (p : Post) → GoesOn v (with_post n p (with_turn h (noted_all (met_turns met) v))) (met_turns met ++ GotTurn h ∷ []) ((n, p) ∷ [])
  GoesOn-posted h n p = record { base = refl; number = refl; made = refl; own = refl; others = refl; notes = append_assoc v.own.notes (met_turns met) (GotTurn h ∷ []); posts = refl }

  pub HoldsJust-met : (by : ℕ) (cells : List CellView) → HoldsJust v cells → HoldsJust (noted (MetTurn by) (noted_all (met_turns met) v)) cells
  HoldsJust-met by cells h = record { turn = h.turn; range = h.range; held = h.held }

  pub HoldsJust-ended : (j : List Post) (cells : List CellView) → HoldsJust v cells → HoldsJust (without_turn (with_turn j (noted_all (met_turns met) v))) cells
  HoldsJust-ended j cells h = record { turn = refl; range = h.range; held = h.held }

  pub HoldsJust-posted : (j : List Post) (n : ℕ) (p : Post) (old new : List CellView) → HoldsJust v old → variables_of new ≡ variables_of old → lists_of new ≡ lists_after old p.entry
      → HoldsJust (with_post n p (with_turn j (noted_all (met_turns met) v))) new
  HoldsJust-posted j n p old new h vs ls = record {
    turn = refl;
    range = in_range v.base.formula.variables old new vs h.range;
    held = held-follow p.entry v.held old new h.held vs ls;
  }
