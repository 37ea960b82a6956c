-- A desk keeps one item for each role. A change of one item is a change of one role.
use Rattle.std.proofs.Common.{◌≡◌, ◌≢◌, ℕ, zero, suc, ◌<◌, List, [], ◌∷◌, length, set, get_or, Some, refl, sym, ◌∙◌, ap, subst, inl, inr, arith}
use Rattle.std.specs.Option.{option_map_or}
use Rattle.std.specs.List.{slice_get}
use Rattle.std.proofs.lemmas.Option.{slice_get-get_or}
use Rattle.cp_io.specs.declared.role.Role.{Role}
use Rattle.cp_io.specs.declared.slots.Slot.{Slot}
use Rattle.cp_io.specs.declared.standard.StdSlot.{StdSlot}
use Rattle.cp_io.specs.Roles.{role_index}
use Rattle.cp_io.specs.Port.{Port, AtRole, untold_port}
use Rattle.cp_io.proofs.RoleCases.{role_index-apart, role_cases}
use Rattle.cp_io.specs.Slots.{slot_port, fresh_port, next_count}
use Rattle.cp_io.specs.Standard.{std_slot_port}

slice_get-set_same : {X : Type 0} (xs : List X) (i : ℕ) (x : X) → i < length xs → slice_get (set xs i x) i ≡ Some x
slice_get-set_same [] i x h = absurd (omega arith)
slice_get-set_same (y ∷ xs) zero x h = refl
slice_get-set_same (y ∷ xs) (suc i) x h = slice_get-set_same xs i x (omega arith)

slice_get-set_other : {X : Type 0} (xs : List X) (i j : ℕ) (x : X) → j ≢ i → slice_get (set xs i x) j ≡ slice_get xs j
slice_get-set_other [] i j x apart = refl
slice_get-set_other (y ∷ xs) zero zero x apart = absurd (apart refl)
slice_get-set_other (y ∷ xs) zero (suc j) x apart = refl
slice_get-set_other (y ∷ xs) (suc i) zero x apart = refl
slice_get-set_other (y ∷ xs) (suc i) (suc j) x apart = slice_get-set_other xs i j x (λ same. apart (ap suc same))

-- a part of each role's item
abbrev parts : {X A : Type 0} → (X → A) → A → List X → Role → A
parts part none slots role = option_map_or part (slice_get slots (role_index role)) none

-- a call works on the item of a role
pub record SlotCall {X : Type 0} (slots : List X) (role : Role) (i : ℕ) : Type 0 where
  pub at : i ≡ role_index role
  pub within : i < length slots

-- the part of the item that a call works on
pub part_before : {X A : Type 0} (part : X → A) (none : A) {slots : List X} {role : Role} {i : ℕ} → SlotCall slots role i → (d : X) → parts part none slots role ≡ part (get_or slots i d)
part_before part none {slots = slots} {i = i} call d =
    ap (λ k. option_map_or part (slice_get slots k) none) (sym call.at) ∙ ap (λ o. option_map_or part o none) (slice_get-get_or slots i d call.within)

-- the part of the item that it leaves
pub part_after : {X A : Type 0} (part : X → A) (none : A) {slots : List X} {role : Role} {i : ℕ} → SlotCall slots role i → (after : X) → parts part none (set slots i after) role ≡ part after
part_after part none {slots = slots} {i = i} call after =
    ap (λ k. option_map_or part (slice_get (set slots i after) k) none) (sym call.at) ∙ ap (λ o. option_map_or part o none) (slice_get-set_same slots i after call.within)

-- the parts of the other items stay
pub part_other : {X A : Type 0} (part : X → A) (none : A) {slots : List X} {role : Role} {i : ℕ} → SlotCall slots role i → (after : X) → (other : Role) → other ≢ role
    → parts part none (set slots i after) other ≡ parts part none slots other
part_other part none {slots = slots} {role = role} {i = i} call after other apart =
    ap (λ o. option_map_or part o none) (slice_get-set_other slots i (role_index other) after (λ e. role_index-apart other role apart (e ∙ call.at)))

-- a part that the call keeps stays of every role
pub part_kept : {X A : Type 0} (part : X → A) (none : A) {slots : List X} {role : Role} {i : ℕ} → SlotCall slots role i → (d after : X) → part after ≡ part (get_or slots i d) → (other : Role)
    → parts part none (set slots i after) other ≡ parts part none slots other
part_kept part none {slots = slots} {role = role} {i = i} call d after same other = elim (role_cases other role) [
  | inl is ↦ rw is (part_after part none call after ∙ same ∙ sym (part_before part none call d))
  | inr apart ↦ part_other part none call after other apart
]

-- what a call does to the item, it does to the role
pub AtRole-part : {X : Type 0} (port : X → Port) (none : Port) (Change : Port → Port → Type 0) {slots : List X} {role : Role} {i : ℕ} → SlotCall slots role i → (d after : X) → Change (port (get_or slots i d)) (port after)
    → AtRole role Change (parts port none slots) (parts port none (set slots i after))
AtRole-part port none Change {slots = slots} {role = role} {i = i} call d after change = record {
  here = subst (λ p. Change p (parts port none (set slots i after) role)) (sym (part_before port none call d))
      (subst (λ p. Change (port (get_or slots i d)) p) (sym (part_after port none call after)) change);
  others = part_other port none call after;
}

-- what a call does to the slot of a desk in memory, it does to the role
pub AtRole-slot : (Change : Port → Port → Type 0) {slots : List Slot} {role : Role} {i : ℕ} → SlotCall slots role i → (d after : Slot) → Change (slot_port (get_or slots i d)) (slot_port after)
    → AtRole role Change (parts slot_port (fresh_port []) slots) (parts slot_port (fresh_port []) (set slots i after))
AtRole-slot Change call d after change = AtRole-part slot_port (fresh_port []) Change call d after change

-- what a call does to the slot of the standard desk, it does to the role
pub AtRole-std_slot : {F : Type 0} (Change : Port → Port → Type 0) {slots : List (StdSlot F)} {role : Role} {i : ℕ} → SlotCall slots role i → (d after : StdSlot F) → Change (std_slot_port (get_or slots i d)) (std_slot_port after)
    → AtRole role Change (parts std_slot_port untold_port slots) (parts std_slot_port untold_port (set slots i after))
AtRole-std_slot Change call d after change = AtRole-part std_slot_port untold_port Change call d after change

-- the calls are counted
pub counted_calls : {slots : List Slot} {role : Role} {i : ℕ} → SlotCall slots role i → (d after : Slot) → after.calls ≡ next_count (get_or slots i d).calls
    → (parts (λ s. s.calls) 0 (set slots i after) role ≡ next_count (parts (λ s. s.calls) 0 slots role))
counted_calls call d after next = part_after (λ (s : Slot). s.calls) 0 call after ∙ next ∙ ap next_count (sym (part_before (λ (s : Slot). s.calls) 0 call d))
