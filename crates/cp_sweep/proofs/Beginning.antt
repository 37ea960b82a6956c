-- The variables that are touched when a sweep begins: those whose cells aren't known to be silent.
use Rattle.std.proofs.Common.{◌≡◌, ℕ, ◌+◌, ◌-◌, ◌<◌, Bool, true, false, List, length, get_or, set, sym, ◌∙◌, ap, subst, inl, inr, arith}
use Rattle.std.proofs.lemmas.Bool.{cases_eq, false≢true}
use Rattle.std.proofs.lemmas.List.{get_or-set_same, get_or-set_other, length-set}
use Rattle.cp_logic.specs.declared.settings.Rules.{Rules}
use Rattle.cp_occ.specs.Cells.{CellView}
use Rattle.cp_sweep.specs.Marks.{is_marked}
use Rattle.cp_sweep.specs.Sweeping.{IsSilentAt, AreTouched}

module _ (cells : List CellView) (rules : Rules) (last : ℕ) where
  -- at first none was looked at
  pub touched-none : (ms : List Bool) → last < length ms → ((x : ℕ) → is_marked ms x ≡ false) → AreTouched cells rules last 0 ms
  touched-none ms room none = record {
    room = room;
    within = λ x m. absurd (false≢true (sym (none x) ∙ m));
    silent = λ x u l h. absurd (omega arith);
  }

  module _ (n : ℕ) (ms : List Bool) (a : AreTouched cells rules last n ms) where
    -- the next one is marked
    pub touched-one : n < last → AreTouched cells rules last (n + 1) (set ms (n + 1) true)
    touched-one h = record {
      room = omega (arith, a.room, length-set ms (n + 1) true);
      within = λ x m. elim (cases_eq x (n + 1)) [
        | inl e ↦ (omega arith, omega arith)
        | inr o ↦ let r = a.within x (sym (get_or-set_other ms (n + 1) x true false o) ∙ m) in (r.0, omega (arith, r.1))
      ];
      silent = λ x u l k. elim (cases_eq x (n + 1)) [
        | inl e ↦ absurd (false≢true (sym u ∙ ap (λ i. get_or (set ms (n + 1) true) i false) e ∙ get_or-set_same ms (n + 1) true false (omega (arith, a.room))))
        | inr o ↦ a.silent x (sym (get_or-set_other ms (n + 1) x true false o) ∙ u) l (omega arith)
      ];
    }

    -- the next one is silent
    pub silent-one : IsSilentAt cells rules n → AreTouched cells rules last (n + 1) ms
    silent-one s = record {
      room = a.room;
      within = λ x m. let r = a.within x m in (r.0, omega (arith, r.1));
      silent = λ x u l k. elim (cases_eq x (n + 1)) [
        | inl e ↦ let at : n ≡ x - 1 = omega arith in subst (IsSilentAt cells rules) at s
        | inr o ↦ a.silent x u l (omega arith)
      ];
    }
