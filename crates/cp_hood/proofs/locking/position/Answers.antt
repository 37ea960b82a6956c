use Rattle.std.proofs.Common.{◌≡◌, ℕ, ◌<◌, slice_index_or, inl, inr, arith, Err, sym, ◌∙◌}
use Rattle.std.proofs.lemmas.Bool.{cases_order}
use Rattle.std.proofs.lemmas.Grind.{get_or_default_zero}
use Rattle.std.proofs.lemmas.List.Sorted.{searched}
use Rattle.cp_logic.proofs.Members.{contains-in}
use Rattle.cp_hood.proofs.Rows.{rises-at}
use Rattle.cp_hood.proofs.locking.position.Goals as goal

pub unreachable-requires : goal.unreachable-requires
unreachable-requires c = let vars = c.args.vars.now in let k : ℕ = c.in-Err.field-0 in
    let s = searched vars c.args.x (Err k) c.in-Err.ensures.position (λ i j le l. rises-at vars i j c.requires.ascending le l) in
    let m = contains-in vars c.args.x c.requires.there in
    let here : slice_index_or vars m.0 0 ≡ c.args.x = sym (get_or_default_zero vars m.0 c.args.x m.1) ∙ m.2 in
    elim (cases_order m.0 k) [
      | inl e ↦ let b : c.args.x < slice_index_or vars m.0 0 = s.2 m.0 (omega arith) m.1 in absurd (omega arith)
      | inr (inl l) ↦ let b : slice_index_or vars m.0 0 < c.args.x = s.1 m.0 l in absurd (omega arith)
      | inr (inr g) ↦ let b : c.args.x < slice_index_or vars m.0 0 = s.2 m.0 (omega arith) m.1 in absurd (omega arith)
    ]
