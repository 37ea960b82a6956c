use Rattle.std.proofs.Common.{◌≡◌, ℕ, get_or, sym, ap, ◌∙◌, subst}
use Rattle.std.specs.Slots.{slots_items}
use Rattle.cp_claim.specs.Views.{View, IsAlone}
use Rattle.cp_claim.proofs.Keeps.{Closes, closes, first_is}
use Rattle.cp_claim.proofs.claims.Claims.close.Goals as goal

pub returns : goal.returns
returns c = let v : View = c.seat.inside.place.me.0 in let view : v ≡ c.args.seat.view = ap (λ z. z.view) c.seat.view_is in
    let word : get_or (slots_items c.close_with-closed.result.words) 0 0 ≡ c.word-word.result = first_is _ _ c.word-word.ensures in
    let limit : c.self.inside.table.shared.key ≡ c.args.self.limit = c.self.invariant.2 ∙ ap (λ z. z.limit) c.self.view_is in
    let inside = closes c.self.inside.table.shared.key c.seat.inside.place.id v (slots_items c.close_with-closed.result.words) (slots_items c.close_with-closed.result.slots) c.seat.invariant.1 (subst IsAlone (sym view) c.requires.alone) c.close_with-closed.ensures.values.2 in
    let seen : Closes c.args.self.limit c.args.seat.view c.word-word.result = subst (λ (z : ℕ × View × ℕ). Closes z.0 z.1 z.2) (λ i. (limit i, view i, word i)) inside in
    record { drawn = seen.drawn; ended = seen.ended; read = seen.read; steps = seen.steps }
