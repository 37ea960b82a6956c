use Rattle.std.proofs.Common.{rules, ap, ◌∙◌, subst, ◌<◌, sym}
use Rattle.cp_claim.proofs.Keeps.{splits}
use Rattle.cp_claim.proofs.claims.Claims.split.Goals as goal

pub split_seat-place-requires : goal.split_seat-place-requires
split_seat-place-requires c = let i = c.seat.invariant in
    (search rules, search rules, splits c.self.inside.table.shared.key _ _ i.1 (ap (λ z. z.view.mine.number) c.seat.view_is ∙ c.requires.founder) (subst (λ z. z.view.made < 4294967295) (sym c.seat.view_is) c.requires.room))
