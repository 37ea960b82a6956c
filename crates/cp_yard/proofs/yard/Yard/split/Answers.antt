use Rattle.std.proofs.Common.{◌+◌, ◌<◌, ◌^◌, sym, ap, ◌∙◌, subst, rules}
use Rattle.cp_yard.specs.Views.{base_of}
use Rattle.cp_yard.proofs.Seats.{split-allowed}
use Rattle.cp_yard.proofs.yard.Yard.split.Goals as goal

pub split_seat-place-requires : goal.split_seat-place-requires
split_seat-place-requires c = let i = c.seat.invariant in (
  search rules,
  search rules,
  split-allowed (base_of c.self.inside.table.shared.key.value) _ _ i.1 (ap (λ z. z.view.number) c.seat.view_is ∙ c.requires.first) (subst (λ z. z.view.made + 1 < 2 ^ 32) (sym c.seat.view_is) c.requires.few),
)
