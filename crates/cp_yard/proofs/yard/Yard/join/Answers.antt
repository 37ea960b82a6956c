use Rattle.std.proofs.Common.{ap, ◌∙◌, rules}
use Rattle.cp_yard.specs.Views.{SeatView, base_of}
use Rattle.cp_yard.proofs.Seats.{join-allowed}
use Rattle.cp_yard.proofs.yard.Yard.join.Goals as goal

pub join_seat-requires : goal.join_seat-requires
join_seat-requires c = let i = c.seat.invariant in let o = c.into_place-place.ensures in (
  search rules,
  search rules,
  o.kept.0,
  search rules,
  join-allowed (base_of c.self.inside.table.shared.key.value) _ _ _ _ i.1 o.kept.1 (ap (λ (v : SeatView). v.held) o.view ∙ c.requires.nothing.0) (ap (λ (v : SeatView). v.turn) o.view ∙ c.requires.nothing.1),
)
