use Rattle.std.proofs.Common.{rules}
use Rattle.cp_claim.proofs.Keeps.{joins}
use Rattle.cp_claim.proofs.claims.Claims.join.Goals as goal

pub join_seat-requires : goal.join_seat-requires
join_seat-requires c = let i = c.seat.invariant in let o = c.other.invariant in (search rules, search rules, o.0, search rules, joins c.self.inside.table.shared.key _ _ _ _ i.1 o.1)
