use Rattle.std.proofs.Common.{subst}
use Rattle.cp_hood.specs.Hoods.{IsHood}
use Rattle.cp_hood.proofs.Following.{IsHood-placed}
use Rattle.cp_hood.proofs.hood.Hood.is_hood.Goals as goal

pub returns : goal.returns
returns c = let h = c.self.inside in subst IsHood c.self.view_is (IsHood-placed h.centre h.at h.cells.items c.self.invariant)
