use Rattle.cp_find.proofs.Turned.{has-negation}
use Rattle.cp_find.proofs.wanted.Wanted.is_met_by.Goals as goal

pub strengthens-requires : goal.strengthens-requires
strengthens-requires c = has-negation c.self.inside.var c.self.inside.taken c.self.inside.by.now.clause c.in-Some.lit c.self.invariant c.in-Some.is
