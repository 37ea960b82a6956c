use Rattle.cp_find.proofs.Turned.{has-negation}
use Rattle.cp_find.proofs.wanted.Wanted.first_of.Goals as goal

pub first_strengthened-requires : goal.first_strengthened-requires
first_strengthened-requires c = has-negation c.self.inside.var c.self.inside.taken c.self.inside.by.now.clause c.in-Some.lit c.self.invariant c.in-Some.is
