use Rattle.std.specs.Prelude.{IfSome}
use Rattle.cp_find.specs.Lookups.{Serves}
use Rattle.cp_find.proofs.lookup.Lookup.candidates.Given as goal

-- the shortest so far serves
abbrev pub invariant-loop-lit : goal.invariant-loop-lit
invariant-loop-lit l = IfSome l.shortest (λ list. Serves l.wanted l.self list.now)
