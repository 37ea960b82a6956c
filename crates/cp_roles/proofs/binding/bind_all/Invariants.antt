use Rattle.std.proofs.Common.{take, drop}
use Rattle.cp_roles.specs.Bindings.{wanted, AreApart, BoundSoFar}
use Rattle.cp_roles.proofs.binding.bind_all.Given as goal

-- the roles so far are bound, and those that are left are apart from them
abbrev pub invariant-loop-bind : goal.invariant-loop-bind
invariant-loop-bind g l = record {
  bound : BoundSoFar (wanted (take l.bind-index l.binds)) (g.D.Desk.port l.fn.desk) (g.D.Desk.port l.desk);
  apart : AreApart (wanted (take l.bind-index l.binds)) (wanted (drop l.bind-index l.binds));
}
