use Rattle.cp_occ.proofs.Entered.{Entering}
use Rattle.cp_occ.proofs.filling.enter.Given as goal

-- the cells of the variables that are left still wait for the clause
abbrev pub invariant-loop-var : goal.invariant-loop-var
invariant-loop-var l = Entering (record { number = l.number; clause = l.fn.clause }) l.fn.cells l.cells l.var-iterator
