use Rattle.std.proofs.Common.{take}
use Rattle.std.specs.Option.{option_map}
use Rattle.cp_find.specs.Lookups.{IsBest}
use Rattle.cp_find.proofs.lookup.best_of.Given as goal

-- the best of the candidates so far
abbrev pub invariant-loop-candidate : goal.invariant-loop-candidate
invariant-loop-candidate l = IsBest l.wanted.sought l.cell.clauses l.from (take l.candidate-index l.candidates) (option_map (λ o. o.now) l.best)
