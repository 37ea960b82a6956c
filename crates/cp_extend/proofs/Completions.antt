-- Completions, a pair at a time.
use Rattle.std.proofs.Common.{◌≡◌, Bool, List, [], ◌∷◌, ◌++◌, map, ◌∙◌, ap}
use Rattle.std.proofs.lemmas.List.{map-append}
use Rattle.cp_logic.specs.declared.pairs.Pair.{Pair as HeldPair}
use Rattle.cp_logic.specs.Assignments.{repaired, completed}
use Rattle.cp_logic.specs.Pairs.{pair_of}
use Rattle.cp_logic.proofs.Runs.{completed-append}

-- the last pair goes first
pub completed-last : (values : List Bool) (ps : List HeldPair) (p : HeldPair)
    → completed values (map pair_of (ps ++ p ∷ [])) ≡ completed (repaired values (pair_of p)) (map pair_of ps)
completed-last values ps p = ap (completed values) (map-append pair_of ps (p ∷ [])) ∙ completed-append values (map pair_of ps) (pair_of p ∷ [])
