use Rattle.std.proofs.Common.{◌≡◌, map, length}
use Rattle.std.specs.List.{list_any}
use Rattle.cp_words.specs.Names.{clash}
use Rattle.cp_words.specs.Roles.{named}
use Rattle.cp_words.proofs.names.clashes_with_any.Given as goal

abbrev pub invariant-loop-rest : goal.invariant-loop-rest
invariant-loop-rest l = list_any (clash (named l.role)) (map named l.others) ≡ list_any (clash (named l.role)) (map named l.rest)

abbrev pub decreases-loop-rest : goal.decreases-loop-rest
decreases-loop-rest l = length l.rest
