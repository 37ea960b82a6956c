use Rattle.std.proofs.Common.{◌≡◌, map, length}
use Rattle.cp_words.specs.Names.{some_clash}
use Rattle.cp_words.specs.Roles.{named}
use Rattle.cp_words.proofs.names.some_clash.Given as goal

abbrev pub invariant-loop-rest : goal.invariant-loop-rest
invariant-loop-rest l = some_clash (map named l.roles) ≡ some_clash (map named l.rest)

abbrev pub decreases-loop-rest : goal.decreases-loop-rest
decreases-loop-rest l = length l.rest
