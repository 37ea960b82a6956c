use Rattle.std.proofs.Common.{refl}
use Rattle.cp_top.proofs.tests.desk_with.Goals as goal

pub new-requires-clause-once : goal.new-requires-clause-once
new-requires-clause-once c = rw (c.in_ok-push-2.ensures.ok, c.new-inputs.ensures) refl
