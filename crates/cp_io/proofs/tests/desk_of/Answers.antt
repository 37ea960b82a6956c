use Rattle.std.proofs.Common.{refl}
use Rattle.cp_io.proofs.tests.desk_of.Goals as goal

pub new-requires-clause-once : goal.new-requires-clause-once
new-requires-clause-once c = rw (c.in_ok-push.ensures.ok, c.new-inputs.ensures) refl
