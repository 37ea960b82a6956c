use Rattle.std.proofs.Common.{refl}
use Rattle.cp_top.proofs.extension_tests.desk_with.Goals as goal

pub new-requires-clause-once : goal.new-requires-clause-once
new-requires-clause-once c = rw (c.in_ok-push-2.ensures.ok, c.in_ok-push.ensures.ok, c.new-inputs.ensures) refl
