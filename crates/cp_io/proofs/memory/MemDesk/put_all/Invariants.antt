use Rattle.std.proofs.Common.{◌≡◌, List, ◌++◌}
use Rattle.cp_io.specs.declared.role.Role.{Role}
use Rattle.cp_io.specs.declared.setup.Input.{Input}
use Rattle.cp_io.specs.Slots.{fresh_port}
use Rattle.cp_io.specs.Setup.{input_of}
use Rattle.cp_io.specs.Memory.{memory_port, calls_of, failing_of, piece_of}
use Rattle.cp_io.proofs.memory.MemDesk.put_all.Given as goal

abbrev pub invariant-inputs : goal.invariant-inputs
invariant-inputs l = record {
  ports : (done : List Input) × (l.fn.inputs.items ≡ l.inputs.items ++ done) × ((role : Role) → memory_port l.self role ≡ fresh_port (input_of done role));
  calls : (role : Role) → calls_of l.self role ≡ 0;
  failing : failing_of l.self ≡ failing_of l.fn.self;
  piece : piece_of l.self ≡ piece_of l.fn.self;
}

abbrev pub decreases-inputs : goal.decreases-inputs
decreases-inputs l = goal.left-inputs l
