use Rattle.cp_roles.proofs.InputsRead.{stack-read}
use Rattle.cp_roles.proofs.input.read_stack.Goals as goal

pub returns : goal.returns
returns g c = stack-read (g.D.Desk.port c.args.desk.now) (g.D.Desk.port c.read_input.new.desk) c.in_ok-bytes.bytes c.reads_within.ensures c.parse_pairs.result c.in_ok-bytes.ensures (rw c.deref.ensures.value at c.parse_pairs.ensures)
