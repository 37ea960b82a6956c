use Rattle.cp_roles.proofs.InputsRead.{model-read}
use Rattle.cp_roles.proofs.input.read_model.Goals as goal

pub returns : goal.returns
returns g c = model-read (g.D.Desk.port c.args.desk.now) (g.D.Desk.port c.read_input.new.desk) c.in_ok-bytes.bytes c.reads_within.ensures c.args.vars c.parse_values.result c.in_ok-bytes.ensures (rw c.deref.ensures.value at c.parse_values.ensures)
