use Rattle.cp_roles.proofs.InputsRead.{formula-read}
use Rattle.cp_roles.proofs.input.read_formula.Goals as goal

pub returns : goal.returns
returns g c = formula-read (g.D.Desk.port c.args.desk.now) (g.D.Desk.port c.read_input.new.desk) c.in_ok-bytes.bytes c.reads_within.ensures c.parse_formula.result c.in_ok-bytes.ensures (rw c.deref.ensures.value at c.parse_formula.ensures)
