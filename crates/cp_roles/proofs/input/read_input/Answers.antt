use Rattle.cp_roles.proofs.InputsRead.{front}
use Rattle.cp_roles.proofs.input.read_input.Goals as goal

pub returns-in-Ok : goal.returns-in-Ok
returns-in-Ok g c =
    let m = c.in-Ok.ensures in
    record {
      here = record {
        answer = front 1073741825 c.in-Ok.bytes.items (g.D.Desk.port c.args.desk.now c.args.role).left (g.D.Desk.port c.read_up_to.new.desk c.args.role).left m.here.answer.left m.here.answer.bound m.here.answer.end;
        only = record { rest = m.here.rest };
        steady = m.here.answer.steady;
      };
      others = m.others;
    }
