use Rattle.std.proofs.Common.{[], sym, ◌∙◌}
use Rattle.cp_io.specs.declared.role.Role.TheVariants.{Cnf}
use Rattle.cp_io.specs.declared.role.Way.TheVariants.{In}
use Rattle.cp_roles.proofs.BoundInTurn.{next-failed, next-bound, next-apart}
use Rattle.cp_roles.proofs.binding.bind_all.Goals as goal

pub returns-then-is_err : goal.returns-then-is_err
returns-then-is_err g c =
    let i = c.loop-bind.invariant in
    next-failed c.args.binds.now c.loop-bind.bind-index _ c.loop-bind-test.true i.apart (g.D.Desk.port c.args.desk.now) (g.D.Desk.port c.loop-bind.desk) (g.D.Desk.port c.bind.new.self)
    c.bind.result i.bound (sym c.is_err.ensures.value ∙ c.if-is_err.true) c.bind.ensures

pub loop-bind-preserved : goal.loop-bind-preserved
loop-bind-preserved g c =
    let i = c.loop-bind.invariant in record {
      bound = next-bound c.args.binds.now c.loop-bind.bind-index _ c.loop-bind-test.true i.apart (g.D.Desk.port c.args.desk.now) (g.D.Desk.port c.loop-bind.desk) (g.D.Desk.port c.bind.new.self)
          c.bind.result i.bound (sym c.is_err.ensures.value ∙ c.if-is_err.false) c.bind.ensures;
      apart = next-apart c.args.binds.now c.loop-bind.bind-index (record { role = Cnf; way = In; name = record { ref_ptr = (0, 0); now = [] } }) c.loop-bind-test.true i.apart;
    }
