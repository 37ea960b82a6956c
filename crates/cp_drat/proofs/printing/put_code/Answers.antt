use Rattle.std.proofs.Common.{ℕ, zero, suc, ◌/◌, ◌<◌, sym, subst, arith}
use Rattle.cp_io.specs.declared.role.Role.TheVariants.{Proof}
use Rattle.cp_drat.specs.Text.{groups, code_bytes}
use Rattle.cp_drat.proofs.Groups.{groups-last, groups-next, limit, limit-zero, limit-more, code-below}
use Rattle.cp_io.proofs.PrintsUpTo.{PrintsUpTo, Prints-start, Prints-step, Prints-last}
use Rattle.cp_drat.proofs.printing.put_code.Goals as goal

pub groups-init : goal.groups-init
groups-init g c =
    let whole = subst (λ (n : ℕ). PrintsUpTo Proof (code_bytes c.args.lit) (groups 3 n) c.args.buffer.now (g.D.Desk.port c.args.desk.now) c.args.buffer.now (g.D.Desk.port c.args.desk.now)) (sym c.code-rest.ensures.value) (Prints-start Proof (code_bytes c.args.lit) c.args.buffer.now (g.D.Desk.port c.args.desk.now)) in
    record { prints = (3, code-below c.code-rest.result c.code-rest.ensures.high, whole); bound = c.requires }

pub groups-preserved : goal.groups-preserved
groups-preserved g c = record { prints = next c.groups.invariant.prints.0 c.groups.invariant.prints.1 c.groups.invariant.prints.2; bound = c.put_byte.ensures.bound }
  where
    next : (more : ℕ) → c.groups.rest < limit more
        → PrintsUpTo Proof (code_bytes c.args.lit) (groups more c.groups.rest) c.args.buffer.now (g.D.Desk.port c.args.desk.now) c.groups.buffer (g.D.Desk.port c.groups.desk)
        → (less : ℕ) × (c.groups.rest / 128 < limit less)
        × PrintsUpTo Proof (code_bytes c.args.lit) (groups less (c.groups.rest / 128)) c.args.buffer.now (g.D.Desk.port c.args.desk.now) c.put_byte.new.self (g.D.Desk.port c.put_byte.new.desk)
    next zero few so_far = absurd (omega (arith, limit-zero))
    next (suc more) few so_far = (
      more,
      limit-more more c.groups.rest few,
      Prints-step (code_bytes c.args.lit) (groups (suc more) c.groups.rest) (groups more (c.groups.rest / 128)) (groups-next more c.groups.rest c.groups-test.true) so_far c.put_byte.ensures.prints,
    )

pub returns-clause-prints : goal.returns-clause-prints
returns-clause-prints g c =
    let left = c.groups.invariant.prints in
    Prints-last (code_bytes c.args.lit) (groups left.0 c.groups.rest) (groups-last left.0 c.groups.rest c.groups-test.false) left.2 c.put_byte-2.ensures.prints
