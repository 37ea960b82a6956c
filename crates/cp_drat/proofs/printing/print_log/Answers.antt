use Rattle.std.proofs.Common.{List, subst}
use Rattle.cp_io.specs.declared.role.Role.TheVariants.{Proof}
use Rattle.cp_io.specs.Prints.{Prints, nothing_pending}
use Rattle.cp_io.proofs.Printing.{Prints-finish}
use Rattle.cp_logic.specs.Journals.{Post}
use Rattle.cp_drat.specs.Log.{log_of}
use Rattle.cp_drat.specs.Text.{log_text}
use Rattle.cp_drat.proofs.printing.print_log.Goals as goal

pub returns : goal.returns
returns g c =
    let prints = rw c.new-buffer.ensures at c.put_posts.ensures.prints in
    Prints-finish (subst (λ (ps : List Post). Prints Proof (log_text c.args.form (log_of ps)) nothing_pending (g.D.Desk.port c.args.desk.now) c.put_posts.new.buffer (g.D.Desk.port c.put_posts.new.desk)) c.as_slice.ensures prints) c.finish.ensures
