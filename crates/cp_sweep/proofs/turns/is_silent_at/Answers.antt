use Rattle.std.proofs.Common.{sym, ◌∙◌, ap}
use Rattle.std.specs.Option.{option_copied}
use Rattle.cp_sweep.proofs.turns.is_silent_at.Goals as goal

pub returns-in-Some : goal.returns-in-Some
returns-in-Some c = λ t. (c.in-Some.cell.now, sym c.get.ensures ∙ ap option_copied c.in-Some.is, c.is_silent.ensures t)
