use Rattle.std.proofs.Common.{sym, subst}
use Rattle.cp_yard.specs.Views.{SeatView}
use Rattle.cp_yard.specs.Rows.{Fits}
use Rattle.cp_yard.proofs.Rows.{Fits-last, Fits-front}
use Rattle.cp_yard.proofs.tests.unlock_last.Goals as goal

pub unlock-requires-clause-cell : goal.unlock-requires-clause-cell
unlock-requires-clause-cell c = (Fits-last _ _ _ _ _ c.requires.cells.0 c.requires.cells.1 c.in-Some.ensures.items).0

pub unlock-requires-clause-held : goal.unlock-requires-clause-held
unlock-requires-clause-held c = (Fits-last _ _ _ _ _ c.requires.cells.0 c.requires.cells.1 c.in-Some.ensures.items).1

pub returns-clause-cells : goal.returns-clause-cells
returns-clause-cells c = λ _. let t = Fits-front _ _ _ _ _ c.requires.cells.0 c.requires.cells.1 c.in-Some.ensures.items in
    (t.0, subst (λ (v : SeatView). Fits c.pop.new.self.items v.held) (sym c.unlock.ensures.unlocked) t.1)
