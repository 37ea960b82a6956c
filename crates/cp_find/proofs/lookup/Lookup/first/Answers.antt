use Rattle.std.proofs.Common.{subst, sym}
use Rattle.std.specs.Option.{option_map}
use Rattle.cp_find.specs.Lookups.{Covers}
use Rattle.cp_find.proofs.Lookups.{best-first}
use Rattle.cp_find.proofs.lookup.Lookup.first.Goals as goal

pub returns-in-Some : goal.returns-in-Some
returns-in-Some c =
    let cs = c.args.cell.now.clauses in
    best-first c.args.wanted.now.sought cs c.args.from c.in-Some.candidates.now (option_map (λ o. o.now) c.best_of.result) c.var.ensures.valid.rising
    (λ d i t. c.in-Some.ensures cs d (subst (λ x. Covers x cs c.args.self.now) (sym c.requires.variable) c.requires.covers) i t) c.best_of.ensures
