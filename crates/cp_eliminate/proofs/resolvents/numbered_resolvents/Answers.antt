use Rattle.std.proofs.Common.{◌∙◌, take, sym, ap}
use Rattle.cp_logic.specs.Entries.{numbered_from}
use Rattle.cp_logic.specs.Legality.{resolvents}
use Rattle.cp_eliminate.proofs.Pairs.{take-item, numbered-more}
use Rattle.cp_eliminate.proofs.resolvents.numbered_resolvents.Goals as goal

pub loop-first-preserved : goal.loop-first-preserved
loop-first-preserved c =
    let old = c.loop-first.new.items in
    c.in_ok-add_resolvents.ensures
    ∙ numbered-more c.args.next c.args.var (take c.loop-first.first-index c.args.pos.now) c.first-item.result c.args.neg.now old c.loop-first.invariant
    ∙ ap (λ ds. numbered_from c.args.next (resolvents c.args.var ds c.args.neg.now)) (sym (take-item c.args.pos.now c.loop-first.first-index c.first-item.result c.loop-first-test.true c.first-item.is))
