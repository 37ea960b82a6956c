use Rattle.std.proofs.Common.{sym, ◌∙◌, ap}
use Rattle.cp_logic.specs.Formulas.{Formula}
use Rattle.cp_logic.specs.Rules.{state_after}
use Rattle.cp_logic.specs.Entries.{expand}
use Rattle.cp_logic.specs.Views.{entry_of}
use Rattle.cp_book.specs.Changes.{state_of}
use Rattle.cp_book.proofs.RuleRuns.{with_all-variables, eliminate-within, eliminate-first, eliminate-second, eliminate-variables, eliminate-after}
use Rattle.cp_book.proofs.changes.apply.Goals as goal

pub push_all-requires-in-Eliminate-clause-within : goal.push_all-requires-in-Eliminate-clause-within
push_all-requires-in-Eliminate-clause-within c =
    eliminate-within (state_of c.args.formula.now.formula c.args.stack.now.pairs) c.in-Eliminate.var c.in-Eliminate.pos.items c.in-Eliminate.neg.items c.in-Eliminate.new.items c.args.seconds.items
    (rw c.in-Eliminate.is at c.requires.run) (rw c.in-Eliminate.is at c.requires.seconds)

pub weaken_all-requires-clause-variables : goal.weaken_all-requires-clause-variables
weaken_all-requires-clause-variables c =
    c.requires.variables ∙ sym (ap (λ (f : Formula). f.variables) c.push_all-in-Eliminate.ensures ∙ with_all-variables c.args.formula.now.formula c.args.seconds.items)

pub weaken_all-requires-clause-run : goal.weaken_all-requires-clause-run
weaken_all-requires-clause-run c =
    eliminate-first (state_of c.args.formula.now.formula c.args.stack.now.pairs) c.in-Eliminate.var c.in-Eliminate.pos.items c.in-Eliminate.neg.items c.in-Eliminate.new.items c.args.seconds.items
    (rw c.in-Eliminate.is at c.requires.run) (rw c.in-Eliminate.is at c.requires.seconds) c.push_all-in-Eliminate.new.formula.formula c.push_all-in-Eliminate.ensures

pub weaken_all-requires-in-Eliminate-clause-variables : goal.weaken_all-requires-in-Eliminate-clause-variables
weaken_all-requires-in-Eliminate-clause-variables c =
    c.weaken_all.ensures.variables ∙ c.requires.variables
    ∙ sym (eliminate-variables (state_of c.args.formula.now.formula c.args.stack.now.pairs) c.in-Eliminate.var c.in-Eliminate.pos.items c.in-Eliminate.neg.items c.in-Eliminate.new.items c.args.seconds.items
    (rw c.in-Eliminate.is at c.requires.run) (rw c.in-Eliminate.is at c.requires.seconds) c.push_all-in-Eliminate.new.formula.formula c.push_all-in-Eliminate.ensures
    (state_of c.weaken_all.new.formula.formula c.weaken_all.new.stack.pairs) c.weaken_all.ensures.state)

pub weaken_all-requires-in-Eliminate-clause-run : goal.weaken_all-requires-in-Eliminate-clause-run
weaken_all-requires-in-Eliminate-clause-run c =
    eliminate-second (state_of c.args.formula.now.formula c.args.stack.now.pairs) c.in-Eliminate.var c.in-Eliminate.pos.items c.in-Eliminate.neg.items c.in-Eliminate.new.items c.args.seconds.items
    (rw c.in-Eliminate.is at c.requires.run) (rw c.in-Eliminate.is at c.requires.seconds) c.push_all-in-Eliminate.new.formula.formula c.push_all-in-Eliminate.ensures
    (state_of c.weaken_all.new.formula.formula c.weaken_all.new.stack.pairs) c.weaken_all.ensures.state

pub returns-in-Eliminate-clause-state : goal.returns-in-Eliminate-clause-state
returns-in-Eliminate-clause-state c =
    c.weaken_all-in-Eliminate.ensures.state
    ∙ eliminate-after (state_of c.args.formula.now.formula c.args.stack.now.pairs) c.in-Eliminate.var c.in-Eliminate.pos.items c.in-Eliminate.neg.items c.in-Eliminate.new.items c.args.seconds.items
    (rw c.in-Eliminate.is at c.requires.run) (rw c.in-Eliminate.is at c.requires.seconds) c.push_all-in-Eliminate.new.formula.formula c.push_all-in-Eliminate.ensures
    (state_of c.weaken_all.new.formula.formula c.weaken_all.new.stack.pairs) c.weaken_all.ensures.state
    ∙ sym (ap (λ e. state_after (state_of c.args.formula.now.formula c.args.stack.now.pairs) (expand (entry_of e))) c.in-Eliminate.is)
