use Rattle.cp_logic.proofs.Marked.{set_here, set_others}
use Rattle.cp_logic.proofs.negations.set.Goals as goal

pub returns-clause-set : goal.returns-clause-set
returns-clause-set c = set_here c.args.words.now c.args.place c.told-words c.requires

pub returns-clause-others : goal.returns-clause-others
returns-clause-others c = set_others c.args.words.now c.args.place c.told-words c.requires
