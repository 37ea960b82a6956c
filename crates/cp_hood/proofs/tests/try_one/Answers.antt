use Rattle.cp_hood.proofs.tests.try_one.Goals as goal

pub returns-clause-base : goal.returns-clause-base
returns-clause-base c = c.try_hood.ensures.tries.1.base
