use Rattle.cp_eliminate.proofs.tests.searches.Goals as goal

pub search-requires-clause-past : goal.search-requires-clause-past
search-requires-clause-past g c = c.start-reached.ensures _ _
