use Rattle.cp_logic.proofs.JournalRuns.{IsLegalJournal-take, post-may_follow}
use Rattle.cp_logic.proofs.laws.journals_grow.Goals as goal

pub returns-clause-first : goal.returns-clause-first
returns-clause-first c = IsLegalJournal-take

pub returns-clause-next : goal.returns-clause-next
returns-clause-next c = post-may_follow
