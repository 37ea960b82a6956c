use Rattle.cp_stack.proofs.JournalPairs.{journal-pairs, journal_stack-read}
use Rattle.cp_stack.proofs.laws.stacks_of_journals_are_read.Goals as goal

pub returns-clause-pairs : goal.returns-clause-pairs
returns-clause-pairs c = journal-pairs

pub returns-clause-read : goal.returns-clause-read
returns-clause-read c = journal_stack-read
