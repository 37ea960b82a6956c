use Rattle.cp_logic.proofs.JournalRuns.{journal-formula}
use Rattle.cp_logic.proofs.laws.journals_keep_formulas.Goals as goal

pub returns : goal.returns
returns c = journal-formula
