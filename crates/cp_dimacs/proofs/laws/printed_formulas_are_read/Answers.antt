use Rattle.cp_dimacs.proofs.PrintedReads.{cnf-read}
use Rattle.cp_dimacs.proofs.laws.printed_formulas_are_read.Goals as goal

pub returns : goal.returns
returns c = cnf-read
