use Rattle.cp_dimacs.proofs.Readings.{finishes}
use Rattle.cp_dimacs.proofs.reader.CnfReader.finish.Goals as goal

pub returns-clause-fed : goal.returns-clause-fed
returns-clause-fed c = finishes c.self.inside.limits c.self.inside.collected.bytes c.bytes.result.now c.self.inside.refused c.args.self c.parse_cnf.result c.self.view_is c.bytes.ensures.bytes c.parse_cnf.ensures.answer
