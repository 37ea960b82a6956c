use Rattle.std.proofs.Common.{Ok, Err}
use Rattle.std.proofs.lemmas.Result.{err_from_is_err_and}
use Rattle.cp_extend.proofs.Lengths.{finishes}
use Rattle.cp_extend.proofs.reader.ModelReader.finish.Goals as goal

pub returns-in_err-read_into-clause-fed : goal.returns-in_err-read_into-clause-fed
returns-in_err-read_into-clause-fed c =
    let p = err_from_is_err_and c.from_residual.result c.from_residual.ensures.1 in
    let r = c.self.inside in
    rw (p.1, p.2) (finishes r.limits r.collected.bytes r.refused r.model c.args.self c.bytes.result.now (Err c.in_err-read_into.field-0.0) c.self.view_is c.bytes.ensures.bytes c.in_err-read_into.ensures)

pub returns-clause-fed : goal.returns-clause-fed
returns-clause-fed c =
    let r = c.self.inside in
    finishes r.limits r.collected.bytes r.refused r.model c.args.self c.bytes.result.now (Ok c.read_into.new.model) c.self.view_is c.bytes.ensures.bytes c.in_ok-read_into.ensures
