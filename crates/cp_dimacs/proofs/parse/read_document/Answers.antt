use Rattle.std.proofs.Common.{refl}
use Rattle.cp_dimacs.specs.declared.clauses.Reading.{Reading}
use Rattle.cp_dimacs.proofs.Readings.{document-found}
use Rattle.cp_dimacs.proofs.parse.read_document.Goals as goal

pub returns : goal.returns
returns c =
    let h = c.in_ok-header.header in
    let found = c.in_ok-header.ensures in
    let line = rw c.in-Some.is at found.is in
    let within = rw c.in-Some.is at found.within in
    let r : Reading = record { formula = c.new.result; open_clause = c.new-2.result; literals = 0 } in
    document-found c.args.limits.now c.args.text h.variables h.stop.at c.in-Some.rest.now r _ line within.1 c.new.ensures c.new-2.ensures.items refl c.in_ok-ended.ensures
