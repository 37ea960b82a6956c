use Rattle.std.proofs.Common.{◌∙◌}
use Rattle.cp_occ.proofs.Sided.{searched-has}
use Rattle.cp_occ.proofs.occurrence.has.Goals as goal

pub returns : goal.returns
returns c = c.is_ok.ensures.value ∙ searched-has c.args.lits.now c.args.lit c.binary_search.result c.requires c.binary_search.ensures.bound c.binary_search.ensures.position
