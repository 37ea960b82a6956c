use Rattle.std.proofs.Common.{◌∙◌}
use Rattle.cp_logic.proofs.Searched.{found-contains}
use Rattle.cp_logic.proofs.searches.is_found.Goals as goal

pub returns : goal.returns
returns c = c.is_ok.ensures.value ∙ found-contains c.args.others.now c.args.lit c.binary_search.result c.requires c.binary_search.ensures.bound c.binary_search.ensures.position
