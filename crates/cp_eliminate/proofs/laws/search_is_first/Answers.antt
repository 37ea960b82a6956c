use Rattle.cp_eliminate.proofs.Exact.{search-first}
use Rattle.cp_eliminate.proofs.laws.search_is_first.Goals as goal

pub returns : goal.returns
returns c = search-first
