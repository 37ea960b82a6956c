use Rattle.cp_eliminate.proofs.Exact.{elimination-fits, elimination-alone}
use Rattle.cp_eliminate.proofs.laws.elimination_is_alone.Goals as goal

pub returns : goal.returns
returns c = record { fits = elimination-fits; alone = elimination-alone }
