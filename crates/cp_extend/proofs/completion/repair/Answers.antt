use Rattle.cp_logic.proofs.Expansions.{variable_within}
use Rattle.cp_logic.proofs.Members.{contains-in}
use Rattle.std.proofs.Common.{length}
use Rattle.cp_extend.proofs.completion.repair.Goals as goal

pub set-requires : goal.set-requires
set-requires c =
    let p = c.args.pair.now in
    (variable_within (length c.args.model.now) p.clause p.lit c.requires (contains-in p.clause p.lit p.has_literal)).1
