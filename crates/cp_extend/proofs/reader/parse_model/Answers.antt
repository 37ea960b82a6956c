use Rattle.std.proofs.Common.{false, length, ap, ◌∙◌}
use Rattle.std.proofs.lemmas.List.{length-replicate}
use Rattle.cp_extend.proofs.Lengths.{reads-length}
use Rattle.cp_extend.proofs.reader.parse_model.Goals as goal

pub returns-clause-len : goal.returns-clause-len
returns-clause-len c =
    reads-length c.args.limits.now (length c.in_ok-model.model) c.args.bytes.now c.read_into.new.model c.in_ok-read_into.ensures ∙ ap length c.in_ok-model.ensures ∙ length-replicate c.args.vars false
