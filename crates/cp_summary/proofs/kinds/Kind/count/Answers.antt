use Rattle.std.proofs.Common.{◌∙◌, ap}
use Rattle.cp_summary.specs.Text.{count_of}
use Rattle.cp_summary.proofs.kinds.Kind.count.Goals as goal

pub returns : goal.returns
returns c = c.count_in.ensures ∙ ap (count_of c.args.self) c.as_slice.ensures
