use Rattle.std.proofs.Common.{length, ◌≤◌, arith}
use Rattle.std.proofs.lemmas.Bool.Decides.{nat_tests}
use Rattle.cp_text.proofs.Cuts.{sees-all}
use Rattle.cp_text.proofs.laws.sees_all.Goals as goal

pub returns : goal.returns
returns c = λ limit input short. let within : length input ≤ limit = grind (arith, nat_tests) in sees-all limit input within
