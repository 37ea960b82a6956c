use Rattle.std.proofs.Common.{◌<◌, arith}
use Rattle.std.proofs.lemmas.Result.{err_from_is_err_and}
use Rattle.cp_dimacs.specs.Grammar.{header_variables}
use Rattle.cp_dimacs.specs.Headers.{word_of}
use Rattle.cp_dimacs.proofs.HeaderWords.{fails-word, no_variables, too_many}
use Rattle.cp_dimacs.proofs.header.read_variables.Goals as goal

pub returns-in_err-variables : goal.returns-in_err-variables
returns-in_err-variables c =
    let p = err_from_is_err_and c.from_residual-in_err-variables.result c.from_residual-in_err-variables.ensures.1 in
    let w = word_of c.in_ok-count.count in
    rw (p.1, p.2)
    (fails-word (header_variables c.args.limits.now) c.args.text w c.in_ok-count.count.behind.text.now c.in_err-variables.field-0.0 c.in_ok-count.ensures.0
    (λ words e. no_variables c.args.limits.now w words e c.in_err-variables.field-0.0 c.in_err-variables.ensures))

pub returns-then-variables-from : goal.returns-then-variables-from
returns-then-variables-from c =
    let w = word_of c.in_ok-count.count in
    let k = c.in_ok-variables.ensures in
    let past : c.args.limits.now.variables < k.0 = omega (arith, k.2, c.if-variables-from.true, c.from.ensures) in
    fails-word (header_variables c.args.limits.now) c.args.text w c.in_ok-count.count.behind.text.now _ c.in_ok-count.ensures.0 (λ words e. too_many c.args.limits.now w words e k.0 k.1 past)
