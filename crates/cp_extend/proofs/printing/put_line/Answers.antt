use Rattle.std.proofs.Common.{◌≤◌, ◌+◌, ◌++◌, length, take, drop, sym, ◌∙◌, ap, arith}
use Rattle.std.specs.Prelude.{codes}
use Rattle.cp_io.proofs.Printing.{Prints-then}
use Rattle.cp_extend.specs.ModelText.{value_text, values_text}
use Rattle.cp_extend.proofs.Lines.{line_left, line_left-next, line_left-none}
use Rattle.cp_io.proofs.PrintsUpTo.{Prints-step, Prints-whole}
use Rattle.cp_extend.proofs.printing.put_line.Goals as goal

pub loop-index-preserved : goal.loop-index-preserved
loop-index-preserved g c =
    let values = c.args.model.now in
    let before = c.args.before in
    let last = before + c.min.result in
    let i = c.loop-index.index in
    let high : last ≤ length values = omega (arith, c.min.ensures, c.len.ensures, c.requires.before) in
    record {
      prints = Prints-step (codes "v" ++ values_text (before + 1) (take 10 (drop before values))) (line_left values last i) (line_left values last (i + 1))
          (line_left-next values last i c.loop-index-test.true high ∙ ap (λ b. value_text (i + 1) b ++ line_left values last (i + 1)) (sym c.get.ensures))
          c.loop-index.invariant.prints c.put_value.ensures.prints;
      bound = c.put_value.ensures.bound;
    }

pub returns-clause-prints : goal.returns-clause-prints
returns-clause-prints g c =
    let values = c.args.model.now in
    let before = c.args.before in
    let last = before + c.min.result in
    let i = c.loop-index.index in
    let text = codes "v" ++ values_text (before + 1) (take 10 (drop before values)) in
    Prints-then (Prints-whole text (line_left values last i) (line_left-none values last i c.loop-index-test.false) c.loop-index.invariant.prints) c.put_byte-2.ensures.prints
