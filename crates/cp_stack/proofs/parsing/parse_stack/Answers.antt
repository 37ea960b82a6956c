use Rattle.std.proofs.Common.{Result, sym, ◌∙◌, subst}
use Rattle.cp_text.specs.Ahead.{lines_of}
use Rattle.cp_stack.specs.declared.refusal.StackRefusal.{StackRefusal}
use Rattle.cp_stack.specs.Grammar.{Stack, document}
use Rattle.cp_stack.specs.Reads.{Gives}
use Rattle.cp_stack.proofs.Within.{answers-few}
use Rattle.cp_stack.proofs.TextRead.{reads-past, reads-whole}
use Rattle.cp_stack.proofs.parsing.parse_stack.Goals as goal

pub returns-then-seen-clause-answers : goal.returns-then-seen-clause-answers
returns-then-seen-clause-answers c =
    let seen = c.within-seen.result in
    let lines = lines_of seen.ahead in
    subst (λ (w : Result Stack StackRefusal). Gives w c.past_limit.result)
    (reads-past c.args.limits.now c.args.bytes.now lines (sym c.within-seen.ensures.past ∙ c.if-seen.true) c.within-seen.ensures.lines)
    (c.past_limit.ensures (document c.args.limits.now lines) c.read_document-answer.ensures)

pub returns-else-seen-clause-answers : goal.returns-else-seen-clause-answers
returns-else-seen-clause-answers c =
    let seen = c.within-seen.result in
    let lines = lines_of seen.ahead in
    subst (λ (w : Result Stack StackRefusal). Gives w c.read_document-answer.result)
    (reads-whole c.args.limits.now c.args.bytes.now lines (sym c.within-seen.ensures.past ∙ c.if-seen.false) c.within-seen.ensures.lines)
    c.read_document-answer.ensures

pub returns-then-seen-clause-few : goal.returns-then-seen-clause-few
returns-then-seen-clause-few c = answers-few c.args.limits.now c.args.bytes.now c.past_limit.result (returns-then-seen-clause-answers c)

pub returns-else-seen-clause-few : goal.returns-else-seen-clause-few
returns-else-seen-clause-few c = answers-few c.args.limits.now c.args.bytes.now c.read_document-answer.result (returns-else-seen-clause-answers c)
