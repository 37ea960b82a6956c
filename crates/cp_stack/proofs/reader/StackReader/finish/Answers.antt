use Rattle.std.proofs.Common.{subst}
use Rattle.cp_io.specs.Feeding.{ReaderState}
use Rattle.cp_stack.specs.Reader.{Finishes}
use Rattle.cp_stack.proofs.TextRead.{finishes}
use Rattle.cp_stack.proofs.reader.StackReader.finish.Goals as goal

pub returns-clause-fed : goal.returns-clause-fed
returns-clause-fed c =
    let reader = c.self.inside in
    let state : ReaderState = record { limits = reader.limits; bytes = reader.collected.bytes; refused = reader.refused } in
    let answer = rw c.bytes.ensures.bytes at c.parse_stack.ensures.answers in
    subst (λ (r : ReaderState). Finishes r c.parse_stack.result) c.self.view_is (finishes state c.parse_stack.result answer)
