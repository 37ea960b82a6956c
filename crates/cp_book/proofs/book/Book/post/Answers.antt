use Rattle.std.proofs.Common.{sym, ◌∙◌, ap}
use Rattle.cp_logic.specs.Views.{entry_of}
use Rattle.cp_book.specs.Answers.{Posted}
use Rattle.cp_book.proofs.Choices.{answer-tested}
use Rattle.cp_book.proofs.book.Book.post.Goals as goal

pub returns-clause-answer : goal.returns-clause-answer
returns-clause-answer c =
    ap Posted c.append.ensures.position
    ∙ sym (answer-tested c.args.self.now (entry_of c.args.entry) c.in_ok-entry.ensures.open_still c.in_ok-entry.ensures.unspent c.in_ok-entry.ensures.numbers)
