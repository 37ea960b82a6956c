use Rattle.std.proofs.Common.{length, sym, ◌∙◌}
use Rattle.std.proofs.lemmas.Bool.{false≢true}
use Rattle.cp_logic.specs.Views.{entry_of}
use Rattle.cp_book.specs.Answers.{answer_to}
use Rattle.cp_book.proofs.Choices.{posted-ok}
use Rattle.cp_sweep.proofs.turns.append.Goals as goal

pub unreachable-requires : goal.unreachable-requires
unreachable-requires c =
    false≢true (sym (posted-ok c.post.result (answer_to c.args.book.now (entry_of c.args.entry)) (length c.args.book.now.posts) c.post.ensures.answer c.requires.taken)
    ∙ sym c.is_err.ensures.value ∙ c.if-is_err.true)
