use Rattle.std.proofs.Common.{sym, subst}
use Rattle.cp_book.specs.Parts.{HasLedger, HasRoom}
use Rattle.cp_book.proofs.Ledger.{IsLedger-start}
use Rattle.cp_book.proofs.book.Book.new.Goals as goal

pub invariant_of-result : goal.invariant_of-result
invariant_of-result c = (
  subst HasLedger (sym c.in_ok-new.ensures.ok) (rw (c.of.ensures, c.new.ensures, c.new-2.ensures.pairs, c.new-2.ensures.vars)
      (IsLedger-start c.args.formula.formula c.args.rules c.vars-vars.result c.in_ok-empties.empties.items c.vars-vars.ensures.valid c.vars-vars.ensures.value c.in_ok-empties.ensures)),
  subst HasRoom (sym c.in_ok-new.ensures.ok) tt,
)
