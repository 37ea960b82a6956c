use Rattle.std.proofs.Common.{◌≡◌, take}
use Rattle.cp_logic.specs.Formulas.{clauses_of}
use Rattle.cp_book.proofs.changes.seconds_of_added.Given as goal

-- those so far
abbrev pub invariant-loop-named : goal.invariant-loop-named
invariant-loop-named l = l.seconds.items ≡ clauses_of (take l.named-index l.added)
