use Rattle.std.proofs.Common.{◌≡◌, ◌+◌, ◌*◌, ◌≤◌, length}
use Rattle.cp_summary.specs.Text.{literals_in}
use Rattle.cp_summary.proofs.sizes.Sizes.of.Given as goal

abbrev pub invariant-loop-number : goal.invariant-loop-number
invariant-loop-number l = record {
  few : l.literals + 18446744073709551615 * length l._number-iterator ≤ 18446744073709551615 * length l.formula.formula.clauses;
  whole : l.literals + literals_in l._number-iterator ≡ literals_in l.formula.formula.clauses;
}
