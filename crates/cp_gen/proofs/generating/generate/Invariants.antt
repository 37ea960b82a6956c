use Rattle.std.proofs.Common.{◌≡◌, ℕ, ◌+◌, ◌<◌, ◌^◌, ◌++◌}
use Rattle.cp_logic.specs.Entries.{numbered_from}
use Rattle.cp_gen.specs.Generated.{drawn_clauses}
use Rattle.cp_gen.proofs.generating.generate.Given as goal

abbrev pub invariant-clauses : goal.invariant-clauses
invariant-clauses l = record {
  state : l.state < 2 ^ 31;
  variables : l.formula.formula.variables ≡ l.vars;
  next : l.formula.formula.next ≡ l._number + 1;
  rest : (more : ℕ) × (l._number + more ≡ l.clauses)
      × (l.formula.formula.clauses ++ numbered_from (l._number + 1) (drawn_clauses l.vars more l.state) ≡ numbered_from 1 (drawn_clauses l.vars l.clauses l.seed));
}
