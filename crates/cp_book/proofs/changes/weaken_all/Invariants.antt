use Rattle.std.proofs.Common.{◌≡◌, ◌+◌, drop, map}
use Rattle.std.specs.Prelude.{if◌then◌else◌}
use Rattle.cp_logic.specs.Literals.{positive, negative}
use Rattle.cp_logic.specs.Rules.{Weaken, state_after, IsRun}
use Rattle.cp_book.specs.Changes.{state_of}
use Rattle.cp_book.proofs.changes.weaken_all.Given as goal

-- the clauses that are left are weakened from here on
abbrev pub invariant-loop-named : goal.invariant-loop-named
invariant-loop-named l = record {
  variables : l.stack.vars ≡ l.formula.formula.variables;
  same : l.stack.vars ≡ l.initial.stack.vars;
  run : IsRun (state_of l.formula.formula l.stack.pairs) (map (λ c. Weaken c (if l.sign then positive l.var else negative l.var)) (drop l.named-index l.named-items));
  state : state_after (state_of l.formula.formula l.stack.pairs) (map (λ c. Weaken c (if l.sign then positive l.var else negative l.var)) (drop l.named-index l.named-items))
      ≡ state_after (state_of l.initial.formula.formula l.initial.stack.pairs) (map (λ c. Weaken c (if l.sign then positive l.var else negative l.var)) l.gone.items);
  room : l.stack.pairs.spare + l.named-index ≡ l.initial.stack.pairs.spare;
}
