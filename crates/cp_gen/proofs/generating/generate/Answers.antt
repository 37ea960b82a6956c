use Rattle.std.proofs.Common.{◌≡◌, ℕ, zero, suc, ◌+◌, List, [], ◌∷◌, ◌++◌, sym, ◌∙◌, ap, subst, arith}
use Rattle.std.proofs.lemmas.List.{append-nil}
use Rattle.cp_logic.specs.Formulas.{Formula, IsWithin}
use Rattle.cp_logic.specs.Entries.{numbered_from}
use Rattle.cp_logic.specs.Rules.{added}
use Rattle.cp_gen.specs.Generated.{generated, next_state, drawn_clause, drawn_clauses}
use Rattle.cp_gen.proofs.DrawnFacts.{within-drawn, drawn_clauses-none, drawn_clause-drawn, drawn_clauses-moved, third_state, same_formula}
use Rattle.cp_gen.proofs.generating.generate.Goals as goal

pub clauses-init : goal.clauses-init
clauses-init c =
    let start : c.reserve.new.self.formula ≡ record { variables = c.args.vars; next = 1; clauses = [] } = c.reserve.ensures.formula ∙ c.new-formula.ensures in record {
      state = c.requires.seed;
      variables = ap (λ (f : Formula). f.variables) start;
      next = ap (λ (f : Formula). f.next) start;
      rest = (
        c.args.clauses,
        omega arith,
        ap (λ (f : Formula). f.clauses ++ numbered_from 1 (drawn_clauses c.args.vars c.args.clauses c.args.seed)) start,
      );
    }

pub push-requires-clause-within : goal.push-requires-clause-within
push-requires-clause-within c =
    subst (λ (n : ℕ). IsWithin n c.in_ok-from_lits.field-0) (sym c.clauses.invariant.variables)
    (subst (λ (k : List ℕ). IsWithin c.args.vars k) (sym drawn) (within-drawn c.args.vars (next_state c.clauses.state) (next_state (next_state c.clauses.state)) (next_state (next_state (next_state c.clauses.state))) c.requires.vars.0))
  where
    drawn : c.in_ok-from_lits.field-0 ≡ drawn_clause c.args.vars c.clauses.state
    drawn = c.in_ok-from_lits.ensures
        ∙ drawn_clause-drawn c.args.vars c.clauses.state c.next_state-first.result c.next_state-second.result c.next_state-third.result c.drawn_literal.result c.drawn_literal-in-clauses.result c.drawn_literal-in-clauses-2.result
        c.next_state-first.ensures.next c.next_state-second.ensures.next c.next_state-third.ensures.next c.drawn_literal.ensures c.drawn_literal-in-clauses.ensures c.drawn_literal-in-clauses-2.ensures

pub clauses-preserved : goal.clauses-preserved
clauses-preserved c = record {
  state = c.next_state-third.ensures.below;
  variables = ap (λ (f : Formula). f.variables) pushed ∙ c.clauses.invariant.variables;
  next = ap (λ (f : Formula). f.next) pushed ∙ ap (λ n. n + 1) c.clauses.invariant.next;
  rest = next c.clauses.invariant.rest.0 c.clauses.invariant.rest.1 c.clauses.invariant.rest.2;
}
  where
    drawn : c.in_ok-from_lits.field-0 ≡ drawn_clause c.args.vars c.clauses.state
    drawn = c.in_ok-from_lits.ensures
        ∙ drawn_clause-drawn c.args.vars c.clauses.state c.next_state-first.result c.next_state-second.result c.next_state-third.result c.drawn_literal.result c.drawn_literal-in-clauses.result c.drawn_literal-in-clauses-2.result
        c.next_state-first.ensures.next c.next_state-second.ensures.next c.next_state-third.ensures.next c.drawn_literal.ensures c.drawn_literal-in-clauses.ensures c.drawn_literal-in-clauses-2.ensures

    pushed : c.push.new.self.formula ≡ added c.clauses.formula.formula (record { number = c.clauses.formula.formula.next; clause = c.in_ok-from_lits.field-0 })
    pushed = c.in_ok-push.ensures.ok

    new : c.push.new.self.formula.clauses ≡ c.clauses.formula.formula.clauses ++ record { number = c.clauses._number + 1; clause = c.in_ok-from_lits.field-0 } ∷ []
    new = ap (λ (f : Formula). f.clauses) pushed
        ∙ ap (λ (n : ℕ). c.clauses.formula.formula.clauses ++ record { number = n; clause = c.in_ok-from_lits.field-0 } ∷ []) c.clauses.invariant.next

    next : (more : ℕ) → c.clauses._number + more ≡ c.args.clauses
        → c.clauses.formula.formula.clauses ++ numbered_from (c.clauses._number + 1) (drawn_clauses c.args.vars more c.clauses.state) ≡ numbered_from 1 (drawn_clauses c.args.vars c.args.clauses c.args.seed)
        → (less : ℕ) × (c.clauses._number + 1 + less ≡ c.args.clauses)
        × (c.push.new.self.formula.clauses ++ numbered_from (c.clauses._number + 1 + 1) (drawn_clauses c.args.vars less c.next_state-third.result) ≡ numbered_from 1 (drawn_clauses c.args.vars c.args.clauses c.args.seed))
    next zero count is = absurd (omega arith)
    next (suc more) count is = (
      more,
      omega arith,
      drawn_clauses-moved c.args.vars more c.clauses.state c.next_state-third.result (c.clauses._number + 1) c.clauses.formula.formula.clauses c.push.new.self.formula.clauses
          (numbered_from 1 (drawn_clauses c.args.vars c.args.clauses c.args.seed)) c.in_ok-from_lits.field-0 is new drawn
          (third_state c.clauses.state c.next_state-first.result c.next_state-second.result c.next_state-third.result c.next_state-first.ensures.next c.next_state-second.ensures.next c.next_state-third.ensures.next),
    )

pub returns : goal.returns
returns c = whole c.clauses.formula.formula c.clauses.invariant.variables c.clauses.invariant.next clauses count
  where
    count : c.clauses._number ≡ c.args.clauses
    count = omega arith

    none : c.clauses.invariant.rest.0 ≡ 0
    none = let sum : c.clauses._number + c.clauses.invariant.rest.0 ≡ c.args.clauses = c.clauses.invariant.rest.1 in omega arith

    clauses : c.clauses.formula.formula.clauses ≡ numbered_from 1 (drawn_clauses c.args.vars c.args.clauses c.args.seed)
    clauses = sym (append-nil c.clauses.formula.formula.clauses)
        ∙ ap (λ cs. c.clauses.formula.formula.clauses ++ cs) (sym (drawn_clauses-none c.args.vars c.clauses.state (c.clauses._number + 1)))
        ∙ ap (λ (n : ℕ). c.clauses.formula.formula.clauses ++ numbered_from (c.clauses._number + 1) (drawn_clauses c.args.vars n c.clauses.state)) (sym none)
        ∙ c.clauses.invariant.rest.2

    whole : (f : Formula) → f.variables ≡ c.args.vars → f.next ≡ c.clauses._number + 1 → f.clauses ≡ numbered_from 1 (drawn_clauses c.args.vars c.args.clauses c.args.seed)
        → c.clauses._number ≡ c.args.clauses → f ≡ generated c.args.seed c.args.vars c.args.clauses
    whole f v n cs k = same_formula f (generated c.args.seed c.args.vars c.args.clauses) v (n ∙ ap (λ m. m + 1) k) cs
