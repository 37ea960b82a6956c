use Rattle.std.proofs.Common.{◌≡◌, ◌≤◌, ◌+◌, ◌∙◌, ℕ, List, [], ◌∷◌, suc, zero, length, drop, nat_eq, sym, ap, refl, arith}
use Rattle.std.proofs.lemmas.Grind.{common_steps}
use Rattle.cp_logic.specs.Clauses.{is_subset}
use Rattle.cp_logic.proofs.Merges.{drop-past, subset-longer, subset-stop, subset-both, subset-on}
use Rattle.cp_logic.proofs.passes.passes_over.Goals as goal
use Rattle.cp_logic.proofs.passes.passes_over.Goals.{then-code-2, else-code-2}

pub returns-then-lits-others : goal.returns-then-lits-others
returns-then-lits-others c = sym (subset-longer c.args.lits.now c.args.others.now c.requires.ascending c.requires.others_ascending c.if-lits-others.true)

pub returns-then-code : goal.returns-then-code
returns-then-code c =
    let within : c.loop-other.found ≤ length c.args.lits.now = c.loop-other.invariant.within in
    subset-stop c.args.lits.now c.args.others.now c.loop-other.found c.loop-other.other-index c.index-lits-found.result c.other-item.result
    c.requires.ascending c.requires.others_ascending
    (omega (arith, c.if-found-lits.false)) c.index-lits-found.is c.loop-other-test.true c.other-item.is c.loop-other.invariant.left
    (omega (arith, c.if-code.true, c.code.ensures.value, c.code-code.ensures.value))

pub loop-other-preserved : goal.loop-other-preserved
loop-other-preserved c =
    let within : c.loop-other.found ≤ length c.args.lits.now = c.loop-other.invariant.within in
    elim c.if-code-2.branch [
      | then-code-2 w ↦ record {
        within = omega (arith, w.found-is, c.if-found-lits.false);
        left = ap (λ k. is_subset (drop k c.args.lits.now) (drop (c.loop-other.other-index + 1) c.args.others.now)) w.found-is
            ∙ subset-both c.args.lits.now c.args.others.now c.loop-other.found c.loop-other.other-index c.index-lits-found.result c.other-item.result
            c.requires.ascending c.requires.others_ascending
            (omega (arith, c.if-found-lits.false)) c.index-lits-found.is c.loop-other-test.true c.other-item.is c.loop-other.invariant.left
            (sym c.code-code.ensures.value ∙ w.if-code-2.true ∙ c.code-in-loop-other.ensures.value);
      }
      | else-code-2 w ↦
          let other : c.code-code.result ≡ c.code-in-loop-other.result → ⊥ = w.if-code-2.false in
          record {
            within = omega (arith, w.found-is);
            left = ap (λ k. is_subset (drop k c.args.lits.now) (drop (c.loop-other.other-index + 1) c.args.others.now)) w.found-is
                ∙ subset-on c.args.lits.now c.args.others.now c.loop-other.found c.loop-other.other-index c.index-lits-found.result c.other-item.result
                c.requires.ascending c.requires.others_ascending
                (omega (arith, c.if-found-lits.false)) c.index-lits-found.is c.loop-other-test.true c.other-item.is c.loop-other.invariant.left
                (omega (arith, other, c.if-code.false, c.code.ensures.value, c.code-in-loop-other.ensures.value, c.code-code.ensures.value));
          }
    ]

-- nothing is left to look through
subset-none : (ls : List ℕ) (k : ℕ) → k ≤ length ls → nat_eq k (length ls) ≡ is_subset (drop k ls) []
subset-none [] zero h = refl
subset-none (l ∷ ls) zero h = grind arith
subset-none [] (suc k) h = absurd (omega arith)
subset-none (l ∷ ls) (suc k) h = let i : k ≤ length ls = omega arith in grind (arith, common_steps, subset-none ls k i)

pub returns : goal.returns
returns c =
    subset-none c.args.lits.now c.loop-other.found c.loop-other.invariant.within
    ∙ ap (is_subset (drop c.loop-other.found c.args.lits.now)) (sym (drop-past c.args.others.now c.loop-other.other-index (omega arith)))
    ∙ c.loop-other.invariant.left
