-- A ledger with one post more.
use Rattle.std.proofs.Common.{◌≡◌, ℕ, ◌+◌, ◌<◌, ◌≤◌, true, false, not, List, [], ◌∷◌, ◌++◌, length, None, cond, refl, sym, ◌∙◌, ap, subst, inl, inr, arith}
use Rattle.std.specs.Prelude.{◌⊎◌, ◌==◌}
use Rattle.std.proofs.lemmas.Bool.{cases_eq, ltb-false, false≢true, eq-eqb, ne_eqb, not_from_false, and_from}
use Rattle.std.proofs.lemmas.List.Sums.{sum_by_push}
use Rattle.std.proofs.lemmas.Option.{none-some}
use Rattle.std.proofs.Math.Seq.{take-length}
use Rattle.cp_logic.specs.declared.settings.Rules.{Rules}
use Rattle.cp_logic.specs.Assignments.{Pair}
use Rattle.cp_logic.specs.Formulas.{Formula, IsFormula, numbers_of}
use Rattle.cp_logic.specs.Rules.{State, state_after, IsRun}
use Rattle.cp_logic.specs.Entries.{Entry, expand, new_clauses, gone_clauses, numbered, is_look}
use Rattle.cp_logic.specs.Legality.{is_legal_in}
use Rattle.cp_logic.specs.Journals.{Post, MayFollow, IsLegalJournal, folded, expansion, start_of, commits, number_limit}
use Rattle.cp_logic.specs.Sweeps.{is_spent}
use Rattle.cp_logic.proofs.JournalRuns.{folded-push, valid_to, IsLegalJournal-push}
use Rattle.cp_logic.proofs.Changes.{clauses-expand_in}
use Rattle.cp_logic.proofs.Runs.{variables-state_after}
use Rattle.cp_book.specs.Empties.{least_empty, empty_numbers}
use Rattle.cp_book.specs.Kept.{IsLedger}
use Rattle.cp_book.specs.Views.{BookView, current}
use Rattle.cp_book.specs.Answers.{passes_numbers}
use Rattle.cp_book.proofs.EmptyFacts.{no_empty-least, empty_numbers-none, empty_numbers-changed}
use Rattle.cp_book.proofs.Commits.{after-next, count-numbered, numbered-again, look-numbered, legal-open, numbered-run}

-- what a legal journal leads to is a formula
pub IsFormula-folded : (first : Formula) (rules : Rules) (posts : List Post) → IsFormula first → IsLegalJournal first rules posts → IsFormula (folded first posts).formula
IsFormula-folded first rules posts v legal =
    subst (λ ps. IsFormula (folded first ps).formula) (take-length posts) (valid_to first rules posts v legal (length posts) (omega arith))

-- it is over the same variables
variables-folded : (first : Formula) (posts : List Post) → (folded first posts).formula.variables ≡ first.variables
unfolding folded
variables-folded first posts = variables-state_after (start_of first) (expansion posts)

-- one commit more
pub commits-push : (posts : List Post) (p : Post) → is_look p.entry ≡ false → commits (posts ++ p ∷ []) ≡ commits posts + 1
commits-push posts p h =
    sum_by_push (λ (q : Post). cond (not (is_look q.entry)) 1 0) posts p
    ∙ ap (λ b. commits posts + cond (not b) 1 0) h

-- a budget that is not spent is not reached
pub below_budget : (rules : Rules) (count : ℕ) → is_spent rules count ≡ false → (rules.budget ≡ 0) ⊎ (count ≤ rules.budget) → (rules.budget ≡ 0) ⊎ (count < rules.budget)
below_budget rules count h k = elim (cases_eq rules.budget 0) [
  | inl z ↦ inl z
  | inr nz ↦ elim (cases_eq count rules.budget) [
    | inl e ↦ absurd (false≢true (sym h ∙ and_from _ _ (not_from_false (rules.budget == 0) (ne_eqb rules.budget 0 nz)) (eq-eqb count rules.budget e)))
    | inr ne ↦ elim k [ inl z ↦ inl z | inr l ↦ inr (omega arith) ]
  ]
]

-- a ledger with no posts
pub IsLedger-start : (first : Formula) (rules : Rules) (stack_variables : ℕ) (empties : List ℕ) → IsFormula first → stack_variables ≡ first.variables → empties ≡ empty_numbers first.clauses
    → IsLedger first rules [] first [] stack_variables 0 empties
unfolding folded
IsLedger-start first rules stack_variables empties v w e = record {
  valid = v;
  legal = λ k p h. absurd (none-some p h);
  formula = refl;
  pairs = refl;
  variables = w;
  counted = refl;
  in_budget = inr (omega arith);
  empty = e;
}

-- what is known before a post
pub record IsTested (b : BookView) (e : Entry) : Type 0 where
  pub commit : is_look e ≡ false
  pub open_still : least_empty (current b).clauses ≡ None
  pub unspent : is_spent b.rules (commits b.posts) ≡ false
  pub room : passes_numbers (current b) e ≡ false
  pub allowed : is_legal_in (current b).clauses b.rules (numbered (current b).next e) ≡ true

module _ (b : BookView) (now : Formula) (stacked : List Pair) (stack_variables count : ℕ) (empties : List ℕ) (e : Entry)
    (k : IsLedger b.first b.rules b.posts now stacked stack_variables count empties) (t : IsTested b e) where
  -- the entry as it is posted
  abbrev entry : Entry
  entry = numbered (current b).next e

  abbrev state : State
  state = record { formula = now; pairs = stacked }

  valid : IsFormula (current b)
  valid = IsFormula-folded b.first b.rules b.posts k.valid k.legal

  state_is : state ≡ folded b.first b.posts
  state_is = let f = k.formula in let p = k.pairs in λ i. record { formula = f i; pairs = p i }

  -- the entry fits the numbers
  pub tested-numbers : now.next + length (new_clauses e) ≤ number_limit
  tested-numbers =
      let same : now.next ≡ (current b).next = ap (λ (f : Formula). f.next) k.formula in
      let low : (current b).next + length (new_clauses e) ≤ number_limit = ltb-false number_limit ((current b).next + length (new_clauses e)) t.room in
      omega arith

  -- the formula is over the variables of the stack
  pub ledger-variables : stack_variables ≡ now.variables
  ledger-variables = k.variables ∙ sym (ap (λ (f : Formula). f.variables) k.formula ∙ variables-folded b.first b.posts)

  -- the rules of the entry are a run
  pub tested-run : IsRun state (expand (numbered now.next e))
  tested-run =
      subst (λ (s : State). IsRun s (expand (numbered s.formula.next e))) (sym state_is)
      (numbered-run (folded b.first b.posts) b.rules e valid t.allowed)

  -- it may follow the posts
  may_follow : (worker round : ℕ) → MayFollow b.first b.rules b.posts (record { worker = worker; round = round; entry = entry })
  may_follow worker round =
      let low : (current b).next + length (new_clauses e) ≤ number_limit = ltb-false number_limit ((current b).next + length (new_clauses e)) t.room in
      let more = after-next (folded b.first b.posts) entry in
      let count' = count-numbered (current b).next e in
      record {
        legal = legal-open (current b) b.rules entry (no_empty-least (current b).clauses t.open_still) t.allowed;
        numbered = numbered-again (current b).next e;
        in_range = omega (arith, more, count', low);
        in_budget = below_budget b.rules (commits b.posts) t.unspent (subst (λ n. (b.rules.budget ≡ 0) ⊎ (n ≤ b.rules.budget)) k.counted k.in_budget);
      }

  -- the empty clauses that are listed with these are these
  pub tested-listed : (listed new : List ℕ) → listed ≡ empties ++ new → listed ≡ new
  tested-listed listed new h =
      h ∙ ap (λ (ns : List ℕ). ns ++ new) (k.empty ∙ empty_numbers-none now.clauses (ap (λ (f : Formula). least_empty f.clauses) k.formula ∙ t.open_still))

  -- the empty clauses after it
  empty_after : empty_numbers (new_clauses entry) ≡ empty_numbers (state_after (folded b.first b.posts) (expand entry)).formula.clauses
  empty_after =
      sym (ap empty_numbers (clauses-expand_in (folded b.first b.posts) b.rules entry valid t.allowed (numbered-again (current b).next e))
      ∙ empty_numbers-changed (current b).clauses (new_clauses entry) (numbers_of (gone_clauses entry)) (no_empty-least (current b).clauses t.open_still))

  -- a ledger with the post of the entry is a ledger
  pub IsLedger-push : (worker round : ℕ) (after : State) → after ≡ state_after state (expand (numbered now.next e))
      → IsLedger b.first b.rules (b.posts ++ record { worker = worker; round = round; entry = numbered now.next e } ∷ []) after.formula after.pairs stack_variables (count + 1) (empty_numbers (new_clauses (numbered now.next e)))
  IsLedger-push worker round after r =
      let may = may_follow worker round in
      let post : Post = record { worker = worker; round = round; entry = entry } in
      let more : commits (b.posts ++ post ∷ []) ≡ commits b.posts + 1 = commits-push b.posts post (look-numbered (current b).next e ∙ t.commit) in
      let counted : count ≡ commits b.posts = k.counted in
      let then : after ≡ state_after (folded b.first b.posts) (expand entry) = r ∙ ap (λ (s : State). state_after s (expand (numbered s.formula.next e))) state_is in
      let whole : folded b.first (b.posts ++ post ∷ []) ≡ state_after (folded b.first b.posts) (expand entry) = folded-push b.first b.posts post in
      subst (λ n. IsLedger b.first b.rules (b.posts ++ (let p : Post = record { worker = worker; round = round; entry = numbered n e } in p) ∷ []) after.formula after.pairs stack_variables (count + 1) (empty_numbers (new_clauses (numbered n e))))
      (sym (ap (λ (f : Formula). f.next) k.formula))
      (record {
        valid = k.valid;
        legal = IsLegalJournal-push b.first b.rules b.posts post k.legal may;
        formula = ap (λ (s : State). s.formula) (then ∙ sym whole);
        pairs = ap (λ (s : State). s.pairs) (then ∙ sym whole);
        variables = k.variables;
        counted = omega arith;
        in_budget = elim may.in_budget [ inl z ↦ inl z | inr l ↦ inr (omega arith) ];
        empty = empty_after ∙ ap (λ (s : State). empty_numbers s.formula.clauses) (sym then);
      })
