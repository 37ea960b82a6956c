-- The post of the entry that the search gave: the book takes it, and the cells follow.
use Rattle.std.proofs.Common.{◌≡◌, ℕ, ◌+◌, Bool, true, false, cond, List, [], ◌∷◌, ◌++◌, length, Option, Some, None, refl, sym, ◌∙◌, ap, subst, arith}
use Rattle.std.specs.Prelude.{is_some, nat_le}
use Rattle.std.proofs.lemmas.Bool.Decides.{nat_tests}
use Rattle.cp_logic.specs.declared.settings.Rules.{Rules}
use Rattle.cp_logic.specs.declared.stop.Stop.TheVariants.{Refuted as StopRefuted, Spent as StopSpent}
use Rattle.cp_logic.specs.Formulas.{Formula, IsFormula, has_empty, occurrences}
use Rattle.cp_logic.specs.Rules.{Rule, Add, Drop, Weaken, State, state_after, applied, added, removed}
use Rattle.cp_logic.specs.Entries.{Entry, expand, new_clauses, numbered}
use Rattle.cp_logic.specs.Legality.{is_legal}
use Rattle.cp_logic.specs.Locality.{after}
use Rattle.cp_logic.proofs.Changes.{change-local}
use Rattle.cp_logic.specs.Journals.{Post, folded, start_of, commits, number_limit}
use Rattle.cp_logic.proofs.JournalRuns.{folded-push}
use Rattle.cp_logic.specs.Sweeps.{is_spent}
use Rattle.cp_book.specs.Answers.{Posted, answer_to, passes_numbers}
use Rattle.cp_book.specs.Empties.{least_empty}
use Rattle.cp_book.specs.Views.{BookView, current, stop_in, with_post}
use Rattle.cp_book.proofs.Choices.{answer-tested}
use Rattle.cp_book.proofs.EmptyFacts.{least-none}
use Rattle.cp_occ.specs.Cells.{CellView, variables_of, lists_of}
use Rattle.cp_occ.specs.Changes.{lists_after, AreCellsOf}
use Rattle.cp_occ.proofs.Posted.{cells-after}
use Rattle.cp_sweep.specs.Marks.{with_marks}
use Rattle.cp_sweep.specs.Cursor.{Cursor, Turn, turn_for, touched_by, after_post, sweep_post}

-- where a book isn't stopped, no clause is empty and the budget isn't spent
pub goes-on : (b : BookView) → stop_in b ≡ None → (has_empty (current b).clauses ≡ false) × (is_spent b.rules (commits b.posts) ≡ false)
goes-on b h = go (has_empty (current b).clauses) (is_spent b.rules (commits b.posts)) h
  where
    go : (e s : Bool) → cond e (Some StopRefuted) (cond s (Some StopSpent) None) ≡ None → (e ≡ false) × (s ≡ false)
    go true s t = cc
    go false true t = cc
    go false false t = (refl, refl)

-- the book takes an entry whose numbers fit
pub takes : (b : BookView) (e : Entry) → stop_in b ≡ None → passes_numbers (current b) e ≡ false → answer_to b e ≡ Posted (length b.posts)
takes b e goes fits =
    let on = goes-on b goes in
    answer-tested b e (least-none (current b).clauses on.0) on.1 fits

-- whether the numbers fit
pub fits-from : (f : Formula) (e : Entry) → passes_numbers f e ≡ false → nat_le (f.next + length (new_clauses e)) number_limit ≡ true
fits-from f e h = grind (arith, nat_tests)

-- the turn of an entry that was posted, and of one that has no number
pub turn-posted : (left : Formula) (c : Cursor) (e : Entry) → passes_numbers left e ≡ false → turn_for left c (Some e) ≡ record { stop = None; cursor = after_post c e }
turn-posted left c e h = rw (fits-from left e h) refl

-- a turn that goes on, with its cursor at a post
abbrev pub turn_at : List Post → ℕ → List Bool → Turn
turn_at posts x touched = record { stop = None; cursor = record { posts = posts; mark = x; touched = touched } }

same-formula : (s t : State) (rs : List Rule) → s.formula ≡ t.formula → (state_after s rs).formula ≡ (state_after t rs).formula
same-formula s t [] e = e
same-formula s t (Add c ∷ rs) e = same-formula (applied s (Add c)) (applied t (Add c)) rs (ap (λ f. added f c) e)
same-formula s t (Drop c ∷ rs) e = same-formula (applied s (Drop c)) (applied t (Drop c)) rs (ap (λ f. removed f c.number) e)
same-formula s t (Weaken c l ∷ rs) e = same-formula (applied s (Weaken c l)) (applied t (Weaken c l)) rs (ap (λ f. removed f c.number) e)

-- the formula that rules lead to doesn't depend on the pairs
only-formula : (s : State) (rs : List Rule) → (state_after s rs).formula ≡ (state_after (start_of s.formula) rs).formula
only-formula s rs = same-formula s (start_of s.formula) rs refl

-- the book with the post of such an entry
module _ (b : BookView) (e : Entry) (n : e ≡ numbered (current b).next e) where
  posts-are : (with_post b 0 0 e).posts ≡ b.posts ++ sweep_post e ∷ []
  posts-are = ap (λ d. b.posts ++ sweep_post d ∷ []) (sym n)

  left-is : current (with_post b 0 0 e) ≡ (state_after (start_of (current b)) (expand e)).formula
  left-is = ap (λ (ps : List Post). (folded b.first ps).formula) posts-are ∙ ap (λ (s : State). s.formula) (folded-push b.first b.posts (sweep_post e)) ∙ only-formula (folded b.first b.posts) (expand e)

  -- the clauses of a variable in it
  pub posted-occurrences : (rules : Rules) (x : ℕ) → IsFormula (current b) → is_legal (current b) rules e ≡ true
      → occurrences (current (with_post b 0 0 e)).clauses x ≡ after (occurrences (current b).clauses x) x (numbered (current b).next e)
  posted-occurrences rules x v h =
      ap (λ (f : Formula). occurrences f.clauses x) left-is ∙ change-local (start_of (current b)) rules x e v h n
      ∙ ap (after (occurrences (current b).clauses x) x) n

  -- its cells are those of what it leaves
  pub posted-cells : (rules : Rules) (old new : List CellView) → IsFormula (current b) → is_legal (current b) rules e ≡ true → AreCellsOf (current b) old
      → variables_of new ≡ variables_of old → lists_of new ≡ lists_after old e → AreCellsOf (current (with_post b 0 0 e)) new
  posted-cells rules old new v h a vs ls = subst (λ (f : Formula). AreCellsOf f new) (sym left-is) (cells-after (current b) rules e old new v h n a vs ls)

  -- and its cursor is that of the turn
  pub posted-turn : (mark : ℕ) (touched : List Bool) → passes_numbers (current b) e ≡ false
      → turn_at (with_post b 0 0 e).posts mark (with_marks touched (touched_by e)) ≡ turn_for (current b) (record { posts = b.posts; mark = mark; touched = touched }) (Some e)
  posted-turn mark touched h =
      ap (λ (ps : List Post). turn_at ps mark (with_marks touched (touched_by e))) posts-are
      ∙ sym (turn-posted (current b) (record { posts = b.posts; mark = mark; touched = touched }) e h)
