-- The rounds of workers over a formula, and the sweep of what they leave.
use Rattle.std.proofs.Common.{◌≡◌, ◌≤◌, ◌⊎◌, ℕ, ◌+◌, List, [], Some, None, inl, inr, refl, sym, ◌∙◌, ap, subst, arith}
use Rattle.cp_logic.specs.declared.settings.Rules.{Rules}
use Rattle.cp_logic.specs.Lists.{Roomy}
use Rattle.cp_logic.specs.Formulas.{Formula}
use Rattle.cp_logic.specs.Journals.{folded}
use Rattle.cp_logic.specs.Pairs.{pairs_of}
use Rattle.cp_book.specs.Views.{BookView}
use Rattle.cp_occ.specs.Cells.{CellView}
use Rattle.cp_occ.specs.Changes.{AreCellsOf}
use Rattle.cp_yard.specs.Views.{Base, SeatView, Share, base_of, founder, all_shares}
use Rattle.cp_yard.specs.Rule.{Account}
use Rattle.cp_worker.specs.declared.lists.WorkerShift.{WorkerShift}
use Rattle.cp_phase.specs.Rounds.{AreShifts}
use Rattle.cp_sweep.specs.declared.turns.Swept.{Swept}
use Rattle.cp_sweep.specs.Swept.{IsSweptAfter, IsUnspent}
use Rattle.cp_top.specs.Team.{IsTeamwork, base_at}
use Rattle.cp_top.specs.Steps.{IsResult}

-- a new book
abbrev pub fresh : Formula → Rules → BookView
fresh f rules = record { first = f; rules = rules; posts = []; prepared = None }

-- the cells of a formula are those of a new book over it
pub fresh-cells : (f : Formula) (rules : Rules) (b : BookView) (cells : List CellView) → b ≡ fresh f rules → AreCellsOf f cells → AreCellsOf (folded b.first b.posts).formula cells
unfolding folded
fresh-cells f rules b cells is a = subst (λ (c : BookView). AreCellsOf (folded c.first c.posts).formula cells) (sym is) a

not-none : (workers rounds : ℕ) (A : Type 0) → 1 ≤ workers → 1 ≤ rounds → (workers ≡ 0) ⊎ (rounds ≡ 0) → A
not-none workers rounds A some more (inl e) = absurd (omega arith)
not-none workers rounds A some more (inr e) = absurd (omega arith)

-- g is the book that the rounds leave, over a yard with a new book
module _ (f : Formula) (rules : Rules) (b g : BookView) (base : Base) (made : b ≡ fresh f rules) (over : base ≡ base_of b) (same : base_of g ≡ base) where
  base-is : base ≡ base_at f rules
  base-is = over ∙ ap base_of made

  first-is : g.first ≡ f
  first-is = ap (λ (x : Base). x.formula) (same ∙ base-is)

  rules-are : g.rules ≡ rules
  rules-are = ap (λ (x : Base). x.rules) (same ∙ base-is)

  module _ (workers rounds limit : ℕ) (some : 1 ≤ workers) (more : 1 ≤ rounds) (s : Swept) (shifts : Roomy WorkerShift) (k v : SeatView)
      (swept : IsSweptAfter g.first g.rules g.posts s.journal.items s.formula.formula s.stopped) (pairs : pairs_of s.stack.pairs ≡ (folded g.first s.journal.items).pairs)
      (variables : s.stack.vars ≡ g.first.variables) (unspent : IsUnspent g.first g.rules s.stopped)
      (ran : AreShifts base workers rounds limit g.posts (all_shares k) shifts.items) (account : Account base g.posts (all_shares k) (workers + 1)) (own : k.own ≡ v.own) (first : v ≡ founder b) where
    own-is : k.own ≡ record { number = 0; posts = []; notes = [] }
    own-is = own ∙ ap (λ (x : SeatView). x.own) (first ∙ ap founder made)

    team : IsTeamwork workers rounds limit f rules g.posts shifts.items (Some k)
    team = record {
      alone = not-none workers rounds _ some more;
      team = λ _ _. (k, refl, subst (λ (x : Base). AreShifts x workers rounds limit g.posts (all_shares k) shifts.items) base-is ran);
      account = λ _ _. (k, refl, subst (λ (x : Base). Account x g.posts (all_shares k) (workers + 1)) base-is account, ap (λ (x : Share). x.number) own-is, ap (λ (x : Share). x.posts) own-is, ap (λ (x : Share). x.notes) own-is);
    }

    pub result-of : IsResult workers rounds limit f rules (record { swept = s; shifts = shifts; kept = Some k })
    unfolding team
    result-of = record {
      worked = g.posts;
      swept = subst (λ (x : Formula). IsSweptAfter x rules g.posts s.journal.items s.formula.formula s.stopped) first-is
          (subst (λ (x : Rules). IsSweptAfter g.first x g.posts s.journal.items s.formula.formula s.stopped) rules-are swept);
      team = team;
      pairs = pairs ∙ ap (λ (x : Formula). (folded x s.journal.items).pairs) first-is;
      variables = variables ∙ ap (λ (x : Formula). x.variables) first-is;
      unspent = subst (λ (x : Formula). IsUnspent x rules s.stopped) first-is (subst (λ (x : Rules). IsUnspent g.first x s.stopped) rules-are unspent);
    }
