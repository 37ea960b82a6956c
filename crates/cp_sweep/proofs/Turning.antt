-- A turn of the code's sweep, as one of the sweep of the formula that its book began with.
use Rattle.std.proofs.Common.{◌≡◌, ◌<◌, Bool, true, false, cond, not, eqb, List, [], length, Option, Some, None, refl, sym, ◌∙◌, ap, subst, inl, inr, arith}
use Rattle.std.specs.List.{list_any, range_with_len}
use Rattle.std.proofs.lemmas.Bool.{and_parts, eqb-true, eq-eqb, false≢true}
use Rattle.cp_logic.specs.declared.settings.Rules.{Rules}
use Rattle.cp_logic.specs.declared.stop.Stop.{Stop}
use Rattle.cp_logic.specs.declared.stop.Stop.TheVariants.{Refuted, Spent, Numbers}
use Rattle.cp_logic.specs.Formulas.{Formula, IsFormula, has_empty}
use Rattle.cp_logic.specs.Journals.{Post, folded, commits}
use Rattle.cp_logic.specs.Sweeps.{is_applicable, is_spent, IsSweep, enough}
use Rattle.cp_logic.proofs.Bounds.{commits-bounded}
use Rattle.cp_occ.specs.Cells.{CellView}
use Rattle.cp_occ.specs.Changes.{AreCellsOf}
use Rattle.cp_sweep.specs.Cursor.{Cursor, Turn, next_turn}
use Rattle.cp_sweep.specs.Swept.{IsSwept, IsSweptAfter, IsUnspent}

-- the next turn, of the same formula and rules under other names
pub turn-is : (f g : Formula) (rules others : Rules) (c d : Cursor) (stop : Option Stop) → g ≡ f → others ≡ rules
    → (let t : Turn = record { stop = stop; cursor = d } in t) ≡ next_turn g others c → (o : Option Stop) → stop ≡ o → next_turn f rules c ≡ record { stop = o; cursor = d }
turn-is f g rules others c d stop e r t o s =
    sym (t ∙ ap (λ h. next_turn h others c) e ∙ ap (λ k. next_turn f k c) r) ∙ ap (λ (p : Option Stop). let u : Turn = record { stop = p; cursor = d } in u) s

-- what was swept, as it is handed out
pub swept-closed : (f : Formula) (rules : Rules) (before posts handed : List Post) (left given : Formula) (stop told : Option Stop)
    → handed ≡ posts → given ≡ left → told ≡ stop → IsSweptAfter f rules before posts left stop → IsSweptAfter f rules before handed given told
swept-closed f rules before posts handed left given stop told p g t s =
    subst (λ (ps : List Post). IsSweptAfter f rules before ps given told) (sym p)
    (subst (λ (h : Formula). IsSweptAfter f rules before posts h told) (sym g) (subst (IsSweptAfter f rules before posts left) (sym t) s))

refuted_spent : Some Refuted ≡ Some Spent → ⊥
refuted_spent h = cc

numbers_spent : Some Numbers ≡ Some Spent → ⊥
numbers_spent h = cc

-- after no post it is a sweep from the start
pub swept-first : (f : Formula) (rules : Rules) (posts : List Post) (left : Formula) (stop : Option Stop) → IsSweptAfter f rules [] posts left stop → IsSwept f rules posts left stop
swept-first f rules posts left stop s = record { legal = s.legal; swept = subst (IsSweep f rules [] 1) (sym s.swept.1) s.swept.2; stop = s.stop; folded = s.folded }

-- a legal journal doesn't reach a budget that commits never reach
pub swept-unspent : (f : Formula) (rules : Rules) (before posts : List Post) (left : Formula) (stop : Option Stop) → IsFormula f → IsSweptAfter f rules before posts left stop → IsUnspent f rules stop
swept-unspent f rules before posts left stop v s large e = go (has_empty (folded f posts).formula.clauses) (is_spent rules (commits posts)) refl (sym s.stop ∙ e)
  where
    few : commits posts < enough f.variables (length f.clauses) rules.bound
    few = commits-bounded f rules posts v s.legal

    not_spent : (o : Bool) → cond o (Some Numbers) None ≡ Some Spent → ⊥
    not_spent true h = numbers_spent h
    not_spent false h = absurd (cc)

    go : (empty spent : Bool) → is_spent rules (commits posts) ≡ spent
        → cond empty (Some Refuted) (cond spent (Some Spent) (cond (list_any (is_applicable (folded f posts).formula rules) (range_with_len 1 (folded f posts).formula.variables)) (Some Numbers) None)) ≡ Some Spent → ⊥
    go true spent h t = refuted_spent t
    go false false h t = not_spent (list_any (is_applicable (folded f posts).formula rules) (range_with_len 1 (folded f posts).formula.variables)) t
    go false true h t =
        let p = and_parts (not (eqb rules.budget 0)) (eqb (commits posts) rules.budget) h in
        let reached = eqb-true (commits posts) rules.budget p.1 in
        elim large [
          | inl z ↦ false≢true (sym (ap not (eq-eqb rules.budget 0 z)) ∙ p.0)
          | inr b ↦ absurd (omega (arith, few, reached, b))
        ]

-- why the book of these posts is stopped, if it is
abbrev pub stop_there : Formula → Rules → List Post → Option Stop
stop_there f rules posts = cond (has_empty (folded f posts).formula.clauses) (Some Refuted) (cond (is_spent rules (commits posts)) (Some Spent) None)

pub stop-named : (f g : Formula) (rules others : Rules) (posts : List Post) → g ≡ f → others ≡ rules → stop_there g others posts ≡ stop_there f rules posts
stop-named f g rules others posts e r = ap (λ h. stop_there h others posts) e ∙ ap (λ k. stop_there f k posts) r

-- at first the cells are those of the formula
pub cells-start : (f : Formula) (cells : List CellView) → AreCellsOf f cells → AreCellsOf (folded f []).formula cells
unfolding folded
cells-start f cells a = a
