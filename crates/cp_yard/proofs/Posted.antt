-- What a post changes: the clauses of the variables of its entry, as the entry says, and those of no other.
use Rattle.std.proofs.Common.{◌≡◌, ℕ, List, [], ◌∷◌, ◌++◌, ◌+◌, map, refl, ap, ◌∙◌}
use Rattle.std.specs.List.{flat_map}
use Rattle.cp_logic.specs.declared.named.Named.{Named}
use Rattle.cp_logic.specs.Literals.{variable_of}
use Rattle.std.specs.Prelude.{IsFalse}
use Rattle.cp_logic.specs.Clauses.{contains}
use Rattle.cp_logic.specs.Formulas.{occurrences, set_of, variables_in}
use Rattle.cp_logic.specs.Rules.{State, state_after}
use Rattle.cp_logic.specs.Entries.{Entry, Taut, Subsume, Strengthen, Block, Eliminate, Look, expand, numbered, renumbered, variables_of}
use Rattle.cp_logic.specs.Journals.{Post, MayFollow, folded}
use Rattle.cp_logic.specs.Locality.{after}
use Rattle.cp_logic.proofs.JournalRuns.{folded-push, post-may_follow, journal-formula}
use Rattle.cp_logic.proofs.Changes.{change-local}
use Rattle.cp_logic.proofs.Others.{others-stay}
use Rattle.cp_yard.specs.Views.{Base}
use Rattle.cp_yard.specs.Rule.{clauses_at, IsLegal}

module _ (f : Base) (h : List Post) (p : Post) (legal : IsLegal f h) (more : IsLegal f (h ++ p ∷ [])) where
  follows : MayFollow f.formula f.rules h p
  follows = (post-may_follow f.formula f.rules h p legal.1).0 more.1

  clauses-folded : (x : ℕ) → clauses_at f (h ++ p ∷ []) x ≡ occurrences (state_after (folded f.formula h) (expand p.entry)).formula.clauses x
  clauses-folded x = ap (λ (s : State). occurrences s.formula.clauses x) (folded-push f.formula h p)

  pub clauses_at-post : (x : ℕ) → clauses_at f (h ++ p ∷ []) x ≡ after (clauses_at f h x) x p.entry
  clauses_at-post x = clauses-folded x
      ∙ change-local (folded f.formula h) f.rules x p.entry (journal-formula f.formula f.rules h legal.0 legal.1).0 follows.legal follows.numbered

  pub clauses_at-other : (x : ℕ) → IsFalse (contains (variables_of p.entry) x) → clauses_at f (h ++ p ∷ []) x ≡ clauses_at f h x
  clauses_at-other x out = clauses-folded x
      ∙ others-stay (folded f.formula h) f.rules x p.entry (journal-formula f.formula f.rules h legal.0 legal.1).0 follows.legal follows.numbered out

-- numbers change no variable
renumbered-variables : (n : ℕ) (cs : List Named) → flat_map (λ (c : Named). map variable_of c.clause) (renumbered n cs) ≡ flat_map (λ (c : Named). map variable_of c.clause) cs
renumbered-variables n [] = refl
renumbered-variables n (c ∷ cs) = ap (λ vs. map variable_of c.clause ++ vs) (renumbered-variables (n + 1) cs)

pub variables_of-numbered : (n : ℕ) (e : Entry) → variables_of (numbered n e) ≡ variables_of e
variables_of-numbered n (Taut gone) = refl
variables_of-numbered n (Subsume by gone) = refl
variables_of-numbered n (Strengthen by on l new) = refl
variables_of-numbered n (Block gone l) = refl
variables_of-numbered n (Eliminate x pos neg new) = ap (λ vs. set_of ((x ∷ []) ++ (variables_in (pos ++ neg) ++ set_of vs))) (renumbered-variables n new)
variables_of-numbered n (Look x) = refl
