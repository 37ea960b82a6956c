-- A tautology that stands under a number may be posted.
use Rattle.std.proofs.Common.{◌≡◌, ℕ, Bool, true, false, cond, List, [], ◌∷◌, Some, refl, sym}
use Rattle.std.specs.Prelude.{◌==◌}
use Rattle.std.specs.List.{Contains}
use Rattle.std.specs.Option.{option_map}
use Rattle.std.proofs.lemmas.Bool.{eqb-true, and_from}
use Rattle.cp_logic.specs.declared.named.Named.{Named}
use Rattle.cp_logic.specs.declared.settings.Rules.{Rules}
use Rattle.cp_logic.specs.Clauses.{is_tautology}
use Rattle.cp_logic.specs.Formulas.{find_number}
use Rattle.cp_logic.specs.Entries.{Taut}
use Rattle.cp_logic.specs.Legality.{is_legal_in, fits}
use Rattle.cp_logic.proofs.Members.{in_here, in_later}
use Rattle.cp_logic.proofs.Parts.{in_stands}

-- what is found under a number is there
pub found-in : (cs : List Named) (n : ℕ) (k : List ℕ) → Some k ≡ option_map (λ (c : Named). c.clause) (find_number cs n) → Contains cs (record { number = n; clause = k })
found-in [] n k h = cc
found-in (d ∷ ds) n k h = go (d.number == n) refl h (found-in ds n k)
  where
    clause_is : Some d.clause ≡ Some k → d.clause ≡ k
    clause_is q = cc

    go : (b : Bool) → (d.number == n) ≡ b → Some k ≡ option_map (λ (c : Named). c.clause) (cond b (Some d) (find_number ds n))
        → (Some k ≡ option_map (λ (c : Named). c.clause) (find_number ds n) → Contains ds (record { number = n; clause = k })) → Contains (d ∷ ds) (record { number = n; clause = k })
    go true e q more = let same = eqb-true d.number n e in let is = clause_is (sym q) in in_here (record { number = n; clause = k }) d ds (λ i. record { number = same i; clause = is i })
    go false e q more = in_later (record { number = n; clause = k }) d ds (more q)

-- a tautology that is there is legal if its technique is chosen
pub taut-legal : (cs : List Named) (rules : Rules) (c : Named) → rules.choice.t ≡ true → Contains cs c → is_tautology c.clause ≡ true → is_legal_in cs rules (Taut c) ≡ true
unfolding is_legal_in fits
taut-legal cs rules c chosen i t = and_from _ _ chosen (and_from _ _ (in_stands cs c i) t)
