-- The first entry over all kinds, as the search tries them in turn.
use Rattle.std.proofs.Common.{◌≡◌, ℕ, List, Option, Some, None, refl, sym, ◌∙◌, ap}
use Rattle.std.specs.Option.{option_or}
use Rattle.cp_logic.specs.declared.named.Named.{Named}
use Rattle.cp_logic.specs.declared.settings.Rules.{Rules}
use Rattle.cp_logic.specs.Entries.{Entry}
use Rattle.cp_logic.specs.Legality.{tauts, subsumptions, strengthenings, blocks, first_in, first_of_kind}
use Rattle.cp_find.proofs.Searches.{first_in-kinds, first_of_rest-kinds}
use Rattle.cp_find.specs.Chosen.{where_chosen}
use Rattle.cp_eliminate.specs.Eliminating.{elimination_within}

-- of two answers the first counts, where there is one
here : {X : Type 0} (a o p : Option X) (x : X) → a ≡ option_or o p → Some x ≡ o → Some x ≡ a
here a o p x e s = ap (λ q. option_or q p) s ∙ sym e

-- and else the second
later : {X : Type 0} (a o p : Option X) → a ≡ option_or o p → None ≡ o → a ≡ p
later a o p e n = e ∙ ap (λ q. option_or q p) (sym n)

-- the second and the third of three are told as one
grouped : {X : Type 0} (o p q : Option X) → option_or (option_or o p) q ≡ option_or o (option_or p q)
grouped None p q = refl
grouped (Some x) p q = refl

module _ (cs : List Named) (rules : Rules) (next x : ℕ) where
  -- the first entry of each kind, where the kind is chosen
  abbrev pub taut : Option Entry
  taut = where_chosen rules.choice.t (first_of_kind x cs (tauts cs))

  abbrev pub subsumption : Option Entry
  subsumption = where_chosen rules.choice.s (first_of_kind x cs (subsumptions cs))

  abbrev pub strengthening : Option Entry
  strengthening = where_chosen rules.choice.x (first_of_kind x cs (strengthenings cs next))

  abbrev pub blocked : Option Entry
  blocked = where_chosen rules.choice.b (first_of_kind x cs (blocks cs))

  abbrev pub eliminated : Option Entry
  eliminated = where_chosen rules.choice.e (elimination_within cs rules.bound next x)

  -- the first over all kinds is that of the first kind that has one
  pub first_in-five : first_in cs rules next x ≡ option_or taut (option_or subsumption (option_or strengthening (option_or blocked eliminated)))
  first_in-five = first_in-kinds cs rules next x ∙ ap (λ o. option_or taut (option_or subsumption (option_or strengthening o))) (first_of_rest-kinds cs rules next x)

  -- a tautology comes first
  pub is-taut : (d : Entry) → Some d ≡ taut → Some d ≡ first_in cs rules next x
  is-taut d s = here (first_in cs rules next x) taut (option_or subsumption (option_or strengthening (option_or blocked eliminated))) d first_in-five s

  after-taut : None ≡ taut → first_in cs rules next x ≡ option_or subsumption (option_or strengthening (option_or blocked eliminated))
  after-taut t = later (first_in cs rules next x) taut (option_or subsumption (option_or strengthening (option_or blocked eliminated))) first_in-five t

  two : None ≡ taut → first_in cs rules next x ≡ option_or (option_or subsumption strengthening) (option_or blocked eliminated)
  two t = after-taut t ∙ sym (grouped subsumption strengthening (option_or blocked eliminated))

  -- then a subsumption or a strengthening
  pub is-of-two : (d : Entry) → None ≡ taut → Some d ≡ option_or subsumption strengthening → Some d ≡ first_in cs rules next x
  is-of-two d t s = here (first_in cs rules next x) (option_or subsumption strengthening) (option_or blocked eliminated) d (two t) s

  -- and last a blocked clause or the elimination
  pub after-two : None ≡ taut → None ≡ option_or subsumption strengthening → first_in cs rules next x ≡ option_or blocked eliminated
  after-two t u = later (first_in cs rules next x) (option_or subsumption strengthening) (option_or blocked eliminated) (two t) u
