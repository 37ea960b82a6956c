use Rattle.std.proofs.Common.{◌≡◌, ℕ, true, List, [], ◌∷◌, ◌++◌, map, Option, Some, None, sym, ◌∙◌, ap, subst}
use Rattle.std.specs.Option.{option_map}
use Rattle.std.proofs.lemmas.List.{map-append}
use Rattle.std.proofs.lemmas.Option.{none-some, same_Some}
use Rattle.cp_logic.specs.declared.named.Named.{Named}
use Rattle.cp_logic.specs.Clauses.{contains}
use Rattle.cp_logic.specs.Assignments.{Pair}
use Rattle.cp_logic.specs.Formulas.{IsWithin}
use Rattle.cp_logic.specs.Pairs.{pair_of}
use Rattle.cp_book.proofs.RuleRuns.{weaken-found, weaken-within}
use Rattle.cp_book.proofs.changes.weaken.Goals as goal

-- the clause that was found is the one that is named
found_is : (o : Option Named) (c : Named) (clause : List ℕ) → Some clause ≡ option_map (λ (k : Named). k.clause) o → o ≡ Some c → clause ≡ c.clause
found_is o c clause e f = same_Some clause c.clause (e ∙ ap (option_map (λ (k : Named). k.clause)) f)

-- and it was found
found_none : (o : Option Named) (c : Named) → None ≡ option_map (λ (k : Named). k.clause) o → o ≡ Some c → ⊥
found_none o c e f = none-some c.clause (e ∙ ap (option_map (λ (k : Named). k.clause)) f)

pub new-requires : goal.new-requires
new-requires c =
    subst (λ k. contains k c.args.lit ≡ true)
    (sym (found_is _ c.args.gone.now c.in-Some.clause c.in-Some.ensures.value (weaken-found c.args.formula.now.formula c.args.gone.now c.args.lit c.vars.ensures.valid c.requires.allowed)))
    c.requires.allowed.1.has

pub push_reserved-requires-clause-within : goal.push_reserved-requires-clause-within
push_reserved-requires-clause-within c =
    subst (λ v. IsWithin v c.new.result.clause) (sym c.requires.variables)
    (subst (IsWithin c.args.formula.now.formula.variables)
    (sym (c.new.ensures.clause ∙ found_is _ c.args.gone.now c.in-Some.clause c.in-Some.ensures.value (weaken-found c.args.formula.now.formula c.args.gone.now c.args.lit c.vars.ensures.valid c.requires.allowed)))
    (weaken-within c.args.formula.now.formula c.args.gone.now c.args.lit c.vars.ensures.valid c.requires.allowed))

pub unreachable-requires : goal.unreachable-requires
unreachable-requires c =
    found_none _ c.args.gone.now (sym c.in-None.is ∙ c.remove.ensures.value) (weaken-found c.args.formula.now.formula c.args.gone.now c.args.lit c.vars.ensures.valid c.requires.allowed)

pub returns-clause-state : goal.returns-clause-state
returns-clause-state c =
    let same = found_is _ c.args.gone.now c.in-Some.clause c.in-Some.ensures.value (weaken-found c.args.formula.now.formula c.args.gone.now c.args.lit c.vars.ensures.valid c.requires.allowed) in
    let formula = c.remove.ensures.formula in
    let clause = c.new.ensures.clause ∙ same in
    let literal = c.new.ensures.literal in
    let pairs =
    ap (λ ps. map pair_of ps) c.push_reserved.ensures.items ∙ map-append pair_of c.args.stack.now.pairs.items (c.new.result ∷ [])
    ∙ ap (λ (p : Pair). map pair_of c.args.stack.now.pairs.items ++ p ∷ []) (λ i. record { literal = literal i; clause = clause i }) in
    λ i. record { formula = formula i; pairs = pairs i }
