-- Texts of the members of a list, one after the other.
use Rattle.std.proofs.Common.{◌≡◌, true, false, cond, not, ℕ, ◌+◌, ◌<◌, List, ◌∷◌, ◌++◌, length, drop, get_or, sym, ◌∙◌, ap}
use Rattle.std.specs.Prelude.{◌==◌}
use Rattle.std.specs.List.{flat_map}
use Rattle.std.proofs.lemmas.List.{drop_more, length-map}
use Rattle.std.proofs.lemmas.List.Folds.{flat_map-map}
use Rattle.cp_io.specs.declared.role.Role.{Role}
use Rattle.cp_io.specs.Port.{Ports}
use Rattle.cp_io.specs.Prints.{Buffered, Prints}
use Rattle.cp_io.proofs.PrintsUpTo.{PrintsUpTo, Prints-piece}
use Rattle.cp_logic.specs.declared.pairs.Pair.{Pair as HeldPair}
use Rattle.cp_logic.specs.Clauses.{without}
use Rattle.cp_logic.specs.Lists.{Roomy}
use Rattle.cp_logic.specs.Pairs.{pair_of, pairs_of}
use Rattle.cp_stack.specs.Text.{header_text, pair_text, stack_text}

-- the next member of a list is printed
pub Prints-next : {X : Type 0} {role : Role} (f : X → List ℕ) (whole : List ℕ) (xs : List X) (i : ℕ) (d : X) {p q r : Buffered} {old mid new : Ports} → i < length xs
    → PrintsUpTo role whole (flat_map f (drop i xs)) p old q mid → Prints role (f (get_or xs i d)) q mid r new → PrintsUpTo role whole (flat_map f (drop (i + 1) xs)) p old r new
Prints-next f whole xs i d low m n = Prints-piece f whole (drop i xs) (drop (i + 1) xs) (get_or xs i d) m (drop_more xs i d low) n

-- of the members other than one, the next one is printed
pub Prints-other : {role : Role} (f : ℕ → List ℕ) (whole xs : List ℕ) (l i d : ℕ) {p q r : Buffered} {old mid new : Ports} → i < length xs → (get_or xs i d == l) ≡ false
    → PrintsUpTo role whole (flat_map f (without (drop i xs) l)) p old q mid → Prints role (f (get_or xs i d)) q mid r new → PrintsUpTo role whole (flat_map f (without (drop (i + 1) xs) l)) p old r new
Prints-other f whole xs l i d low other m n =
    Prints-piece f whole (without (drop i xs) l) (without (drop (i + 1) xs) l) (get_or xs i d) m
    (ap (λ ys. without ys l) (drop_more xs i d low) ∙ ap (λ b. cond (not b) (get_or xs i d ∷ without (drop (i + 1) xs) l) (without (drop (i + 1) xs) l)) other) n

-- and the one is passed over
pub Prints-passed : {role : Role} (f : ℕ → List ℕ) (whole xs : List ℕ) (l i d : ℕ) {p q : Buffered} {old new : Ports} → i < length xs → (get_or xs i d == l) ≡ true
    → PrintsUpTo role whole (flat_map f (without (drop i xs) l)) p old q new → PrintsUpTo role whole (flat_map f (without (drop (i + 1) xs) l)) p old q new
Prints-passed f whole xs l i d low same m =
    let is : without (drop i xs) l ≡ without (drop (i + 1) xs) l = ap (λ ys. without ys l) (drop_more xs i d low) ∙ ap (λ b. cond (not b) (get_or xs i d ∷ without (drop (i + 1) xs) l) (without (drop (i + 1) xs) l)) same in
    (m.0, m.1, ap (λ ys. m.0 ++ flat_map f ys) (sym is) ∙ m.2)

-- the text of a stack, from the pairs that are held
pub stack_text-held : (variables : ℕ) (pairs : Roomy HeldPair)
    → header_text variables (length pairs.items) ++ flat_map (λ (p : HeldPair). pair_text (pair_of p)) pairs.items ≡ stack_text variables (pairs_of pairs)
stack_text-held variables pairs =
    ap (λ n. header_text variables n ++ flat_map (λ (p : HeldPair). pair_text (pair_of p)) pairs.items) (sym (length-map pairs.items pair_of))
    ∙ ap (λ (t : List ℕ). header_text variables (length (pairs_of pairs)) ++ t) (sym (flat_map-map pair_text pair_of pairs.items))
