-- Where the empty clauses are.
use Rattle.std.proofs.Common.{◌≡◌, ℕ, ◌+◌, ◌<◌, length, drop, get_or, arith, Bool, true, false, cond, not, ◌||◌, List, [], ◌∷◌, ◌++◌, Option, Some, None, refl, sym, ◌∙◌, ap, append_assoc}
use Rattle.std.specs.Prelude.{is_some, ◌==◌, slice_get}
use Rattle.std.specs.Option.{option_map}
use Rattle.std.specs.List.{Contains, find, filter}
use Rattle.std.proofs.lemmas.Bool.{false_from_ne_true, false≢true, ne_eqb}
use Rattle.cp_logic.specs.declared.named.Named.{Named}
use Rattle.cp_logic.specs.Clauses.{contains, is_empty}
use Rattle.cp_logic.specs.Formulas.{has_empty, numbers_of, without_numbers}
use Rattle.cp_logic.proofs.Members.{any_from, of_filter, in_here, in_later}
use Rattle.cp_logic.proofs.ListFacts.{drop-at}
use Rattle.cp_book.specs.Empties.{least_empty, empty_numbers}

abbrev empty_clause : Named → Bool
empty_clause c = is_empty c.clause

-- there is an empty clause exactly where there is a least number of one
pub has_empty-least : (cs : List Named) → has_empty cs ≡ is_some (least_empty cs)
has_empty-least [] = refl
has_empty-least (c ∷ cs) = go (is_empty c.clause) (has_empty-least cs)
  where
    go : (b : Bool) → has_empty cs ≡ is_some (least_empty cs) → (b || has_empty cs) ≡ is_some (option_map (λ (d : Named). d.number) (cond b (Some c) (find empty_clause cs)))
    go true more = refl
    go false more = more

-- where no clause is empty, there is no least number of one
pub no_empty-least : (cs : List Named) → least_empty cs ≡ None → has_empty cs ≡ false
no_empty-least cs e = has_empty-least cs ∙ ap is_some e

pub least-none : (cs : List Named) → has_empty cs ≡ false → least_empty cs ≡ None
least-none cs h = go (least_empty cs) (sym (has_empty-least cs) ∙ h)
  where
    go : (o : Option ℕ) → is_some o ≡ false → o ≡ None
    go None q = refl
    go (Some n) q = cc

-- the first of the numbers is the least
pub first-empty : (cs : List Named) → slice_get (empty_numbers cs) 0 ≡ least_empty cs
first-empty [] = refl
first-empty (c ∷ cs) = go (is_empty c.clause) (first-empty cs)
  where
    go : (b : Bool) → slice_get (empty_numbers cs) 0 ≡ least_empty cs → slice_get (numbers_of (cond b (c ∷ filter empty_clause cs) (filter empty_clause cs))) 0 ≡ option_map (λ (d : Named). d.number) (cond b (Some c) (find empty_clause cs))
    go true more = refl
    go false more = more

-- a clause more in front
pub empty_numbers-empty : (c : Named) (cs : List Named) → is_empty c.clause ≡ true → empty_numbers (c ∷ cs) ≡ c.number ∷ empty_numbers cs
empty_numbers-empty c cs e = ap (λ b. numbers_of (cond b (c ∷ filter empty_clause cs) (filter empty_clause cs))) e

pub empty_numbers-other : (c : Named) (cs : List Named) → is_empty c.clause ≡ false → empty_numbers (c ∷ cs) ≡ empty_numbers cs
empty_numbers-other c cs e = ap (λ b. numbers_of (cond b (c ∷ filter empty_clause cs) (filter empty_clause cs))) e

-- where there is no least number, there is none
pub empty_numbers-none : (cs : List Named) → least_empty cs ≡ None → empty_numbers cs ≡ []
empty_numbers-none cs e = go (empty_numbers cs) (first-empty cs ∙ e)
  where
    go : (ns : List ℕ) → slice_get ns 0 ≡ None → ns ≡ []
    go [] q = refl
    go (n ∷ ns) q = cc

-- clauses of which none is empty add none
empty_numbers-after : (cs new : List Named) → ((c : Named) → Contains cs c → is_empty c.clause ≡ false) → empty_numbers (cs ++ new) ≡ empty_numbers new
empty_numbers-after [] new others = refl
empty_numbers-after (c ∷ cs) new others =
    empty_numbers-other c (cs ++ new) (others c (in_here c c cs refl)) ∙ empty_numbers-after cs new (λ d i. others d (in_later d c cs i))

-- where no clause is empty, the empty ones after a removal and an addition are among the new ones
pub empty_numbers-changed : (cs new : List Named) (numbers : List ℕ) → has_empty cs ≡ false → empty_numbers (without_numbers cs numbers ++ new) ≡ empty_numbers new
empty_numbers-changed cs new numbers h =
    empty_numbers-after (without_numbers cs numbers) new
    (λ c i. false_from_ne_true (empty_clause c) (λ t. no c (of_filter (λ (d : Named). not (contains numbers d.number)) cs c i).0 t))
  where
    no : (c : Named) → Contains cs c → empty_clause c ≡ true → ⊥
    no c i t = false≢true (sym h ∙ any_from empty_clause cs c i t)

-- one clause more is read
pub empty_numbers-read : (cs : List Named) (i : ℕ) (c : Named) (held listed : List ℕ) → i < length cs → c ≡ get_or cs i c → is_empty c.clause ≡ true
    → held ++ empty_numbers (drop i cs) ≡ listed → (held ++ c.number ∷ []) ++ empty_numbers (drop (i + 1) cs) ≡ listed
empty_numbers-read cs i c held listed h at e k =
    append_assoc held (c.number ∷ []) (empty_numbers (drop (i + 1) cs)) ∙ ap (λ ns. held ++ ns) (sym (ap empty_numbers (drop-at cs i c h at) ∙ empty_numbers-empty c (drop (i + 1) cs) e)) ∙ k

pub empty_numbers-passed : (cs : List Named) (i : ℕ) (c : Named) (held listed : List ℕ) → i < length cs → c ≡ get_or cs i c → is_empty c.clause ≡ false
    → held ++ empty_numbers (drop i cs) ≡ listed → held ++ empty_numbers (drop (i + 1) cs) ≡ listed
empty_numbers-passed cs i c held listed h at e k =
    ap (λ ns. held ++ ns) (sym (ap empty_numbers (drop-at cs i c h at) ∙ empty_numbers-other c (drop (i + 1) cs) e)) ∙ k

pub empty-length : (ls : List ℕ) → (length ls == 0) ≡ is_empty ls
empty-length [] = refl
empty-length (l ∷ ls) = ne_eqb (length (l ∷ ls)) 0 (omega arith)
