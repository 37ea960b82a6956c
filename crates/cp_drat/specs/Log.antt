-- The proof log of a journal: lemmas and deletions, as DRAT has them.
use Rattle.std.specs.Prelude.{ℕ, List, [], ◌∷◌, map, Bool, true, false, ◌||◌, if◌then◌else◌}
use Rattle.cp_logic.specs.declared.named.Named.{Named}
use Rattle.cp_logic.specs.Rules.{Rule, Add, Drop, Weaken}
use Rattle.cp_logic.specs.Entries.{Entry, expand}
use Rattle.cp_logic.specs.Journals.{Post, expansion}

-- a clause that is added, or one that is deleted
pub data Item : Type 0 where
  Lemma : (clause : List ℕ) → Item
  Deletion : (clause : List ℕ) → Item

-- a clause that was added is a lemma, and one that was dropped or weakened is deleted
abbrev pub item_of : Rule → Item
item_of (Add c) = Lemma c.clause
item_of (Drop c) = Deletion c.clause
item_of (Weaken c l) = Deletion c.clause

abbrev pub lemma_of : Named → Item
lemma_of c = Lemma c.clause

abbrev pub deletion_of : Named → Item
deletion_of c = Deletion c.clause

-- the items of an entry's rules, in their order
abbrev pub items_of : Entry → List Item
items_of e = map item_of (expand e)

-- whether the item adds the empty clause
abbrev pub is_end : Item → Bool
is_end (Lemma []) = true
is_end (Lemma (l ∷ ls)) = false
is_end (Deletion c) = false

-- whether one of them does
abbrev pub has_end : List Item → Bool
has_end [] = false
has_end (i ∷ is) = is_end i || has_end is

-- the items up to the first that adds the empty clause, that one included
abbrev pub cut : List Item → List Item
cut [] = []
cut (i ∷ is) = i ∷ (if is_end i then [] else cut is)

-- The items of the rules that the posts stand for, in their order. Nothing follows the empty clause.
abbrev pub log_of : List Post → List Item
log_of posts = cut (map item_of (expansion posts))
