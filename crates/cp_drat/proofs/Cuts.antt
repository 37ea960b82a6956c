-- Items up to the empty clause.
use Rattle.std.proofs.Common.{◌≡◌, ◌||◌, cond, true, false, Bool, ℕ, List, [], ◌∷◌, ◌++◌, map, refl, sym, ◌∙◌, ap}
use Rattle.std.proofs.lemmas.List.{map-append}
use Rattle.cp_logic.specs.declared.named.Named.{Named}
use Rattle.cp_logic.specs.Literals.{positive, negative}
use Rattle.cp_logic.specs.Rules.{Rule, Add, Weaken}
use Rattle.cp_logic.specs.Entries.{Eliminate, expand}
use Rattle.cp_logic.specs.Journals.{Post, expansion}
use Rattle.cp_drat.specs.Log.{Item, item_of, items_of, lemma_of, deletion_of, is_end, has_end, cut, log_of}

-- items without the empty clause stay whole, and what follows them is cut
pub cut-append : (is js : List Item) → has_end is ≡ false → cut (is ++ js) ≡ is ++ cut js
cut-append [] js none = refl
cut-append (i ∷ is) js none = go (is_end i) none (cut-append is js)
  where
    go : (b : Bool) → (b || has_end is) ≡ false → (has_end is ≡ false → cut (is ++ js) ≡ is ++ cut js) → i ∷ cond b [] (cut (is ++ js)) ≡ i ∷ (is ++ cut js)
    go true n more = absurd cc
    go false n more = ap (λ ks. i ∷ ks) (more n)

-- and behind the empty clause nothing follows
pub cut-ended : (is js : List Item) → has_end is ≡ true → cut (is ++ js) ≡ cut is
cut-ended [] js some = absurd cc
cut-ended (i ∷ is) js some = go (is_end i) some (cut-ended is js)
  where
    go : (b : Bool) → (b || has_end is) ≡ true → (has_end is ≡ true → cut (is ++ js) ≡ cut is) → i ∷ cond b [] (cut (is ++ js)) ≡ i ∷ cond b [] (cut is)
    go true n more = refl
    go false n more = ap (λ ks. i ∷ ks) (more n)

pub cut-whole : (is : List Item) → has_end is ≡ false → cut is ≡ is
cut-whole [] none = refl
cut-whole (i ∷ is) none = go (is_end i) none (cut-whole is)
  where
    go : (b : Bool) → (b || has_end is) ≡ false → (has_end is ≡ false → cut is ≡ is) → i ∷ cond b [] (cut is) ≡ i ∷ is
    go true n more = absurd cc
    go false n more = ap (λ ks. i ∷ ks) (more n)

pub cut-end : (i : Item) (is : List Item) → is_end i ≡ true → cut (i ∷ is) ≡ i ∷ []
cut-end i is end = ap (λ b. i ∷ cond b [] (cut is)) end

pub cut-next : (i : Item) (is : List Item) → is_end i ≡ false → cut (i ∷ is) ≡ i ∷ cut is
cut-next i is more = ap (λ b. i ∷ cond b [] (cut is)) more

pub has_end-append : (is js : List Item) → has_end is ≡ false → has_end (is ++ js) ≡ has_end js
has_end-append [] js none = refl
has_end-append (i ∷ is) js none = go (is_end i) none (has_end-append is js)
  where
    go : (b : Bool) → (b || has_end is) ≡ false → (has_end is ≡ false → has_end (is ++ js) ≡ has_end js) → (b || has_end (is ++ js)) ≡ has_end js
    go true n more = absurd cc
    go false n more = more n

pub has_end-ended : (is js : List Item) → has_end is ≡ true → has_end (is ++ js) ≡ true
has_end-ended [] js some = absurd cc
has_end-ended (i ∷ is) js some = go (is_end i) some (has_end-ended is js)
  where
    go : (b : Bool) → (b || has_end is) ≡ true → (has_end is ≡ true → has_end (is ++ js) ≡ true) → (b || has_end (is ++ js)) ≡ true
    go true n more = refl
    go false n more = more n

pub has_end-next : (i : Item) (is : List Item) → is_end i ≡ false → has_end (i ∷ is) ≡ has_end is
has_end-next i is more = ap (λ b. b || has_end is) more

-- deletions have no end
pub has_end-deletions : (pos neg : List Named) → has_end (map deletion_of pos ++ map deletion_of neg) ≡ false
has_end-deletions [] [] = refl
has_end-deletions [] (c ∷ neg) = has_end-deletions [] neg
has_end-deletions (c ∷ pos) neg = has_end-deletions pos neg

item_of-map : (rule : Named → Rule) (item : Named → Item) → ((c : Named) → item_of (rule c) ≡ item c) → (cs : List Named) → map item_of (map rule cs) ≡ map item cs
item_of-map rule item same [] = refl
item_of-map rule item same (c ∷ cs) = ap (λ i. i ∷ map item_of (map rule cs)) (same c) ∙ ap (λ is. item c ∷ is) (item_of-map rule item same cs)

-- the items of an elimination
pub items_of-eliminate : (x : ℕ) (pos neg new : List Named) → items_of (Eliminate x pos neg new) ≡ map lemma_of new ++ (map deletion_of pos ++ map deletion_of neg)
items_of-eliminate x pos neg new =
    map-append item_of (map Add new) (map (λ c. Weaken c (positive x)) pos ++ map (λ c. Weaken c (negative x)) neg)
    ∙ ap (λ is. map item_of (map Add new) ++ is) (map-append item_of (map (λ c. Weaken c (positive x)) pos) (map (λ c. Weaken c (negative x)) neg))
    ∙ ap (λ is. is ++ (map item_of (map (λ c. Weaken c (positive x)) pos) ++ map item_of (map (λ c. Weaken c (negative x)) neg))) (item_of-map Add lemma_of (λ c. refl) new)
    ∙ ap (λ is. map lemma_of new ++ (is ++ map item_of (map (λ c. Weaken c (negative x)) neg))) (item_of-map (λ c. Weaken c (positive x)) deletion_of (λ c. refl) pos)
    ∙ ap (λ is. map lemma_of new ++ (map deletion_of pos ++ is)) (item_of-map (λ c. Weaken c (negative x)) deletion_of (λ c. refl) neg)

-- the log of a post and those after it: where the post's items have no end, and where they have one
pub log_of-next : (p : Post) (ps : List Post) → has_end (items_of p.entry) ≡ false → log_of (p ∷ ps) ≡ cut (items_of p.entry) ++ log_of ps
log_of-next p ps none =
    ap cut (map-append item_of (expand p.entry) (expansion ps)) ∙ cut-append (items_of p.entry) (map item_of (expansion ps)) none
    ∙ ap (λ is. is ++ log_of ps) (sym (cut-whole (items_of p.entry) none))

pub log_of-ended : (p : Post) (ps : List Post) → has_end (items_of p.entry) ≡ true → log_of (p ∷ ps) ≡ cut (items_of p.entry)
log_of-ended p ps some = ap cut (map-append item_of (expand p.entry) (expansion ps)) ∙ cut-ended (items_of p.entry) (map item_of (expansion ps)) some
