-- Lists of entries: what is under a handle, and what a removal and an addition do to it.
use Rattle.std.proofs.Common.{◌≡◌, ◌≢◌, ℕ, cond, eqb, List, [], ◌∷◌, ◌++◌, Option, Some, None, IsSome, refl, sym, ap, subst, ◌∙◌, inl, inr, eq-eqb, ne_eqb}
use Rattle.std.proofs.lemmas.Bool.{cases_eq, false≢true}
use Rattle.cp_chain.specs.Chains.{Entry, Each, AreDistinct, handles, find_item, HasHandle, without, from_handle}

module _ {T : Type 0} where
  pub found-here : (e : Entry T) (es : List (Entry T)) (h : ℕ) → e.handle ≡ h → find_item (e ∷ es) h ≡ Some e.item
  found-here e es h q = ap (λ b. cond b (Some e.item) (find_item es h)) (eq-eqb e.handle h q)

  pub found-later : (e : Entry T) (es : List (Entry T)) (h : ℕ) → e.handle ≢ h → find_item (e ∷ es) h ≡ find_item es h
  found-later e es h n = ap (λ b. cond b (Some e.item) (find_item es h)) (ne_eqb e.handle h n)

  -- a handle that is none of the list's names nothing
  pub none-found : (es : List (Entry T)) (h : ℕ) → Each (λ k. h ≢ k) (handles es) → find_item es h ≡ None
  none-found [] h p = refl
  none-found (e ∷ es) h p = found-later e es h (λ q. p.0 (sym q)) ∙ none-found es h p.1

  -- a handle that names nothing is none of the list's
  pub none-apart : (es : List (Entry T)) (h : ℕ) → find_item es h ≡ None → Each (λ k. k ≢ h) (handles es)
  none-apart [] h p = tt
  none-apart (e ∷ es) h p =
      elim (cases_eq e.handle h) [
        | inl q ↦ let s : Some e.item ≡ None = sym (found-here e es h q) ∙ p in absurd (cc)
        | inr n ↦ (n, none-apart es h (sym (found-later e es h n) ∙ p))
      ]

  -- an entry at the end is found under its handle, if that named nothing
  pub found-pushed : (es : List (Entry T)) (e : Entry T) → find_item es e.handle ≡ None → find_item (es ++ e ∷ []) e.handle ≡ Some e.item
  found-pushed [] e p = found-here e [] e.handle refl
  found-pushed (x ∷ es) e p =
      let apart = none-apart (x ∷ es) e.handle p in
      found-later x (es ++ e ∷ []) e.handle apart.0 ∙ found-pushed es e (sym (found-later x es e.handle apart.0) ∙ p)

  -- an entry among the others changes nothing under another handle
  pub found-beside : (xs : List (Entry T)) (e : Entry T) (ys : List (Entry T)) (h : ℕ) → e.handle ≢ h → find_item (xs ++ e ∷ ys) h ≡ find_item (xs ++ ys) h
  found-beside [] e ys h n = found-later e ys h n
  found-beside (x ∷ xs) e ys h n = ap (λ o. cond (eqb x.handle h) (Some x.item) o) (found-beside xs e ys h n)

  pub found-beside-end : (xs : List (Entry T)) (e : Entry T) (h : ℕ) → e.handle ≢ h → find_item (xs ++ e ∷ []) h ≡ find_item xs h
  found-beside-end [] e h n = found-later e [] h n
  found-beside-end (x ∷ xs) e h n = ap (λ o. cond (eqb x.handle h) (Some x.item) o) (found-beside-end xs e h n)

  -- a list with an entry, cut there
  pub record Cut (es : List (Entry T)) (h : ℕ) (x : T) : Type 0 where
    pub front : List (Entry T)
    pub back : List (Entry T)
    pub whole : es ≡ front ++ record { handle = h; item = x } ∷ back
    pub rest : without es h ≡ front ++ back
    pub onwards : from_handle es h ≡ record { handle = h; item = x } ∷ back

  pub cut : (es : List (Entry T)) (h : ℕ) (x : T) → find_item es h ≡ Some x → Cut es h x
  cut [] h x p = absurd (cc)
  cut (e ∷ es) h x p =
      elim (cases_eq e.handle h) [
        | inl q ↦
            let same : Some e.item ≡ Some x = sym (found-here e es h q) ∙ p in
            let item : e.item ≡ x = cc in
            let entry : e ≡ record { handle = h; item = x } = ap (λ k. record { handle = k; item = e.item }) q ∙ ap (λ y. record { handle = h; item = y }) item in
            record {
              front = [];
              back = es;
              whole = ap (λ y. y ∷ es) entry;
              rest = ap (λ b. cond b es (e ∷ without es h)) (eq-eqb e.handle h q);
              onwards = ap (λ b. cond b (e ∷ es) (from_handle es h)) (eq-eqb e.handle h q) ∙ ap (λ y. y ∷ es) entry;
            }
        | inr n ↦
            let c = cut es h x (sym (found-later e es h n) ∙ p) in
            record {
              front = e ∷ c.front;
              back = c.back;
              whole = ap (λ ys. e ∷ ys) c.whole;
              rest = ap (λ b. cond b es (e ∷ without es h)) (ne_eqb e.handle h n) ∙ ap (λ ys. e ∷ ys) c.rest;
              onwards = ap (λ b. cond b (e ∷ es) (from_handle es h)) (ne_eqb e.handle h n) ∙ c.onwards;
            }
      ]

  -- what a handle names that names something
  pub named : (es : List (Entry T)) (h : ℕ) → HasHandle es h → (x : T) × (find_item es h ≡ Some x)
  named es h p = some-of (find_item es h) p
    where
      some-of : (o : Option T) → IsSome o → (x : T) × (o ≡ Some x)
      some-of None q = absurd (false≢true q)
      some-of (Some x) q = (x, refl)

  -- after a removal the handle names nothing
  pub removed-gone : (es : List (Entry T)) (h : ℕ) → AreDistinct (handles es) → find_item (without es h) h ≡ None
  removed-gone [] h d = refl
  removed-gone (e ∷ es) h d =
      elim (cases_eq e.handle h) [
        | inl q ↦
            ap (λ ys. find_item ys h) (ap (λ b. cond b es (e ∷ without es h)) (eq-eqb e.handle h q)) ∙ none-found es h (subst (λ k. Each (λ j. k ≢ j) (handles es)) q d.0)
        | inr n ↦
            ap (λ ys. find_item ys h) (ap (λ b. cond b es (e ∷ without es h)) (ne_eqb e.handle h n)) ∙ found-later e (without es h) h n ∙ removed-gone es h d.1
      ]

  -- and each other handle names what it named
  pub removed-kept : (es : List (Entry T)) (h k : ℕ) → k ≢ h → find_item (without es h) k ≡ find_item es k
  removed-kept [] h k n = refl
  removed-kept (e ∷ es) h k n =
      elim (cases_eq e.handle h) [
        | inl q ↦
            ap (λ ys. find_item ys k) (ap (λ b. cond b es (e ∷ without es h)) (eq-eqb e.handle h q)) ∙ sym (found-later e es k (λ r. n (sym r ∙ q)))
        | inr m ↦
            ap (λ ys. find_item ys k) (ap (λ b. cond b es (e ∷ without es h)) (ne_eqb e.handle h m)) ∙ ap (λ o. cond (eqb e.handle k) (Some e.item) o) (removed-kept es h k n)
      ]

  -- after an addition each handle names what it named
  pub pushed-kept : (es : List (Entry T)) (e : Entry T) (k : ℕ) (x : T) → find_item es k ≡ Some x → find_item (es ++ e ∷ []) k ≡ Some x
  pushed-kept [] e k x p = absurd (cc)
  pushed-kept (y ∷ es) e k x p =
      elim (cases_eq y.handle k) [
        | inl q ↦ found-here y (es ++ e ∷ []) k q ∙ sym (found-here y es k q) ∙ p
        | inr n ↦ found-later y (es ++ e ∷ []) k n ∙ pushed-kept es e k x (sym (found-later y es k n) ∙ p)
      ]
