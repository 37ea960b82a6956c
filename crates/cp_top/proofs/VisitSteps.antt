-- The posts of a visit by the only worker, told from the journal alone, and that two such visits after the same posts make the same ones.
use Rattle.std.proofs.Common.{◌≡◌, ℕ, List, [], ◌∷◌, ◌++◌, Option, Some, None, refl, sym, ◌∙◌, ap, subst, inl, inr, append_assoc}
use Rattle.std.specs.Prelude.{◌⊎◌, is_some}
use Rattle.std.proofs.lemmas.Option.{none-some, same_Some}
use Rattle.cp_logic.specs.declared.named.Named.{Named}
use Rattle.cp_logic.specs.declared.stop.Stop.{Stop}
use Rattle.cp_logic.specs.Entries.{Entry}
use Rattle.cp_logic.specs.Legality.{first_in}
use Rattle.cp_logic.specs.Journals.{Post, IsLegalJournal}
use Rattle.cp_logic.specs.Locality.{after}
use Rattle.cp_yard.specs.Views.{Base}
use Rattle.cp_yard.specs.Rule.{IsPrefix}
use Rattle.cp_hood.specs.Commits.{post_after, IsStopAfter}
use Rattle.cp_top.proofs.Following.{prefix_through, no_stop}

-- at x, which has these clauses after the posts h, the search gives nothing; or the run had stopped for the entry that it gives
abbrev pub IsEnd : Base → ℕ → List Named → List Post → Option Stop → Type 0
IsEnd f x cs h stop =
    ((first_in cs f.rules 1 x ≡ None) × (stop ≡ None))
    ⊎ ((e : Entry) × (s : Stop) × (j : List Post) × (first_in cs f.rules 1 x ≡ Some e) × (stop ≡ Some s) × IsPrefix j h × IsStopAfter f j e s)

-- the posts at x after h, where x has these clauses: each is what the search gives after those before it, and they end so
abbrev pub AreSteps : Base → ℕ → List Named → List Post → List Post → Option Stop → Type 0
AreSteps f x cs h [] stop = IsEnd f x cs h stop
AreSteps f x cs h (p ∷ ps) stop =
    (e : Entry) × (first_in cs f.rules 1 x ≡ Some e) × (p ≡ post_after f h 1 1 e) × AreSteps f x (after cs x p.entry) (h ++ p ∷ []) ps stop

pub prefix_first : (h : List Post) (p : Post) (ps w : List Post) → IsPrefix (h ++ p ∷ ps) w → IsPrefix (h ++ p ∷ []) w
prefix_first h p ps w front = prefix_through (h ++ p ∷ []) (h ++ p ∷ ps) w (ps, append_assoc h (p ∷ []) ps) front

pub prefix_rest : (h : List Post) (p : Post) (ps w : List Post) → IsPrefix (h ++ p ∷ ps) w → IsPrefix ((h ++ p ∷ []) ++ ps) w
prefix_rest h p ps w front = subst (λ l. IsPrefix l w) (sym (append_assoc h (p ∷ []) ps)) front

module _ (f : Base) (x : ℕ) where
  -- where one run posts, another has no end
  no_end : (w : List Post) → IsLegalJournal f.formula f.rules w → (cs : List Named) (h : List Post) (p : Post) (ps : List Post) (stop more : Option Stop)
      → IsEnd f x cs h stop → AreSteps f x cs h (p ∷ ps) more → IsPrefix (h ++ p ∷ ps) w → ⊥
  no_end w legal cs h p ps stop more (inl (none, is)) (e, some, entry, rest) front = none-some e (sym none ∙ some)
  no_end w legal cs h p ps stop more (inr (d, s, j, gives, is, before, stops)) (e, some, entry, rest) front =
      let same : d ≡ e = same_Some d e (sym gives ∙ some) in
      no_stop f w h p e legal (prefix_first h p ps w front) (ap (λ (q : Post). q.entry) entry) j s before (subst (λ c. IsStopAfter f j c s) same stops)

  ends_same : (cs : List Named) (h : List Post) (stop more : Option Stop) → IsEnd f x cs h stop → IsEnd f x cs h more → is_some stop ≡ is_some more
  ends_same cs h stop more (inl (none, is)) (inl (nil, too)) = ap is_some (is ∙ sym too)
  ends_same cs h stop more (inl (none, is)) (inr (e, s, j, gives, too, before, stops)) = absurd (none-some e (sym none ∙ gives))
  ends_same cs h stop more (inr (e, s, j, gives, too, before, stops)) (inl (none, is)) = absurd (none-some e (sym none ∙ gives))
  ends_same cs h stop more (inr (e, s, j, gives, is, before, stops)) (inr (d, t, k, given, too, first, stopped)) = ap is_some is ∙ sym (ap is_some too)

  module _ (w v : List Post) (w_legal : IsLegalJournal f.formula f.rules w) (v_legal : IsLegalJournal f.formula f.rules v) where
    -- two runs with the same posts before, and the same clauses at x, go on with the same posts there, and both stop or neither
    pub steps_same : (ps qs : List Post) (cs : List Named) (h : List Post) (stop more : Option Stop) → AreSteps f x cs h ps stop → AreSteps f x cs h qs more
        → IsPrefix (h ++ ps) w → IsPrefix (h ++ qs) v → (ps ≡ qs) × (is_some stop ≡ is_some more)
    steps_same [] [] cs h stop more is too front second = (refl, ends_same cs h stop more is too)
    steps_same [] (q ∷ qs) cs h stop more is too front second = absurd (no_end v v_legal cs h q qs stop more is too second)
    steps_same (p ∷ ps) [] cs h stop more is too front second = absurd (no_end w w_legal cs h p ps more stop too is front)
    steps_same (p ∷ ps) (q ∷ qs) cs h stop more (e, some, entry, rest) (d, given, other, later) front second =
        let es : e ≡ d = same_Some e d (sym some ∙ given) in
        let one : q ≡ p = other ∙ ap (post_after f h 1 1) (sym es) ∙ sym entry in
        let tail = steps_same ps qs (after cs x p.entry) (h ++ p ∷ []) stop more rest
        (subst (λ (r : Post). AreSteps f x (after cs x r.entry) (h ++ r ∷ []) qs more) one later)
        (prefix_rest h p ps w front) (subst (λ (r : Post). IsPrefix ((h ++ r ∷ []) ++ qs) v) one (prefix_rest h q qs v second)) in
        ((λ i. sym one i ∷ tail.0 i), tail.1)
