-- What a commit comes to, by what it found under the turn.
use Rattle.std.proofs.Common.{◌≡◌, ℕ, ◌+◌, ◌<◌, Bool, true, false, cond, List, [], ◌∷◌, ◌++◌, length, Some, None, Result, Ok, Err, OnOk, is_err, refl, sym, ◌∙◌, ap, subst, inl}
use Rattle.std.specs.Prelude.{is_some, nat_lt}
use Rattle.cp_logic.specs.declared.named.Named.{Named}
use Rattle.cp_logic.specs.declared.settings.Rules.{Rules}
use Rattle.cp_logic.specs.declared.stop.Stop.TheVariants.{Refuted as StopRefuted, Spent as StopSpent}
use Rattle.cp_logic.specs.Formulas.{has_empty}
use Rattle.cp_logic.specs.Entries.{Entry, numbered}
use Rattle.cp_logic.specs.Journals.{Post, commits, number_limit}
use Rattle.cp_logic.specs.Legality.{is_legal_in}
use Rattle.cp_logic.specs.Sweeps.{is_spent}
use Rattle.cp_logic.proofs.Locals.{legal_in-local}
use Rattle.cp_book.specs.Answers.{passes_numbers}
use Rattle.cp_book.specs.Views.{BookView, current, stop_in, with_post as book_with}
use Rattle.cp_book.proofs.Choices.{answer-tested}
use Rattle.cp_book.proofs.Commits.{numbered-again, count-numbered}
use Rattle.cp_book.proofs.EmptyFacts.{least-none}
use Rattle.cp_occ.specs.Changes.{lists_after}
use Rattle.cp_yard.specs.declared.yard.Receipt.{Receipt}
use Rattle.cp_yard.specs.Views.{Base, Note, GotTurn, MetTurn, SeatView, base_of, held_of, noted, with_turn, without_turn, with_post}
use Rattle.cp_yard.specs.Rule.{clauses_at}
use Rattle.cp_hood.specs.declared.answers.CommitAnswer.{CommitAnswer}
use Rattle.cp_hood.specs.declared.answers.CommitAnswer.TheVariants.{TurnHeld, Refuted, Spent, Numbers, NoMemory}
use Rattle.cp_hood.specs.Hoods.{HoodView, IsHood, IsLegalAt, AreOccurrences, HoldsJust}
use Rattle.cp_hood.specs.Seats.{GoesOn, met_turns, noted_all}
use Rattle.cp_hood.specs.Commits.{IsCommit, IsCurrent, IsHoodAfter, IsSameHood, IsRefusal, IsTaken, post_after}
use Rattle.cp_hood.proofs.Centred.{legal_in-numbered}
use Rattle.cp_hood.proofs.Following.{AreOccurrences-held, centre-occurrences}
use Rattle.cp_hood.proofs.Turns.{GoesOn-met, GoesOn-ended, GoesOn-posted, HoldsJust-met, HoldsJust-ended, HoldsJust-posted}

-- where there is no error, what holds without one
pub on-ok : {A B X : Type 0} (r : Result A B) → is_err r ≡ false → OnOk r X → X
on-ok (Ok a) h x = x
on-ok (Err b) h x = cc

-- a stop where no clause is empty is that of the budget
pub spent-stop : (b : BookView) → has_empty (current b).clauses ≡ false → is_some (stop_in b) ≡ true → is_spent b.rules (commits b.posts) ≡ true
spent-stop b h s = go (has_empty (current b).clauses) (is_spent b.rules (commits b.posts)) h s
  where
    go : (e k : Bool) → e ≡ false → is_some (cond e (Some StopRefuted) (cond k (Some StopSpent) None)) ≡ true → k ≡ true
    go true k h s = cc
    go false true h s = refl
    go false false h s = s

-- the posts of a book with a post of an entry that has its numbers
pub posts-made : (b c : BookView) (e : Entry) (worker number round : ℕ) → c ≡ book_with b number round e → number ≡ worker → e ≡ numbered (current b).next e
    → c.posts ≡ b.posts ++ record { worker = worker; round = round; entry = e } ∷ []
posts-made b c e worker number round p n s = ap (λ (z : BookView). z.posts) p ∙ (λ i. b.posts ++ (let q : Post = record { worker = n i; round = round; entry = sym s i } in q) ∷ [])

same_hood : (h : HoodView) → IsSameHood h h
same_hood h = record { centre = refl; clauses = refl; variables = refl; lists = refl }

-- what the seat holds agrees with the book, so its hood is current
pub is-current : (v : SeatView) (b : BookView) (h : HoodView) → IsHood h → HoldsJust v h.cells
    → ((x : ℕ) (cs : List Named) → held_of x v.held ≡ Some cs → cs ≡ clauses_at (base_of b) b.posts x) → IsCurrent (base_of b) b.posts h
is-current v b h is holds held = centre-occurrences (current b).clauses h.centre h.cells (AreOccurrences-held (current b).clauses h.cells v.held is.ascending holds.held held) is.centre

-- each try met a seat
module _ (v w : SeatView) (e : Entry) (h : HoodView) (round tries by : ℕ) (met : List ℕ) (many : length met + 1 ≡ tries) (is : w ≡ noted (MetTurn by) (noted_all (met_turns met) v)) where
  pub held-commit : (notes : List Note) × (posts : List (ℕ × Post)) × GoesOn v w notes posts × IsCommit v.base v.number round tries e h h notes posts (Err (TurnHeld by))
  held-commit = (
    met_turns met ++ MetTurn by ∷ [],
    [],
    subst (λ (z : SeatView). GoesOn v z (met_turns met ++ MetTurn by ∷ []) []) (sym is) (GoesOn-met v met by),
    ((met, many, refl), refl, same_hood h),
  )

  pub held-holds : HoldsJust v h.cells → HoldsJust w h.cells
  held-holds k = subst (λ (z : SeatView). HoldsJust z h.cells) (sym is) (HoldsJust-met v met by h.cells k)

-- a try got the turn
module _ (v w : SeatView) (b : BookView) (tries : ℕ) (met : List ℕ) (few : length met < tries) (got : w ≡ with_turn b.posts (noted_all (met_turns met) v)) (base : base_of b ≡ v.base) where
  -- which ended with no post
  module _ (u : SeatView) (ended : u ≡ without_turn w) (e : Entry) (h : HoodView) (round : ℕ) where
    goes : GoesOn v u (met_turns met ++ GotTurn b.posts ∷ []) []
    goes = subst (λ (z : SeatView). GoesOn v z (met_turns met ++ GotTurn b.posts ∷ []) []) (sym (ended ∙ ap without_turn got)) (GoesOn-ended v met b.posts)

    pub ended-holds : HoldsJust v h.cells → HoldsJust u h.cells
    ended-holds k = subst (λ (z : SeatView). HoldsJust z h.cells) (sym (ended ∙ ap without_turn got)) (HoldsJust-ended v met b.posts h.cells k)

    refused : IsCurrent (base_of b) b.posts h → (a : CommitAnswer) → IsRefusal b e a → IsCommit (base_of b) v.number round tries e h h (met_turns met ++ GotTurn b.posts ∷ []) [] (Err a)
    refused k (TurnHeld by) r = absurd r
    refused k (Refuted empty) r = (b.posts, (met, few, refl), k, r.0, r.1, refl, same_hood h)
    refused k (Spent len) r = (b.posts, (met, few, refl), k, r.0, r.1, refl, same_hood h)
    refused k (Numbers next) r = (b.posts, (met, few, refl), k, r.0, r.1, refl, same_hood h)
    refused k NoMemory r = absurd r

    pub refused-commit : IsCurrent (base_of b) b.posts h → (a : CommitAnswer) → IsRefusal b e a
        → (notes : List Note) × (posts : List (ℕ × Post)) × GoesOn v u notes posts × IsCommit v.base v.number round tries e h h notes posts (Err a)
    refused-commit k a r = (
      met_turns met ++ GotTurn b.posts ∷ [],
      [],
      goes,
      subst (λ (f : Base). IsCommit f v.number round tries e h h (met_turns met ++ GotTurn b.posts ∷ []) [] (Err a)) base (refused k a r),
    )

    pub lacking-commit : IsCurrent (base_of b) b.posts h → (notes : List Note) × (posts : List (ℕ × Post)) × GoesOn v u notes posts × IsCommit v.base v.number round tries e h h notes posts (Err NoMemory)
    lacking-commit k = (met_turns met ++ GotTurn b.posts ∷ [], [], goes, (b.posts, (met, few, refl), subst (λ (f : Base). IsCurrent f b.posts h) base k, refl, same_hood h))

  -- which ended with the post of the entry, as it is numbered
  module _ (u : SeatView) (c : BookView) (e d : Entry) (old new : HoodView) (round : ℕ) (posts : c.posts ≡ b.posts) (numbers : d ≡ numbered (current b).next e)
      (ended : u ≡ with_post (length c.posts) (record { worker = w.number; round = round; entry = d }) w) (after : IsHoodAfter d old new) where
    abbrev made : Post
    made = post_after (base_of b) b.posts v.number round e

    is : u ≡ with_post (length b.posts) made (with_turn b.posts (noted_all (met_turns met) v))
    is = ended ∙ (λ i. with_post (length (posts i)) (record { worker = (got i).number; round = round; entry = numbers i }) (got i))

    pub posted-holds : HoldsJust v old.cells → HoldsJust u new.cells
    posted-holds k = subst (λ (z : SeatView). HoldsJust z new.cells) (sym is)
        (HoldsJust-posted v met b.posts (length b.posts) made old.cells new.cells k after.variables (after.lists ∙ ap (lists_after old.cells) numbers))

    pub posted-commit : IsCurrent (base_of b) b.posts old → (r : Receipt) → r.position ≡ length c.posts
        → (notes : List Note) × (posts : List (ℕ × Post)) × GoesOn v u notes posts × IsCommit v.base v.number round tries e old new notes posts (Ok r)
    posted-commit k r p = (
      met_turns met ++ GotTurn b.posts ∷ [],
      (length b.posts, made) ∷ [],
      subst (λ (z : SeatView). GoesOn v z (met_turns met ++ GotTurn b.posts ∷ []) ((length b.posts, made) ∷ [])) (sym is) (GoesOn-posted v met b.posts (length b.posts) made),
      subst (λ (f : Base). IsCommit f v.number round tries e old new (met_turns met ++ GotTurn b.posts ∷ []) ((length b.posts, made) ∷ []) (Ok r)) base
          (b.posts, (met, few, refl), k, p ∙ ap length posts, refl, subst (λ (z : Entry). IsHoodAfter z old new) numbers after),
    )

-- the book takes an entry that is legal at the centre, where it isn't refused
module _ (b c : BookView) (e d : Entry) (h : HoodView) (rules : Rules) (is : IsHood h) (all : AreOccurrences (current b).clauses h.cells) (l : IsLegalAt rules h e) (rs : b.rules ≡ rules)
    (same : c ≡ record b { prepared = c.prepared }) (numbers : d ≡ numbered (current b).next e) where
  legal : is_legal_in (current b).clauses b.rules e ≡ true
  legal = ap (λ (z : Rules). is_legal_in (current b).clauses z e) rs ∙ legal_in-local (current b).clauses rules h.centre e (inl l.at)
      ∙ ap (λ cs. is_legal_in cs rules e) (sym (centre-occurrences (current b).clauses h.centre h.cells all is.centre)) ∙ l.legal

  legal-numbered : is_legal_in (current b).clauses b.rules d ≡ true
  legal-numbered = ap (is_legal_in (current b).clauses b.rules) numbers ∙ legal_in-numbered (current b).clauses b.rules (current b).next e ∙ legal

  pub taken : has_empty (current b).clauses ≡ false → is_spent b.rules (commits b.posts) ≡ false → passes_numbers (current b) e ≡ false → c.prepared ≡ Some d → IsTaken c d
  taken filled unspent fits ready = subst (λ (z : BookView). IsTaken z d) (sym same) (record {
    prepared = ready;
    numbered = numbers ∙ numbered-again (current b).next e ∙ ap (numbered (current b).next) (sym numbers);
    legal = legal-numbered;
    answer = answer-tested (record b { prepared = c.prepared }) d (least-none (current b).clauses filled) unspent
        (ap (passes_numbers (current b)) numbers ∙ ap (λ n. nat_lt number_limit ((current b).next + n)) (count-numbered (current b).next e) ∙ fits);
  })
