-- How a seat goes on.
use Rattle.std.proofs.Common.{ℕ, List, [], ◌∷◌, ◌++◌, length, append_assoc, append-nil, refl, sym, ap, ◌∙◌}
use Rattle.cp_logic.specs.declared.named.Named.{Named}
use Rattle.cp_logic.specs.Journals.{Post}
use Rattle.cp_yard.specs.Views.{Note, Got, SeatView, noted, with_lock, unlocked}
use Rattle.cp_hood.specs.Seats.{GoesOn}

pub GoesOn-none : (v : SeatView) → GoesOn v v [] []
GoesOn-none v = record { base = refl; number = refl; made = refl; own = refl; others = refl; notes = sym (append-nil v.own.notes); posts = sym (append-nil v.own.posts) }

pub GoesOn-then : (u v w : SeatView) (ns ms : List Note) (ps qs : List (ℕ × Post)) → GoesOn u v ns ps → GoesOn v w ms qs → GoesOn u w (ns ++ ms) (ps ++ qs)
GoesOn-then u v w ns ms ps qs g h = record {
  base = h.base ∙ g.base;
  number = h.number ∙ g.number;
  made = h.made ∙ g.made;
  own = h.own ∙ g.own;
  others = h.others ∙ g.others;
  notes = h.notes ∙ ap (λ (xs : List Note). xs ++ ms) g.notes ∙ append_assoc u.own.notes ns ms;
  posts = h.posts ∙ ap (λ (xs : List (ℕ × Post)). xs ++ qs) g.posts ∙ append_assoc u.own.posts ps qs;
}

pub GoesOn-unlocked : (x : ℕ) (v : SeatView) → GoesOn v (unlocked x v) [] []
GoesOn-unlocked x v = record { base = refl; number = refl; made = refl; own = refl; others = refl; notes = sym (append-nil v.own.notes); posts = sym (append-nil v.own.posts) }

pub GoesOn-noted : (n : Note) (v : SeatView) → GoesOn v (noted n v) (n ∷ []) []
GoesOn-noted n v = record { base = refl; number = refl; made = refl; own = refl; others = refl; notes = refl; posts = sym (append-nil v.own.posts) }

pub GoesOn-locked : (x : ℕ) (cs : List Named) (v : SeatView) → GoesOn v (with_lock x cs v) (Got x cs (length v.own.posts) ∷ []) []
GoesOn-locked x cs v = record { base = refl; number = refl; made = refl; own = refl; others = refl; notes = refl; posts = sym (append-nil v.own.posts) }

-- and then with no note and no post
pub GoesOn-back : (u v w : SeatView) (ns : List Note) (ps : List (ℕ × Post)) → GoesOn u v ns ps → GoesOn v w [] [] → GoesOn u w ns ps
GoesOn-back u v w ns ps g h = record {
  base = h.base ∙ g.base;
  number = h.number ∙ g.number;
  made = h.made ∙ g.made;
  own = h.own ∙ g.own;
  others = h.others ∙ g.others;
  notes = h.notes ∙ append-nil v.own.notes ∙ g.notes;
  posts = h.posts ∙ append-nil v.own.posts ∙ g.posts;
}
