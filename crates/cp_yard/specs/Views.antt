-- What a seat knows: what it holds, the turn, and, for its own number and for that of each seat that it took in, the posts and what each try met.
use Rattle.std.specs.Prelude.{ℕ, ◌+◌, ◌==◌, ltb, Bool, true, false, Option, Some, None, List, [], ◌∷◌, ◌++◌, map, length, if◌then◌else◌}
use Rattle.cp_logic.specs.declared.named.Named.{Named}
use Rattle.cp_logic.specs.declared.settings.Rules.{Rules}
use Rattle.cp_logic.specs.Formulas.{Formula}
use Rattle.cp_logic.specs.Entries.{Entry}
use Rattle.cp_logic.specs.Journals.{Post, posts_of}
use Rattle.cp_logic.specs.Locality.{after}
use Rattle.cp_book.specs.Views.{BookView}

-- the first formula and the rules of a run, which never change
pub record Base : Type 0 where
  pub formula : Formula
  pub rules : Rules

-- what one try met: the lock of a variable, with the clauses of its cell, and how many posts its seat had made by then; the turn, with its
-- journal; or which seat has the lock or the turn
pub data Note : Type 0 where
  Got : (variable : ℕ) (clauses : List Named) (posted : ℕ) → Note
  GotTurn : (posts : List Post) → Note
  Met : (variable by : ℕ) → Note
  MetTurn : (by : ℕ) → Note

-- a variable whose lock is held, and its clauses
pub record Lock : Type 0 where
  pub variable : ℕ
  pub clauses : List Named

-- the posts of a seat's number, with their positions, and what each of its tries met, in order
pub record Share : Type 0 where
  pub number : ℕ
  pub posts : List (ℕ × Post)
  pub notes : List Note

pub record SeatView : Type 0 where
  -- whether no other seat has taken it in
  pub lives : Bool
  pub base : Base
  pub number : ℕ
  -- the number of seats that were made, which seat 0 alone keeps
  pub made : ℕ
  pub held : List Lock
  -- the journal, where the seat has the turn
  pub turn : Option (List Post)
  -- 0, or 1 more than the slot that it has in hand, within a call
  pub hand : ℕ
  pub own : Share
  -- those of the seats that it took in
  pub others : List Share

-- ---- locks

abbrev pub lock : ℕ → List Named → Lock
lock x cs = record { variable = x; clauses = cs }

-- the clauses that are held of the variable, if its lock is held
abbrev pub held_of : ℕ → List Lock → Option (List Named)
held_of x [] = None
held_of x (k ∷ ks) = if k.variable == x then Some k.clauses else held_of x ks

abbrev pub without_lock : ℕ → List Lock → List Lock
without_lock x [] = []
without_lock x (k ∷ ks) = if k.variable == x then without_lock x ks else k ∷ without_lock x ks

-- the locks with the clauses after the entry
abbrev pub locks_after : Entry → List Lock → List Lock
locks_after e ks = map (λ k. lock k.variable (after k.clauses k.variable e)) ks

-- ---- shares

abbrev pub empty_share : ℕ → Share
empty_share n = record { number = n; posts = []; notes = [] }

-- the seat's own share and those that it took in; none of a seat that was taken in itself
abbrev pub shares_of : SeatView → List Share
shares_of v = if v.lives then v.own ∷ v.others else []

abbrev pub all_shares : SeatView → List Share
all_shares v = v.own ∷ v.others

-- how many of the shares have the number
abbrev pub times : ℕ → List Share → ℕ
times w [] = 0
times w (k ∷ ks) = (if k.number == w then 1 else 0) + times w ks

-- 1 for a number below n, and else 0
abbrev pub once_below : ℕ → ℕ → ℕ
once_below w n = if ltb w n then 1 else 0

-- ---- seats

abbrev pub base_of : BookView → Base
base_of b = record { formula = b.first; rules = b.rules }

-- the first seat of a yard over the book
abbrev pub founder : BookView → SeatView
founder b = record {
  lives = true;
  base = base_of b;
  number = 0;
  made = 1;
  held = [];
  turn = None;
  hand = 0;
  own = record { number = 0; posts = posts_of b.posts 0; notes = [] };
  others = [];
}

-- a seat that was taken in
abbrev pub spent : SeatView
spent = record {
  lives = false;
  base = record {
    formula = record { variables = 0; next = 0; clauses = [] };
    rules = record { choice = record { t = false; s = false; x = false; b = false; e = false }; bound = 0; budget = 0 };
  };
  number = 0;
  made = 0;
  held = [];
  turn = None;
  hand = 0;
  own = empty_share 0;
  others = [];
}

-- a seat, and the one that it splits off
abbrev pub parent : SeatView → SeatView
parent v = record v { made = v.made + 1 }

abbrev pub child : SeatView → SeatView
child v = record { lives = true; base = v.base; number = v.made; made = 0; held = []; turn = None; hand = 0; own = empty_share v.made; others = [] }

-- the first seat, which took the second in
abbrev pub joined : SeatView → SeatView → SeatView
joined v w = record v { others = v.others ++ all_shares w }

-- the seat after a try that met this
abbrev pub noted : Note → SeatView → SeatView
noted n v = record v { own = record v.own { notes = v.own.notes ++ n ∷ [] } }

-- the seat after it got the lock, and after it got the turn; with the slot in hand, and then with it back in its place
abbrev pub reached_lock : ℕ → List Named → SeatView → SeatView
reached_lock x cs v = record (noted (Got x cs (length v.own.posts)) v) { held = lock x cs ∷ v.held; hand = x + 1 }

abbrev pub reached_turn : List Post → SeatView → SeatView
reached_turn h v = record (noted (GotTurn h) v) { turn = Some h; hand = 1 }

abbrev pub with_lock : ℕ → List Named → SeatView → SeatView
with_lock x cs v = record (noted (Got x cs (length v.own.posts)) v) { held = lock x cs ∷ v.held; hand = 0 }

abbrev pub with_turn : List Post → SeatView → SeatView
with_turn h v = record (noted (GotTurn h) v) { turn = Some h; hand = 0 }

abbrev pub with_hand : ℕ → SeatView → SeatView
with_hand k v = record v { hand = k }

-- the seat after it gave the lock back
abbrev pub unlocked : ℕ → SeatView → SeatView
unlocked x v = record v { held = without_lock x v.held; hand = 0 }

-- the seat after its turn, with no post
abbrev pub without_turn : SeatView → SeatView
without_turn v = record v { turn = None; hand = 0 }

-- the seat after its turn, with the post p at the position n
abbrev pub with_post : ℕ → Post → SeatView → SeatView
with_post n p v = record v { turn = None; hand = 0; held = locks_after p.entry v.held; own = record v.own { posts = v.own.posts ++ (n, p) ∷ [] } }
