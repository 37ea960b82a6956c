-- What clap answers, by what it finds of the words, and what its typed getters read.
use Rattle.std.proofs.Common.{◌≡◌, ◌∙◌, ◌≤◌, ◌&&◌, ap, ℕ, Bool, true, false, List, [], ◌∷◌, Option, Some, None, refl, subst, sym, option_map}
use Rattle.std.specs.Prelude.{Ok, Err, Result, unwrap_or}
use Rattle.std.specs.Borrow.{Bor}
use Rattle.std.specs.Str.Parse.{ParsesUnsigned, digits_value, without_leading_plus}
use Rattle.clap.specs.Words.{App, IsAmong, IsUnsignedIn, Kinds, ReadsOne, Row, Text, fault_of, is_simple, is_simple_and_free, matches_of}
use Rattle.clap.specs.declared.error.kind.ErrorKind.{ErrorKind}
use Rattle.cp_words.specs.Commands.{faults, found, taken, where_none}

faults_are : (app : App) (words : List Text) → faults app words ≡ fault_of app words
unfolding faults
faults_are app words = refl

found_is : (app : App) (words : List Text) → found app words ≡ matches_of app words
unfolding found
found_is app words = refl

where_empty : (kinds : Kinds) (rows seen : List Row) → kinds ≡ [] → seen ≡ rows → where_none kinds rows ≡ Some seen
where_empty [] rows seen none is = ap Some (sym is)
where_empty (k ∷ ks) rows seen none is = cc

where_some : (kinds : Kinds) (rows : List Row) (kind : ErrorKind) → IsAmong kind kinds → where_none kinds rows ≡ None
where_some [] rows kind among = absurd among
where_some (k ∷ ks) rows kind among = refl

pub simple_of : (app : App) → is_simple_and_free app ≡ true → is_simple app ≡ true
simple_of app both = left (is_simple app) _ both
  where
    left : (a b : Bool) → (a && b) ≡ true → a ≡ true
    left true b e = refl
    left false b e = cc

pub taken_rows : (app : App) (words : List Text) (rows : List Row) → fault_of app words ≡ [] → rows ≡ matches_of app words → taken app words ≡ Some rows
taken_rows app words rows none is = where_empty (faults app words) (found app words) rows (faults_are app words ∙ none) (is ∙ sym (found_is app words))

pub taken_none : (app : App) (words : List Text) (kind : ErrorKind) → IsAmong kind (fault_of app words) → taken app words ≡ None
taken_none app words kind among =
    where_some (faults app words) (found app words) kind (subst (IsAmong kind) (sym (faults_are app words)) among)

pub text_is : (o : Option (Bor Text)) (d : Bor Text) (t : Option Text) → option_map (λ s. s.now) o ≡ t → d.now ≡ [] → (unwrap_or o d).now ≡ unwrap_or t []
text_is None d None is empty = empty
text_is None d (Some t) is empty = cc
text_is (Some s) d None is empty = cc
text_is (Some s) d (Some t) is empty = cc

-- the number that a typed getter read
pub number_is : (E : Type 0) (G : Text → Result ℕ E → Type 0) (k : ℕ) (t : Text) (r : Option ℕ) (n : ℕ) → r ≡ Some n → ReadsOne G t r
    → ((u : Text) (x : Result ℕ E) → G u x → ParsesUnsigned k 10 u x) → n ≡ digits_value 10 (without_leading_plus t)
number_is E G k t None n is read only = cc
number_is E G k t (Some v) n is read only =
    let value = (only t (Ok v) read).1 in
    cc

-- a text that the parser of `u64` takes is read as a number in its range
pub unsigned_reads : (E : Type 0) (G : Text → Result ℕ E → Type 0) (low high : ℕ) (t : Text) (r : Option ℕ) → ReadsOne G t r
    → ((u : Text) (x : Result ℕ E) → G u x → ParsesUnsigned 64 10 u x) → IsUnsignedIn low high t → (n : ℕ) × (r ≡ Some n) × (low ≤ n) × (n ≤ high)
unsigned_reads E G low high t (Some v) read only taken =
    let parsed = only t (Ok v) read in
    (v, refl, rw parsed.1 taken.2, rw parsed.1 taken.3)
unsigned_reads E G low high t None read only taken = absurd (only t (Err read.0) read.1 (taken.0, taken.1))
