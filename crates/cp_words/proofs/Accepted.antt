-- What the value of an option is known to be after a parse, where the option has a default.
use Rattle.std.proofs.Common.{◌≡◌, ◌∙◌, ◌<◌, ◌≤◌, ◌&&◌, ◌||◌, ap, cond, ℕ, Bool, zero, suc, true, false, not, List, [], ◌∷◌, length, is_some, map, option_map, Option, Some, None, refl, sym, subst, inl, inr, arith}
use Rattle.std.proofs.lemmas.Bool.{and_parts}
use Rattle.std.specs.Prelude.{slice_get, codes, find}
use Rattle.std.specs.List.{All, list_all, list_any, slice_index_or}
use Rattle.std.specs.Str.{bytes_eq}
use Rattle.std.specs.Borrow.{Bor}
use Rattle.std.proofs.lemmas.List.{get_or_default}
use Rattle.std.proofs.lemmas.List.Elements.{All-get_or}
use Rattle.std.proofs.lemmas.Slice.Eq.{bytes_eq-Decides}
use Rattle.clap.specs.Words.{Accepts, App, IsParsed, IsParsedFrom, IsPlain, Rule, SameRules, Text, app_of, args_of, found_of, groups_of, has_subcommand, matched_of, one_text, parser_of, read_as, reading_of, rows_of, rule_of, shape_of}
use Rattle.clap.specs.Built.{IsAuto}
use Rattle.clap.specs.Facts.{Entry, EntryPasses, HasId, HasReading, PassesArg, WantsDefault, least_values, parser_of_value, unwrap_or_range}
use Rattle.clap.specs.Faults.{has_free_rules}
use Rattle.clap.specs.Simple.{IsSimple, has_simple_rules, is_ready, is_ready_leaf}
use Rattle.clap.proofs.CallerLemmas.{default_present, entry_by_id, same_rules_by_id}
use Rattle.clap.proofs.FaultLemmas.{free_args}
use Rattle.clap.proofs.SimpleLemmas.{ready_simple, simple_groups}
use Rattle.clap.proofs.WalkLemmas.{one_text-rows}
use Rattle.clap.specs.declared.builder.action.ArgAction.TheVariants.{Count, Set}
use Rattle.clap.specs.declared.builder.arg.Arg.{Arg}
use Rattle.clap.specs.declared.builder.command.Command.{Command}
use Rattle.clap.specs.declared.builder.command.Command.TheViews.{out-Command}
use Rattle.clap.specs.declared.builder.range.ValueRange.{ValueRange}
use Rattle.clap.specs.declared.builder.value_parser.Reading.{Reading}
use Rattle.clap.specs.declared.builder.value_parser.ValueParser.{ValueParser}
use Rattle.clap.specs.declared.parser.matches.ArgMatches.{ArgMatches}
use Rattle.clap.specs.declared.parser.matches.Found.{Found}
use Rattle.clap.specs.declared.parser.matches.MatchedArg.{MatchedArg}
use Rattle.cp_words.specs.Commands.{HasTaken, number_option}

-- only the k-th option has the id
abbrev pub only_at : ℕ → Text → List Rule → Bool
only_at k id [] = true
only_at zero id (option ∷ options) = not (list_any (λ r. bytes_eq r.id id) options)
only_at (suc k) id (option ∷ options) = not (bytes_eq option.id id) && only_at k id options

no_other : (id : Text) (args : List Arg) → not (list_any (λ r. bytes_eq r.id id) (map rule_of args)) ≡ true
    → (j : ℕ) (e : Arg) → j < length args → bytes_eq (slice_index_or args j e).id.now id ≡ true → ⊥
no_other id [] none j e lt same = absurd (omega arith)
no_other id (a ∷ args) none zero e lt same =
    let bad : false ≡ true = rw same at none in
    cc
no_other id (a ∷ args) none (suc j) e lt same = no_other id args (rest (bytes_eq a.id.now id) _ none) j e (omega arith) same
  where
    rest : (b c : Bool) → not (b || c) ≡ true → not c ≡ true
    rest true c e = cc
    rest false c e = e

-- an argument with the id stands at the place k
pub only_there : (k : ℕ) (id : Text) (args : List Arg) → only_at k id (map rule_of args) ≡ true
    → (j : ℕ) (e : Arg) → j < length args → bytes_eq (slice_index_or args j e).id.now id ≡ true → j ≡ k
only_there k id [] only j e lt same = absurd (omega arith)
only_there zero id (a ∷ args) only zero e lt same = refl
only_there zero id (a ∷ args) only (suc j) e lt same = absurd (no_other id args only j e (omega arith) same)
only_there (suc k) id (a ∷ args) only zero e lt same =
    let parts = and_parts (not (bytes_eq a.id.now id)) _ only in
    let bad : false ≡ true = rw same at parts.0 in
    cc
only_there (suc k) id (a ∷ args) only (suc j) e lt same =
    let parts = and_parts (not (bytes_eq a.id.now id)) _ only in
    ap suc (only_there k id args parts.1 j e (omega arith) same)

pub rule_at : (args : List Arg) (k : ℕ) (d : Arg) → rule_of (slice_index_or args k d) ≡ slice_index_or (map rule_of args) k (rule_of d)
rule_at [] k d = refl
rule_at (a ∷ args) zero d = refl
rule_at (a ∷ args) (suc k) d = rule_at args k d

-- some argument of a list that has one
some_arg : (args : List Arg) → 0 < length args → Arg
some_arg [] lt = absurd (omega arith)
some_arg (a ∷ args) lt = a

same_length : (args : List Arg) → length (map rule_of args) ≡ length args
same_length [] = refl
same_length (a ∷ args) = ap suc (same_length args)

-- a command whose options are simple and free excludes nothing
plain_command : (c : Command) → IsSimple c → has_free_rules (shape_of c) ≡ true → has_simple_rules (shape_of c) ≡ true → IsPlain c
plain_command c simple free ok =
    let parts = and_parts _ _ ok in
    let frees = free_args c simple free in
    let groups = simple_groups c parts.1 in (
      (λ k d lt. (
        (frees k d lt).exclusive,
        (frees k d lt).conflicts,
        (frees k d lt).overrides,
        groups k d lt,
      )),
      simple.groups,
    )

first_passes : (P : Bor (List ℕ) → Type 0) (how : Reading) (vs : List (Bor (List ℕ))) → 0 < length vs → All P vs
    → (v : Bor (List ℕ)) × (option_map (λ s. read_as how s.now) (slice_get vs 0) ≡ Some (read_as how v.now)) × P v
first_passes P how [] lt h = absurd (omega arith)
first_passes P how (v ∷ vs) lt h = (v, refl, All-get_or P (v ∷ vs) 0 v (omega arith) h)

some_first : (b : Bool) (x : Entry) (o : Option Entry) → is_some (option_map (λ (e : Entry). e.1) o) ≡ true
    → is_some (option_map (λ (e : Entry). e.1) (cond b (Some x) o)) ≡ true
some_first true x o h = refl
some_first false x o h = h

-- an entry with the id
has_entry : (f : Found) (id : Text) → HasId f id → is_some (matched_of f id) ≡ true
has_entry f id h = go f.entries.items h.0 h.1 h.2
  where
    go : (xs : List Entry) (i : ℕ) → i < length xs → ((d : Entry) → bytes_eq (slice_index_or xs i d).0.now id ≡ true)
        → is_some (option_map (λ (e : Entry). e.1) (find (λ (e : Entry). bytes_eq e.0.now id) xs)) ≡ true
    go [] i lt at = absurd (omega arith)
    go (x ∷ xs) zero lt at = rw (at x) refl
    go (x ∷ xs) (suc i) lt at = some_first (bytes_eq x.0.now id) x (find (λ (e : Entry). bytes_eq e.0.now id) xs) (go xs i (omega arith) at)

module _ (c : Command) (m : ArgMatches) (p : IsParsedFrom c m) (plain : IsPlain c) (local : (out-Command c).has_globals ≡ false)
    (k : ℕ) (a : Arg) (at : slice_index_or (args_of c) k a ≡ a) (lt : k < length (args_of c)) (only : only_at k a.id.now (map rule_of (args_of c)) ≡ true)
    (named : a.id.now ≡ [] → ⊥) (own : IsAuto a → ⊥) where
  -- an argument of the built command with the id has the rules of the caller's
  same_rules : (j : ℕ) (x : Arg) → j < length (args_of p.built) → slice_index_or (args_of p.built) j x ≡ x → bytes_eq x.id.now a.id.now ≡ true → SameRules a x
  same_rules j x high is same =
      let there : (j2 : ℕ) (e : Arg) → j2 < length (args_of c) → bytes_eq (slice_index_or (args_of c) j2 e).id.now (slice_index_or (args_of c) k a).id.now ≡ true → j2 ≡ k =
      λ j2 e low eq. only_there k a.id.now (args_of c) only j2 e low (subst (λ (w : Arg). bytes_eq (slice_index_or (args_of c) j2 e).id.now w.id.now ≡ true) at eq) in
      subst (λ (w : Arg). SameRules w x) at (same_rules_by_id c m p k a lt there (λ auto. own (subst IsAuto at auto)) j x high is
      (subst (λ (w : Arg). bytes_eq x.id.now w.id.now ≡ true) (sym at) same))

  module _ (set : a.action ≡ Some Set) (delimiter : a.val_delim ≡ None) (least : 1 ≤ least_values a) (defaults : WantsDefault a)
      (q : ValueParser) (parser : a.value_parser ≡ Some q) (exact : a.ignore_case ≡ false) where
    reads_by : (how : Reading) → HasReading p.built a.id.now how → how ≡ reading_of q
    reads_by how any =
        let s = same_rules any.0 any.1 any.2 any.3 any.4.0 in
        let is : parser_of any.1 ≡ q = ap parser_of_value (s.parser q parser) in
        sym any.4.1 ∙ ap reading_of is

    takes : (v : Bor Text) → PassesArg p.built a.id.now v.now → Accepts false q v.now
    takes v any =
        let s = same_rules any.0 any.1 any.2 any.3 any.4.0 in
        let is : parser_of any.1 ≡ q = ap parser_of_value (s.parser q parser) in
        subst (λ (b : Bool). Accepts b q v.now) (s.ignore_case ∙ exact) (subst (λ (w : ValueParser). Accepts any.1.ignore_case w v.now) is any.4.1)

    parsed : IsParsed p.built (found_of m) (has_subcommand m)
    parsed = p.parsed (p.from.globals ∙ local)

    no_groups : groups_of p.built ≡ []
    no_groups = (p.from.plain plain).1

    -- what an entry of the option says
    entry_taken : (e : Entry) → e.0.now ≡ a.id.now → EntryPasses p.built e
        → (t : Text) × (option_map (λ s. read_as e.1.reading s.now) (slice_get e.1.vals.items 0) ≡ Some (read_as (reading_of q) t)) × Accepts false q t
    entry_taken e id pass =
        let no_group : e.1.is_group ≡ true → ⊥ = λ g. elim (pass.3 g) [
          | inl empty ↦ named (sym id ∙ empty)
          | inr lots ↦
              let bad : 0 < 0 = rw no_groups at lots in
              absurd (omega arith)
        ] in
        let all : All (λ v. PassesArg p.built a.id.now v.now) e.1.vals.items = elim pass.0 [
          | inl g ↦ absurd (no_group g)
          | inr vals ↦ subst (λ (w : Text). All (λ v. PassesArg p.built w v.now) e.1.vals.items) id vals
        ] in
        let how : e.1.reading ≡ reading_of q = elim pass.4 [
          | inl g ↦ absurd (no_group g)
          | inr h ↦ reads_by e.1.reading (subst (λ (w : Text). HasReading p.built w e.1.reading) id h)
        ] in
        let some : 0 < length e.1.vals.items = elim pass.1 [
          | inl h ↦ absurd (no_group h.0)
          | inr (inl v) ↦ v
          | inr (inr (inl h)) ↦
              let any = h.1 in
              let s = same_rules any.0 any.1 any.2 any.3 (rw id at any.4.0) in
              let is_set : any.1.action ≡ Some Set = s.action Set set in
              let bad : Set ≡ Count = rw is_set at any.4.1 in
              cc
          | inr (inr (inr h)) ↦
              let s = same_rules h.0 h.1 h.2 h.3 (rw id at h.4.0) in
              elim h.4.1 [
                | inl none ↦
                    let one = s.least set least in
                    absurd (omega arith)
                | inr has ↦
                    let bad : false ≡ true = rw (s.val_delim, delimiter) at has in
                    cc
              ]
        ] in
        let first = first_passes (λ v. PassesArg p.built a.id.now v.now) (reading_of q) e.1.vals.items some all in
        (first.0.now, subst (λ (h : Reading). option_map (λ s. read_as h s.now) (slice_get e.1.vals.items 0) ≡ Some (read_as (reading_of q) first.0.now)) (sym how) first.1, takes first.0 first.2)

    present : is_some (matched_of (found_of m) a.id.now) ≡ true
    present =
        let has = default_present c m p local k a lt (subst WantsDefault (sym at) defaults) in
        has_entry (found_of m) a.id.now (subst (λ (w : Arg). HasId (found_of m) w.id.now) at has)

    text_taken : (t : Text) × (one_text (found_of m) a.id.now ≡ Some (read_as (reading_of q) t)) × Accepts false q t
    text_taken = go (matched_of (found_of m) a.id.now) refl present
      where
        step : (x : MatchedArg) → matched_of (found_of m) a.id.now ≡ Some x
            → ((e : Entry) × (e.1 ≡ x) × (bytes_eq e.0.now a.id.now ≡ true) × EntryPasses p.built e)
            → (t : Text) × (one_text (found_of m) a.id.now ≡ Some (read_as (reading_of q) t)) × Accepts false q t
        step x is got =
            let entry = entry_taken got.0 ((bytes_eq-Decides got.0.0.now a.id.now).0 got.2) got.3 in
            let here : option_map (λ s. read_as x.reading s.now) (slice_get x.vals.items 0) ≡ Some (read_as (reading_of q) entry.0) =
            subst (λ (y : MatchedArg). option_map (λ s. read_as y.reading s.now) (slice_get y.vals.items 0) ≡ Some (read_as (reading_of q) entry.0)) got.1 entry.1 in
            (entry.0, rw is here, entry.2)

        go : (o : Option MatchedArg) → matched_of (found_of m) a.id.now ≡ o → is_some (matched_of (found_of m) a.id.now) ≡ true
            → (t : Text) × (one_text (found_of m) a.id.now ≡ Some (read_as (reading_of q) t)) × Accepts false q t
        go None is some =
            let bad : false ≡ true = rw is at some in
            cc
        go (Some x) is some = step x is (entry_by_id (EntryPasses p.built) (found_of m).entries.items a.id.now x parsed.values is)

    row_taken : HasTaken q a.id.now (rows_of (found_of m))
    row_taken =
        let got = text_taken in
        (got.0, sym (one_text-rows (found_of m) a.id.now) ∙ got.1, got.2)

-- an id that no option of the program may have: none, or that of an option that clap adds
abbrev pub is_own : Text → Bool
is_own id = bytes_eq id [] || (bytes_eq id (codes "help") || bytes_eq id (codes "version"))

-- a command of which clap's clauses are exact
pub record IsExact (app : App) : Type 0 where
  pub ready : is_ready app.top ≡ true
  pub leaves : list_all is_ready_leaf app.subs ≡ true
  pub free : has_free_rules app.top ≡ true

some_texts : (xs : List (Bor Text)) (t : Text) → map (λ s. s.now) xs ≡ t ∷ [] → 0 < length xs
some_texts [] t is = cc
some_texts (x ∷ xs) t is = omega arith

not_own : (id : Text) → is_own id ≡ false → (id ≡ [] → ⊥) × (id ≡ codes "help" → ⊥) × (id ≡ codes "version" → ⊥)
not_own id own = go (bytes_eq id []) (bytes_eq id (codes "help")) (bytes_eq id (codes "version")) refl refl refl own
  where
    go : (a b d : Bool) → bytes_eq id [] ≡ a → bytes_eq id (codes "help") ≡ b → bytes_eq id (codes "version") ≡ d → (a || (b || d)) ≡ false
        → (id ≡ [] → ⊥) × (id ≡ codes "help" → ⊥) × (id ≡ codes "version" → ⊥)
    go false false false x y z e = (
      (λ is. let bad : false ≡ true = sym x ∙ (bytes_eq-Decides id []).1 is in cc),
      (λ is. let bad : false ≡ true = sym y ∙ (bytes_eq-Decides id (codes "help")).1 is in cc),
      (λ is. let bad : false ≡ true = sym z ∙ (bytes_eq-Decides id (codes "version")).1 is in cc),
    )
    go true b d x y z e = cc
    go false true d x y z e = cc
    go false false true x y z e = cc

-- the option of a number, the k-th of a command, has a value that its parser takes
pub number_taken : (c : Command) (m : ArgMatches) → IsParsedFrom c m → (app : App) → app_of c ≡ app → IsExact app
    → (k : ℕ) (id : Text) (q : ValueParser) (default : Text) → k < length app.top.rules
    → ((d : Rule) → slice_index_or app.top.rules k d ≡ number_option id q default) → only_at k id app.top.rules ≡ true → is_own id ≡ false
    → HasTaken q id (rows_of (found_of m))
number_taken c m p app is exact k id q default lt there only own =
    let rules_are : map rule_of (args_of c) ≡ app.top.rules = ap (λ (x : App). x.top.rules) is in
    let in_args : k < length (args_of c) = omega (arith, same_length (args_of c), ap length rules_are) in
    let d : Arg = some_arg (args_of c) (omega arith) in
    let a : Arg = slice_index_or (args_of c) k d in
    let at : slice_index_or (args_of c) k a ≡ a = get_or_default (args_of c) k a d in_args in
    let rule : rule_of a ≡ number_option id q default =
    rule_at (args_of c) k d ∙ (ap (λ (rules : List Rule). slice_index_or rules k (rule_of d)) rules_are ∙ there (rule_of d)) in
    let ready : is_ready (shape_of c) ≡ true = ap (λ (x : App). is_ready x.top) is ∙ exact.ready in
    let simple = ready_simple c ready (ap (λ (x : App). list_all is_ready_leaf x.subs) is ∙ exact.leaves) in
    let free : has_free_rules (shape_of c) ≡ true = ap (λ (x : App). has_free_rules x.top) is ∙ exact.free in
    let plain = plain_command c simple free (and_parts _ _ ready).0 in
    let id_is : a.id.now ≡ id = ap (λ (r : Rule). r.id) rule in
    let only_here : only_at k a.id.now (map rule_of (args_of c)) ≡ true =
    subst (λ (w : Text). only_at k w (map rule_of (args_of c)) ≡ true) (sym id_is) (subst (λ (rules : List Rule). only_at k id rules ≡ true) (sym rules_are) only) in
    let range : a.num_vals ≡ None = ap (λ (r : Rule). r.range) rule in
    let one : 1 ≤ 1 = omega arith in
    let least : 1 ≤ least_values a = subst (λ (r : Option ValueRange). 1 ≤ (unwrap_or_range r).start_inclusive) (sym range) one in
    let names = not_own id own in
    subst (λ (w : Text). HasTaken q w (rows_of (found_of m))) id_is (row_taken c m p plain simple.globals k a at in_args only_here
    (λ e. names.0 (sym id_is ∙ e)) (λ auto. elim auto [ inl e ↦ names.1 (sym id_is ∙ e) | inr e ↦ names.2 (sym id_is ∙ e) ])
    (ap (λ (r : Rule). r.action) rule) (simple.args k d in_args).delimiter least
    ((simple.args k d in_args).default_ifs, some_texts _ default (ap (λ (r : Rule). r.defaults) rule)) q (ap (λ (r : Rule). r.parser) rule) (ap (λ (r : Rule). r.ignore_case) rule))
