-- A command with one more option, and that clap's clauses are exact of the commands.
use Rattle.std.proofs.Common.{◌≡◌, ◌∙◌, ◌++◌, ap₂, arith, Bool, codes, cond, true, List, [], ◌∷◌, None, Option, Some, false, inl, inr, refl, subst, sym}
use Rattle.std.specs.Prelude.{◌⊎◌, Err, IsErrAnd, Ok, Result}
use Rattle.clap.specs.Words.{AddsArg, App, IsParsedFrom, Row, Rule, Text, app_of, found_of, is_simple_and_free, rows_of, with_rule}
use Rattle.clap.specs.declared.builder.arg.Arg.{Arg}
use Rattle.clap.specs.declared.builder.command.Command.{Command}
use Rattle.clap.specs.declared.builder.value_parser.ValueParser.{ValueParser}
use Rattle.clap.specs.declared.parser.matches.ArgMatches.{ArgMatches}
use Rattle.cp_words.specs.Commands.{HasGenerateNumbers, HasSimplifyNumbers, IsOption, command, extend_command, generate_command, number_option, numbers_32, numbers_64, simplify_command, taken, text_at}
use Rattle.cp_words.specs.Words.{extend_at, extend_found, extend_roles, given_by, is_command, simplify_at, simplify_by, simplify_found, simplify_roles, with_found}
use Rattle.cp_logic.specs.declared.settings.Choice.{Choice}
use Rattle.cp_logic.specs.declared.settings.Form.{Form}
use Rattle.cp_words.specs.Answers.{Answers}
use Rattle.cp_words.specs.Letters.{choice_of, form_of}
use Rattle.cp_words.specs.Names.{some_clash}
use Rattle.cp_words.specs.declared.words.WordsRefusal.{WordsRefusal}
use Rattle.cp_words.specs.declared.words.WordsRefusal.TheVariants as refusal
use Rattle.cp_words.specs.declared.words.UsageKind.{UsageKind}
use Rattle.cp_words.specs.declared.words.UsageKind.TheVariants as kind
use Rattle.cp_words.proofs.Accepted.{IsExact, number_taken}

pub added : (name : Text) (options : List Rule) (option : Rule) (old new : Command) (a : Arg) → app_of old ≡ command name options → IsOption option a
    → AddsArg old a new → app_of new ≡ command name (options ++ option ∷ [])
added name options option old new a is one adds = adds.shape one.1 ∙ ap₂ with_rule is one.0

-- a command, whatever its options, with one more
pub with_one : (option : Rule) (app : App) (old new : Command) (a : Arg) → app_of old ≡ app → IsOption option a → AddsArg old a new → app_of new ≡ with_rule app option
with_one option app old new a is one adds = adds.shape one.1 ∙ ap₂ with_rule is one.0

-- and with one of a number
pub with_number : (id : Text) (q seen : ValueParser) (default : Text) (app : App) (old new : Command) (a : Arg) → app_of old ≡ app → seen ≡ q
    → IsOption (number_option id seen default) a → AddsArg old a new → app_of new ≡ with_rule app (number_option id q default)
with_number id q seen default app old new a is parser one adds =
    with_one (number_option id q default) app old new a is (subst (λ (p : ValueParser). IsOption (number_option id p default) a) parser one) adds

pub simplify_simple : is_simple_and_free simplify_command ≡ true
unfolding simplify_command
simplify_simple = refl

pub extend_simple : is_simple_and_free extend_command ≡ true
unfolding extend_command
extend_simple = refl

pub generate_simple : is_simple_and_free generate_command ≡ true
unfolding generate_command
generate_simple = refl

pub simplify_exact : IsExact simplify_command
unfolding simplify_command
simplify_exact = record { ready = refl; leaves = refl; free = refl }

pub generate_exact : IsExact generate_command
unfolding generate_command
generate_exact = record { ready = refl; leaves = refl; free = refl }

-- the numbers of `simplify` have values that their parsers take
pub simplify_numbers : (c : Command) (m : ArgMatches) → IsParsedFrom c m → app_of c ≡ simplify_command → HasSimplifyNumbers (rows_of (found_of m))
unfolding simplify_command
simplify_numbers c m p is =
    let taken = number_taken c m p simplify_command is simplify_exact in (
      taken 5 (codes "workers") (numbers_32 0 64) (codes "4") (omega arith) (λ d. refl) refl refl,
      taken 6 (codes "rounds") (numbers_32 0 16) (codes "2") (omega arith) (λ d. refl) refl refl,
      taken 7 (codes "hood") (numbers_32 1 4096) (codes "512") (omega arith) (λ d. refl) refl refl,
      taken 8 (codes "bound") (numbers_64 0 1000) (codes "0") (omega arith) (λ d. refl) refl refl,
      taken 9 (codes "budget") (numbers_64 0 1099511627776) (codes "0") (omega arith) (λ d. refl) refl refl,
    )

-- and those of `generate`
pub generate_numbers : (c : Command) (m : ArgMatches) → IsParsedFrom c m → app_of c ≡ generate_command → HasGenerateNumbers (rows_of (found_of m))
unfolding generate_command
generate_numbers c m p is =
    let taken = number_taken c m p generate_command is generate_exact in (
      taken 0 (codes "seed") (numbers_32 0 2147483647) (codes "1") (omega arith) (λ d. refl) refl refl,
      taken 1 (codes "vars") (numbers_32 1 2000000) (codes "1000") (omega arith) (λ d. refl) refl refl,
      taken 2 (codes "clauses") (numbers_32 0 8000000) (codes "3000") (omega arith) (λ d. refl) refl refl,
    )

-- what the words give where clap takes them
pub given_ok : {V : Type 0} (name : Text) (app : App) (checked : List Row → Result V UsageKind) (words : List Text) (rows : List Row) (r : Result V UsageKind)
    → is_command name words ≡ true → taken app words ≡ Some rows → checked rows ≡ r → given_by name app checked words ≡ r
given_ok name app checked words rows r first found is =
    go (is_command name words) (taken app words) first found
  where
    go : (b : Bool) (o : Option (List Row)) → b ≡ true → o ≡ Some rows → cond b (with_found checked o) (Err kind.Command) ≡ r
    go b o x y = rw (x, y) is

-- and where it refuses them
pub given_none : {V : Type 0} (name : Text) (app : App) (checked : List Row → Result V UsageKind) (words : List Text)
    → is_command name words ≡ true → taken app words ≡ None → given_by name app checked words ≡ Err kind.Words
given_none name app checked words first found = go (is_command name words) (taken app words) first found
  where
    go : (b : Bool) (o : Option (List Row)) → b ≡ true → o ≡ None → cond b (with_found checked o) (Err kind.Command) ≡ Err kind.Words
    go b o x y = rw (x, y) refl

-- where the first word is the command, that is not what is refused
pub no_command : {V : Type 0} (checked : List Row → Result V UsageKind) (b : Bool) (o : Option (List Row)) → ((rows : List Row) → checked rows ≡ Err kind.Command → ⊥)
    → b ≡ true → cond b (with_found checked o) (Err kind.Command) ≡ Err kind.Command → ⊥
no_command checked true None never first is = cc
no_command checked true (Some rows) never first is = never rows is
no_command checked false o never first is = cc

-- what is answered where clap refuses the words, or there is no memory for it
pub refused_by : {T V : Type 0} (seen : T → V) (name : Text) (app given : App) (checked : List Row → Result V UsageKind) (words : List Text) (e : WordsRefusal)
    (r : Result T WordsRefusal) → ((rows : List Row) → checked rows ≡ Err kind.Command → ⊥) → is_command name words ≡ true → IsErrAnd r (λ y. y ≡ e) → given ≡ app
    → (e ≡ refusal.NoMemory) ⊎ ((e ≡ refusal.Usage kind.Words) × (taken given words ≡ None)) → Answers seen (given_by name app checked words) r
refused_by seen name app given checked words e (Ok x) never first is same why = absurd is
refused_by seen name app given checked words e (Err y) never first is same (inl none) =
    subst (λ (w : WordsRefusal). Answers seen (given_by name app checked words) (Err w)) (sym (is ∙ none)) (no_command checked (is_command name words) (taken app words) never first)
refused_by seen name app given checked words e (Err y) never first is same (inr both) =
    subst (λ (w : WordsRefusal). Answers seen (given_by name app checked words) (Err w)) (sym (is ∙ both.0))
    (given_none name app checked words first (subst (λ (a : App). taken a words ≡ None) same both.1))

never_clash : {V : Type 0} (b : Bool) (options : V) → cond b (Err kind.Names) (Ok options) ≡ Err kind.Command → ⊥
never_clash true options is = cc
never_clash false options is = cc

pub extend_never : (rows : List Row) → extend_found rows ≡ Err kind.Command → ⊥
extend_never rows is = never_clash (some_clash (extend_roles (extend_at rows))) (extend_at rows) is

pub simplify_never : (rows : List Row) → simplify_found rows ≡ Err kind.Command → ⊥
simplify_never rows is = go (choice_of (text_at (codes "only") rows)) (form_of (text_at (codes "proof-form") rows)) is
  where
    go : (choice : Option Choice) (form : Option Form) → simplify_by choice form rows ≡ Err kind.Command → ⊥
    go None form e = cc
    go (Some choice) None e = cc
    go (Some choice) (Some form) e = never_clash (some_clash (simplify_roles (simplify_at choice form rows))) (simplify_at choice form rows) e
