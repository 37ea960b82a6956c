-- The commands as clap reads their words: each option takes one value, and no option excludes or requires another.
use Rattle.std.specs.Prelude.{◌≡◌, ◌++◌, ℕ, true, false, List, [], ◌∷◌, Option, Some, None, pos, codes, unwrap_or}
use Rattle.std.specs.Option.{option_map_or}
use Rattle.std.specs.Str.Parse.{digits_value, without_leading_plus}
use Rattle.clap.specs.Words.{Accepts, App, Kinds, Row, Rule, Text, fault_of, first_of, matches_of, new_rule, one_of, read_as, reading_of, rule_of, with_rule}
use Rattle.clap.specs.Simple.{new_shape}
use Rattle.clap.specs.declared.builder.action.ArgAction.TheVariants.{Set}
use Rattle.clap.specs.declared.builder.arg.Arg.{Arg}
use Rattle.clap.specs.declared.builder.value_parser.ValueParser.{ValueParser}
use Rattle.clap.specs.declared.builder.value_parser.ValueParser.TheVariants as vp

-- an option `--id` that has to be given
abbrev pub required_option : Text → Rule
required_option id = record (new_rule id) { long = Some id; action = Some Set; required = true }

-- an option `--id` of any text
abbrev pub text_option : Text → Text → Rule
text_option id default = record (new_rule id) { long = Some id; action = Some Set; defaults = default ∷ [] }

-- an option `--id` of a number that the parser takes
abbrev pub number_option : Text → ValueParser → Text → Rule
number_option id parser default = record (text_option id default) { parser = Some parser }

-- the parser of `u32` for numbers from `low` to `high`
abbrev pub numbers_32 : ℕ → ℕ → ValueParser
numbers_32 low high = vp.Signed (pos low) (pos high)

-- the parser of `u64` for numbers from `low` to `high`
abbrev pub numbers_64 : ℕ → ℕ → ValueParser
numbers_64 low high = vp.Unsigned low high

-- the command with these options
abbrev pub command : Text → List Rule → App
command name options = record { top = record (new_shape name) { rules = options }; subs = [] }

-- a command with these options behind its own
abbrev pub with_options : App → List Rule → App
with_options app [] = app
with_options app (option ∷ options) = with_options (with_rule app option) options

-- the names of the roles of `simplify`
abbrev pub role_options : List Rule
role_options = text_option (codes "cnf") (codes "std")
    ∷ text_option (codes "reduced") (codes "std")
    ∷ text_option (codes "stack") (codes "none")
    ∷ text_option (codes "proof") (codes "none")
    ∷ text_option (codes "summary") (codes "none")
    ∷ []

-- its numbers
abbrev pub numeric_options : List Rule
numeric_options = number_option (codes "workers") (numbers_32 0 64) (codes "4")
    ∷ number_option (codes "rounds") (numbers_32 0 16) (codes "2")
    ∷ number_option (codes "hood") (numbers_32 1 4096) (codes "512")
    ∷ number_option (codes "bound") (numbers_64 0 1000) (codes "0")
    ∷ number_option (codes "budget") (numbers_64 0 1099511627776) (codes "0")
    ∷ []

unfoldable pub simplify_command : App
simplify_command = command (codes "simplify") (role_options ++ numeric_options
    ++ text_option (codes "only") (codes "tsxbe")
    ∷ text_option (codes "proof-form") (codes "text")
    ∷ [])

unfoldable pub extend_command : App
extend_command = command (codes "extend")
    (required_option (codes "stack")
    ∷ text_option (codes "model") (codes "std")
    ∷ text_option (codes "full") (codes "std")
    ∷ [])

unfoldable pub generate_command : App
generate_command = command (codes "generate")
    (number_option (codes "seed") (numbers_32 0 2147483647) (codes "1")
    ∷ number_option (codes "vars") (numbers_32 1 2000000) (codes "1000")
    ∷ number_option (codes "clauses") (numbers_32 0 8000000) (codes "3000")
    ∷ text_option (codes "summary") (codes "std")
    ∷ [])

-- the kinds of error that clap gives at the words; the first word is passed over
unfoldable pub faults : App → List Text → Kinds
faults app words = fault_of app words

-- what clap finds of the options, where it takes the words
unfoldable pub found : App → List Text → List Row
found app words = matches_of app words

abbrev pub where_none : Kinds → List Row → Option (List Row)
where_none [] rows = Some rows
where_none (kind ∷ kinds) rows = None

-- what clap finds of the options, or `None` where it refuses the words
abbrev pub taken : App → List Text → Option (List Row)
taken app words = where_none (faults app words) (found app words)

-- the text of an option, by what was found
abbrev pub text_at : Text → List Row → Text
text_at id rows = unwrap_or (first_of id rows) []

-- the number of an option, by what was found: that of the text that clap's typed getters read
abbrev pub number_at : Text → List Row → ℕ
number_at id rows = option_map_or (λ text. digits_value 10 (without_leading_plus text)) (one_of id rows) 0

-- the argument is this option
abbrev pub IsOption : Rule → Arg → Type 0
IsOption option arg = (rule_of arg ≡ option) × (arg.global ≡ false)

-- what was found has a value of the option, which the parser takes
abbrev pub HasTaken : ValueParser → Text → List Row → Type 0
HasTaken parser id rows = (text : Text) × (one_of id rows ≡ Some (read_as (reading_of parser) text)) × Accepts false parser text

-- the numbers of `simplify` that were found are in their ranges
abbrev pub HasSimplifyNumbers : List Row → Type 0
HasSimplifyNumbers rows = HasTaken (numbers_32 0 64) (codes "workers") rows × HasTaken (numbers_32 0 16) (codes "rounds") rows
    × HasTaken (numbers_32 1 4096) (codes "hood") rows × HasTaken (numbers_64 0 1000) (codes "bound") rows
    × HasTaken (numbers_64 0 1099511627776) (codes "budget") rows

-- and those of `generate`
abbrev pub HasGenerateNumbers : List Row → Type 0
HasGenerateNumbers rows = HasTaken (numbers_32 0 2147483647) (codes "seed") rows × HasTaken (numbers_32 1 2000000) (codes "vars") rows
    × HasTaken (numbers_32 0 8000000) (codes "clauses") rows
