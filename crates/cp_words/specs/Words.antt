-- The options that the words of a command line give, the program's name left out, or why they are refused. The first word is the
-- command; clap reads the words behind it; then the letters, the form and the names are checked, in this order.
use Rattle.std.specs.Prelude.{ℕ, Bool, true, false, List, [], ◌∷◌, Option, Some, None, Result, Ok, Err, codes, if◌then◌else◌}
use Rattle.std.specs.Str.{bytes_eq}
use Rattle.clap.specs.Words.{App, Row, Text}
use Rattle.cp_logic.specs.declared.settings.Choice.{Choice}
use Rattle.cp_logic.specs.declared.settings.Form.{Form}
use Rattle.cp_logic.specs.declared.settings.Opts.{Opts}
use Rattle.cp_words.specs.declared.words.UsageKind.{UsageKind}
use Rattle.cp_words.specs.declared.words.UsageKind.TheVariants as kind
use Rattle.cp_words.specs.Commands.{extend_command, generate_command, number_at, simplify_command, taken, text_at}
use Rattle.cp_words.specs.Letters.{choice_of, form_of}
use Rattle.cp_words.specs.Names.{Named, some_clash}

-- what a run of `simplify` is asked for
pub record Simplify : Type 0 where
  pub opts : Opts
  pub form : Form
  pub cnf : Text
  pub reduced : Text
  pub stack : Text
  pub proof : Text
  pub summary : Text

-- what a run of `extend` is asked for
pub record Extend : Type 0 where
  pub stack : Text
  pub model : Text
  pub full : Text

-- what a run of `generate` is asked for
pub record Generate : Type 0 where
  pub seed : ℕ
  pub vars : ℕ
  pub clauses : ℕ
  pub summary : Text

-- the first word is the command
abbrev pub is_command : Text → List Text → Bool
is_command name [] = false
is_command name (word ∷ words) = bytes_eq word name

-- what clap found goes on to the checks behind it
abbrev pub with_found : {V : Type 0} → (List Row → Result V UsageKind) → Option (List Row) → Result V UsageKind
with_found checked None = Err kind.Words
with_found checked (Some rows) = checked rows

-- the options behind the command, where it is the first word
abbrev pub given_by : {V : Type 0} → Text → App → (List Row → Result V UsageKind) → List Text → Result V UsageKind
given_by name app checked words = if is_command name words then with_found checked (taken app words) else Err kind.Command

-- the names where no two roles have one
abbrev pub unless_clash : {V : Type 0} → List Named → V → Result V UsageKind
unless_clash roles options = if some_clash roles then Err kind.Names else Ok options

abbrev pub opts_at : Choice → List Row → Opts
opts_at choice rows = record {
  rules = record {
    choice = choice;
    bound = number_at (codes "bound") rows;
    budget = number_at (codes "budget") rows;
  };
  workers = number_at (codes "workers") rows;
  rounds = number_at (codes "rounds") rows;
  hood = number_at (codes "hood") rows;
}

abbrev pub simplify_roles : Simplify → List Named
simplify_roles o = record { name = o.cnf; is_input = true }
    ∷ record { name = o.reduced; is_input = false }
    ∷ record { name = o.stack; is_input = false }
    ∷ record { name = o.proof; is_input = false }
    ∷ record { name = o.summary; is_input = false } ∷ []

abbrev pub simplify_at : Choice → Form → List Row → Simplify
simplify_at choice form rows = record {
  opts = opts_at choice rows;
  form = form;
  cnf = text_at (codes "cnf") rows;
  reduced = text_at (codes "reduced") rows;
  stack = text_at (codes "stack") rows;
  proof = text_at (codes "proof") rows;
  summary = text_at (codes "summary") rows;
}

abbrev pub simplify_by : Option Choice → Option Form → List Row → Result Simplify UsageKind
simplify_by None form rows = Err kind.Choice
simplify_by (Some choice) None rows = Err kind.Form
simplify_by (Some choice) (Some form) rows = unless_clash (simplify_roles (simplify_at choice form rows)) (simplify_at choice form rows)

abbrev pub simplify_found : List Row → Result Simplify UsageKind
simplify_found rows = simplify_by (choice_of (text_at (codes "only") rows)) (form_of (text_at (codes "proof-form") rows)) rows

-- the options of `simplify`
abbrev pub simplify_options : List Text → Result Simplify UsageKind
simplify_options words = given_by (codes "simplify") simplify_command simplify_found words

abbrev pub extend_roles : Extend → List Named
extend_roles o = record { name = o.stack; is_input = true }
    ∷ record { name = o.model; is_input = true }
    ∷ record { name = o.full; is_input = false } ∷ []

abbrev pub extend_at : List Row → Extend
extend_at rows = record {
  stack = text_at (codes "stack") rows;
  model = text_at (codes "model") rows;
  full = text_at (codes "full") rows;
}

abbrev pub extend_found : List Row → Result Extend UsageKind
extend_found rows = unless_clash (extend_roles (extend_at rows)) (extend_at rows)

-- the options of `extend`
abbrev pub extend_options : List Text → Result Extend UsageKind
extend_options words = given_by (codes "extend") extend_command extend_found words

abbrev pub generate_at : List Row → Generate
generate_at rows = record {
  seed = number_at (codes "seed") rows;
  vars = number_at (codes "vars") rows;
  clauses = number_at (codes "clauses") rows;
  summary = text_at (codes "summary") rows;
}

-- one role has no other to clash with
abbrev pub generate_found : List Row → Result Generate UsageKind
generate_found rows = Ok (generate_at rows)

-- the options of `generate`
abbrev pub generate_options : List Text → Result Generate UsageKind
generate_options words = given_by (codes "generate") generate_command generate_found words
