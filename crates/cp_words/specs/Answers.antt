-- What a reader of words answers.
use Rattle.std.specs.Prelude.{◌≡◌, ◌≢◌, ◌≤◌, ◌<◌, ◌^◌, Result, Ok, Err}
use Rattle.cp_logic.specs.declared.settings.Opts.{Opts}
use Rattle.cp_words.specs.declared.words.ExtendOptions.{ExtendOptions}
use Rattle.cp_words.specs.declared.words.GenerateOptions.{GenerateOptions}
use Rattle.cp_words.specs.declared.words.SimplifyOptions.{SimplifyOptions}
use Rattle.cp_words.specs.declared.words.UsageKind.{UsageKind}
use Rattle.cp_words.specs.declared.words.UsageKind.TheVariants as kind
use Rattle.cp_words.specs.declared.words.WordsRefusal.{WordsRefusal}
use Rattle.cp_words.specs.declared.words.WordsRefusal.TheVariants as refusal
use Rattle.cp_words.specs.Words.{Extend, Generate, Simplify}

-- the options, or the refusal, are those that the words give; memory may be wanting, where the first word is the command
abbrev pub Answers : {T V : Type 0} → (T → V) → Result V UsageKind → Result T WordsRefusal → Type 0
Answers seen given (Ok options) = given ≡ Ok (seen options)
Answers seen given (Err (refusal.Usage kind)) = given ≡ Err kind
Answers seen given (Err refusal.NoMemory) = given ≢ Err kind.Command

-- the options, or the refusal, are those given
abbrev pub Gives : {T V : Type 0} → (T → V) → Result V UsageKind → Result T UsageKind → Type 0
Gives seen given (Ok options) = given ≡ Ok (seen options)
Gives seen given (Err kind) = given ≡ Err kind

abbrev pub simplify_seen : SimplifyOptions → Simplify
simplify_seen o = record {
  opts = o.opts;
  form = o.form;
  cnf = o.cnf.now;
  reduced = o.reduced.now;
  stack = o.stack.now;
  proof = o.proof.now;
  summary = o.summary.now;
}

abbrev pub extend_seen : ExtendOptions → Extend
extend_seen o = record { stack = o.stack.now; model = o.model.now; full = o.full.now }

abbrev pub generate_seen : GenerateOptions → Generate
generate_seen o = record { seed = o.seed; vars = o.vars; clauses = o.clauses; summary = o.summary.now }

-- the numbers lie within the limits of the options
abbrev pub HasOptsLimits : Opts → Type 0
HasOptsLimits o = (o.workers ≤ 64) × (o.rounds ≤ 16) × (1 ≤ o.hood) × (o.hood ≤ 4096) × (o.rules.bound ≤ 1000) × (o.rules.budget ≤ 2 ^ 40)

abbrev pub HasSimplifyLimits : SimplifyOptions → Type 0
HasSimplifyLimits o = HasOptsLimits o.opts

abbrev pub HasGenerateLimits : GenerateOptions → Type 0
HasGenerateLimits o = (o.seed < 2 ^ 31) × (1 ≤ o.vars) × (o.vars ≤ 2000000) × (o.clauses ≤ 8000000)
