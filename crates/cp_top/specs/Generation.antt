-- What a run of `generate` does to the ports of its desk, by its outcome: the cause of each answer, and what is written.
use Rattle.std.specs.Prelude.{◌≡◌, ◌≢◌, ℕ, true, List, [], Option, Ok, Err, IsOk}
use Rattle.cp_io.specs.declared.role.Role.{Role}
use Rattle.cp_io.specs.Port.{Ports}
use Rattle.cp_logic.specs.declared.settings.Rules.{Rules}
use Rattle.cp_logic.specs.declared.stop.Stop.{Stop}
use Rattle.cp_logic.specs.Formulas.{Formula}
use Rattle.cp_logic.specs.Journals.{Post, folded}
use Rattle.cp_gen.specs.Generated.{generated}
use Rattle.cp_summary.specs.Text.{sizes_of}
use Rattle.cp_words.specs.declared.words.UsageKind.TheVariants as kind
use Rattle.cp_words.specs.Words.{Generate, generate_options}
use Rattle.cp_top.specs.declared.outcome.Outcome.{Outcome}
use Rattle.cp_top.specs.declared.outcome.Outcome.TheVariants.{Done, Extended, Generated, Refused}
use Rattle.cp_roles.specs.declared.refusal.Refusal.TheVariants.{Usage, OpenFault, ReadFault, TooLarge, BadInput, BadStack, BadModel, NoModel, WriteFault, NoMemory}
use Rattle.cp_roles.specs.Options.{Taken}
use Rattle.cp_roles.specs.Bindings.{BindFailed}
use Rattle.cp_roles.specs.Texts.{Written, HaveGrown, HaveStopped, NothingGrew}
use Rattle.cp_roles.specs.Commands.{generate_bindings}
use Rattle.cp_top.specs.Commands.{generate_texts}
use Rattle.cp_top.specs.Run.{WriteFailed}
use Rattle.cp_top.specs.Simplified.{IsSimplified}

-- all techniques, with no bound and no budget
abbrev pub all_rules : Rules
all_rules = record { choice = record { t = true; s = true; x = true; b = true; e = true }; bound = 0; budget = 0 }

-- Each outcome has its cause. Want of memory is the one free answer, and it comes only where the command is there.
abbrev pub HasGenerateCause : List (List ℕ) → Ports → Ports → Outcome → Type 0
HasGenerateCause words old new (Done status journal shifts kept stopped) = ⊥
HasGenerateCause words old new Extended = ⊥
HasGenerateCause words old new (Generated journal stopped) = IsOk (generate_options words)
HasGenerateCause words old new (Refused (Usage kind)) = generate_options words ≡ Err kind
HasGenerateCause words old new (Refused (OpenFault role)) = Taken (generate_options words) (λ o. BindFailed (generate_bindings o) role old new)
HasGenerateCause words old new (Refused (ReadFault role)) = ⊥
HasGenerateCause words old new (Refused (TooLarge role limit offset)) = ⊥
HasGenerateCause words old new (Refused (BadInput offset kind)) = ⊥
HasGenerateCause words old new (Refused (BadStack offset kind)) = ⊥
HasGenerateCause words old new (Refused (BadModel offset kind)) = ⊥
HasGenerateCause words old new (Refused NoModel) = ⊥
HasGenerateCause words old new (Refused (WriteFault role journal)) = Taken (generate_options words) (λ o. WriteFailed (generate_bindings o) role old new)
HasGenerateCause words old new (Refused NoMemory) = generate_options words ≢ Err kind.Command

abbrev pub formula_for : Generate → Formula
formula_for o = generated o.seed o.vars o.clauses

-- the journal simplifies the formula that the words ask for, by all techniques and without workers
pub record SimplifiesGenerated (words : List (List ℕ)) (posts : List Post) (stopped : Option Stop) : Type 0 where
  pub options : Generate
  pub taken : generate_options words ≡ Ok options
  pub simplified : IsSimplified (formula_for options) all_rules [] posts stopped

-- the texts of what the posts lead to from the formula
abbrev pub summary_after : Formula → List Post → Option Stop → List Written
summary_after f posts stopped = generate_texts (sizes_of f) posts (folded f posts).pairs (folded f posts).formula stopped

-- Summary grew by its text, and no other role grew.
pub record PrintsSummary (words : List (List ℕ)) (old new : Ports) (posts : List Post) (stopped : Option Stop) : Type 0 where
  pub run : SimplifiesGenerated words posts stopped
  pub texts : HaveGrown (summary_after (formula_for run.options) posts stopped) old new

-- Where its write failed, it grew by a front of that text.
pub record PrintsSummaryFront (words : List (List ℕ)) (old new : Ports) (role : Role) (posts : List Post) : Type 0 where
  pub stopped : Option Stop
  pub run : SimplifiesGenerated words posts stopped
  pub texts : HaveStopped (summary_after (formula_for run.options) posts stopped) role old new

-- What is written, by the outcome.
abbrev pub IsGeneration : List (List ℕ) → Ports → Ports → Outcome → Type 0
IsGeneration words old new (Generated journal stopped) = PrintsSummary words old new journal.items stopped
IsGeneration words old new (Refused (WriteFault role journal)) = PrintsSummaryFront words old new role journal.items
IsGeneration words old new outcome = NothingGrew old new
