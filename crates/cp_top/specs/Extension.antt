-- What a run of `extend` does to the ports of its desk, by its outcome: the cause of each answer, and what is written.
use Rattle.std.specs.Prelude.{◌≡◌, ◌≢◌, ℕ, List, [], Bool, Ok, Err, IsOk}
use Rattle.cp_io.specs.declared.limits.Limit.{Limit}
use Rattle.cp_io.specs.declared.role.Role.{Role}
use Rattle.cp_io.specs.declared.role.Role.TheVariants.{Stack, Model}
use Rattle.cp_io.specs.Port.{Ports}
use Rattle.cp_logic.specs.Assignments.{completed}
use Rattle.cp_logic.specs.Journals.{Post}
use Rattle.cp_stack.specs.declared.refusal.StackRefusal.TheVariants as stacks
use Rattle.cp_stack.specs.Grammar.{Stack as StackText}
use Rattle.cp_extend.specs.declared.refusal.ModelRefusal.{ModelRefusal}
use Rattle.cp_extend.specs.declared.refusal.ModelRefusal.TheVariants as models
use Rattle.cp_words.specs.declared.words.UsageKind.TheVariants as kind
use Rattle.cp_words.specs.Words.{extend_options}
use Rattle.cp_top.specs.declared.outcome.Outcome.{Outcome}
use Rattle.cp_top.specs.declared.outcome.Outcome.TheVariants.{Done, Extended, Generated, Refused}
use Rattle.cp_roles.specs.declared.refusal.Refusal.TheVariants.{Usage, OpenFault, ReadFault, TooLarge, BadInput, BadStack, BadModel, NoModel, WriteFault, NoMemory}
use Rattle.cp_roles.specs.Options.{Taken}
use Rattle.cp_roles.specs.Bindings.{BindFailed}
use Rattle.cp_roles.specs.Texts.{HaveGrown, HaveStopped, NothingGrew}
use Rattle.cp_roles.specs.Commands.{extend_bindings}
use Rattle.cp_top.specs.Commands.{extend_texts}
use Rattle.cp_roles.specs.Input.{StackReads, ModelReads}
use Rattle.cp_top.specs.Run.{ReadFailed, WriteFailed}

-- the stack reads well, and the model for its variables is refused so
pub record ModelRefused (old : Ports) (refusal : ModelRefusal) : Type 0 where
  pub stack : StackText
  pub pairs : StackReads (old Stack).left (Ok stack)
  pub model : ModelReads stack.variables (old Model).left (Err refusal)

-- a role passes a limit: the stack, or the model where the stack reads well
abbrev pub PassesLimit : Role → Ports → Limit → ℕ → Type 0
PassesLimit Stack old limit offset = StackReads (old Stack).left (Err (stacks.TooLarge limit offset))
PassesLimit Model old limit offset = ModelRefused old (models.TooLarge limit offset)
PassesLimit role old limit offset = ⊥

-- Each outcome has its cause. Want of memory is the one free answer, and it comes only where the command is there.
abbrev pub HasExtendCause : List (List ℕ) → Ports → Ports → Outcome → Type 0
HasExtendCause words old new (Done status journal shifts kept stopped) = ⊥
HasExtendCause words old new Extended = IsOk (extend_options words)
HasExtendCause words old new (Generated journal stopped) = ⊥
HasExtendCause words old new (Refused (Usage kind)) = extend_options words ≡ Err kind
HasExtendCause words old new (Refused (OpenFault role)) = Taken (extend_options words) (λ o. BindFailed (extend_bindings o) role old new)
HasExtendCause words old new (Refused (ReadFault role)) = Taken (extend_options words) (λ o. ReadFailed (extend_bindings o) role old new)
HasExtendCause words old new (Refused (TooLarge role limit offset)) = IsOk (extend_options words) × PassesLimit role old limit offset
HasExtendCause words old new (Refused (BadInput offset kind)) = ⊥
HasExtendCause words old new (Refused (BadStack offset kind)) = IsOk (extend_options words) × StackReads (old Stack).left (Err (stacks.BadStack offset kind))
HasExtendCause words old new (Refused (BadModel offset kind)) = IsOk (extend_options words) × ModelRefused old (models.BadModel offset kind)
HasExtendCause words old new (Refused NoModel) = IsOk (extend_options words) × ModelRefused old models.NoModel
HasExtendCause words old new (Refused (WriteFault role journal)) = Taken (extend_options words) (λ o. WriteFailed (extend_bindings o) role old new)
HasExtendCause words old new (Refused NoMemory) = extend_options words ≢ Err kind.Command

-- what was left of Stack and of Model reads as pairs and a model of their variables, where the desk tells it
pub record ReadsBoth (old : Ports) : Type 0 where
  pub stack : StackText
  pub pairs : StackReads (old Stack).left (Ok stack)
  pub values : List Bool
  pub model : ModelReads stack.variables (old Model).left (Ok values)

-- the values completed by the pairs
abbrev pub full_of : {old : Ports} → ReadsBoth old → List Bool
full_of both = completed both.values both.stack.pairs

-- Full grew by the text of the completed model, and no other role grew.
pub record PrintsFull (old new : Ports) : Type 0 where
  pub both : ReadsBoth old
  pub texts : HaveGrown (extend_texts (full_of both)) old new

-- Where its write failed, it grew by a front of that text.
pub record PrintsFullFront (old new : Ports) (role : Role) (posts : List Post) : Type 0 where
  pub both : ReadsBoth old
  pub texts : HaveStopped (extend_texts (full_of both)) role old new
  pub no_posts : posts ≡ []

-- What is written, by the outcome.
abbrev pub IsExtension : Ports → Ports → Outcome → Type 0
IsExtension old new Extended = PrintsFull old new
IsExtension old new (Refused (WriteFault role journal)) = PrintsFullFront old new role journal.items
IsExtension old new outcome = NothingGrew old new
