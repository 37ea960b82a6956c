-- What a run of any command does to the ports of its desk: what that command's run does. Words that begin with no command are refused as those
-- of `simplify` are.
use Rattle.std.specs.Prelude.{ℕ, List, codes, MatchBool}
use Rattle.cp_io.specs.Port.{Ports}
use Rattle.cp_words.specs.Words.{is_command, simplify_options, extend_options, generate_options}
use Rattle.cp_top.specs.declared.outcome.Outcome.{Outcome}
use Rattle.cp_roles.specs.Commands.{simplify_bindings, extend_bindings, generate_bindings}
use Rattle.cp_top.specs.Run.{HasCause, IsWritten, AreBound, asked_workers}
use Rattle.cp_top.specs.Extension.{HasExtendCause, IsExtension}
use Rattle.cp_top.specs.Generation.{HasGenerateCause, IsGeneration}

-- of what the three commands' runs do, what the command of the words does
abbrev pub ByCommand : List (List ℕ) → Type 0 → Type 0 → Type 0 → Type 0
ByCommand words Simplifies Extends Generates =
    MatchBool (is_command (codes "extend") words) Extends (MatchBool (is_command (codes "generate") words) Generates Simplifies)

abbrev pub HasWholeCause : List (List ℕ) → Ports → Ports → Outcome → Type 0
HasWholeCause words old new outcome =
    ByCommand words (HasCause words old new outcome) (HasExtendCause words old new outcome) (HasGenerateCause words old new outcome)

abbrev pub IsWholeWritten : List (List ℕ) → Ports → Ports → Outcome → Type 0
IsWholeWritten words old new outcome =
    ByCommand words (IsWritten asked_workers words old new outcome) (IsExtension old new outcome) (IsGeneration words old new outcome)

abbrev pub AreWholeBound : List (List ℕ) → Ports → Outcome → Type 0
AreWholeBound words ports outcome =
    ByCommand words (AreBound (simplify_options words) simplify_bindings ports outcome) (AreBound (extend_options words) extend_bindings ports outcome)
    (AreBound (generate_options words) generate_bindings ports outcome)
