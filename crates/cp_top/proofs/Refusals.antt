-- The refusals of a run of `simplify` before its work: words, binds, and the input.
use Rattle.std.proofs.Common.{◌≡◌, ◌≢◌, ℕ, List, Ok, Err, inr}
use Rattle.cp_io.specs.Port.{Ports}
use Rattle.cp_logic.specs.Slots.{Held}
use Rattle.cp_words.specs.declared.words.UsageKind.TheVariants as kind
use Rattle.cp_words.specs.Words.{Simplify, simplify_options}
use Rattle.cp_top.specs.declared.outcome.Outcome.TheVariants.{Refused}
use Rattle.cp_roles.specs.declared.refusal.Refusal.{Refusal}
use Rattle.cp_roles.specs.declared.refusal.Refusal.TheVariants.{Usage, OpenFault, ReadFault, TooLarge, BadInput, BadStack, BadModel, NoModel, WriteFault, NoMemory}
use Rattle.cp_roles.specs.Commands.{simplify_bindings}
use Rattle.cp_top.specs.Run.{HasCause, IsWritten, AreBound}
use Rattle.cp_top.specs.Steps.{Begins}
use Rattle.cp_top.proofs.Simplify.{still-bound, nothing-grew}

-- The roles are bound and Cnf doesn't read as a formula, or a bind failed.
module _ (words : List (List ℕ)) (old p : Ports) (o : Simplify) (taken : simplify_options words ≡ Ok o) where
  not-command : simplify_options words ≢ Err kind.Command
  not-command e = cc

  pub begun-bound : (refusal : Refusal) → Begins o (Err refusal) old p → AreBound (simplify_options words) simplify_bindings p (Refused refusal)
  begun-bound (OpenFault role) h = (o, taken, h.bound)
  begun-bound (ReadFault role) h = (o, taken, still-bound o old h.0 p _ h.1 h.2)
  begun-bound (TooLarge role limit offset) h = (o, taken, still-bound o old h.0 p _ h.1 h.2)
  begun-bound (BadInput offset kind) h = (o, taken, still-bound o old h.0 p _ h.1 h.2)
  begun-bound NoMemory h = inr (o, taken, still-bound o old h.0 p _ h.1 h.2)
  begun-bound (Usage kind) h = absurd h.2.here.answer
  begun-bound (BadStack offset kind) h = absurd h.2.here.answer
  begun-bound (BadModel offset kind) h = absurd h.2.here.answer
  begun-bound NoModel h = absurd h.2.here.answer
  begun-bound (WriteFault role journal) h = absurd h.2.here.answer

  -- the formula is read, and then memory is wanting
  pub lacking-cause : HasCause words old p (Refused NoMemory)
  lacking-cause = not-command

  pub lacking-written : (workers : Simplify → ℕ) (f : Held) → Begins o (Ok f) old p → IsWritten workers words old p (Refused NoMemory)
  lacking-written workers f h = nothing-grew o old h.0 p _ h.1 h.2

  pub lacking-bound : (f : Held) → Begins o (Ok f) old p → AreBound (simplify_options words) simplify_bindings p (Refused NoMemory)
  lacking-bound f h = inr (o, taken, still-bound o old h.0 p _ h.1 h.2)
