-- The inputs of a run are read: what a reader says of the front of a text is what the text says.
use Rattle.std.proofs.Common.{◌≡◌, ◌<◌, ◌≤◌, ◌⊎◌, ℕ, ◌+◌, Bool, List, [], ◌∷◌, ◌++◌, length, take, Option, Some, None, Result, Ok, Err, inl, inr, sym, ◌∙◌, ap, arith}
use Rattle.std.specs.Prelude.{IfSome}
use Rattle.std.specs.Global.{Vec}
use Rattle.std.specs.Io.KnownBytes.{prepend_known, IsAtEnd}
use Rattle.std.proofs.Math.Nat.{eq-or-lt_of_le}
use Rattle.std.proofs.lemmas.List.{append-nil, take-append-le, take_all}
use Rattle.cp_io.specs.declared.role.Role.TheVariants.{Cnf, Stack, Model}
use Rattle.cp_io.specs.Limits.{standard_limits}
use Rattle.cp_io.specs.Port.{Ports, AtRole}
use Rattle.cp_logic.specs.declared.pairs.Stack.{Stack as HeldStack}
use Rattle.cp_logic.specs.Slots.{Held}
use Rattle.cp_dimacs.specs.Grammar.{reads}
use Rattle.cp_dimacs.specs.Laws.{ReadsWithin as FormulasWithin}
use Rattle.cp_stack.specs.Grammar.{stack_reads}
use Rattle.cp_stack.specs.Laws.{ReadsWithin as StacksWithin}
use Rattle.cp_extend.specs.Grammar.{model_reads}
use Rattle.cp_extend.specs.Laws.{ReadsWithin as ModelsWithin}
use Rattle.cp_roles.specs.declared.refusal.Refusal.{Refusal}
use Rattle.cp_roles.specs.declared.refusal.Refusal.TheVariants.{Usage, OpenFault, ReadFault, TooLarge, BadInput, BadStack, BadModel, NoModel, WriteFault, NoMemory}
use Rattle.cp_roles.specs.Input.{ReadsInput, ReadsFormula, FormulaAnswer, FormulaSaid, ReadsStack, StackAnswer, StackSaid, ReadsModel, ModelAnswer, ModelSaid}

-- the bytes that were read are the front of the text
front-of : (most : ℕ) (bytes rest : List ℕ) → length bytes ≤ most → (length bytes < most → rest ≡ []) → bytes ≡ take most (bytes ++ rest)
front-of most bytes [] bound end = rw append-nil (sym (take_all most bytes bound))
front-of most bytes (b ∷ rest) bound end = go (eq-or-lt_of_le bound)
  where
    go : (length bytes ≡ most) ⊎ (length bytes < most) → bytes ≡ take most (bytes ++ b ∷ rest)
    go (inl same) = let past : most ≤ length bytes = omega arith in rw take-append-le (sym (take_all most bytes bound))
    go (inr below) = let e = end below in cc

pub front : (most : ℕ) (bytes : List ℕ) (old new : Option (List ℕ)) → old ≡ prepend_known bytes new → length bytes ≤ most → (length bytes < most → IsAtEnd new) → IfSome old (λ text. bytes ≡ take most text)
front most bytes old None is bound end = rw is tt
front most bytes old (Some rest) is bound end = rw is (front-of most bytes rest bound end)

-- the bytes say of the text what they say
said : {A : Type 0} (says : List ℕ → A) → ((text : List ℕ) → says (take (standard_limits.bytes + 1) text) ≡ says text) → (left : Option (List ℕ)) (bytes : List ℕ) (answer : A)
    → IfSome left (λ text. bytes ≡ take (standard_limits.bytes + 1) text) → says bytes ≡ answer → IfSome left (λ text. says text ≡ answer)
said says same None bytes answer is e = tt
said says same (Some text) bytes answer is e = sym (same text) ∙ ap says (sym is) ∙ e

module _ (old new : Ports) (bytes : Vec ℕ) where
  formula-answer : FormulasWithin → (result : Result Held Refusal) → IfSome (old Cnf).left (λ text. bytes.items ≡ take (standard_limits.bytes + 1) text) → FormulaSaid bytes.items result → FormulaAnswer result (old Cnf) (new Cnf)
  formula-answer front-says (Ok f) is h = record { says = said (reads standard_limits) (front-says standard_limits) (old Cnf).left bytes.items (Ok f.formula) is h.0; valid = h.1; numbers = h.2 }
  formula-answer front-says (Err (BadInput offset kind)) is h = said (reads standard_limits) (front-says standard_limits) (old Cnf).left bytes.items _ is h
  formula-answer front-says (Err (TooLarge role limit offset)) is h = (h.0, said (reads standard_limits) (front-says standard_limits) (old Cnf).left bytes.items _ is h.1)
  formula-answer front-says (Err NoMemory) is h = tt
  formula-answer front-says (Err (Usage kind)) is h = absurd h
  formula-answer front-says (Err (OpenFault role)) is h = absurd h
  formula-answer front-says (Err (ReadFault role)) is h = absurd h
  formula-answer front-says (Err (BadStack offset kind)) is h = absurd h
  formula-answer front-says (Err (BadModel offset kind)) is h = absurd h
  formula-answer front-says (Err NoModel) is h = absurd h
  formula-answer front-says (Err (WriteFault role journal)) is h = absurd h

  pub formula-read : FormulasWithin → (result : Result Held Refusal) → AtRole Cnf (ReadsInput Cnf (Ok bytes)) old new → FormulaSaid bytes.items result → AtRole Cnf (ReadsFormula result) old new
  formula-read front-says result r h = record { here = record { answer = formula-answer front-says result r.here.answer h; only = r.here.only }; others = r.others }

  stack-answer : StacksWithin → (result : Result HeldStack Refusal) → IfSome (old Stack).left (λ text. bytes.items ≡ take (standard_limits.bytes + 1) text) → StackSaid bytes.items result → StackAnswer result (old Stack) (new Stack)
  stack-answer front-says (Ok s) is h = record { says = said (stack_reads standard_limits) (front-says standard_limits) (old Stack).left bytes.items _ is h.0; within = h.1 }
  stack-answer front-says (Err (BadStack offset kind)) is h = said (stack_reads standard_limits) (front-says standard_limits) (old Stack).left bytes.items _ is h
  stack-answer front-says (Err (TooLarge role limit offset)) is h = (h.0, said (stack_reads standard_limits) (front-says standard_limits) (old Stack).left bytes.items _ is h.1)
  stack-answer front-says (Err NoMemory) is h = tt
  stack-answer front-says (Err (Usage kind)) is h = absurd h
  stack-answer front-says (Err (OpenFault role)) is h = absurd h
  stack-answer front-says (Err (ReadFault role)) is h = absurd h
  stack-answer front-says (Err (BadInput offset kind)) is h = absurd h
  stack-answer front-says (Err (BadModel offset kind)) is h = absurd h
  stack-answer front-says (Err NoModel) is h = absurd h
  stack-answer front-says (Err (WriteFault role journal)) is h = absurd h

  pub stack-read : StacksWithin → (result : Result HeldStack Refusal) → AtRole Stack (ReadsInput Stack (Ok bytes)) old new → StackSaid bytes.items result → AtRole Stack (ReadsStack result) old new
  stack-read front-says result r h = record { here = record { answer = stack-answer front-says result r.here.answer h; only = r.here.only }; others = r.others }

  model-answer : ModelsWithin → (variables : ℕ) (result : Result (List Bool) Refusal) → IfSome (old Model).left (λ text. bytes.items ≡ take (standard_limits.bytes + 1) text) → ModelSaid variables bytes.items result → ModelAnswer variables result (old Model) (new Model)
  model-answer front-says variables (Ok values) is h = record { says = said (model_reads standard_limits variables) (front-says standard_limits variables) (old Model).left bytes.items _ is h.0; length = h.1 }
  model-answer front-says variables (Err (BadModel offset kind)) is h = said (model_reads standard_limits variables) (front-says standard_limits variables) (old Model).left bytes.items _ is h
  model-answer front-says variables (Err NoModel) is h = said (model_reads standard_limits variables) (front-says standard_limits variables) (old Model).left bytes.items _ is h
  model-answer front-says variables (Err (TooLarge role limit offset)) is h = (h.0, said (model_reads standard_limits variables) (front-says standard_limits variables) (old Model).left bytes.items _ is h.1)
  model-answer front-says variables (Err NoMemory) is h = tt
  model-answer front-says variables (Err (Usage kind)) is h = absurd h
  model-answer front-says variables (Err (OpenFault role)) is h = absurd h
  model-answer front-says variables (Err (ReadFault role)) is h = absurd h
  model-answer front-says variables (Err (BadInput offset kind)) is h = absurd h
  model-answer front-says variables (Err (BadStack offset kind)) is h = absurd h
  model-answer front-says variables (Err (WriteFault role journal)) is h = absurd h

  pub model-read : ModelsWithin → (variables : ℕ) (result : Result (List Bool) Refusal) → AtRole Model (ReadsInput Model (Ok bytes)) old new → ModelSaid variables bytes.items result → AtRole Model (ReadsModel variables result) old new
  model-read front-says variables result r h = record { here = record { answer = model-answer front-says variables result r.here.answer h; only = r.here.only }; others = r.others }
