-- What reading an input does to its port, and what the inputs of a run say.
use Rattle.std.specs.Prelude.{◌≡◌, ◌≤◌, ◌+◌, ℕ, List, Bool, take, length, Option, Result, Ok, Err, IfSome, OnOk}
use Rattle.std.specs.Global.{Vec}
use Rattle.cp_io.specs.declared.role.Role.{Role}
use Rattle.cp_io.specs.declared.role.Role.TheVariants.{Cnf, Stack, Model}
use Rattle.cp_io.specs.Limits.{standard_limits}
use Rattle.cp_io.specs.Port.{Port, Rose}
use Rattle.cp_logic.specs.declared.pairs.Stack.{Stack as HeldStack}
use Rattle.cp_logic.specs.Formulas.{Formula, IsFormula}
use Rattle.cp_logic.specs.Journals.{number_limit}
use Rattle.cp_logic.specs.Slots.{Held}
use Rattle.cp_dimacs.specs.declared.refusal.CnfRefusal.{CnfRefusal}
use Rattle.cp_dimacs.specs.declared.refusal.CnfRefusal.TheVariants as cnf
use Rattle.cp_dimacs.specs.Grammar.{reads}
use Rattle.cp_stack.specs.declared.refusal.StackRefusal.{StackRefusal}
use Rattle.cp_stack.specs.declared.refusal.StackRefusal.TheVariants as stacks
use Rattle.cp_stack.specs.Grammar.{Stack as StackText, stack_reads}
use Rattle.cp_stack.specs.Reads.{stack_of}
use Rattle.cp_extend.specs.declared.refusal.ModelRefusal.{ModelRefusal}
use Rattle.cp_extend.specs.declared.refusal.ModelRefusal.TheVariants as models
use Rattle.cp_extend.specs.Grammar.{model_reads}
use Rattle.cp_roles.specs.declared.refusal.Refusal.{Refusal}
use Rattle.cp_roles.specs.declared.refusal.Refusal.TheVariants.{ReadFault, TooLarge, BadInput, BadStack, BadModel, NoModel, NoMemory}

-- ---- what the bytes of a role say, where the desk tells them

abbrev pub FormulaReads : Option (List ℕ) → Result Formula CnfRefusal → Type 0
FormulaReads left answer = IfSome left (λ bytes. reads standard_limits bytes ≡ answer)

abbrev pub StackReads : Option (List ℕ) → Result StackText StackRefusal → Type 0
StackReads left answer = IfSome left (λ bytes. stack_reads standard_limits bytes ≡ answer)

abbrev pub ModelReads : ℕ → Option (List ℕ) → Result (List Bool) ModelRefusal → Type 0
ModelReads variables left answer = IfSome left (λ bytes. model_reads standard_limits variables bytes ≡ answer)

-- ---- reading a role

-- nothing is written, and the role stays bound as it was
pub record OnlyReads (old new : Port) : Type 0 where
  pub rest : new ≡ record old { left = new.left; read_faults = new.read_faults }

-- the front of what was left that a reader looks at, one byte past the limit of bytes
abbrev pub InputAnswer : Role → Result (Vec ℕ) Refusal → Port → Port → Type 0
InputAnswer role (Ok bytes) old new = IfSome old.left (λ text. bytes.items ≡ take (standard_limits.bytes + 1) text)
InputAnswer role (Err (ReadFault other)) old new = (other ≡ role) × Rose old.read_faults new.read_faults
InputAnswer role (Err NoMemory) old new = Unit {0}
InputAnswer role (Err refusal) old new = ⊥

pub record ReadsInput (role : Role) (result : Result (Vec ℕ) Refusal) (old new : Port) : Type 0 where
  pub answer : InputAnswer role result old new
  pub only : OnlyReads old new
  -- where bytes were read no read failed
  pub steady : OnOk result (new.read_faults ≡ old.read_faults)

-- what a text says: a formula, which has numbers to spare, or why there is none
abbrev pub FormulaSaid : List ℕ → Result Held Refusal → Type 0
FormulaSaid text (Ok f) = (reads standard_limits text ≡ Ok f.formula) × IsFormula f.formula × (f.formula.next ≤ number_limit)
FormulaSaid text (Err (BadInput offset kind)) = reads standard_limits text ≡ Err (cnf.BadInput offset kind)
FormulaSaid text (Err (TooLarge role limit offset)) = (role ≡ Cnf) × (reads standard_limits text ≡ Err (cnf.TooLarge limit offset))
FormulaSaid text (Err NoMemory) = Unit {0}
FormulaSaid text (Err refusal) = ⊥

-- pairs, or why there are none
abbrev pub StackSaid : List ℕ → Result HeldStack Refusal → Type 0
StackSaid text (Ok s) = (stack_reads standard_limits text ≡ Ok (stack_of s)) × (s.vars ≤ standard_limits.variables)
StackSaid text (Err (BadStack offset kind)) = stack_reads standard_limits text ≡ Err (stacks.BadStack offset kind)
StackSaid text (Err (TooLarge role limit offset)) = (role ≡ Stack) × (stack_reads standard_limits text ≡ Err (stacks.TooLarge limit offset))
StackSaid text (Err NoMemory) = Unit {0}
StackSaid text (Err refusal) = ⊥

-- a model of so many variables, or why there is none
abbrev pub ModelSaid : ℕ → List ℕ → Result (List Bool) Refusal → Type 0
ModelSaid variables text (Ok values) = (model_reads standard_limits variables text ≡ Ok values) × (length values ≡ variables)
ModelSaid variables text (Err (BadModel offset kind)) = model_reads standard_limits variables text ≡ Err (models.BadModel offset kind)
ModelSaid variables text (Err NoModel) = model_reads standard_limits variables text ≡ Err models.NoModel
ModelSaid variables text (Err (TooLarge role limit offset)) = (role ≡ Model) × (model_reads standard_limits variables text ≡ Err (models.TooLarge limit offset))
ModelSaid variables text (Err NoMemory) = Unit {0}
ModelSaid variables text (Err refusal) = ⊥

-- what is left of the role reads as the formula, which has numbers to spare
pub record IsRead (f : Formula) (old : Port) : Type 0 where
  pub says : FormulaReads old.left (Ok f)
  pub valid : IsFormula f
  pub numbers : f.next ≤ number_limit

-- a formula, or the cause of the refusal
abbrev pub FormulaAnswer : Result Held Refusal → Port → Port → Type 0
FormulaAnswer (Ok f) old new = IsRead f.formula old
FormulaAnswer (Err (BadInput offset kind)) old new = FormulaReads old.left (Err (cnf.BadInput offset kind))
FormulaAnswer (Err (TooLarge role limit offset)) old new = (role ≡ Cnf) × FormulaReads old.left (Err (cnf.TooLarge limit offset))
FormulaAnswer (Err (ReadFault role)) old new = (role ≡ Cnf) × Rose old.read_faults new.read_faults
FormulaAnswer (Err NoMemory) old new = Unit {0}
FormulaAnswer (Err refusal) old new = ⊥

pub record ReadsFormula (result : Result Held Refusal) (old new : Port) : Type 0 where
  pub answer : FormulaAnswer result old new
  pub only : OnlyReads old new

pub record IsStackRead (s : HeldStack) (old : Port) : Type 0 where
  pub says : StackReads old.left (Ok (stack_of s))
  pub within : s.vars ≤ standard_limits.variables

-- pairs, or the cause of the refusal
abbrev pub StackAnswer : Result HeldStack Refusal → Port → Port → Type 0
StackAnswer (Ok s) old new = IsStackRead s old
StackAnswer (Err (BadStack offset kind)) old new = StackReads old.left (Err (stacks.BadStack offset kind))
StackAnswer (Err (TooLarge role limit offset)) old new = (role ≡ Stack) × StackReads old.left (Err (stacks.TooLarge limit offset))
StackAnswer (Err (ReadFault role)) old new = (role ≡ Stack) × Rose old.read_faults new.read_faults
StackAnswer (Err NoMemory) old new = Unit {0}
StackAnswer (Err refusal) old new = ⊥

pub record ReadsStack (result : Result HeldStack Refusal) (old new : Port) : Type 0 where
  pub answer : StackAnswer result old new
  pub only : OnlyReads old new

pub record IsModelRead (variables : ℕ) (values : List Bool) (old : Port) : Type 0 where
  pub says : ModelReads variables old.left (Ok values)
  pub length : length values ≡ variables

-- a model of so many variables, or the cause of the refusal
abbrev pub ModelAnswer : ℕ → Result (List Bool) Refusal → Port → Port → Type 0
ModelAnswer variables (Ok values) old new = IsModelRead variables values old
ModelAnswer variables (Err (BadModel offset kind)) old new = ModelReads variables old.left (Err (models.BadModel offset kind))
ModelAnswer variables (Err NoModel) old new = ModelReads variables old.left (Err models.NoModel)
ModelAnswer variables (Err (TooLarge role limit offset)) old new = (role ≡ Model) × ModelReads variables old.left (Err (models.TooLarge limit offset))
ModelAnswer variables (Err (ReadFault role)) old new = (role ≡ Model) × Rose old.read_faults new.read_faults
ModelAnswer variables (Err NoMemory) old new = Unit {0}
ModelAnswer variables (Err refusal) old new = ⊥

pub record ReadsModel (variables : ℕ) (result : Result (List Bool) Refusal) (old new : Port) : Type 0 where
  pub answer : ModelAnswer variables result old new
  pub only : OnlyReads old new
