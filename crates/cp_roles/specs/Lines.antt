-- The line of each refusal, without the program's name before it and the line feed behind it.
use Rattle.std.specs.Prelude.{ℕ, List, ◌++◌, codes, decimal}
use Rattle.cp_io.specs.declared.limits.Limit.{Limit}
use Rattle.cp_io.specs.declared.limits.Limit.TheVariants as limit
use Rattle.cp_io.specs.declared.role.Role.{Role}
use Rattle.cp_io.specs.declared.role.Role.TheVariants.{Cnf, Reduced, Stack, Proof, Model, Full, Summary, Frozen}
use Rattle.cp_dimacs.specs.declared.refusal.InputKind.{InputKind}
use Rattle.cp_dimacs.specs.declared.refusal.InputKind.TheVariants as input
use Rattle.cp_stack.specs.declared.refusal.StackKind.{StackKind}
use Rattle.cp_stack.specs.declared.refusal.StackKind.TheVariants as stack
use Rattle.cp_extend.specs.declared.refusal.ModelKind.{ModelKind}
use Rattle.cp_extend.specs.declared.refusal.ModelKind.TheVariants as model
use Rattle.cp_words.specs.declared.words.UsageKind.{UsageKind}
use Rattle.cp_words.specs.declared.words.UsageKind.TheVariants as usage
use Rattle.cp_roles.specs.declared.refusal.Refusal.{Refusal}
use Rattle.cp_roles.specs.declared.refusal.Refusal.TheVariants.{Usage, OpenFault, ReadFault, TooLarge, BadInput, BadStack, BadModel, NoModel, WriteFault, NoMemory}

abbrev pub usage_line : UsageKind → List ℕ
usage_line usage.Command = codes "no such command"
usage_line usage.Words = codes "bad options"
usage_line usage.Choice = codes "bad letters in --only"
usage_line usage.Form = codes "bad option value"
usage_line usage.Names = codes "one name for two roles"

abbrev pub counted : Limit → List ℕ
counted limit.Variables = codes "variables"
counted limit.Clauses = codes "clauses"
counted limit.Literals = codes "literals"
counted limit.Bytes = codes "bytes"

abbrev pub role_word : Role → List ℕ
role_word Cnf = codes "cnf"
role_word Reduced = codes "reduced"
role_word Stack = codes "stack"
role_word Proof = codes "proof"
role_word Model = codes "model"
role_word Full = codes "full"
role_word Summary = codes "summary"
role_word Frozen = codes "frozen"

abbrev pub input_word : InputKind → List ℕ
input_word input.NoHeader = codes "NoHeader"
input_word input.BadHeader = codes "BadHeader"
input_word input.BadWord = codes "BadWord"
input_word input.OpenClause = codes "OpenClause"

abbrev pub stack_word : StackKind → List ℕ
stack_word stack.BadHeader = codes "BadHeader"
stack_word stack.BadWord = codes "BadWord"
stack_word stack.TooGreat = codes "TooGreat"
stack_word stack.EmptyPair = codes "EmptyPair"
stack_word stack.OpenPair = codes "OpenPair"
stack_word stack.Count = codes "Count"

abbrev pub model_word : ModelKind → List ℕ
model_word model.BadWord = codes "BadWord"
model_word model.BadStatus = codes "BadStatus"
model_word model.Contradiction = codes "Contradiction"
model_word model.NoEnd = codes "NoEnd"

-- a fault in a text, at its offset in bytes
abbrev pub fault_line : List ℕ → ℕ → List ℕ → List ℕ
fault_line text offset word = text ++ (codes " at byte " ++ (decimal offset ++ (codes ": " ++ word)))

abbrev pub refusal_line : Refusal → List ℕ
refusal_line (Usage kind) = usage_line kind
refusal_line (OpenFault role) = codes "cannot open " ++ role_word role
refusal_line (ReadFault role) = codes "cannot read " ++ role_word role
refusal_line (TooLarge role limit offset) = role_word role ++ (codes " has too many " ++ (counted limit ++ (codes " at byte " ++ decimal offset)))
refusal_line (BadInput offset kind) = fault_line (codes "bad input") offset (input_word kind)
refusal_line (BadStack offset kind) = fault_line (codes "bad stack") offset (stack_word kind)
refusal_line (BadModel offset kind) = fault_line (codes "bad model") offset (model_word kind)
refusal_line NoModel = codes "no model"
refusal_line (WriteFault role journal) = codes "cannot write " ++ role_word role
refusal_line NoMemory = codes "out of memory"
