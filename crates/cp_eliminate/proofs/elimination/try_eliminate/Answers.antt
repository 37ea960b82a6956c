use Rattle.std.proofs.Common.{◌≡◌, ◌∙◌, ℕ, Bool, List, Some, sym, ap, subst}
use Rattle.std.specs.List.{All, list_any}
use Rattle.cp_logic.specs.declared.named.Named.{Named}
use Rattle.cp_logic.specs.Literals.{positive, negative}
use Rattle.cp_logic.specs.Entries.{Eliminate, numbered_from}
use Rattle.cp_logic.specs.Clauses.{is_tautology}
use Rattle.cp_logic.specs.Legality.{resolvents, has_tautology_at}
use Rattle.cp_occ.specs.Cells.{CellView, IsCell}
use Rattle.cp_occ.proofs.Having.{AllHave, cell-have}
use Rattle.cp_eliminate.specs.Eliminating.{is_within}
use Rattle.cp_eliminate.specs.Sides.{Has}
use Rattle.cp_eliminate.proofs.Fitting.{tautology-at, none-tautology, none-beyond, some-within, have-literal}
use Rattle.cp_eliminate.proofs.elimination.try_eliminate.Goals as goal

-- the same of the same
same_test : (x y bound : ℕ) (pos p neg n : List Named) → y ≡ x → p ≡ pos → n ≡ neg → is_within y bound p n ≡ is_within x bound pos neg
same_test x y bound pos p neg n e f g = ap (λ z. is_within z bound p n) e ∙ ap (λ q. is_within x bound q n) f ∙ ap (λ q. is_within x bound pos q) g

same_resolvents : (x y : ℕ) (pos p neg n : List Named) → y ≡ x → p ≡ pos → n ≡ neg → resolvents y p n ≡ resolvents x pos neg
same_resolvents x y pos p neg n e f g = ap (λ z. resolvents z p n) e ∙ ap (λ q. resolvents x q n) f ∙ ap (λ q. resolvents x pos q) g

same_entry : (x y : ℕ) (pos p neg n new w : List Named) → y ≡ x → p ≡ pos → n ≡ neg → w ≡ new → Some (Eliminate y p n w) ≡ Some (Eliminate x pos neg new)
same_entry x y pos p neg n new w e f g h =
    ap (λ z. Some (Eliminate z p n w)) e ∙ ap (λ q. Some (Eliminate x q n w)) f ∙ ap (λ q. Some (Eliminate x pos q w)) g ∙ ap (λ q. Some (Eliminate x pos neg q)) h

have-same : (l k : ℕ) (cs ds : List Named) → cs ≡ ds → k ≡ l → All (Has l) cs → All (Has k) ds
have-same l k cs ds e f h = subst (λ m. All (Has m) ds) (sym f) (subst (All (Has l)) e h)

-- each clause of a cell that is the same has the variable
have_same : (cell same : CellView) → same ≡ cell → IsCell same → AllHave cell.variable cell.clauses
have_same cell same e v = cell-have cell (subst IsCell e v)

variable_same : (cell same : CellView) → same ≡ cell → same.variable ≡ cell.variable
variable_same cell same e = ap (λ (k : CellView). k.variable) e

-- whether it has a tautology
tautology_same : (cell same : CellView) (b : Bool) → same ≡ cell → IsCell same → b ≡ list_any (λ (n : Named). is_tautology n.clause) same.clauses
    → has_tautology_at cell.clauses cell.variable ≡ b
tautology_same cell same b e v t =
    sym (tautology-at cell.variable cell.clauses (have_same cell same e v)) ∙ ap (λ (k : CellView). list_any (λ (n : Named). is_tautology n.clause) k.clauses) (sym e) ∙ sym t

pub returns-then-has_tautology : goal.returns-then-has_tautology
returns-then-has_tautology c =
    let cell = c.args.sides.now in
    none-tautology cell.clauses c.args.bound c.args.next cell.variable
    (tautology_same cell c.cell-cell.result.now c.has_tautology.result c.cell-cell.ensures c.var-var.ensures.valid c.has_tautology.ensures ∙ c.if-has_tautology.true)

pub returns-then-not-is_within : goal.returns-then-not-is_within
returns-then-not-is_within c =
    let cell = c.args.sides.now in
    none-beyond cell.clauses c.args.bound c.args.next cell.variable
    (sym (same_test cell.variable c.var-var.result c.args.bound _ c.pos-pos.result.now _ c.neg-neg.result.now
    (c.var-var.ensures.value ∙ variable_same cell c.cell-cell.result.now c.cell-cell.ensures) c.pos-pos.ensures c.neg-neg.ensures)
    ∙ sym c.is_within.ensures ∙ c.if-not-is_within.true)

pub numbered_resolvents-requires-clause-have : goal.numbered_resolvents-requires-clause-have
numbered_resolvents-requires-clause-have c =
    let cell = c.args.sides.now in
    have-same (positive cell.variable) (positive c.var-var.result) _ c.pos-pos.result.now (sym c.pos-pos.ensures)
    (ap positive (c.var-var.ensures.value ∙ variable_same cell c.cell-cell.result.now c.cell-cell.ensures))
    (have-literal cell.clauses (positive cell.variable))

pub numbered_resolvents-requires-clause-others_have :
    goal.numbered_resolvents-requires-clause-others_have
numbered_resolvents-requires-clause-others_have c =
    let cell = c.args.sides.now in
    have-same (negative cell.variable) (negative c.var-var.result) _ c.neg-neg.result.now (sym c.neg-neg.ensures)
    (ap negative (c.var-var.ensures.value ∙ variable_same cell c.cell-cell.result.now c.cell-cell.ensures))
    (have-literal cell.clauses (negative cell.variable))

pub returns : goal.returns
returns c =
    let cell = c.args.sides.now in
    let variable : c.var-var.result ≡ cell.variable = c.var-var.ensures.value ∙ variable_same cell c.cell-cell.result.now c.cell-cell.ensures in
    same_entry cell.variable c.var-var.result _ c.in_ok-pos.pos.items _ c.in_ok-neg.neg.items _ c.in_ok-new.new.items variable
    (c.in_ok-pos.ensures ∙ c.pos-pos.ensures)
    (c.in_ok-neg.ensures ∙ c.neg-neg.ensures)
    (c.in_ok-new.ensures ∙ ap (numbered_from c.args.next) (same_resolvents cell.variable c.var-var.result _ c.pos-pos.result.now _ c.neg-neg.result.now variable c.pos-pos.ensures c.neg-neg.ensures))
    ∙ some-within cell.clauses c.args.bound c.args.next cell.variable
    (tautology_same cell c.cell-cell.result.now c.has_tautology.result c.cell-cell.ensures c.var-var.ensures.valid c.has_tautology.ensures ∙ c.if-has_tautology.false)
    (sym (same_test cell.variable c.var-var.result c.args.bound _ c.pos-pos.result.now _ c.neg-neg.result.now variable c.pos-pos.ensures c.neg-neg.ensures)
    ∙ sym c.is_within.ensures ∙ c.if-not-is_within.false)
