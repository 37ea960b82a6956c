use Rattle.std.proofs.Common.{◌≡◌, ℕ, ◌-◌, ◌<◌, ◌≤◌, length, sym, subst, arith}
use Rattle.std.specs.Prelude.{IsTrue}
use Rattle.std.specs.List.{All, filter}
use Rattle.cp_logic.specs.declared.named.Named.{Named}
use Rattle.cp_logic.specs.Clauses.{has_variable, is_tautology, IsAscending}
use Rattle.cp_occ.specs.Cells.{CellView}
use Rattle.cp_occ.proofs.Numbered.{IsListed-push}
use Rattle.cp_occ.proofs.Sided.{counted-most, counted-more, one-most}
use Rattle.cp_occ.proofs.cell.Cell.insert.Goals as goal

pub overflow_add-self : goal.overflow_add-self
overflow_add-self c =
    let occurrences = c.self.inside.occurrences in
    let room : 0 < occurrences.cap - occurrences.len = subst (λ (v : CellView). 0 < v.spare) (sym c.self.view_is) c.requires.room in
    let most : length (filter (λ (n : Named). is_tautology n.clause) occurrences.items) ≤ length occurrences.items = counted-most (λ (n : Named). is_tautology n.clause) occurrences.items in
    let count : c.self.inside.tautologies ≡ length (filter (λ (n : Named). is_tautology n.clause) occurrences.items) = c.self.invariant.2 in
    let len : occurrences.len ≡ length occurrences.items = occurrences.ok.0 in
    let cap : occurrences.cap < 18446744073709551616 = subst (λ (n : ℕ). n < 18446744073709551616) c.capacity.ensures c.capacity.type_inv in
    let one : c.one_if.result ≤ 1 = one-most c.is_tautology.result c.one_if.result c.one_if.ensures in
    omega arith

pub invariant_of-self : goal.invariant_of-self
invariant_of-self c =
    rw (c.push_reserved.ensures.items, c.new.ensures)
    (let more = counted-more (λ (n : Named). is_tautology n.clause) c.self.inside.occurrences.items c.self.inside.tautologies c.one_if.result c.is_tautology.result
    (record { number = c.args.number; clause = c.args.place }) c.self.invariant.2 c.is_tautology.ensures c.one_if.ensures in
    let listed = IsListed-push c.self.inside.var c.self.inside.occurrences.items c.args.number c.args.place c.self.invariant.0
    (subst (λ (v : CellView). All (λ (n : Named). n.number < c.args.number) v.clauses) (sym c.self.view_is) c.requires.above)
    (subst IsAscending c.clause.ensures c.lits.ensures.ascending)
    (subst (λ (v : CellView). IsTrue (has_variable v.variable c.args.place)) (sym c.self.view_is) c.requires.has) in (listed, tt, more))
