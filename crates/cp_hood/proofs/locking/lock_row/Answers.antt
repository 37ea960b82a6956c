use Rattle.std.proofs.Common.{rules, ◌≡◌, ℕ, ◌<◌, suc, length, List, [], ◌∷◌, ◌++◌, drop, slice_index_or, sym, ap, ◌∙◌, subst, append_assoc}
use Rattle.std.specs.List.{Contains}
use Rattle.std.proofs.lemmas.List.{map-append}
use Rattle.std.proofs.lemmas.List.Elements.{Contains-get_or}
use Rattle.std.proofs.lemmas.List.{take_more}
use Rattle.cp_logic.proofs.Members.{in_contains}
use Rattle.cp_occ.specs.Cells.{CellView}
use Rattle.cp_yard.specs.Views.{Met, SeatView, held_of, noted, with_lock}
use Rattle.cp_hood.proofs.Rows.{held_of-locks, next-free, with_locks-snoc, split-next}
use Rattle.cp_hood.proofs.locking.lock_row.Goals as goal

pub try_lock-requires-clause-free : goal.try_lock-requires-clause-free
try_lock-requires-clause-free c = let r = c.loop-var.invariant.row in let vars = c.args.vars.now in let i : ℕ = c.loop-var.var-index in let x : ℕ = slice_index_or vars i 0 in
    let near : i < length vars = c.loop-var-test.true in
    ap (λ (v : SeatView). held_of x v.held) r.seat
    ∙ (held_of-locks r.got c.args.seat.now.view x (λ m. next-free vars i near c.requires.ascending (subst (λ (xs : List ℕ). Contains xs x) r.variables m))
    ∙ c.requires.free x (in_contains vars x (Contains-get_or vars i 0 near)))

pub returns-in-Err-clause-answer : goal.returns-in-Err-clause-answer
returns-in-Err-clause-answer c = let r = c.loop-var.invariant.row in let vars = c.args.vars.now in let i : ℕ = c.loop-var.var-index in let x : ℕ = slice_index_or vars i 0 in
    let near : i < length vars = c.loop-var-test.true in record {
      got = r.got;
      left = drop (suc i) vars;
      variables = ap (λ (xs : List ℕ). xs ++ x ∷ drop (suc i) vars) r.variables ∙ split-next vars i near;
      cells = r.cells;
      seat = c.in-Err.ensures.met.1 ∙ ap (noted (Met x c.in-Err.met.by)) r.seat;
    }

pub loop-var-preserved : goal.loop-var-preserved
loop-var-preserved c = let r = c.loop-var.invariant.row in let vars = c.args.vars.now in let i : ℕ = c.loop-var.var-index in let x : ℕ = slice_index_or vars i 0 in let cell : CellView = c.in-Ok.cell in
    let near : i < length vars = c.loop-var-test.true in let got = c.in-Ok.ensures.got in let var : cell.variable ≡ x = got.0 in record {
      table = search rules;
      room = search rules;
      row = record {
        got = r.got ++ cell ∷ [];
        variables = map-append (λ (d : CellView). d.variable) r.got (cell ∷ []) ∙ ((λ j. r.variables j ++ var j ∷ []) ∙ sym (take_more vars i 0 near));
        cells = c.push_reserved.ensures.items ∙ (ap (λ (ds : List CellView). ds ++ cell ∷ []) r.cells ∙ append_assoc c.args.cells.now.items r.got (cell ∷ []));
        seat = got.1 ∙ ((λ j. with_lock (sym var j) cell.clauses (r.seat j)) ∙ sym (with_locks-snoc r.got cell c.args.seat.now.view));
      };
    }
