use Rattle.std.proofs.Common.{◌∙◌, ◌++◌, ◌≤◌, ◌<◌, ◌≡◌, ℕ, List, length, drop, get_or, sym, ap, subst, append_assoc}
use Rattle.std.specs.Prelude.{◌==◌, codes}
use Rattle.std.specs.List.{flat_map}
use Rattle.std.proofs.lemmas.Bool.{not-true, not-false}
use Rattle.std.proofs.Math.ListN.{drop_of_length-le}
use Rattle.cp_io.specs.declared.role.Role.TheVariants.{Stack}
use Rattle.cp_io.specs.Prints.{Prints}
use Rattle.cp_io.proofs.Printing.{Prints-then}
use Rattle.cp_logic.specs.Clauses.{without}
use Rattle.cp_stack.specs.Text.{literal_part}
use Rattle.cp_io.proofs.PrintsUpTo.{Prints-whole}
use Rattle.cp_stack.proofs.Pieces.{Prints-other, Prints-passed}
use Rattle.cp_stack.proofs.printing.put_pair.Goals as goal
use Rattle.cp_stack.proofs.printing.put_pair.Goals.{then-ne, else-ne}

pub loop-lit-preserved : goal.loop-lit-preserved
loop-lit-preserved g c =
    let p = c.args.pair.now in
    let text = literal_part p.lit ++ flat_map literal_part (without p.clause p.lit) in
    let i = c.loop-lit.lit-index in
    let low : i < length p.clause = subst (λ (ls : List ℕ). i < length ls) c.lits-lits.ensures.value c.loop-lit-test.true in
    let here : c.lit-item.result ≡ get_or p.clause i c.lit-item.result = subst (λ (ls : List ℕ). c.lit-item.result ≡ get_or ls i c.lit-item.result) c.lits-lits.ensures.value c.lit-item.is in
    elim c.if-ne.branch [
      | then-ne w ↦ rw (w.buffer-is, w.desk-is) (record {
        prints = Prints-other literal_part text p.clause p.lit i c.lit-item.result low
            (ap (λ (l : ℕ). l == p.lit) (sym here) ∙ not-true (c.lit-item.result == p.lit) (sym c.ne.ensures ∙ w.if-ne.true)) c.loop-lit.invariant.prints
            (subst (λ (l : ℕ). Prints Stack (literal_part l) c.loop-lit.buffer (g.D.Desk.port c.loop-lit.desk) w.put_literal-then-ne.new.buffer (g.D.Desk.port w.put_literal-then-ne.new.desk)) here w.put_literal-then-ne.ensures.prints);
        bound = w.put_literal-then-ne.ensures.bound;
      })
      | else-ne w ↦ rw (w.buffer-is, w.desk-is) (record {
        prints = Prints-passed literal_part text p.clause p.lit i c.lit-item.result low
            (ap (λ (l : ℕ). l == p.lit) (sym here) ∙ not-false (c.lit-item.result == p.lit) (sym c.ne.ensures ∙ w.if-ne.false)) c.loop-lit.invariant.prints;
        bound = c.loop-lit.invariant.bound;
      })
    ]

pub returns-clause-prints : goal.returns-clause-prints
returns-clause-prints g c =
    let p = c.args.pair.now in
    let text = literal_part p.lit ++ flat_map literal_part (without p.clause p.lit) in
    let i = c.loop-lit.lit-index in
    let past : length p.clause ≤ i = subst (λ (ls : List ℕ). length ls ≤ i) c.lits-lits.ensures.value c.loop-lit-test.false in
    subst (λ t. Prints Stack t c.args.buffer.now (g.D.Desk.port c.args.desk.now) c.put.new.self (g.D.Desk.port c.put.new.desk))
    (append_assoc (literal_part p.lit) (flat_map literal_part (without p.clause p.lit)) (codes "0\n"))
    (Prints-then (Prints-whole text (flat_map literal_part (without (drop i p.clause) p.lit)) (ap (λ (ls : List ℕ). flat_map literal_part (without ls p.lit)) (drop_of_length-le p.clause past)) c.loop-lit.invariant.prints) c.put.ensures.prints)
