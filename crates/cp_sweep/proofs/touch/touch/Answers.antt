use Rattle.std.proofs.Common.{◌≡◌, List, ◌++◌, length, sym, ap, ◌∙◌, subst}
use Rattle.std.proofs.lemmas.List.Concat.{flat_map-append}
use Rattle.cp_logic.specs.declared.named.Named.{Named}
use Rattle.cp_logic.specs.Entries.{Entry, gone_clauses, new_clauses}
use Rattle.cp_logic.specs.Views.{entry_of}
use Rattle.cp_sweep.specs.Marks.{with_marks, AreBelow}
use Rattle.cp_sweep.specs.Cursor.{variables_at, variables_through, touched_by}
use Rattle.cp_sweep.proofs.MarkFacts.{with_marks-append, below-left, below-right, below-marks}
use Rattle.cp_sweep.proofs.touch.touch.Goals as goal

-- the clauses go in two parts
in-parts : (e : Entry) (first second : List Named) → first ++ second ≡ gone_clauses e
    → touched_by e ≡ (variables_through first ++ variables_through second) ++ variables_through (new_clauses e)
in-parts e first second q = ap (λ xs. xs ++ variables_through (new_clauses e)) (ap variables_through (sym q) ∙ flat_map-append variables_at first second)

pub touch_all-requires : goal.touch_all-requires
touch_all-requires c =
    let first = variables_through c.gone_clauses.result.0.now in let second = variables_through c.gone_clauses.result.1.now in
    let new = variables_through (new_clauses (entry_of c.args.entry.now)) in let ms = c.args.touched.now in
    below-left (length ms) first second (below-left (length ms) (first ++ second) new (subst (AreBelow (length ms)) (in-parts (entry_of c.args.entry.now) c.gone_clauses.result.0.now c.gone_clauses.result.1.now c.gone_clauses.ensures) c.requires))

pub touch_all-requires-2 : goal.touch_all-requires-2
touch_all-requires-2 c =
    let first = variables_through c.gone_clauses.result.0.now in let second = variables_through c.gone_clauses.result.1.now in
    let new = variables_through (new_clauses (entry_of c.args.entry.now)) in let ms = c.args.touched.now in
    below-marks ms c.touch_all.new.touched second first c.touch_all.ensures
    (below-right (length ms) first second (below-left (length ms) (first ++ second) new (subst (AreBelow (length ms)) (in-parts (entry_of c.args.entry.now) c.gone_clauses.result.0.now c.gone_clauses.result.1.now c.gone_clauses.ensures) c.requires)))

pub touch_all-requires-3 : goal.touch_all-requires-3
touch_all-requires-3 c =
    let first = variables_through c.gone_clauses.result.0.now in let second = variables_through c.gone_clauses.result.1.now in
    let new = variables_through (new_clauses (entry_of c.args.entry.now)) in let ms = c.args.touched.now in
    subst (λ cs. AreBelow (length c.touch_all-2.new.touched) (variables_through cs)) (sym c.new_clauses.ensures)
    (below-marks c.touch_all.new.touched c.touch_all-2.new.touched new second c.touch_all-2.ensures
    (below-marks ms c.touch_all.new.touched new first c.touch_all.ensures
    (below-right (length ms) (first ++ second) new (subst (AreBelow (length ms)) (in-parts (entry_of c.args.entry.now) c.gone_clauses.result.0.now c.gone_clauses.result.1.now c.gone_clauses.ensures) c.requires))))

pub returns : goal.returns
returns c =
    let first = variables_through c.gone_clauses.result.0.now in let second = variables_through c.gone_clauses.result.1.now in
    let new = variables_through (new_clauses (entry_of c.args.entry.now)) in let ms = c.args.touched.now in
    c.touch_all-3.ensures ∙ ap (λ cs. with_marks c.touch_all-2.new.touched (variables_through cs)) c.new_clauses.ensures
    ∙ ap (λ ns. with_marks ns new) (c.touch_all-2.ensures ∙ ap (λ ns. with_marks ns second) c.touch_all.ensures ∙ sym (with_marks-append ms first second))
    ∙ sym (with_marks-append ms (first ++ second) new) ∙ ap (with_marks ms) (sym (in-parts (entry_of c.args.entry.now) c.gone_clauses.result.0.now c.gone_clauses.result.1.now c.gone_clauses.ensures))
