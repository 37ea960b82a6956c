use Rattle.std.proofs.Common.{◌∙◌, ap, sym, ltb, rules}
use Rattle.std.proofs.lemmas.List.Sorted.{IsPartitionPoint-from_clause}
use Rattle.cp_logic.specs.declared.named.Named.{Named}
use Rattle.cp_occ.specs.Cells.{from_number}
use Rattle.cp_occ.proofs.Numbered.{parted-by_number, from-point, all-from_zero}
use Rattle.cp_occ.proofs.cell.occurrences_from.Goals as goal

pub returns : goal.returns
returns c =
    let all = c.args.occurrences.now in
    let point = IsPartitionPoint-from_clause (λ (n : Named). ltb n.number c.args.number) all c.partition_point-at.result c.partition_point-at.ensures.partitioned
    (parted-by_number all c.args.number c.requires) (λ a r q k. search rules) in
    c.split_at.ensures.back ∙ from-point all c.args.number c.partition_point-at.result c.partition_point-at.ensures.bound point

pub returns-then-number-eq0 : goal.returns-then-number-eq0
returns-then-number-eq0 c =
    let all = c.args.occurrences.now in
    sym (ap (λ n. from_number n all) c.if-number-eq0.true ∙ all-from_zero all)
