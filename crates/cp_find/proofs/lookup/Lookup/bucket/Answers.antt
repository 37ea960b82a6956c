use Rattle.std.proofs.Common.{◌<◌, List, sym, subst}
use Rattle.std.specs.List.{Contains}
use Rattle.cp_find.specs.declared.lookup.Signed.{Signed}
use Rattle.cp_find.specs.Lookups.{LookupView, Covers, signed}
use Rattle.cp_find.proofs.Lookups.{bucket-has}
use Rattle.cp_find.proofs.lookup.Lookup.bucket.Goals as goal

pub returns : goal.returns
returns c = λ x cs d covers i j n.
    let lookup : LookupView = record { count = c.self.inside.count; buckets = c.self.inside.buckets.items } in
    subst (λ (z : List Signed). Contains z (signed d)) (sym c.as_slice.ensures)
    (bucket-has lookup c.index.result.now c.place.result c.args.lit c.index.ensures c.place.ensures.value
    (subst (λ (l : LookupView). 0 < l.count) (sym c.self.view_is) c.requires) x cs d (subst (Covers x cs) (sym c.self.view_is) covers) i j n)
