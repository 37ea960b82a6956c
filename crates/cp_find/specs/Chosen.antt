-- The answer of a technique, where it is chosen.
use Rattle.std.specs.Prelude.{Bool, Option, None, if◌then◌else◌}

abbrev pub where_chosen : {X : Type 0} → Bool → Option X → Option X
where_chosen b o = if b then o else None
