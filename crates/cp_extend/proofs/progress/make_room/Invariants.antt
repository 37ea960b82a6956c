use Rattle.std.proofs.Common.{◌≡◌, ℕ, ◌-◌, None, slice_index_or, vec_len}
use Rattle.cp_extend.proofs.progress.make_room.Given as goal

abbrev pub invariant-places : goal.invariant-places
invariant-places l = (x : ℕ) → slice_index_or l.values.items x None ≡ slice_index_or l.initial.values.items x None

abbrev pub decreases-places : goal.decreases-places
decreases-places l = l.places - vec_len l.values
