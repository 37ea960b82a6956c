-- What a reader holds of a model's text.
use Rattle.std.specs.Prelude.{None, slice_index_or}
use Rattle.cp_extend.specs.declared.progress.Progress.{Progress}
use Rattle.cp_extend.specs.Grammar.{Reading}

-- A variable past the last place wasn't given.
unfoldable pub reading_of : Progress → Reading
reading_of p = record { status = p.has_status; given = λ x. slice_index_or p.values.items x None }
