-- What is made ready for an entry.
use Rattle.std.specs.Prelude.{◌≡◌}
use Rattle.cp_logic.specs.Entries.{Entry}
use Rattle.cp_logic.specs.Views.{entry_of}
use Rattle.cp_occ.specs.Changes.{places_of}
use Rattle.cp_hood.specs.declared.prepared.Prepared.{Prepared}

-- the places of its new clauses, and a second entry of its clauses
pub record IsReadyFor (e : Entry) (p : Prepared) : Type 0 where
  pub places : p.places ≡ places_of e
  pub second : entry_of p.second ≡ e
