-- What is ready for an entry, once its new clauses have their numbers.
use Rattle.std.proofs.Common.{◌≡◌, ℕ, sym, ◌∙◌, ap}
use Rattle.cp_logic.specs.Entries.{Entry, numbered}
use Rattle.cp_logic.specs.Views.{entry_of}
use Rattle.cp_occ.specs.Changes.{places_of}
use Rattle.cp_occ.proofs.Posted.{places_of-numbered}
use Rattle.cp_hood.specs.declared.prepared.Prepared.{Prepared}
use Rattle.cp_hood.specs.Ready.{IsReadyFor}

pub ready-numbered : (next : ℕ) (e posted : Entry) (p q : Prepared) → IsReadyFor e p → q.places ≡ p.places → entry_of q.second ≡ numbered next (entry_of p.second)
    → posted ≡ numbered next e → IsReadyFor posted q
ready-numbered next e posted p q is places second same = record {
  places = places ∙ is.places ∙ sym (places_of-numbered next e) ∙ ap places_of (sym same);
  second = second ∙ ap (numbered next) is.second ∙ sym same;
}
