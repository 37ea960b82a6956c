-- The literals of a clause as they are kept: up to three beside their number, more in a block of their own.
use Rattle.std.specs.Prelude.{ℕ, List, []}
use Rattle.cp_logic.specs.declared.literals.Kept.{Kept}
use Rattle.cp_logic.specs.declared.literals.Kept.TheVariants.{Zero, One, Two, Three, Four, Five, Six, More}

abbrev pub literals_in : Kept → List ℕ
literals_in Zero = []
literals_in (One lits) = lits
literals_in (Two lits) = lits
literals_in (Three lits) = lits
literals_in (Four lits) = lits.value
literals_in (Five lits) = lits.value
literals_in (Six lits) = lits.value
literals_in (More list) = list.value.items
