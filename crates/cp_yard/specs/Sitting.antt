-- What contracts see of a seat and of a yard.
use Rattle.atomic_table.specs.Seated.{TableId}
use Rattle.cp_yard.specs.Views.{Base, SeatView}

-- a seat of a table, with what it knows
pub record Sitting : Type 0 where
  pub table : TableId
  pub view : SeatView

-- a yard over a base
pub record YardView : Type 0 where
  pub table : TableId
  pub base : Base
