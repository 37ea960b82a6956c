pub mod lemmas
mod BoundInTurn
mod InputsRead
mod RolesBound
