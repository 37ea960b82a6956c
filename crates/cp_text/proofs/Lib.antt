pub mod Cuts
pub mod LinesAhead
pub mod Printed
pub mod WordFronts
pub mod Wholes
