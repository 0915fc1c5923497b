pub mod Writing
pub mod Printed
