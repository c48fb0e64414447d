pub mod Composition
pub mod Same
pub mod Named
pub mod Worked
