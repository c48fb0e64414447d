pub mod Chain
pub mod Numbering
pub mod Gathering
pub mod Held
