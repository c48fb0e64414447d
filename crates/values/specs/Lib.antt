pub mod Limits
pub mod SwitchKind
pub mod Lexical
pub mod LexicalLaw
pub mod PointKind
pub mod PointLaw
pub mod Text
