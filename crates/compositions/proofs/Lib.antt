pub mod CompositionLaw
pub mod SameLaw
