pub mod RoundLaw
pub mod PromiseLaw
