pub mod LeaderLaw
pub mod PassLaw
pub mod MajorityLaw
pub mod CountLaw
pub mod GradingLaw
