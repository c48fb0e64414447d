pub mod OthersLaw
pub mod ChainsLaw
pub mod NumberLaw
pub mod BitsLaw
pub mod GatheringLaw
pub mod HeldLaw
pub mod EigLaw
