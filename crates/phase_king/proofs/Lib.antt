pub mod PhaseKingLaw
