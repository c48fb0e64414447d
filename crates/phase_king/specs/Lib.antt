pub mod PhaseKing
