pub mod TurpinCoan
