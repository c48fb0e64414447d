pub mod TurpinCoanLaw
