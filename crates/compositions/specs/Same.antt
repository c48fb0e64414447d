-- Votes that cannot be told apart.
use Rattle.std.specs.Prelude.{◌≡◌, ℕ, List, refl}
use Rattle.protocol.specs.declared.setup.Setup.{Setup}
use Rattle.protocol.specs.Protocol.{Protocol, after}

-- the same limits and rounds, and the same words and answers of a station, whatever it enters and hears
pub record SameVote {V A : Type 0} (P Q : Protocol V A) : Type 0 where
  pub stations : P.max_stations ≡ Q.max_stations
  pub faults : P.max_faulty ≡ Q.max_faulty
  pub rounds : (n t : ℕ) → P.rounds n t ≡ Q.rounds n t
  pub says : (s : Setup) (v : V) (rows : ℕ → List ℕ) (k : ℕ) →
      P.said (after P (P.begun s v) rows k) ≡ Q.said (after Q (Q.begun s v) rows k)
  pub answers : (s : Setup) (v : V) (rows : ℕ → List ℕ) (k : ℕ) →
      P.answer (after P (P.begun s v) rows k) ≡ Q.answer (after Q (Q.begun s v) rows k)

pub itself : {V A : Type 0} (P : Protocol V A) → SameVote P P
itself P = record {
  stations = refl;
  faults = refl;
  rounds = λ n t. refl;
  says = λ s v rows k. refl;
  answers = λ s v rows k. refl;
}
