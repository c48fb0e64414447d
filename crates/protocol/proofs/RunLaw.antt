-- Every station of a run has an answer, and only one.
use Rattle.std.proofs.Common.{◌≡◌, ℕ, ◌<◌, Some, Option}
use Rattle.protocol.specs.Orderly.{Orderly}
use Rattle.protocol.specs.Protocol.{Protocol}
use Rattle.protocol.specs.Run.{Run, answered, station}
use Rattle.protocol.proofs.AdmissionLaw.{station_admitted}

pub answers : {V A : Type 0} {P : Protocol V A} {n t : ℕ} → Orderly P → (R : Run P n t) (i : ℕ) → i < n →
    (a : A) × (answered R i ≡ Some a)
answers {n = n} {t = t} orderly R i l =
    orderly.late (station n t i) (R.entry i) (R.rows i) (station_admitted R.takes l)

pub only_answer : {A : Type 0} {o : Option A} {a b : A} → o ≡ Some a → o ≡ Some b → a ≡ b
only_answer e f = cc
