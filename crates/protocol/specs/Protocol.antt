-- A voting protocol by its meaning: states, and what is said, heard and answered in them.
use Rattle.std.specs.Prelude.{◌≡◌, ℕ, zero, suc, ◌*◌, ◌<◌, ◌≤◌, min, List, None, Option}
use Rattle.protocol.specs.declared.refusal.Refusal.{Refusal}
use Rattle.protocol.specs.declared.setup.Setup.{Setup}
use Rattle.protocol.specs.Admission.{refusal}

-- numbers of rounds are kept up to 65,536, which stands for more too
abbrev pub saturated : (rounds : ℕ) → ℕ
saturated rounds = min 65536 rounds

-- V: what a station enters; A: what it answers
pub record Protocol (V A : Type 0) : Type 1 where
  pub State : Type 0
  pub max_stations : ℕ
  pub max_faulty : ℕ
  -- how many rounds n stations take of which t may be faulty
  pub rounds : (n t : ℕ) → ℕ
  pub begun : Setup → V → State
  pub heard : State → List ℕ → State
  pub said : State → ℕ
  pub answer : State → Option A

module _ {V A : Type 0} (P : Protocol V A) where
  -- why the protocol does not take a setup
  abbrev pub refused : Setup → Option Refusal
  refused s = refusal P.max_stations P.max_faulty (P.rounds s.n s.t) s

  -- the state after the first k rows
  abbrev pub after : P.State → (ℕ → List ℕ) → ℕ → P.State
  after s rows zero = s
  after s rows (suc k) = P.heard (after s rows k) (rows k)

-- n and t that the protocol takes
pub record Takes {V A : Type 0} (P : Protocol V A) (n t : ℕ) : Type 0 where
  pub two_stations : 2 ≤ n
  pub stations_within : n ≤ P.max_stations
  pub faulty_within : t ≤ P.max_faulty
  pub third : 3 * t < n
  pub in_time : P.rounds n t ≤ 65535

-- a setup that the protocol takes
pub record Admitted {V A : Type 0} (P : Protocol V A) (s : Setup) : Type 0 where
  pub takes : Takes P s.n s.t
  pub own_number : s.own < s.n

-- a setup is not refused exactly if the protocol takes it
pub record ExactAdmission {V A : Type 0} (P : Protocol V A) : Type 0 where
  pub taken : (s : Setup) → refused P s ≡ None → Admitted P s
  pub not_refused : (s : Setup) → Admitted P s → refused P s ≡ None
