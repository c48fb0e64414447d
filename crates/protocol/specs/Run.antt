-- Runs of a protocol, whatever the faulty stations say in them.
use Rattle.std.specs.Prelude.{◌≡◌, ℕ, ◌<◌, ◌≤◌, Bool, true, not, List, Option, ◌≢◌, slice_index_or}
use Rattle.protocol.specs.declared.setup.Setup.{Setup}
use Rattle.protocol.specs.Words.{silent}
use Rattle.protocol.specs.Places.{count}
use Rattle.protocol.specs.Protocol.{Protocol, Takes, after}

-- the setup of station j
abbrev pub station : (n t j : ℕ) → Setup
station n t j = record { n = n; t = t; own = j }

-- the state of station j once it has entered v and heard the first k of its rows
abbrev pub state_at : {V A : Type 0} (P : Protocol V A) (n t j : ℕ) → V → (ℕ → List ℕ) → (k : ℕ) → P.State
state_at P n t j v rows k = after P (P.begun (station n t j) v) rows k

pub record Run {V A : Type 0} (P : Protocol V A) (n t : ℕ) : Type 0 where
  pub takes : Takes P n t
  pub correct : ℕ → Bool
  pub few_faulty : count (λ j. not (correct j)) n ≤ t
  pub entry : ℕ → V
  -- the row that a listener hears in a round
  pub rows : (listener round : ℕ) → List ℕ
  -- a correct listener hears what each other correct station says; at the faulty places anything may stand
  pub exact : (i j k : ℕ) → i < n → j < n → k < P.rounds n t → correct i ≡ true → correct j ≡ true → (i ≢ j) →
      slice_index_or (rows i k) j silent ≡ P.said (state_at P n t j (entry j) (rows j) k)

module _ {V A : Type 0} {P : Protocol V A} {n t : ℕ} (R : Run P n t) where
  abbrev pub Correct : (i : ℕ) → Type 0
  Correct i = (i < n) × (R.correct i ≡ true)

  -- the state of station i after k rounds
  abbrev pub reached : (i k : ℕ) → P.State
  reached i k = state_at P n t i (R.entry i) (R.rows i) k

  -- what station i answers after the last round
  abbrev pub answered : (i : ℕ) → Option A
  answered i = P.answer (reached i (P.rounds n t))

  -- all correct stations entered v
  abbrev pub Unanimous : V → Type 0
  Unanimous v = (i : ℕ) → Correct i → R.entry i ≡ v
