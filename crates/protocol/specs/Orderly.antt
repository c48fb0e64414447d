-- What holds of every protocol, whatever its stations hear.
use Rattle.std.specs.Prelude.{◌≡◌, ℕ, ◌<◌, ◌≤◌, List, Some, None}
use Rattle.protocol.specs.declared.refusal.Refusal.{Refusal}
use Rattle.protocol.specs.declared.setup.Setup.{Setup}
use Rattle.protocol.specs.Words.{silent, heard_at}
use Rattle.protocol.specs.Protocol.{Protocol, Admitted, after, refused}

-- of a row only what the station reads at the first n places counts
abbrev pub ReadsOnly : {V A : Type 0} (P : Protocol V A) (n own : ℕ) → P.State → Type 0
ReadsOnly P n own s =
    (row row' : List ℕ) → ((j : ℕ) → j < n → heard_at own (P.said s) row j ≡ heard_at own (P.said s) row' j) →
    P.heard s row ≡ P.heard s row'

-- the silent word is said, and hearing changes nothing
pub record Still {V A : Type 0} (P : Protocol V A) (s : P.State) : Type 0 where
  pub says : P.said s ≡ silent
  pub stays : (row : List ℕ) → P.heard s row ≡ s

pub record Orderly {V A : Type 0} (P : Protocol V A) : Type 0 where
  pub stations : (4 ≤ P.max_stations) × (P.max_stations ≤ 64)
  pub faults : (1 ≤ P.max_faulty) × (P.max_faulty ≤ 21)
  pub some_rounds : (n t : ℕ) → (1 ≤ P.rounds n t) × (P.rounds n t ≤ 65536)
  -- no answer before the last round is over, then an answer
  pub early : (s : Setup) (v : V) (rows : ℕ → List ℕ) (k : ℕ) → Admitted P s → k < P.rounds s.n s.t →
      P.answer (after P (P.begun s v) rows k) ≡ None
  pub late : (s : Setup) (v : V) (rows : ℕ → List ℕ) → Admitted P s →
      (a : A) × (P.answer (after P (P.begun s v) rows (P.rounds s.n s.t)) ≡ Some a)
  pub reading : (s : Setup) (v : V) (rows : ℕ → List ℕ) (k : ℕ) → Admitted P s → k < P.rounds s.n s.t →
      ReadsOnly P s.n s.own (after P (P.begun s v) rows k)
  -- with an answer it is still
  pub over : (s : P.State) (a : A) → P.answer s ≡ Some a → Still P s
  -- begun with a setup that it refuses, it is idle: still, and without an answer
  pub idle : (s : Setup) (v : V) (r : Refusal) → refused P s ≡ Some r →
      Still P (P.begun s v) × (P.answer (P.begun s v) ≡ None)
