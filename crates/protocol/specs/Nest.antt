-- A vote that runs inside a layer, and the stretch of the layer's rounds in which it does.
use Rattle.std.specs.Prelude.{◌≡◌, ℕ, suc, ◌<◌, List, Some, None, Option}
use Rattle.protocol.specs.Protocol.{Protocol, Takes}
use Rattle.protocol.specs.Orderly.{Orderly}
use Rattle.protocol.specs.Run.{Run, Correct, reached, answered, station}

-- a layer waits until the vote below has an answer, and goes on with it
abbrev pub on_answer : {A S : Type 0} → Option A → (waits : S) → (next : A → S) → S
on_answer None waits next = waits
on_answer (Some a) waits next = next a

-- how a vote P is held by a layer L
pub record Nest {V A W B : Type 0} (P : Protocol V A) (L : Protocol W B) : Type 0 where
  -- the layer's state while the vote below is in s, and once that has answered a
  pub inside : (s : P.State) → L.State
  pub next : (a : A) → L.State
  -- the layer says what the vote below says, hands on to it what is heard, and has no answer yet
  pub says : (s : P.State) → L.said (inside s) ≡ P.said s
  pub hears : (s : P.State) (row : List ℕ) →
      L.heard (inside s) row ≡ on_answer (P.answer (P.heard s row)) (inside (P.heard s row)) next
  pub waits : (s : P.State) → L.answer (inside s) ≡ None

module _ {V A W B : Type 0} {P : Protocol V A} {L : Protocol W B} {n t : ℕ} where
  -- round k of the vote below is the layer's round `at k`, and each correct station begins it with its `entry`
  pub record Begins (R : Run L n t) (N : ℕ → Nest P L) (at : ℕ → ℕ) (entry : ℕ → V) : Type 0 where
    pub takes : Takes P n t
    pub follows : (k : ℕ) → at (suc k) ≡ suc (at k)
    pub fits : (k : ℕ) → k < P.rounds n t → at k < L.rounds n t
    pub begins : (j : ℕ) → Correct R j → reached R j (at 0) ≡ (N j).inside (P.begun (station n t j) (entry j))

  -- then the layer's rounds are a run of the vote below with the same correct stations and rows,
  -- and each correct station goes on with what it answered there
  pub record Stretch (R : Run L n t) (N : ℕ → Nest P L) (at : ℕ → ℕ) (entry : ℕ → V) : Type 0 where
    pub run : Run P n t
    pub same_correct : run.correct ≡ R.correct
    pub same_entry : run.entry ≡ entry
    pub same_rows : run.rows ≡ (λ i k. R.rows i (at k))
    pub goes_on : (j : ℕ) (a : A) → Correct R j → answered run j ≡ Some a →
        reached R j (at (P.rounds n t)) ≡ (N j).next a

abbrev pub Stretches : {V A W B : Type 0} → Protocol V A → Protocol W B → Type 0
Stretches {V} P L =
    Orderly P → (n t : ℕ) (R : Run L n t) (N : ℕ → Nest P L) (at : ℕ → ℕ) (entry : ℕ → V) →
    Begins R N at entry → Stretch R N at entry
