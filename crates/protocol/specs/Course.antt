-- The course that a vote takes once it is known who is correct, what each enters and what the faulty ones send.
use Rattle.std.specs.Prelude.{◌≡◌, ℕ, zero, suc, ◌<◌, ◌≤◌, Bool, false, cond, not, List, map, slice_index_or}
use Rattle.std.specs.List.{range_with_len}
use Rattle.protocol.specs.Words.{silent}
use Rattle.protocol.specs.Places.{count}
use Rattle.protocol.specs.Protocol.{Protocol, Takes}
use Rattle.protocol.specs.Run.{Run, station, reached}

-- the row that a listener hears in a round where the stations are in these states;
-- `forged` is what it finds there at a faulty sender's place
abbrev pub row_of : {V A : Type 0} (P : Protocol V A) (n : ℕ) (correct : ℕ → Bool)
    (forged : (round listener sender : ℕ) → ℕ) → (ℕ → P.State) → (round listener : ℕ) → List ℕ
row_of P n correct forged states k i =
    map (λ j. cond (correct j) (P.said (states j)) (forged k i j)) (range_with_len 0 n)

-- the states of all stations after k rounds
abbrev pub course : {V A : Type 0} (P : Protocol V A) (n t : ℕ) (correct : ℕ → Bool) (entry : ℕ → V)
    (forged : (round listener sender : ℕ) → ℕ) → (k : ℕ) → ℕ → P.State
course P n t correct entry forged zero i = P.begun (station n t i) (entry i)
course P n t correct entry forged (suc k) i =
    let states = course P n t correct entry forged k in
    P.heard (states i) (row_of P n correct forged states k i)

-- a run with these correct stations and entries, in which the faulty stations send these words: the course itself
pub record RunOf {V A : Type 0} (P : Protocol V A) (n t : ℕ) (correct : ℕ → Bool) (entry : ℕ → V)
    (forged : (round listener sender : ℕ) → ℕ) : Type 0 where
  pub run : Run P n t
  pub same_correct : run.correct ≡ correct
  pub same_entry : run.entry ≡ entry
  pub same_forged : (k i j : ℕ) → j < n → correct j ≡ false → slice_index_or (run.rows i k) j silent ≡ forged k i j
  pub same_states : (i k : ℕ) → reached run i k ≡ course P n t correct entry forged k i

-- whoever is correct, whatever they enter and whatever the faulty stations send: there is such a run
abbrev pub RunsExist : {V A : Type 0} → Protocol V A → Type 0
RunsExist {V} P =
    (n t : ℕ) (correct : ℕ → Bool) (entry : ℕ → V) (forged : (round listener sender : ℕ) → ℕ) →
    Takes P n t → count (λ j. not (correct j)) n ≤ t → RunOf P n t correct entry forged
