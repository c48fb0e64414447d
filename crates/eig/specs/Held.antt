-- What the stations of a run hold for the chains, what they resolve them to, and when they have to agree.
use Rattle.std.specs.Prelude.{◌≡◌, ℕ, zero, suc, ◌+◌, ◌<◌, ◌≤◌, Bool, true, ◌⊎◌, List, [], ◌∷◌, length, Some}
use Rattle.protocol.specs.declared.setup.Setup.{Setup}
use Rattle.protocol.specs.Protocol.{after}
use Rattle.protocol.specs.Run.{Run, Correct, reached, answered, station}
use Rattle.values.specs.declared.switch.Switch.{Switch}
use Rattle.eig.specs.Chain.{Chain, resolved}
use Rattle.eig.specs.Numbering.{number}
use Rattle.eig.specs.Gathering.{bit, level_word, word_from, goes, switch, eig}

-- what a station that entered v and heard these rows holds for a chain: its entry for the empty one, and for c
-- followed by r bit c of the word that came from r in the round in which stations tell of chains as long as c
abbrev pub held : Setup → (v : Switch) → (rows : ℕ → List ℕ) → List ℕ → Bool
held s v rows [] = goes v
held s v rows (r ∷ c) =
    let said = eig.said (after eig (eig.begun s v) rows (length c)) in
    bit (number s.n c) (word_from s (length c) said (rows (length c)) r)

module _ {n t : ℕ} (R : Run eig n t) where
  -- what station i holds for a chain, and what one that is `below` short of t + 1 stations resolves to there
  abbrev pub held_by : (i : ℕ) → List ℕ → Bool
  held_by i c = held (station n t i) (R.entry i) (R.rows i) c

  abbrev pub resolved_by : (i below : ℕ) → List ℕ → Bool
  resolved_by i below c = resolved n (held_by i) below c

  -- the chain's last station is correct
  abbrev pub EndsCorrect : List ℕ → Type 0
  EndsCorrect [] = ⊥
  EndsCorrect (r ∷ c) = R.correct r ≡ true

  -- every way from the chain down, by one station after the other, meets a chain whose last station is correct
  abbrev pub Covered : (below : ℕ) → List ℕ → Type 0
  Covered zero c = EndsCorrect c
  Covered (suc below) c = EndsCorrect c ⊎ ((r : ℕ) → Chain n (r ∷ c) → Covered below (r ∷ c))

-- how a run goes, by its chains
pub record Gathers {n t : ℕ} (R : Run eig n t) : Type 0 where
  -- in each round a station says the word of what it holds for the chains of that length: bit b tells of chain b
  pub says : (i k : ℕ) → i < n → k ≤ t → eig.said (reached R i k) ≡ level_word n k (held_by R i)
  pub tells : (i : ℕ) (c : List ℕ) → i < n → Chain n c → length c ≤ t →
      bit (number n c) (eig.said (reached R i (length c))) ≡ held_by R i c
  -- it answers what the empty chain resolves to
  pub answers : (i : ℕ) → i < n → answered R i ≡ Some (switch (resolved_by R i (suc t) []))
  -- what a correct station tells is believed
  pub relayed : (i r : ℕ) (c : List ℕ) → Correct R i → Correct R r → Chain n (r ∷ c) → length c ≤ t →
      held_by R i (r ∷ c) ≡ held_by R r c
  -- a chain whose last station is correct resolves, at every correct station, to what that station held for the chain
  -- before it
  pub last_correct : (i r below : ℕ) (c : List ℕ) → Correct R i → Correct R r → Chain n (r ∷ c) →
      length c + below ≡ t → resolved_by R i below (r ∷ c) ≡ held_by R r c
  -- if every way from a chain down meets such a chain, all correct stations resolve it alike
  pub frontier : (i j below : ℕ) (c : List ℕ) → Correct R i → Correct R j → Chain n c → length c + below ≡ suc t →
      Covered R below c → resolved_by R i below c ≡ resolved_by R j below c
  -- and so it is with the empty chain: t + 1 different stations are not all faulty
  pub root_covered : Covered R (suc t) []

abbrev pub GathersAlways : Type 0
GathersAlways = (n t : ℕ) (R : Run eig n t) → Gathers R
