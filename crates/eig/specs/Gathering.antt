-- Exponential information gathering (EIG): full, on the switch, for at most 8 stations of which 2 may be faulty, in
-- t + 1 rounds. In each round a station says what it holds for the chains of one length, and takes what station r says
-- of a chain without r as the value of that chain followed by r. Its answer is what the empty chain resolves to.
use Rattle.std.specs.Prelude.{ℕ, suc, ◌+◌, ◌*◌, ◌/◌, ◌%◌, ◌^◌, Bool, true, false, cond, List, [], ◌∷◌, map, length, Some, None, Option, ◌==◌, nat_lt}
use Rattle.protocol.specs.declared.setup.Setup.{Setup}
use Rattle.protocol.specs.Admission.{refusal, unless_refused}
use Rattle.protocol.specs.Protocol.{Protocol, saturated}
use Rattle.protocol.specs.Words.{silent, heard_at}
use Rattle.values.specs.declared.switch.Switch.{Switch}
use Rattle.values.specs.declared.switch.Switch.TheVariants.{Hold, Go}
use Rattle.eig.specs.Chain.{resolved}
use Rattle.eig.specs.Numbering.{chains, number}

-- bit b of a word, which is worth 2 to the power b
abbrev pub bit : (b word : ℕ) → Bool
bit b word = word / 2 ^ b % 2 == 1

-- the word with these bits, from the one worth 1 on
abbrev pub packed : List Bool → ℕ
packed [] = 0
packed (b ∷ bs) = cond b 1 0 + 2 * packed bs

-- the word whose bit b is what is held for chain b of k stations
abbrev pub level_word : (n k : ℕ) → (held : List ℕ → Bool) → ℕ
level_word n k held = packed (map held (chains n k))

-- a word that tells of this many chains; with a bit at or above their number it counts as 0
abbrev pub counted : (many word : ℕ) → ℕ
counted many word = cond (nat_lt word (2 ^ many)) word 0

-- what is taken for a chain where `words r` came from station r: for c followed by r bit c of that word
abbrev pub taken : (n : ℕ) → (words : ℕ → ℕ) → List ℕ → Bool
taken n words [] = false
taken n words (r ∷ c) = bit (number n c) (words r)

-- the word that came from station r after `round` rounds, at a station that says `level` itself
abbrev pub word_from : Setup → (round level : ℕ) → List ℕ → (r : ℕ) → ℕ
word_from s round level row r = counted (length (chains s.n round)) (heard_at s.own level row r)

pub data State : Type 0 where
  idle : State
  -- how many rounds are over, and the word of what is held for the chains of that length
  gathering : (s : Setup) (round level : ℕ) → State
  answered : Switch → State

abbrev pub goes : Switch → Bool
goes Hold = false
goes Go = true

abbrev pub switch : Bool → Switch
switch b = cond b Go Hold

abbrev pub eig_rounds : (n t : ℕ) → ℕ
eig_rounds n t = saturated (t + 1)

-- the empty chain holds the entry
abbrev pub eig_begun : Setup → Switch → State
eig_begun s v =
    unless_refused (refusal 8 2 (eig_rounds s.n s.t) s) idle (gathering s 0 (level_word s.n 0 (λ c. goes v)))

-- after the last round the empty chain is resolved
abbrev pub gathered : Setup → (round : ℕ) → (words : ℕ → ℕ) → State
gathered s round words =
    let held = taken s.n words in
    cond (nat_lt round s.t)
    (gathering s (suc round) (level_word s.n (suc round) held))
    (answered (switch (resolved s.n held (suc s.t) [])))

abbrev pub eig_heard : State → List ℕ → State
eig_heard idle row = idle
eig_heard (gathering s round level) row = gathered s round (word_from s round level row)
eig_heard (answered v) row = answered v

abbrev pub eig_said : State → ℕ
eig_said idle = silent
eig_said (gathering s round level) = level
eig_said (answered v) = silent

abbrev pub eig_answer : State → Option Switch
eig_answer idle = None
eig_answer (gathering s round level) = None
eig_answer (answered v) = Some v

abbrev pub eig : Protocol Switch Switch
eig = record {
  State = State;
  max_stations = 8;
  max_faulty = 2;
  rounds = eig_rounds;
  begun = eig_begun;
  heard = eig_heard;
  said = eig_said;
  answer = eig_answer;
}
