-- The refusals by their numbers, and which one a call gives.
use Rattle.std.specs.Prelude.{◌≡◌, ℕ, ◌≤◌, Bool, true, cond, ◌⊎◌, List, [], ◌∷◌, Some, None, Option, codes}
use Rattle.protocol.specs.declared.refusal.Refusal.{Refusal}
use Rattle.protocol.specs.declared.refusal.Refusal.TheVariants.{Stations, Faulty, OwnNumber, Rounds, Pressure, Speed}

abbrev pub number : Refusal → ℕ
number Stations = 1
number Faulty = 2
number OwnNumber = 3
number Rounds = 4
number Pressure = 6
number Speed = 7

-- how a refusal is printed
abbrev pub message : Refusal → List ℕ
message Stations = codes "fewer than 2 stations, or more than the vote takes"
message Faulty = codes "more faulty stations than the vote bears, or a third of all or more"
message OwnNumber = codes "the own number is not that of a station"
message Rounds = codes "more than 65,535 rounds"
message Pressure = codes "a pressure above its limit"
message Speed = codes "a speed outside its limits"

-- a call's refusals in ascending order, each with the test that tells whether it applies
abbrev pub Tests : Type 0
Tests = List (Bool × Refusal)

-- the first that applies
abbrev pub first_refusal : Tests → Option Refusal
first_refusal [] = None
first_refusal (x ∷ xs) = cond x.0 (Some x.1) (first_refusal xs)

abbrev pub Applies : Tests → Refusal → Type 0
Applies [] r = ⊥
Applies (x ∷ xs) r = ((x.0 ≡ true) × (x.1 ≡ r)) ⊎ Applies xs r

-- a call is refused exactly if some refusal applies, and by the one with the lowest number
pub record LowestRefusal (tests : Tests) : Type 0 where
  pub applies : (r : Refusal) → first_refusal tests ≡ Some r → Applies tests r
  pub lowest : (r q : Refusal) → first_refusal tests ≡ Some r → Applies tests q → number r ≤ number q
  pub none : first_refusal tests ≡ None → (q : Refusal) → Applies tests q → ⊥
