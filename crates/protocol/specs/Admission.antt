-- Which setups a vote refuses.
use Rattle.std.specs.Prelude.{ℕ, ◌*◌, ◌||◌, [], ◌∷◌, Some, None, Option, nat_le, nat_lt}
use Rattle.protocol.specs.declared.refusal.Refusal.{Refusal}
use Rattle.protocol.specs.declared.refusal.Refusal.TheVariants.{Stations, Faulty, OwnNumber, Rounds}
use Rattle.protocol.specs.declared.setup.Setup.{Setup}
use Rattle.protocol.specs.Refusals.{Tests, first_refusal, LowestRefusal}

-- what a vote for at most `max_stations` stations and `max_faulty` faulty ones, which takes `rounds` rounds, asks of a
-- setup
abbrev pub setup_tests : (max_stations max_faulty rounds : ℕ) → Setup → Tests
setup_tests max_stations max_faulty rounds s =
    (nat_lt s.n 2 || nat_lt max_stations s.n, Stations)
    ∷ ((nat_lt max_faulty s.t || nat_le s.n (3 * s.t), Faulty)
    ∷ ((nat_le s.n s.own, OwnNumber)
    ∷ ((nat_lt 65535 rounds, Rounds)
    ∷ [])))

-- why it does not take a setup
abbrev pub refusal : (max_stations max_faulty rounds : ℕ) → Setup → Option Refusal
refusal max_stations max_faulty rounds s = first_refusal (setup_tests max_stations max_faulty rounds s)

abbrev pub LowestAdmission : Type 0
LowestAdmission =
    (max_stations max_faulty rounds : ℕ) (s : Setup) → LowestRefusal (setup_tests max_stations max_faulty rounds s)

-- how a vote begins: idle where the setup is refused
abbrev pub unless_refused : {S : Type 0} → Option Refusal → (idle begun : S) → S
unless_refused None idle begun = begun
unless_refused (Some r) idle begun = idle
