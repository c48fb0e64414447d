-- A setup is refused by the lowest number that applies, and not at all within the limits.
use Rattle.std.proofs.Common.{◌≡◌, ℕ, ◌*◌, ◌<◌, ◌≤◌, ltb, leb, None, refl, ap, arith}
use Rattle.std.proofs.lemmas.Bool.{or_from, or_parts, le-ltb, lt-leb, ltb-false, leb-false}
use Rattle.protocol.specs.declared.setup.Setup.{Setup}
use Rattle.protocol.specs.Admission.{setup_tests, LowestAdmission, unless_refused}
use Rattle.protocol.specs.Protocol.{Protocol, Takes, Admitted, ExactAdmission, refused}
use Rattle.protocol.specs.Run.{station}
use Rattle.protocol.proofs.RefusalLaw.{first_lowest, none_applies}

pub lowest_admission_lem : LowestAdmission
lowest_admission_lem max_stations max_faulty rounds s = first_lowest (setup_tests max_stations max_faulty rounds s) refl

pub station_admitted : {V A : Type 0} {P : Protocol V A} {n t j : ℕ} → Takes P n t → j < n →
    Admitted P (station n t j)
station_admitted takes l = record { takes = takes; own_number = l }

-- a vote with no lower limits and no more rounds takes as much
pub takes_too : {V A W B : Type 0} {P : Protocol V A} {Q : Protocol W B} {n t : ℕ} → Takes Q n t →
    Q.max_stations ≤ P.max_stations → Q.max_faulty ≤ P.max_faulty → P.rounds n t ≤ Q.rounds n t → Takes P n t
takes_too h stations faulty rounds = record {
  two_stations = h.two_stations;
  stations_within = let l = h.stations_within in omega arith;
  faulty_within = let l = h.faulty_within in omega arith;
  third = h.third;
  in_time = let l = h.in_time in omega arith;
}

pub not_refused : {V A : Type 0} (P : Protocol V A) (s : Setup) → Admitted P s → refused P s ≡ None
not_refused P s a =
    let h = a.takes in
    rw (
      or_from (ltb s.n 2) (ltb P.max_stations s.n)
          (le-ltb s.n 2 h.two_stations) (le-ltb P.max_stations s.n h.stations_within),
      or_from (ltb P.max_faulty s.t) (leb s.n (3 * s.t))
          (le-ltb P.max_faulty s.t h.faulty_within) (lt-leb s.n (3 * s.t) h.third),
      lt-leb s.n s.own a.own_number,
      le-ltb 65535 (P.rounds s.n s.t) h.in_time,
    )

pub not_idle : {V A S : Type 0} (P : Protocol V A) (s : Setup) (idle begun : S) → Admitted P s →
    unless_refused (refused P s) idle begun ≡ begun
not_idle P s idle begun a = ap (λ o. unless_refused o idle begun) (not_refused P s a)

taken : {V A : Type 0} (P : Protocol V A) (s : Setup) → refused P s ≡ None → Admitted P s
taken P s e =
    let h = none_applies (setup_tests P.max_stations P.max_faulty (P.rounds s.n s.t) s) e in
    let n = or_parts (ltb s.n 2) (ltb P.max_stations s.n) h.0 in
    let t = or_parts (ltb P.max_faulty s.t) (leb s.n (3 * s.t)) h.1.0 in
    record {
      takes = record {
        two_stations = ltb-false s.n 2 n.0;
        stations_within = ltb-false P.max_stations s.n n.1;
        faulty_within = ltb-false P.max_faulty s.t t.0;
        third = leb-false s.n (3 * s.t) t.1;
        in_time = ltb-false 65535 (P.rounds s.n s.t) h.1.1.1.0;
      };
      own_number = leb-false s.n s.own h.1.1.0;
    }

pub exact_admission_lem : {V A : Type 0} (P : Protocol V A) → ExactAdmission P
exact_admission_lem P = record { taken = taken P; not_refused = not_refused P }
