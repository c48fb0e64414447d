-- What cannot be told apart keeps the same law.
use Rattle.std.proofs.Common.{◌≡◌, ℕ, sym, ap, ◌∙◌}
use Rattle.protocol.specs.Laws.{FullLaw}
use Rattle.protocol.specs.Protocol.{Protocol, Takes, after}
use Rattle.protocol.specs.Run.{Run, answered, station}
use Rattle.compositions.specs.Same.{SameVote}

module _ {V : Type 0} {P Q : Protocol V V} (same : SameVote P Q) where
  takes : (n t : ℕ) → Takes Q n t → Takes P n t
  takes n t h = record {
    two_stations = h.two_stations;
    stations_within = rw same.stations h.stations_within;
    faulty_within = rw same.faults h.faulty_within;
    third = h.third;
    in_time = rw (same.rounds n t) h.in_time;
  }

  module _ {n t : ℕ} (R : Run Q n t) where
    abbrev run : Run P n t
    run = record {
      takes = takes n t R.takes;
      correct = R.correct;
      few_faulty = R.few_faulty;
      entry = R.entry;
      rows = R.rows;
      exact = λ i j k l m h c d e.
          R.exact i j k l m (rw (same.rounds n t) at h) c d e ∙
          sym (same.says (station n t j) (R.entry j) (R.rows j) k);
    }

    answers_alike : (i : ℕ) → answered run i ≡ answered R i
    answers_alike i =
        same.answers (station n t i) (R.entry i) (R.rows i) (P.rounds n t) ∙
        ap (λ k. Q.answer (after Q (Q.begun (station n t i) (R.entry i)) (R.rows i) k)) (same.rounds n t)

  pub same_law : FullLaw P → FullLaw Q
  same_law law = record {
    validity = λ n t R v all i c. sym (answers_alike R i) ∙ law.validity n t (run R) v all i c;
    agreement = λ n t R i j c d.
        let f = law.agreement n t (run R) i j c d in
        (f.0, (sym (answers_alike R i) ∙ f.1.0, sym (answers_alike R j) ∙ f.1.1));
  }
