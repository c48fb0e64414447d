-- The counting vote: its rule, that it is orderly, and the weak law.
use Rattle.std.proofs.Common.{◌≡◌, ℕ, zero, suc, ◌-◌, ◌<◌, ◌≤◌, Bool, true, false, cond, leb, ◌⊎◌, List, Some, None, Option, sym, refl, ap, ◌∙◌, inl, inr, ⊎_elim, arith}
use mathlib.Core.Path.{subst⁻¹}
use Rattle.std.proofs.lemmas.Bool.{cases_eq, leb-true, le-leb, lt-leb}
use Rattle.std.proofs.lemmas.Option.{none-some}
use Rattle.protocol.specs.declared.setup.Setup.{Setup}
use Rattle.protocol.specs.Kind.{Kind, Lawful}
use Rattle.protocol.specs.Laws.{WeakLaw}
use Rattle.protocol.specs.Orderly.{Orderly, ReadsOnly, Still}
use Rattle.protocol.specs.Places.{places}
use Rattle.protocol.specs.Protocol.{Admitted, after}
use Rattle.protocol.specs.Run.{Run, Correct, Unanimous, answered, station}
use Rattle.protocol.specs.Words.{silent, heard_at}
use Rattle.protocol.proofs.AdmissionLaw.{not_idle, station_admitted}
use Rattle.protocol.proofs.KindLaw.{word_injective}
use Rattle.protocol.proofs.PlacesLaw.{rivals}
use Rattle.protocol.proofs.QuorumLaw.{quorum, carried}
use Rattle.protocol.proofs.RowLaw.{said_in, read_in, read_exact}
use Rattle.counting.specs.declared.count.CountState.{CountState}
use Rattle.counting.specs.declared.count.CountState.TheVariants.{Idle, Voting, Answered}
use Rattle.counting.specs.Counting.{settled, counting, count_begun, count_heard, count_said, count_answer}
use Rattle.protocol.specs.Heard.{view}
use Rattle.counting.specs.Leader.{leader}
use Rattle.counting.specs.QuorumRule.{QuorumRule, answer_to, places_of}
use Rattle.counting.proofs.LeaderLaw.{leader_same, leader_leads}
use Rattle.counting.proofs.MajorityLaw.{majority_is_leader}

module _ {V : Type 0} (K : Kind V) where
  begins : (s : Setup) (v : V) → Admitted (counting K) s → count_begun K s v ≡ Voting s (K.word v)
  begins s v a = not_idle (counting K) s Idle (Voting s (K.word v)) a

  -- what the station makes of a row
  abbrev made : (s : Setup) (entry : V) (row : List ℕ) → ℕ
  made s entry row = settled K (s.n - s.t) (leader K (view s (K.word entry) row) s.n)

  ends : (s : Setup) (entry : V) (row : List ℕ) → Admitted (counting K) s →
      answer_to K s entry row ≡ Some (K.reads (made s entry row))
  ends s entry row a = ap (λ x. count_answer K (count_heard K x row)) (begins s entry a)

  pub counting_orderly : Orderly (counting K)
  counting_orderly = record {
    stations = omega arith;
    faults = omega arith;
    some_rounds = λ n t. omega arith;
    early = early;
    late = λ s v rows a. (K.reads (made s v (rows 0)), ends s v (rows 0) a);
    reading = reading;
    over = over;
    idle = λ s v r e. rw e (record { says = refl; stays = λ row. refl }, refl);
  }
    where
      early : (s : Setup) (v : V) (rows : ℕ → List ℕ) (k : ℕ) → Admitted (counting K) s → k < 1 →
          count_answer K (after (counting K) (count_begun K s v) rows k) ≡ None
      early s v rows zero a l = ap (count_answer K) (begins s v a)
      early s v rows (suc k) a l = absurd (omega arith)

      reading : (s : Setup) (v : V) (rows : ℕ → List ℕ) (k : ℕ) → Admitted (counting K) s → k < 1 →
          ReadsOnly (counting K) s.n s.own (after (counting K) (count_begun K s v) rows k)
      reading s v rows zero a l =
          subst⁻¹ (ReadsOnly (counting K) s.n s.own) (begins s v a)
          (λ row row' h. ap (λ b. Answered (settled K (s.n - s.t) b)) (leader_same K _ _ s.n h))
      reading s v rows (suc k) a l = absurd (omega arith)

      over : (s : CountState) (a : Option V) → count_answer K s ≡ Some a → Still (counting K) s
      over (Answered word) a e = record { says = refl; stays = λ row. refl }
      over s a e = absurd (none-some a e)

module _ {V : Type 0} (K : Kind V) (lawful : Lawful K) where
  pub counting_rule : QuorumRule K
  counting_rule = record { answers = answers; only = only; none = none }
    where
      -- n - t places are a majority
      answers : (s : Setup) (entry : V) (row : List ℕ) → Admitted (counting K) s → (v : V) →
          s.n - s.t ≤ places_of K s entry row v → answer_to K s entry row ≡ Some (Some v)
      answers s entry row a v h =
          let third = a.takes.third in
          let best = majority_is_leader K lawful (view s (K.word entry) row) s.n (v, places_of K s entry row v)
          refl (omega arith) in
          ends K s entry row a ∙
          ap Some
          (ap (λ b. K.reads (settled K (s.n - s.t) b)) (sym best) ∙
          (ap (λ b. K.reads (cond b (K.word v) silent)) (le-leb _ _ h) ∙ lawful.reads_word v))

      only : (s : Setup) (entry : V) (row : List ℕ) → Admitted (counting K) s → (v : V) →
          answer_to K s entry row ≡ Some (Some v) → s.n - s.t ≤ places_of K s entry row v
      only s entry row a v e =
          by (leb (s.n - s.t) (leader K (view s (K.word entry) row) s.n).1) refl
          (let f = ends K s entry row a in cc)
        where
          by : (b : Bool) → leb (s.n - s.t) (leader K (view s (K.word entry) row) s.n).1 ≡ b →
              K.reads (made K s entry row) ≡ Some v → s.n - s.t ≤ places_of K s entry row v
          by true f g =
              let best = leader K (view s (K.word entry) row) s.n in
              let r : K.reads (K.word best.0) ≡ Some v = rw f at g in
              let h = lawful.reads_word best.0 in
              let same : best.0 ≡ v = cc in
              let l = leb-true (s.n - s.t) best.1 f in
              let p = (leader_leads K lawful (view s (K.word entry) row) s.n).has_places in
              let q : places_of K s entry row best.0 ≡ places_of K s entry row v =
              ap (places_of K s entry row) same in
              omega arith
          by false f g =
              let r : K.reads silent ≡ Some v = rw f at g in
              let h = lawful.silence in
              absurd (grind arith)

      none : (s : Setup) (entry : V) (row : List ℕ) → Admitted (counting K) s →
          ((v : V) → places_of K s entry row v < s.n - s.t) → answer_to K s entry row ≡ Some None
      none s entry row a few =
          let best = leader K (view s (K.word entry) row) s.n in
          let p = (leader_leads K lawful (view s (K.word entry) row) s.n).has_places in
          let l = few best.0 in
          ends K s entry row a ∙
          ap Some
          (ap (λ b. K.reads (cond b (K.word best.0) silent)) (lt-leb (s.n - s.t) best.1 (omega arith)) ∙
          lawful.silence)

  module _ (n t : ℕ) (R : Run (counting K) n t) where
    admitted : (i : ℕ) → i < n → Admitted (counting K) (station n t i)
    admitted i l = station_admitted R.takes l

    says : (j : ℕ) → j < n → said_in R 0 j ≡ K.word (R.entry j)
    says j l = ap count_said (begins K (station n t j) (R.entry j) (admitted j l))

    -- how many places of station i's row read as v
    abbrev seen : (i : ℕ) → V → ℕ
    seen i v = places_of K (station n t i) (R.entry i) (R.rows i 0) v

    -- it reads in the run what it reads by itself
    seen_is : (i : ℕ) (v : V) → i < n → seen i v ≡ places (read_in R 0 i) (K.word v) n
    seen_is i v l = ap (λ w. places (heard_at i w (R.rows i 0)) (K.word v) n) (sym (says i l))

    valid : (v : V) → Unanimous R v → (i : ℕ) → Correct R i → answered R i ≡ Some (Some v)
    valid v all i c =
        let many = quorum n t R.correct R.few_faulty (said_in R 0) (read_in R 0) (read_exact R 0 (omega arith))
        (K.word v) (λ j d. says j d.0 ∙ ap K.word (all j d)) i c in
        let e = seen_is i v c.0 in
        counting_rule.answers (station n t i) (R.entry i) (R.rows i 0) (admitted i c.0) v (omega arith)

    consistent : (v : V) (i j : ℕ) → Correct R i → Correct R j → answered R i ≡ Some (Some v) →
        (answered R j ≡ Some (Some v)) ⊎ (answered R j ≡ Some None)
    consistent v i j c d e =
        by (K.reads (made K (station n t j) (R.entry j) (R.rows j 0)))
        (ends K (station n t j) (R.entry j) (R.rows j 0) (admitted j d.0))
      where
        quorum_of : (k : ℕ) (u : V) → k < n → answered R k ≡ Some (Some u) → n - t ≤ seen k u
        quorum_of k u l = counting_rule.only (station n t k) (R.entry k) (R.rows k 0) (admitted k l) u

        by : (o : Option V) → answered R j ≡ Some o → (answered R j ≡ Some (Some v)) ⊎ (answered R j ≡ Some None)
        by None f = inr f
        by (Some u) f = ⊎_elim
            (λ same. inl (f ∙ ap (λ x. Some (Some x)) (word_injective K lawful u v same)))
            (λ differ. absurd (
            let third = R.takes.third in
            let a = quorum_of i v c.0 e in
            let b = quorum_of j u d.0 f in
            let p = seen_is i v c.0 in
            let q = seen_is j u d.0 in
            let most = carried n t R.correct R.few_faulty (said_in R 0) (read_in R 0)
            (read_exact R 0 (omega arith)) (K.word v) i j c d in
            let two = rivals (read_in R 0 j) (K.word u) (K.word v) n differ in
            omega arith))
            (cases_eq (K.word u) (K.word v))

  pub counting_weak : WeakLaw (counting K)
  counting_weak = record { validity = valid; consistency = consistent }
