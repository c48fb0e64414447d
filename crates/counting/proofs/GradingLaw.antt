-- Grading over a weak vote: its rule, that it is orderly, and the graded law.
use Rattle.std.proofs.Common.{◌≡◌, ℕ, suc, ◌+◌, ◌-◌, ◌*◌, ◌<◌, ◌≤◌, Bool, true, leb, List, Some, None, Option, sym, refl, ap, ◌∙◌, ⊎_elim, arith}
use Rattle.std.proofs.lemmas.Bool.{leb-true, le-leb, lt-leb}
use Rattle.std.proofs.lemmas.Option.{none-some}
use Rattle.protocol.specs.declared.setup.Setup.{Setup}
use Rattle.protocol.specs.Kind.{Kind, Lawful, word_of}
use Rattle.protocol.specs.Laws.{WeakLaw, GradedLaw}
use Rattle.protocol.specs.Nest.{Nest, Begins}
use Rattle.protocol.specs.Orderly.{Orderly, Still}
use Rattle.protocol.specs.Places.{places}
use Rattle.protocol.specs.Protocol.{Protocol, Takes, Admitted, after}
use Rattle.protocol.specs.Run.{Run, Correct, Unanimous, reached, answered, station}
use Rattle.protocol.proofs.AdmissionLaw.{not_idle, takes_too, station_admitted}
use Rattle.protocol.proofs.KindLaw.{silent_word, value_word, told_value}
use Rattle.protocol.proofs.NestLaw.{Underway, beyond, underway_too, stretch, goes_on}
use Rattle.protocol.proofs.QuorumLaw.{quorum, carried, minority, backed}
use Rattle.protocol.proofs.RowLaw.{said_in, read_in, read_exact}
use Rattle.protocol.proofs.RunLaw.{answers, only_answer}
use Rattle.counting.specs.declared.grading.Grading.{Grading}
use Rattle.counting.specs.declared.grading.Grading.TheVariants.{Idle, Voting, Polling, Answered}
use Rattle.counting.specs.Grading.{grading, graded, grading_heard, grading_said, grading_answer}
use Rattle.counting.specs.GradeRule.{GradeRule, polled}
use Rattle.protocol.specs.Heard.{view}
use Rattle.counting.specs.Leader.{leader, Leads}
use Rattle.counting.proofs.LeaderLaw.{leader_same, leader_leads, leads_only}
use Rattle.counting.proofs.MajorityLaw.{majority_is_leader, most_is_leader}

module _ {V : Type 0} (K : Kind V) (lawful : Lawful K) (W : Protocol V (Option V)) where
  pub grading_rule : GradeRule K W
  grading_rule = record {
    sure = λ s word row v c leads l. answer s word row (v, c) leads ∙ ap (λ g. Some (v, g)) (le-leb _ c l);
    unsure = λ s word row v c leads l. answer s word row (v, c) leads ∙ ap (λ g. Some (v, g)) (lt-leb _ c l);
  }
    where
      answer : (s : Setup) (word : ℕ) (row : List ℕ) (best : V × ℕ) → Leads K (view s word row) s.n best →
          polled K W s word row ≡ Some (best.0, leb (s.n - s.t) best.1)
      answer s word row best leads =
          let e = leads_only K lawful (view s word row) s.n _ best (leader_leads K lawful (view s word row) s.n)
          leads in
          ap (λ b. grading_answer K W (graded K W (s.n - s.t) b)) e ∙
          ap (λ v. Some (v, leb (s.n - s.t) best.1)) (value_word K lawful best.0)

module _ {V : Type 0} (K : Kind V) (W : Protocol V (Option V)) (orderly : Orderly W) where
  abbrev L : Protocol V (V × Bool)
  L = grading K W

  last : {n t : ℕ} → Takes L n t → L.rounds n t ≡ suc (W.rounds n t)
  last h = let l = h.in_time in omega arith

  weak_takes : {n t : ℕ} → Takes L n t → Takes W n t
  weak_takes h = takes_too h (omega arith) (omega arith) (omega (arith, last h))

  abbrev nest : Setup → Nest W L
  nest s = record {
    inside = Voting s;
    next = λ answer. Polling s (word_of K answer);
    says = λ weak. refl;
    hears = λ weak row. refl;
    waits = λ weak. refl;
  }

  -- one station, whatever it hears
  module _ (s : Setup) (v : V) (rows : ℕ → List ℕ) (a : Admitted L s) where
    begins : L.begun s v ≡ Voting s (W.begun s v)
    begins = not_idle L s Idle (Voting s (W.begun s v)) a

    weak_admitted : Admitted W s
    weak_admitted = record { takes = weak_takes a.takes; own_number = a.own_number }

    -- the round of the poll
    abbrev poll : ℕ
    poll = W.rounds s.n s.t

    polls : (answer : Option V) → W.answer (after W (W.begun s v) rows poll) ≡ Some answer →
        after L (L.begun s v) rows poll ≡ Polling s (word_of K answer)
    polls = beyond (nest s) orderly s v weak_admitted (L.begun s v) rows (λ k. k) (λ k. refl) begins

    before_end : (k : ℕ) → k < L.rounds s.n s.t →
        Underway L s.n s.own (after L (L.begun s v) rows k)
    before_end k l =
        underway_too (nest s) orderly s v weak_admitted (L.begun s v) rows (λ k. k) (λ k. refl) begins
        (λ answer. record {
          unanswered = refl;
          reads = λ row row' same. ap (graded K W (s.n - s.t)) (leader_same K _ _ s.n same);
        })
        k (omega (arith, last a.takes))

  pub grading_orderly : Orderly L
  grading_orderly = record {
    stations = orderly.stations;
    faults = orderly.faults;
    some_rounds = λ n t. omega arith;
    early = λ s v rows k a l. (before_end s v rows a k l).unanswered;
    late = λ s v rows a.
        let f = orderly.late s v rows (weak_admitted s v rows a) in (
          _,
          ap (λ k. grading_answer K W (after L (L.begun s v) rows k)) (last a.takes) ∙
              ap (λ x. grading_answer K W (grading_heard K W x (rows (W.rounds s.n s.t))))
              (polls s v rows a f.0 f.1),
        );
    reading = λ s v rows k a l. (before_end s v rows a k l).reads;
    over = over;
    idle = λ s v r e. rw e (record { says = refl; stays = λ row. refl }, refl);
  }
    where
      over : (x : Grading W.State) (a : V × Bool) → grading_answer K W x ≡ Some a → Still L x
      over (Answered word grade) a e = record { says = refl; stays = λ row. refl }
      over x a e = absurd (none-some a e)

  module _ (lawful : Lawful K) (law : WeakLaw W) (n t : ℕ) (R : Run L n t) where
    weak_begins : Begins R (λ j. nest (station n t j)) (λ k. k) R.entry
    weak_begins = record {
      takes = weak_takes R.takes;
      follows = λ k. refl;
      fits = λ k l. omega (arith, last R.takes);
      begins = λ j c. begins (station n t j) (R.entry j) (R.rows j) (station_admitted R.takes c.0);
    }

    -- the run of the weak vote
    abbrev weak : Run W n t
    weak = stretch orderly weak_begins

    abbrev round : ℕ
    round = W.rounds n t

    abbrev heard : (i j : ℕ) → ℕ
    heard = read_in R round

    -- the leader of the row that station i reads in the poll
    abbrev best : (i : ℕ) → V × ℕ
    best i = leader K (heard i) n

    exactly : (i j : ℕ) → Correct R i → Correct R j → heard i j ≡ said_in R round j
    exactly = read_exact R round (omega (arith, last R.takes))

    tells : (j : ℕ) (answer : Option V) → Correct R j → answered weak j ≡ Some answer →
        said_in R round j ≡ word_of K answer
    tells j answer c e = ap (grading_said K W) (goes_on orderly weak_begins j answer c e)

    ends : (i : ℕ) → Correct R i → answered R i ≡ Some ((best i).0, leb (n - t) (best i).1)
    ends i c =
        let f = answers orderly weak i c.0 in
        ap (λ k. grading_answer K W (reached R i k)) (last R.takes) ∙
        (ap (λ x. grading_answer K W (grading_heard K W x (R.rows i round)))
        (goes_on orderly weak_begins i f.0 c f.1) ∙
        (ap (λ w. grading_answer K W (grading_heard K W (Polling (station n t i) w) (R.rows i round)))
        (sym (tells i f.0 c f.1)) ∙
        ap (λ v. Some (v, leb (n - t) (best i).1)) (value_word K lawful (best i).0)))

    ends_with : (i : ℕ) (v : V) (c : ℕ) → Correct R i → (v, c) ≡ best i → answered R i ≡ Some (v, leb (n - t) c)
    ends_with i v c h e = ends i h ∙ ap (λ (b : V × ℕ). Some (b.0, leb (n - t) b.1)) (sym e)

    valid : (v : V) → Unanimous R v → (i : ℕ) → Correct R i → answered R i ≡ Some (v, true)
    valid v all i c =
        let third = R.takes.third in
        let many = quorum n t R.correct R.few_faulty (said_in R round) heard exactly (K.word v)
        (λ j d. tells j (Some v) d (law.validity n t weak v all j d)) i c in
        ends_with i v (places (heard i) (K.word v) n) c
        (majority_is_leader K lawful (heard i) n (v, places (heard i) (K.word v) n) refl (omega arith)) ∙
        ap (λ g. Some (v, g)) (le-leb (n - t) (places (heard i) (K.word v) n) (omega arith))

    -- a value with grade 1 at one correct station has n - t places there
    has_quorum : (i : ℕ) (v : V) → Correct R i → answered R i ≡ Some (v, true) →
        n ≤ places (heard i) (K.word v) n + t
    has_quorum i v c e =
        let same = only_answer (ends i c) e in
        let l = leb-true (n - t) (best i).1 (ap (λ (b : V × Bool). b.1) same) in
        let p = (leader_leads K lawful (heard i) n).has_places in
        let q : places (heard i) (K.word (best i).0) n ≡ places (heard i) (K.word v) n =
        ap (λ (b : V × Bool). places (heard i) (K.word b.0) n) same in
        omega arith

    -- some correct station got it from the weak vote
    weak_answer : (i : ℕ) (v : V) → Correct R i → t < places (heard i) (K.word v) n →
        (k : ℕ) × Correct R k × (answered weak k ≡ Some (Some v))
    weak_answer i v c more =
        let f = backed n t R.correct R.few_faulty (said_in R round) heard exactly (K.word v) i c more in
        let o = answers orderly weak f.0 f.1.0 in
        let e = told_value K lawful o.0 v (sym (tells f.0 o.0 f.1 o.1) ∙ f.2) in
        (f.0, f.1, o.1 ∙ ap Some e)

    consistent : (v : V) (i j : ℕ) → Correct R i → Correct R j → answered R i ≡ Some (v, true) →
        (g : Bool) × (answered R j ≡ Some (v, g))
    consistent v i j c d e = (
      _,
      ends_with j v (places (heard j) (K.word v) n) d
          (most_is_leader K lawful (heard j) n v (omega (arith, third, many, carries))
          (λ u differ. omega (arith, third, many, carries, few u differ))),
    )
      where
        third : 3 * t < n
        third = R.takes.third

        many : n ≤ places (heard i) (K.word v) n + t
        many = has_quorum i v c e

        carries : places (heard i) (K.word v) n ≤ places (heard j) (K.word v) n + t
        carries = carried n t R.correct R.few_faulty (said_in R round) heard exactly (K.word v) i j c d

        -- so no correct station tells another value, and none has more than t places
        few : (u : V) → (K.word u ≡ K.word v → ⊥) → places (heard j) (K.word u) n ≤ t
        few u differ =
            let f = weak_answer i v c (omega (arith, third, many)) in
            minority n t R.correct R.few_faulty (said_in R round) heard exactly (K.word u)
            (λ k h told. ⊎_elim
            (λ a. differ (sym told ∙ tells k (Some v) h a))
            (λ a. silent_word K lawful u (sym told ∙ tells k None h a))
            (law.consistency n t weak v f.0 k f.1 h f.2))
            j d

  pub grading_graded : Lawful K → WeakLaw W → GradedLaw L
  grading_graded lawful law = record { validity = valid lawful law; consistency = consistent lawful law }
