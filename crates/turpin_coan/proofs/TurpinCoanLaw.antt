-- Turpin-Coan over a graded vote and a full vote on the switch is orderly and keeps the full law.
use Rattle.std.proofs.Common.{◌≡◌, ℕ, ◌+◌, ◌-◌, ◌<◌, ◌≤◌, Bool, true, false, ◌&&◌, List, Some, None, Option, sym, refl, ap, ◌∙◌, ⊎_elim, add-zero, add-suc, arith}
use mathlib.Core.Path.{subst⁻¹}
use Rattle.std.proofs.lemmas.Bool.{cases_lt, and_parts}
use Rattle.std.proofs.lemmas.Option.{none-some}
use Rattle.protocol.specs.declared.setup.Setup.{Setup}
use Rattle.protocol.specs.Kind.{Kind, Lawful, value_of}
use Rattle.protocol.specs.Laws.{GradedLaw, FullLaw}
use Rattle.protocol.specs.Nest.{Nest, Begins}
use Rattle.protocol.specs.Orderly.{Orderly, Still}
use Rattle.protocol.specs.Protocol.{Protocol, Takes, Admitted, after}
use Rattle.protocol.specs.Run.{Run, Correct, Unanimous, reached, answered, station}
use Rattle.protocol.specs.Words.{silent}
use Rattle.protocol.proofs.AdmissionLaw.{not_idle, takes_too, station_admitted}
use Rattle.protocol.proofs.KindLaw.{value_word}
use Rattle.protocol.proofs.NestLaw.{Underway, beyond, underway, stretch, goes_on}
use Rattle.protocol.proofs.PlacesLaw.{some_or_none}
use Rattle.protocol.proofs.RunLaw.{answers, only_answer}
use Rattle.values.specs.declared.switch.Switch.{Switch}
use Rattle.values.specs.declared.switch.Switch.TheVariants.{Hold, Go}
use Rattle.turpin_coan.specs.declared.TurpinCoan.{TurpinCoan}
use Rattle.turpin_coan.specs.declared.TurpinCoan.TheVariants.{Idle, Grading, Deciding, Answered}
use Rattle.turpin_coan.specs.TurpinCoan.{entry_for, decided, turpin_coan, tc_answer}

module _ {V : Type 0} (K : Kind V) (G : Protocol V (V × Bool)) (orderly : Orderly G) (B : Protocol Switch Switch)
    (b_orderly : Orderly B) where
  abbrev L : Protocol V V
  L = turpin_coan K G B

  last : {n t : ℕ} → Takes L n t → L.rounds n t ≡ G.rounds n t + B.rounds n t
  last h = let l = h.in_time in omega arith

  graded_takes : {n t : ℕ} → Takes L n t → Takes G n t
  graded_takes h = takes_too h (omega arith) (omega arith) (omega (arith, last h))

  switch_takes : {n t : ℕ} → Takes L n t → Takes B n t
  switch_takes h = takes_too h (omega arith) (omega arith) (omega (arith, last h))

  abbrev graded_nest : Setup → Nest G L
  graded_nest s = record {
    inside = Grading s;
    next = λ a. Deciding (K.word a.0) (B.begun s (entry_for a.1));
    says = λ graded. refl;
    hears = λ graded row. refl;
    waits = λ graded. refl;
  }

  abbrev switch_nest : (word : ℕ) → Nest B L
  switch_nest word = record {
    inside = Deciding word;
    next = λ decision. Answered (decided K word decision);
    says = λ switch. refl;
    hears = λ switch row. refl;
    waits = λ switch. refl;
  }

  -- one station, whatever it hears
  module _ (s : Setup) (v : V) (rows : ℕ → List ℕ) (a : Admitted L s) where
    graded_admitted : Admitted G s
    graded_admitted = record { takes = graded_takes a.takes; own_number = a.own_number }

    switch_admitted : Admitted B s
    switch_admitted = record { takes = switch_takes a.takes; own_number = a.own_number }

    begins : L.begun s v ≡ Grading s (G.begun s v)
    begins = not_idle L s Idle (Grading s (G.begun s v)) a

    -- what the graded vote answers
    graded_late : (x : V × Bool) × (G.answer (after G (G.begun s v) rows (G.rounds s.n s.t)) ≡ Some x)
    graded_late = orderly.late s v rows graded_admitted

    -- the layer's round in which the switch vote has its round k
    abbrev at : (k : ℕ) → ℕ
    at k = G.rounds s.n s.t + k

    switch_begins : after L (L.begun s v) rows (at 0) ≡
        Deciding (K.word graded_late.0.0) (B.begun s (entry_for graded_late.0.1))
    switch_begins =
        ap (after L (L.begun s v) rows) (add-zero (G.rounds s.n s.t)) ∙
        beyond (graded_nest s) orderly s v graded_admitted (L.begun s v) rows (λ k. k) (λ k. refl) begins
        graded_late.0 graded_late.1

    ends : (decision : Switch) × (after L (L.begun s v) rows (at (B.rounds s.n s.t)) ≡
        Answered (decided K (K.word graded_late.0.0) decision))
    ends =
        let f = b_orderly.late s (entry_for graded_late.0.1) (λ k. rows (at k)) switch_admitted in (
          f.0,
          beyond (switch_nest (K.word graded_late.0.0)) b_orderly s (entry_for graded_late.0.1)
              switch_admitted (L.begun s v) rows at (λ k. add-suc _ k) switch_begins f.0 f.1,
        )

    before_end : (k : ℕ) → k < L.rounds s.n s.t →
        Underway L s.n s.own (after L (L.begun s v) rows k)
    before_end k l = ⊎_elim
        (underway (graded_nest s) orderly s v graded_admitted (L.begun s v) rows (λ k. k) (λ k. refl) begins k)
        (λ (h : G.rounds s.n s.t ≤ k).
        let e : k ≡ at (k - G.rounds s.n s.t) = omega arith in
        subst⁻¹ (λ x. Underway L s.n s.own (after L (L.begun s v) rows x)) e
        (underway (switch_nest (K.word graded_late.0.0)) b_orderly s (entry_for graded_late.0.1) switch_admitted
        (L.begun s v) rows at (λ k. add-suc _ k) switch_begins (k - G.rounds s.n s.t)
        (omega (arith, last a.takes))))
        (cases_lt k (G.rounds s.n s.t))

  pub tc_orderly : Orderly L
  tc_orderly = record {
    stations = let x = orderly.stations in let y = b_orderly.stations in omega arith;
    faults = let x = orderly.faults in let y = b_orderly.faults in omega arith;
    some_rounds = λ n t. let x = orderly.some_rounds n t in omega arith;
    early = λ s v rows k a l. (before_end s v rows a k l).unanswered;
    late = λ s v rows a. (
      _,
      ap (λ k. tc_answer K G B (after L (L.begun s v) rows k)) (last a.takes) ∙
          ap (tc_answer K G B) (ends s v rows a).1,
    );
    reading = λ s v rows k a l. (before_end s v rows a k l).reads;
    over = over;
    idle = λ s v r e. rw e (record { says = refl; stays = λ row. refl }, refl);
  }
    where
      over : (x : TurpinCoan G.State B.State) (v : V) → tc_answer K G B x ≡ Some v → Still L x
      over (Answered word) v e = record { says = refl; stays = λ row. refl }
      over x v e = absurd (none-some v e)

  -- the two parts of a graded answer
  answer_word : Option (V × Bool) → ℕ
  answer_word None = silent
  answer_word (Some x) = K.word x.0

  grade_of : Option (V × Bool) → Bool
  grade_of None = false
  grade_of (Some x) = x.1

  with_grade_one : {o : Option (V × Bool)} (x : V × Bool) → o ≡ Some x → grade_of o ≡ true → o ≡ Some (x.0, true)
  unfolding grade_of
  with_grade_one x e g = e ∙ ap (λ grade. Some (x.0, grade)) (sym (ap grade_of e) ∙ g)

  module _ (lawful : Lawful K) (law : GradedLaw G) (b_law : FullLaw B) (n t : ℕ) (R : Run L n t) where
    graded_begins : Begins R (λ j. graded_nest (station n t j)) (λ k. k) R.entry
    graded_begins = record {
      takes = graded_takes R.takes;
      follows = λ k. refl;
      fits = λ k l. let r = b_orderly.some_rounds n t in omega (arith, last R.takes);
      begins = λ j c. begins (station n t j) (R.entry j) (R.rows j) (station_admitted R.takes c.0);
    }

    -- the run of the graded vote
    abbrev graded : Run G n t
    graded = stretch orderly graded_begins

    -- what station j enters into the switch vote
    abbrev entered : (j : ℕ) → Switch
    entered j = entry_for (grade_of (answered graded j))

    switch_run : Begins R (λ j. switch_nest (answer_word (answered graded j))) (λ k. G.rounds n t + k) entered
    unfolding answer_word grade_of
    switch_run = record {
      takes = switch_takes R.takes;
      follows = λ k. add-suc _ k;
      fits = λ k l. omega (arith, last R.takes);
      begins = λ j c.
          let f = answers orderly graded j c.0 in
          ap (reached R j) (add-zero (G.rounds n t)) ∙
          (goes_on orderly graded_begins j f.0 c f.1 ∙
          ap (λ o. Deciding (answer_word o) (B.begun (station n t j) (entry_for (grade_of o)))) (sym f.1));
    }

    -- the run of the switch vote
    abbrev switch : Run B n t
    switch = stretch b_orderly switch_run

    ends_with : (j : ℕ) → Correct R j → (x : V × Bool) (decision : Switch) → answered graded j ≡ Some x →
        answered switch j ≡ Some decision → answered R j ≡ Some (value_of K (decided K (K.word x.0) decision))
    unfolding answer_word
    ends_with j c x decision e f =
        ap (λ k. tc_answer K G B (reached R j k)) (last R.takes) ∙
        (ap (tc_answer K G B) (goes_on b_orderly switch_run j decision c f) ∙
        ap (λ o. Some (value_of K (decided K (answer_word o) decision))) e)

    valid : (v : V) → Unanimous R v → (i : ℕ) → Correct R i → answered R i ≡ Some v
    unfolding grade_of
    valid v all i c =
        let grades = law.validity n t graded v all in
        ends_with i c (v, true) Go (grades i c)
        (b_law.validity n t switch Go (λ j d. ap (λ o. entry_for (grade_of o)) (grades j d)) i c) ∙
        ap Some (value_word K lawful v)

    -- where the switch vote answers Go, some correct station has grade 1
    grade_one : (i : ℕ) → Correct R i → answered switch i ≡ Some Go →
        (k : ℕ) × Correct R k × (v : V) × (answered graded k ≡ Some (v, true))
    grade_one i c e = ⊎_elim
        (λ f.
        let p = and_parts _ _ f.2 in
        let x = answers orderly graded f.0 f.1 in
        (f.0, (f.1, p.0), x.0.0, with_grade_one x.0 x.1 p.1))
        (λ f.
        let same = only_answer e (b_law.validity n t switch Hold (λ k d. ap entry_for (zero f k d)) i c) in
        absurd (grind arith))
        (some_or_none (λ k. R.correct k && grade_of (answered graded k)) n)
      where
        zero : ((k : ℕ) → k < n → (R.correct k && grade_of (answered graded k)) ≡ false) → (k : ℕ) → Correct R k →
            grade_of (answered graded k) ≡ false
        zero f k d = sym (ap (λ b. b && grade_of (answered graded k)) d.1) ∙ f k d.0

    -- all answer what one value and the decision make
    agree : (i j : ℕ) → Correct R i → Correct R j → (v : V) × ((answered R i ≡ Some v) × (answered R j ≡ Some v))
    agree i j c d = by (b_law.agreement n t switch i j c d).0 (b_law.agreement n t switch i j c d).1
      where
        by : (decision : Switch) → (answered switch i ≡ Some decision) × (answered switch j ≡ Some decision) →
            (v : V) × ((answered R i ≡ Some v) × (answered R j ≡ Some v))
        by Hold f =
            let x = answers orderly graded i c.0 in
            let y = answers orderly graded j d.0 in
            let rest = ap Some (value_word K lawful K.rest) in
            (K.rest, (ends_with i c x.0 Hold x.1 f.0 ∙ rest, ends_with j d y.0 Hold y.1 f.1 ∙ rest))
        by Go f =
            let g = grade_one i c f.0 in
            let v = g.2 in
            let x = law.consistency n t graded v g.0 i g.1 c g.3 in
            let y = law.consistency n t graded v g.0 j g.1 d g.3 in
            let same = ap Some (value_word K lawful v) in
            (v, (ends_with i c _ Go x.1 f.0 ∙ same, ends_with j d _ Go y.1 f.1 ∙ same))

  pub tc_full : Lawful K → GradedLaw G → FullLaw B → FullLaw L
  tc_full lawful law b_law = record { validity = valid lawful law b_law; agreement = agree lawful law b_law }
