-- Phase king over a graded vote is orderly and keeps the full law.
use Rattle.std.proofs.Common.{◌≡◌, ℕ, zero, suc, ◌+◌, ◌-◌, ◌*◌, ◌<◌, ◌≤◌, Bool, true, false, cond, List, Some, None, Option, sym, refl, ap, ◌∙◌, ⊎_elim, add-zero, add-suc, mul-le-mul_right, suc-mul, zero-mul, add-one, arith}
use mathlib.Core.Path.{subst⁻¹}
use Rattle.std.proofs.lemmas.Bool.{cases_lt, lt-ltb, le-ltb, eq-eqb}
use Rattle.std.proofs.lemmas.Option.{none-some}
use Rattle.protocol.specs.declared.setup.Setup.{Setup}
use Rattle.protocol.specs.Kind.{Kind, Lawful, value_of}
use Rattle.protocol.specs.Laws.{GradedLaw, FullLaw}
use Rattle.protocol.specs.Nest.{Nest, Begins}
use Rattle.protocol.specs.Orderly.{Orderly, Still}
use Rattle.protocol.specs.Protocol.{Protocol, Takes, Admitted, after}
use Rattle.protocol.specs.Run.{Run, Correct, Unanimous, reached, answered, station}
use Rattle.protocol.specs.Words.{silent, heard_at}
use Rattle.protocol.proofs.AdmissionLaw.{not_idle, takes_too, station_admitted}
use Rattle.protocol.proofs.KindLaw.{value_word}
use Rattle.protocol.proofs.NestLaw.{Underway, beyond, underway_too, stretch, goes_on}
use Rattle.protocol.proofs.QuorumLaw.{correct_among}
use Rattle.protocol.proofs.RowLaw.{said_in, read_in, read_exact}
use Rattle.protocol.proofs.RunLaw.{answers, only_answer}
use Rattle.phase_king.specs.declared.PhaseKing.{PhaseKing}
use Rattle.phase_king.specs.declared.PhaseKing.TheVariants.{Idle, Voting, KingRound, Answered}
use Rattle.phase_king.specs.PhaseKing.{phase_of, king_word, after_king, next_phase, phase_king, phase_begun}
use Rattle.phase_king.specs.PhaseKing.{phase_ended, king_heard, king_said, king_answer}

module _ {V : Type 0} (K : Kind V) (G : Protocol V (V × Bool)) (orderly : Orderly G) where
  abbrev L : Protocol V V
  L = phase_king K G

  -- the rounds of a phase
  abbrev span : (n t : ℕ) → ℕ
  span n t = G.rounds n t + 1

  -- the layer's round in which phase p has its round k; the last one is the king's
  abbrev at : (n t p k : ℕ) → ℕ
  at n t p k = p * span n t + k

  abbrev kings : (n t p : ℕ) → ℕ
  kings n t p = at n t p (G.rounds n t)

  at_next : (n t p : ℕ) → at n t (suc p) 0 ≡ suc (kings n t p)
  at_next n t p = omega (arith, suc-mul p (span n t))

  last : {n t : ℕ} → Takes L n t → L.rounds n t ≡ at n t (suc t) 0
  last {n} {t} h =
      let l = h.in_time in
      let e : (t + 1) * span n t ≡ suc t * span n t = ap (λ x. x * span n t) (add-one t) in omega arith

  graded_takes : {n t : ℕ} → Takes L n t → Takes G n t
  graded_takes {n} {t} h = takes_too h (omega arith) (omega arith) (omega (arith, last h, at_next n t t))

  abbrev nest : (p : ℕ) → Setup → Nest G L
  nest p s = record {
    inside = Voting (phase_of s p);
    next = λ a. KingRound (phase_of s p) (K.word a.0) a.1;
    says = λ graded. refl;
    hears = λ graded row. refl;
    waits = λ graded. refl;
  }

  -- one station, whatever it hears
  module _ (s : Setup) (v : V) (rows : ℕ → List ℕ) where
    -- what the graded vote of phase p answers if it is begun with x
    graded : (p : ℕ) (x : V) → Option (V × Bool)
    graded p x = G.answer (after G (G.begun s x) (λ k. rows (at s.n s.t p k)) (G.rounds s.n s.t))

    -- the value after the king's round
    ruled : (p : ℕ) → Option (V × Bool) → V
    ruled p None = K.rest
    ruled p (Some a) = after_king K (phase_of s p) (K.word a.0) a.1 (rows (kings s.n s.t p))

    -- the value held when phase p begins
    held : (p : ℕ) → V
    held zero = v
    held (suc p) = ruled p (graded p (held p))

    module _ (a : Admitted L s) where
      graded_admitted : Admitted G s
      graded_admitted = record { takes = graded_takes a.takes; own_number = a.own_number }

      graded_late : (p : ℕ) → (x : V × Bool) × (graded p (held p) ≡ Some x)
      unfolding graded
      graded_late p = orderly.late s (held p) (λ k. rows (at s.n s.t p k)) graded_admitted

      -- phase p begins with the value held
      abbrev Ready : (p : ℕ) → Type 0
      Ready p = after L (L.begun s v) rows (at s.n s.t p 0) ≡ phase_begun K G (phase_of s p) (held p)

      king_round : (p : ℕ) → Ready p → (x : V × Bool) → graded p (held p) ≡ Some x →
          after L (L.begun s v) rows (kings s.n s.t p) ≡ KingRound (phase_of s p) (K.word x.0) x.1
      unfolding graded
      king_round p ready =
          beyond (nest p s) orderly s (held p) graded_admitted (L.begun s v) rows (at s.n s.t p)
          (λ k. add-suc _ k) ready

      phase_ends : (p : ℕ) → Ready p →
          after L (L.begun s v) rows (at s.n s.t (suc p) 0) ≡ phase_ended K G (next_phase (phase_of s p)) (held (suc p))
      unfolding held ruled
      phase_ends p ready =
          let f = graded_late p in
          ap (after L (L.begun s v) rows) (at_next s.n s.t p) ∙
          (ap (λ x. king_heard K G x (rows (kings s.n s.t p))) (king_round p ready f.0 f.1) ∙
          ap (phase_ended K G (next_phase (phase_of s p))) (sym (ap (ruled p) f.1)))

      phase_begins : (p : ℕ) → p ≤ s.t → Ready p
      unfolding held
      phase_begins zero l =
          ap (after L (L.begun s v) rows) (add-zero _ ∙ zero-mul (span s.n s.t)) ∙
          not_idle L s Idle (phase_begun K G (phase_of s 0) v) a
      phase_begins (suc p) l =
          phase_ends p (phase_begins p (omega arith)) ∙
          (ap (λ b. phase_ended K G (cond b (Some (phase_of s (p + 1))) None) (held (suc p))) (lt-ltb p s.t l) ∙
          ap (λ q. phase_begun K G (phase_of s q) (held (suc p))) (add-one p))

      ends : after L (L.begun s v) rows (at s.n s.t (suc s.t) 0) ≡ Answered (K.word (held (suc s.t)))
      ends =
          phase_ends s.t (phase_begins s.t (omega arith)) ∙
          ap (λ b. phase_ended K G (cond b (Some (phase_of s (s.t + 1))) None) (held (suc s.t)))
          (le-ltb s.t s.t (omega arith))

      -- in each round of phase p
      in_phase : (p j : ℕ) → p ≤ s.t → j ≤ G.rounds s.n s.t →
          Underway L s.n s.own (after L (L.begun s v) rows (at s.n s.t p j))
      in_phase p j l =
          underway_too (nest p s) orderly s (held p) graded_admitted (L.begun s v) rows (at s.n s.t p)
          (λ k. add-suc _ k) (phase_begins p l)
          (λ x. record {
            unanswered = refl;
            reads = λ row row' same.
                ap (λ w. phase_ended K G (next_phase (phase_of s p)) (value_of K (cond x.1 (K.word x.0) w)))
                (same p (let third = a.takes.third in omega arith));
          })
          j

      before : (p k : ℕ) → p ≤ suc s.t → k < at s.n s.t p 0 →
          Underway L s.n s.own (after L (L.begun s v) rows k)
      before zero k l m = absurd (omega (arith, zero-mul (span s.n s.t)))
      before (suc p) k l m = ⊎_elim
          (before p k (omega arith))
          (λ (h : at s.n s.t p 0 ≤ k).
          let e : k ≡ at s.n s.t p (k - p * span s.n s.t) = omega arith in
          subst⁻¹ (λ x. Underway L s.n s.own (after L (L.begun s v) rows x)) e
          (in_phase p (k - p * span s.n s.t) (omega arith) (omega (arith, at_next s.n s.t p))))
          (cases_lt k (at s.n s.t p 0))

      before_end : (k : ℕ) → k < L.rounds s.n s.t →
          Underway L s.n s.own (after L (L.begun s v) rows k)
      before_end k l = before (suc s.t) k (omega arith) (omega (arith, last a.takes))

  pub king_orderly : Orderly L
  king_orderly = record {
    stations = orderly.stations;
    faults = orderly.faults;
    some_rounds = λ n t.
        let e : (t + 1) * span n t ≡ suc t * span n t = ap (λ x. x * span n t) (add-one t) in
        omega (arith, suc-mul t (span n t));
    early = λ s v rows k a l. (before_end s v rows a k l).unanswered;
    late = λ s v rows a. (
      _,
      ap (λ k. king_answer K G (after L (L.begun s v) rows k)) (last a.takes) ∙
          ap (king_answer K G) (ends s v rows a),
    );
    reading = λ s v rows k a l. (before_end s v rows a k l).reads;
    over = over;
    idle = λ s v r e. rw e (record { says = refl; stays = λ row. refl }, refl);
  }
    where
      over : (x : PhaseKing G.State) (v : V) → king_answer K G x ≡ Some v → Still L x
      over (Answered word) v e = record { says = refl; stays = λ row. refl }
      over x v e = absurd (none-some v e)

  module _ (lawful : Lawful K) (law : GradedLaw G) (n t : ℕ) (R : Run L n t) where
    admitted : (j : ℕ) → Correct R j → Admitted L (station n t j)
    admitted j c = station_admitted R.takes c.0

    -- the value that station j holds when phase p begins
    abbrev holds : (p j : ℕ) → V
    holds p j = held (station n t j) (R.entry j) (R.rows j) p

    in_run : (p k : ℕ) → p ≤ t → k ≤ G.rounds n t → at n t p k < L.rounds n t
    in_run p k l m =
        omega (
          arith,
          last R.takes,
          at_next n t p,
          mul-le-mul_right {m = suc p} {n = suc t} (span n t) (omega arith),
        )

    phase_run : (p : ℕ) → p ≤ t → Begins R (λ j. nest p (station n t j)) (at n t p) (holds p)
    phase_run p l = record {
      takes = graded_takes R.takes;
      follows = λ k. add-suc _ k;
      fits = λ k m. in_run p k l (omega arith);
      begins = λ j c. phase_begins (station n t j) (R.entry j) (R.rows j) (admitted j c) p l;
    }

    -- the graded vote of phase p
    abbrev phase : (p : ℕ) → p ≤ t → Run G n t
    phase p l = stretch orderly (phase_run p l)

    says : (p j : ℕ) (l : p ≤ t) (x : V × Bool) → Correct R j → answered (phase p l) j ≡ Some x →
        said_in R (kings n t p) j ≡ king_word (phase_of (station n t j) p) (K.word x.0)
    says p j l x c e = ap (king_said K G) (goes_on orderly (phase_run p l) j x c e)

    holds_next : (p j : ℕ) (l : p ≤ t) (x : V × Bool) → Correct R j → answered (phase p l) j ≡ Some x →
        holds (suc p) j ≡ value_of K (cond x.1 (K.word x.0) (read_in R (kings n t p) j p))
    unfolding held graded ruled
    holds_next p j l x c e =
        ap (ruled (station n t j) (R.entry j) (R.rows j) p) e ∙
        ap (λ w. value_of K (cond x.1 (K.word x.0) (heard_at j w (R.rows j (kings n t p)) p)))
        (sym (says p j l x c e))

    -- all correct stations hold v when phase p begins
    abbrev AllHold : (p : ℕ) → V → Type 0
    AllHold p v = (j : ℕ) → Correct R j → holds p j ≡ v

    persists : (p : ℕ) (v : V) → p ≤ t → AllHold p v → AllHold (suc p) v
    persists p v l all j c =
        holds_next p j l (v, true) c (law.validity n t (phase p l) v all j c) ∙ value_word K lawful v

    -- after the phase of a correct king all hold its graded value
    obeyed : (p : ℕ) (l : p ≤ t) → Correct R p → (x : V × Bool) → answered (phase p l) p ≡ Some x →
        AllHold (suc p) x.0
    obeyed p l k x e j c = let f = answers orderly (phase p l) j c.0 in by f.0.0 f.0.1 f.1
      where
        king_said_lem : read_in R (kings n t p) j p ≡ K.word x.0
        king_said_lem =
            read_exact R (kings n t p) (in_run p _ l (omega arith)) j p c k ∙
            (says p p l x k e ∙ ap (λ b. cond b (K.word x.0) silent) (eq-eqb p p refl))

        by : (u : V) (grade : Bool) → answered (phase p l) j ≡ Some (u, grade) → holds (suc p) j ≡ x.0
        by u true d =
            let same = only_answer (law.consistency n t (phase p l) u j p c k d).1 e in
            holds_next p j l (u, true) c d ∙ (value_word K lawful u ∙ ap (λ (y : V × Bool). y.0) same)
        by u false d = holds_next p j l (u, false) c d ∙ (ap (value_of K) king_said_lem ∙ value_word K lawful x.0)

    stays : (p q : ℕ) (v : V) → p + q ≤ suc t → AllHold p v → AllHold (p + q) v
    stays p zero v l all j c = ap (λ r. holds r j) (add-zero p) ∙ all j c
    stays p (suc q) v l all j c =
        ap (λ r. holds r j) (add-suc p q) ∙ persists (p + q) v (omega arith) (stays p q v (omega arith) all) j c

    until_end : (p : ℕ) (v : V) → p ≤ suc t → AllHold p v → (i : ℕ) → Correct R i → answered R i ≡ Some v
    until_end p v l all i c =
        let e : suc t ≡ p + (suc t - p) = omega arith in
        ap (λ k. king_answer K G (reached R i k)) (last R.takes) ∙
        (ap (king_answer K G) (ends (station n t i) (R.entry i) (R.rows i) (admitted i c)) ∙
        ap Some (value_word K lawful (holds (suc t) i) ∙
        (ap (λ r. holds r i) e ∙ stays p (suc t - p) v (omega arith) all i c)))

    valid : (v : V) → Unanimous R v → (i : ℕ) → Correct R i → answered R i ≡ Some v
    unfolding held
    valid v all = until_end 0 v (omega arith) all

    -- one of the kings is correct
    agree : (i j : ℕ) → Correct R i → Correct R j → (v : V) × ((answered R i ≡ Some v) × (answered R j ≡ Some v))
    agree i j c d =
        let third = R.takes.third in
        let f = correct_among R.correct n t (omega arith) R.few_faulty in
        let p = f.0 in
        let k : p < suc t = f.1 in
        let l : p ≤ t = omega arith in
        let king : Correct R p = (omega arith, f.2) in
        let x = answers orderly (phase p l) p king.0 in
        let all = until_end (suc p) x.0.0 k (obeyed p l king x.0 x.1) in
        (x.0.0, (all i c, all j d))

  pub king_full : Lawful K → GradedLaw G → FullLaw L
  king_full lawful law = record { validity = valid lawful law; agreement = agree lawful law }
