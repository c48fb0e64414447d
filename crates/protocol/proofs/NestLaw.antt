-- A vote that runs inside a layer: one station whatever it hears, and a stretch of a run.
use Rattle.std.proofs.Common.{◌≡◌, ℕ, zero, suc, ◌<◌, ◌≤◌, List, Some, None, sym, refl, ap, ◌∙◌, ⊎_elim, arith}
use mathlib.Core.Path.{subst⁻¹}
use Rattle.std.proofs.lemmas.Bool.{cases_lt}
use Rattle.protocol.specs.declared.setup.Setup.{Setup}
use Rattle.protocol.specs.Protocol.{Protocol, Admitted, after}
use Rattle.protocol.specs.Orderly.{Orderly, ReadsOnly}
use Rattle.protocol.specs.Run.{Run, Correct, reached, answered, station}
use Rattle.protocol.specs.Nest.{Nest, on_answer, Begins, Stretches}
use Rattle.protocol.proofs.AdmissionLaw.{station_admitted}

-- a state before the last round is over: no answer yet, and of a row only what is read counts
pub record Underway {V A : Type 0} (P : Protocol V A) (n own : ℕ) (s : P.State) : Type 0 where
  pub unanswered : P.answer s ≡ None
  pub reads : ReadsOnly P n own s

module _ {V A W B : Type 0} {P : Protocol V A} {L : Protocol W B} (N : Nest P L) (orderly : Orderly P) where
  -- a layer that begins the vote below in its round `at 0`, and hears these rows
  module _ (s : Setup) (v : V) (admitted : Admitted P s) (start : L.State) (rows : ℕ → List ℕ) (at : ℕ → ℕ)
      (follows : (k : ℕ) → at (suc k) ≡ suc (at k))
      (begins : after L start rows (at 0) ≡ N.inside (P.begun s v)) where
    -- the state of the vote below after k of its rounds
    abbrev below : ℕ → P.State
    below k = after P (P.begun s v) (λ i. rows (at i)) k

    abbrev last : ℕ
    last = P.rounds s.n s.t

    -- one round more
    steps : (k : ℕ) → after L start rows (at k) ≡ N.inside (below k) →
        after L start rows (at (suc k)) ≡ on_answer (P.answer (below (suc k))) (N.inside (below (suc k))) N.next
    steps k e =
        ap (after L start rows) (follows k) ∙
        (ap (λ x. L.heard x (rows (at k))) e ∙ N.hears (below k) (rows (at k)))

    pub within : (k : ℕ) → k < last → after L start rows (at k) ≡ N.inside (below k)
    within zero l = begins
    within (suc k) l =
        steps k (within k (omega arith)) ∙
        ap (λ o. on_answer o (N.inside (below (suc k))) N.next) (orderly.early s v _ (suc k) admitted l)

    pub beyond : (a : A) → P.answer (below last) ≡ Some a → after L start rows (at last) ≡ N.next a
    beyond a e = ends last (orderly.some_rounds s.n s.t).0 refl
      where
        ends : (k : ℕ) → 1 ≤ k → k ≡ last → after L start rows (at last) ≡ N.next a
        ends zero l d = absurd (omega arith)
        ends (suc k) l d =
            ap (λ x. after L start rows (at x)) (sym d) ∙
            (steps k (within k (omega arith)) ∙
            ap (λ o. on_answer o (N.inside (below (suc k))) N.next) (ap (λ x. P.answer (below x)) d ∙ e))

    pub underway : (k : ℕ) → k < last → Underway L s.n s.own (after L start rows (at k))
    underway k l = subst⁻¹ (Underway L s.n s.own) (within k l) (record {
      unanswered = N.waits (below k);
      reads = λ row row' h.
          let same = orderly.reading s v (λ i. rows (at i)) k admitted l row row' (rw (N.says (below k)) at h) in
          N.hears (below k) row ∙
          (ap (λ x. on_answer (P.answer x) (N.inside x) N.next) same ∙ sym (N.hears (below k) row'));
    })

    -- and one round longer, where the layer goes on with a round of its own
    pub underway_too : ((a : A) → Underway L s.n s.own (N.next a)) → (k : ℕ) → k ≤ last →
        Underway L s.n s.own (after L start rows (at k))
    underway_too one_more k l = ⊎_elim
        (underway k)
        (λ (h : last ≤ k).
        let e : k ≡ last = omega arith in
        let f = orderly.late s v (λ i. rows (at i)) admitted in
        subst⁻¹ (Underway L s.n s.own) (ap (λ i. after L start rows (at i)) e ∙ beyond f.0 f.1) (one_more f.0))
        (cases_lt k last)

module _ {V A W B : Type 0} {P : Protocol V A} {L : Protocol W B} (orderly : Orderly P) {n t : ℕ} {R : Run L n t}
    {N : ℕ → Nest P L} {at : ℕ → ℕ} {entry : ℕ → V} (b : Begins R N at entry) where
  abbrev pub stretch : Run P n t
  stretch = record {
    takes = b.takes;
    correct = R.correct;
    few_faulty = R.few_faulty;
    entry = entry;
    rows = λ i k. R.rows i (at k);
    exact = λ i j k l m h c d e.
        R.exact i j (at k) l m (b.fits k h) c d e ∙
        (ap L.said (within (N j) orderly (station n t j) (entry j) (station_admitted b.takes m) _ (R.rows j) at
        b.follows (b.begins j (m, d)) k h) ∙ (N j).says _);
  }

  pub goes_on : (j : ℕ) (a : A) → Correct R j → answered stretch j ≡ Some a →
      reached R j (at (P.rounds n t)) ≡ (N j).next a
  goes_on j a c e =
      beyond (N j) orderly (station n t j) (entry j) (station_admitted b.takes c.0) _ (R.rows j) at
      b.follows (b.begins j c) a e

pub stretches : {V A W B : Type 0} (P : Protocol V A) (L : Protocol W B) → Stretches P L
stretches P L orderly n t R N at entry b = record {
  run = stretch orderly b;
  same_correct = refl;
  same_entry = refl;
  same_rows = refl;
  goes_on = goes_on orderly b;
}
