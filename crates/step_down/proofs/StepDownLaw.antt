-- A full vote that steps down is orderly and keeps the weak or the graded law.
use Rattle.std.proofs.Common.{◌≡◌, ℕ, zero, suc, true, List, Some, None, Option, sym, refl, ap, ◌∙◌, inl, arith}
use mathlib.Core.Path.{subst⁻¹}
use Rattle.std.specs.Option.{option_map}
use Rattle.std.proofs.lemmas.Option.{none-some}
use Rattle.protocol.specs.declared.setup.Setup.{Setup}
use Rattle.protocol.specs.Laws.{WeakLaw, GradedLaw, FullLaw}
use Rattle.protocol.specs.Orderly.{Orderly, ReadsOnly}
use Rattle.protocol.specs.Protocol.{Protocol, Takes, Admitted, after}
use Rattle.protocol.specs.Run.{Run, Correct, Unanimous, answered}
use Rattle.protocol.proofs.AdmissionLaw.{takes_too}
use Rattle.step_down.specs.StepDown.{answering, weak_form, graded_form, as_weak, as_graded}

module _ {V A B : Type 0} (f : A → B) (P : Protocol V A) where
  abbrev L : Protocol V B
  L = answering f P

  same : (x : P.State) (rows : ℕ → List ℕ) (k : ℕ) → after L x rows k ≡ after P x rows k
  same x rows zero = refl
  same x rows (suc k) = ap (λ y. P.heard y (rows k)) (same x rows k)

  takes_below : {n t : ℕ} → Takes L n t → Takes P n t
  takes_below h = takes_too h (omega arith) (omega arith) (omega arith)

  below : (s : Setup) → Admitted L s → Admitted P s
  below s a = record { takes = takes_below a.takes; own_number = a.own_number }

  pub answering_orderly : Orderly P → Orderly L
  answering_orderly orderly = record {
    stations = orderly.stations;
    faults = orderly.faults;
    some_rounds = orderly.some_rounds;
    early = λ s v rows k a l.
        ap L.answer (same (P.begun s v) rows k) ∙ ap (option_map f) (orderly.early s v rows k (below s a) l);
    late = λ s v rows a.
        let g = orderly.late s v rows (below s a) in
        (f g.0, ap L.answer (same (P.begun s v) rows (P.rounds s.n s.t)) ∙ ap (option_map f) g.1);
    reading = λ s v rows k a l.
        subst⁻¹ (ReadsOnly P s.n s.own) (same (P.begun s v) rows k) (orderly.reading s v rows k (below s a) l);
    over = λ x b e.
        let g = mapped_some (P.answer x) b e in
        let still = orderly.over x g.0 g.1 in record { says = still.says; stays = still.stays };
    idle = λ s v r e.
        let g = orderly.idle s v r e in
        (record { says = g.0.says; stays = g.0.stays }, ap (option_map f) g.1);
  }
    where
      mapped_some : (o : Option A) (b : B) → option_map f o ≡ Some b → (a : A) × (o ≡ Some a)
      mapped_some None b e = absurd (none-some b e)
      mapped_some (Some a) b e = (a, refl)

  -- a run of the vote that steps down is one of the full vote
  abbrev run : {n t : ℕ} → Run L n t → Run P n t
  run R = record {
    takes = takes_below R.takes;
    correct = R.correct;
    few_faulty = R.few_faulty;
    entry = R.entry;
    rows = R.rows;
    exact = λ i j k l m h c d e. R.exact i j k l m h c d e ∙ ap P.said (same _ (R.rows j) k);
  }

  answers_as : {n t : ℕ} (R : Run L n t) (i : ℕ) (a : A) → answered (run R) i ≡ Some a → answered R i ≡ Some (f a)
  answers_as {n} {t} R i a e = ap L.answer (same _ (R.rows i) (P.rounds n t)) ∙ ap (option_map f) e

module _ {V : Type 0} (P : Protocol V V) (law : FullLaw P) where
  module _ {B : Type 0} (f : V → B) {n t : ℕ} (R : Run (answering f P) n t) where
    valid : (v : V) → Unanimous R v → (i : ℕ) → Correct R i → answered R i ≡ Some (f v)
    valid v all i c = answers_as f P R i v (law.validity n t (run f P R) v all i c)

    -- what one correct station answers all do
    alike : (b : B) (i j : ℕ) → Correct R i → Correct R j → answered R i ≡ Some b → answered R j ≡ Some b
    alike b i j c d e =
        let g = law.agreement n t (run f P R) i j c d in
        answers_as f P R j g.0 g.1.1 ∙ (sym (answers_as f P R i g.0 g.1.0) ∙ e)

  pub stepdown_weak : WeakLaw (as_weak P)
  stepdown_weak = record {
    validity = λ n t R v all i c. valid weak_form R v all i c;
    consistency = λ n t R v i j c d e. inl (alike weak_form R (Some v) i j c d e);
  }

  pub stepdown_graded : GradedLaw (as_graded P)
  stepdown_graded = record {
    validity = λ n t R v all i c. valid graded_form R v all i c;
    consistency = λ n t R v i j c d e. (true, alike graded_form R (v, true) i j c d e);
  }
