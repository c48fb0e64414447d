-- The vote of four stations is a run, so it keeps the full law.
use Rattle.std.proofs.Common.{◌≡◌, ℕ, zero, suc, ◌-◌, ◌<◌, List, get_or, None, Option, sym, refl, ap, ◌∙◌, arith, lit≤}
use Rattle.std.proofs.lemmas.Bool.{lt-ltb, ltb-true}
use Rattle.protocol.specs.Course.{RunsExist, RunOf}
use Rattle.protocol.specs.Kind.{Kind}
use Rattle.protocol.specs.Laws.{FullLaw}
use Rattle.protocol.specs.Protocol.{Protocol, Takes}
use Rattle.protocol.specs.Run.{Correct, answered}
use Rattle.demo.specs.Promise.{correct, entered, sent, answer_of, answers_to, Promise}

module _ {V : Type 0} (K : Kind V) (P : Protocol V V) (entries : List V) (forged : List (List ℕ))
    {answers : List (Option V)} (settled : answers ≡ answers_to K P entries forged)
    (runs : RunsExist P) (law : FullLaw P) (takes : Takes P 4 1) where
  course_run : RunOf P 4 1 correct (entered K entries) (λ round listener sender. sent forged round listener)
  course_run = runs 4 1 correct _ _ takes (lit≤ tt)

  -- station i + 1 is correct, and its answer stands at place i
  is_correct : (i : ℕ) → i < 3 → Correct course_run.run (suc i)
  is_correct i l = (omega arith, ap (λ f. f (suc i)) course_run.same_correct ∙ lt-ltb 0 (suc i) (omega arith))

  answer_at : (i : ℕ) → i < 3 → get_or answers i None ≡ answered course_run.run (suc i)
  answer_at i l =
      ap (λ a. get_or a i None) settled ∙ place i l ∙ ap P.answer (sym (course_run.same_states (suc i) (P.rounds 4 1)))
    where
      place : (i : ℕ) → i < 3 →
          get_or (answers_to K P entries forged) i None ≡ answer_of K P entries forged (P.rounds 4 1) (suc i)
      place zero l = refl
      place (suc zero) l = refl
      place (suc (suc zero)) l = refl
      place (suc (suc (suc i))) l = absurd (omega arith)

  pub keeps_promise : Promise K entries answers
  keeps_promise = record {
    validity = λ v all i l.
        answer_at i l ∙ law.validity 4 1 course_run.run v (λ j c. entry_is v all j c) (suc i) (is_correct i l);
    agreement = λ i j l m.
        let f = law.agreement 4 1 course_run.run (suc i) (suc j) (is_correct i l) (is_correct j m) in
        (f.0, (answer_at i l ∙ f.1.0, answer_at j m ∙ f.1.1));
  }
    where
      entry_is : (v : V) → ((i : ℕ) → i < 3 → get_or entries i K.rest ≡ v) → (j : ℕ) → Correct course_run.run j →
          course_run.run.entry j ≡ v
      entry_is v all j c =
          let above = ltb-true 0 j (sym (ap (λ f. f j) course_run.same_correct) ∙ c.1) in
          let below = c.0 in
          ap (λ f. f j) course_run.same_entry ∙ all (j - 1) (omega arith)
