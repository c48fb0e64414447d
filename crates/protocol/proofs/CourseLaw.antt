-- Every course with few faulty stations is a run.
use Rattle.std.proofs.Common.{◌≡◌, ℕ, zero, suc, ◌<◌, ◌≤◌, Bool, cond, not, List, get_or, sym, refl, ap, ◌∙◌, zero-add}
use Rattle.std.proofs.lemmas.List.FromFn.{get_or-map-range_with_len}
use Rattle.protocol.specs.Words.{silent}
use Rattle.protocol.specs.Places.{count}
use Rattle.protocol.specs.Protocol.{Protocol, Takes}
use Rattle.protocol.specs.Run.{state_at}
use Rattle.protocol.specs.Course.{row_of, course, RunOf, RunsExist}

module _ {V A : Type 0} (P : Protocol V A) (n t : ℕ) (correct : ℕ → Bool) (entry : ℕ → V)
    (forged : (round listener sender : ℕ) → ℕ) where
  abbrev rows : (listener round : ℕ) → List ℕ
  rows i k = row_of P n correct forged (course P n t correct entry forged k) k i

  -- what a row of the course holds at a place
  abbrev sent : (k i j : ℕ) → ℕ
  sent k i j = cond (correct j) (P.said (course P n t correct entry forged k j)) (forged k i j)

  at_place : (k i j : ℕ) → j < n → get_or (rows i k) j silent ≡ sent k i j
  at_place k i j l = get_or-map-range_with_len (sent k i) 0 n j j silent l (zero-add j)

  course_after : (i k : ℕ) → state_at P n t i (entry i) (rows i) k ≡ course P n t correct entry forged k i
  course_after i zero = refl
  course_after i (suc k) = ap (λ s. P.heard s (rows i k)) (course_after i k)

  course_run : Takes P n t → count (λ j. not (correct j)) n ≤ t → RunOf P n t correct entry forged
  course_run takes few = record {
    run = record {
      takes = takes;
      correct = correct;
      few_faulty = few;
      entry = entry;
      rows = rows;
      exact = λ i j k a b c d e f.
          at_place k i j b ∙
          (ap (λ x. cond x (P.said (course P n t correct entry forged k j)) (forged k i j)) e ∙
          ap P.said (sym (course_after j k)));
    };
    same_correct = refl;
    same_entry = refl;
    same_forged = λ k i j l e.
        at_place k i j l ∙ ap (λ x. cond x (P.said (course P n t correct entry forged k j)) (forged k i j)) e;
    same_states = course_after;
  }

pub runs_exist_lem : {V A : Type 0} (P : Protocol V A) → RunsExist P
runs_exist_lem P n t correct entry forged takes few = course_run P n t correct entry forged takes few
