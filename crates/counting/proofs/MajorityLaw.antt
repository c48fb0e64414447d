-- A majority leads, and one pass finds the only word that can have it.
use Rattle.std.proofs.Common.{◌≡◌, ℕ, ◌+◌, ◌*◌, ◌<◌, ◌≤◌, Some, refl, ap, ◌∙◌, inl, ⊎_elim, arith}
use Rattle.std.proofs.lemmas.Bool.{cases_eq}
use Rattle.protocol.specs.Kind.{Kind, Lawful}
use Rattle.protocol.specs.Places.{places}
use Rattle.protocol.proofs.KindLaw.{word_injective}
use Rattle.protocol.proofs.PlacesLaw.{place_of, rivals}
use Rattle.counting.specs.Leader.{leader, Leads}
use Rattle.counting.specs.Majority.{OnlyCandidate}
use Rattle.counting.proofs.LeaderLaw.{leader_leads, leads_only}

module _ {V : Type 0} (K : Kind V) (lawful : Lawful K) (row : ℕ → ℕ) (n : ℕ) where
  -- a value with more places than any other leads
  pub most_is_leader : (v : V) → 0 < places row (K.word v) n →
      ((u : V) → (K.word u ≡ K.word v → ⊥) → places row (K.word u) n < places row (K.word v) n) →
      (v, places row (K.word v) n) ≡ leader K row n
  most_is_leader v some more = leads_only K lawful row n _ _ leads (leader_leads K lawful row n)
    where
      leads : Leads K row n (v, places row (K.word v) n)
      leads = record {
        has_places = refl;
        most_places = λ u. ⊎_elim
            (λ (e : K.word u ≡ K.word v). rw e (omega arith))
            (λ d. let m = more u d in omega arith)
            (cases_eq (K.word u) (K.word v));
        least = λ u e. inl (⊎_elim
            (word_injective K lawful u v)
            (λ d. absurd (let m = more u d in omega arith))
            (cases_eq (K.word u) (K.word v)));
        none = λ d.
            let p = place_of row (K.word v) n some in
            let a : K.reads (row p.0) ≡ Some v = ap K.reads p.2 ∙ lawful.reads_word v in
            let b = d p.0 p.1 in
            absurd (grind arith);
      }

  pub majority_is_leader : (best : V × ℕ) → best.1 ≡ places row (K.word best.0) n → n < 2 * best.1 →
      best ≡ leader K row n
  majority_is_leader best e m =
      (λ i. (best.0, e i)) ∙
      most_is_leader best.0 (omega arith)
      (λ u d. let r = rivals row (K.word u) (K.word best.0) n d in omega arith)

-- after j places: `word` is at most `lead` places ahead of all others together, and every other is behind by as many
pub record Lead (row : ℕ → ℕ) (j word lead : ℕ) : Type 0 where
  pub within : lead ≤ j
  pub here : 2 * places row word j ≤ j + lead
  pub others : (w : ℕ) → (w ≡ word → ⊥) → 2 * places row w j + lead ≤ j

pub only_candidate : (row : ℕ → ℕ) (n word lead : ℕ) → Lead row n word lead → OnlyCandidate row n word
only_candidate row n word lead h u m = ⊎_elim
    (λ e. e)
    (λ d. absurd (let g = h.others u d in omega arith))
    (cases_eq u word)
