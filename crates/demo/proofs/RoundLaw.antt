-- The rounds of the vote of four stations, one after the other.
use Rattle.std.proofs.Common.{◌≡◌, ℕ, ◌+◌, ◌-◌, List, [], ◌∷◌, get_or, Option, sym, refl, ap, ◌∙◌, add-one}
use Rattle.protocol.specs.Kind.{Kind}
use Rattle.protocol.specs.Protocol.{Protocol}
use Rattle.demo.specs.Promise.{sent_in, state_of, answers_after, answers_to}

module _ {V : Type 0} (K : Kind V) (P : Protocol V V) (entries : List V) (forged : List (List ℕ)) where
  -- the machines of stations 1, 2 and 3 are in the states of the course after k rounds
  abbrev pub Reached : (k : ℕ) (first second third : P.State) → Type 0
  Reached k first second third =
      (first ≡ state_of K P entries forged k 1)
      × (second ≡ state_of K P entries forged k 2)
      × (third ≡ state_of K P entries forged k 3)

  -- one more round: each hears what the three say, and what was forged for it
  pub next_round : (k a b c : ℕ) (words : List ℕ) (first second third first' second' third' : P.State) →
      Reached k first second third → a ≡ P.said first → b ≡ P.said second → c ≡ P.said third →
      words ≡ sent_in forged k → first' ≡ P.heard first (get_or words 0 0 ∷ (a ∷ (b ∷ (c ∷ [])))) →
      second' ≡ P.heard second (get_or words 1 0 ∷ (a ∷ (b ∷ (c ∷ [])))) →
      third' ≡ P.heard third (get_or words 2 0 ∷ (a ∷ (b ∷ (c ∷ [])))) → Reached (k + 1) first' second' third'
  next_round k a b c words first second third first' second' third' h x y z w p q r =
      (next 1 0 first first' h.0 refl p, next 2 1 second second' h.1 refl q, next 3 2 third third' h.2 refl r)
    where
      next : (i j : ℕ) (s s' : P.State) → s ≡ state_of K P entries forged k i → j ≡ i - 1 →
          s' ≡ P.heard s (get_or words j 0 ∷ (a ∷ (b ∷ (c ∷ [])))) → s' ≡ state_of K P entries forged (k + 1) i
      next i j s s' e f step =
          step ∙
          ((λ d. P.heard (e d) (get_or (w d) (f d) 0 ∷ ((x ∙ ap P.said h.0) d ∷ ((y ∙ ap P.said h.1) d ∷
          ((z ∙ ap P.said h.2) d ∷ []))))) ∙
          ap (λ m. state_of K P entries forged m i) (sym (add-one k)))

  -- after the last round
  pub answers_are : (k : ℕ) (first second third : P.State) → Reached k first second third → k ≡ P.rounds 4 1 →
      (a b c : Option V) → a ≡ P.answer first → b ≡ P.answer second → c ≡ P.answer third →
      (a ∷ (b ∷ (c ∷ []))) ≡ answers_to K P entries forged
  answers_are k first second third h last a b c x y z =
      (λ d. (x ∙ ap P.answer h.0) d ∷ ((y ∙ ap P.answer h.1) d ∷ ((z ∙ ap P.answer h.2) d ∷ []))) ∙
      ap (answers_after K P entries forged) last
