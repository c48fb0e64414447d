-- The two steps of information gathering: a chain whose last station is correct resolves to what that station held,
-- and correct stations agree on every chain below which they meet such chains.
use Rattle.std.proofs.Common.{◌≡◌, ℕ, zero, suc, ◌+◌, ◌*◌, ◌<◌, ◌≤◌, true, not, ltb, List, [], ◌∷◌, length, Some, sym, ap, ◌∙◌, inl, inr, ⊎_elim, arith}
use Rattle.std.proofs.lemmas.Bool.{cases_Bool, not_from_false}
use Rattle.protocol.specs.Protocol.{Admitted}
use Rattle.protocol.specs.Run.{Run, Correct, answered, station}
use Rattle.protocol.proofs.AdmissionLaw.{station_admitted}
use Rattle.protocol.proofs.RowLaw.{said_in, read_in, read_exact}
use Rattle.eig.specs.Chain.{Chain, others, longer_chains}
use Rattle.eig.specs.Numbering.{chains, number}
use Rattle.eig.specs.Gathering.{bit, level_word, counted, switch, eig}
use Rattle.eig.specs.Held.{held_by, resolved_by, EndsCorrect, Covered, GathersAlways}
use Rattle.eig.proofs.OthersLaw.{others_same, others_root, others_cons, others_chain, majority}
use Rattle.eig.proofs.BitsLaw.{level_bit, level_counts}
use Rattle.eig.proofs.GatheringLaw.{says, ends, last_round}

module _ {n t : ℕ} (R : Run eig n t) where
  admitted : (i : ℕ) → i < n → Admitted eig (station n t i)
  admitted i l = station_admitted R.takes l

  pub said_level : (i k : ℕ) → i < n → k ≤ t → said_in R k i ≡ level_word n k (held_by R i)
  said_level i k l m = says (station n t i) (R.entry i) (R.rows i) (admitted i l) k m

  pub tells : (i : ℕ) (c : List ℕ) → i < n → Chain n c → length c ≤ t →
      bit (number n c) (said_in R (length c) i) ≡ held_by R i c
  tells i c l v m = ap (bit (number n c)) (said_level i (length c) l m) ∙ level_bit n (held_by R i) c v

  pub answers : (i : ℕ) → i < n → answered R i ≡ Some (switch (resolved_by R i (suc t) []))
  answers i l = ends (station n t i) (R.entry i) (R.rows i) (admitted i l)

  -- a correct station's word counts as it was said
  read_level : (i r k : ℕ) → Correct R i → Correct R r → k ≤ t →
      counted (length (chains n k)) (read_in R k i r) ≡ level_word n k (held_by R r)
  read_level i r k ci cr m =
      let in_time : k < eig.rounds n t = let e = last_round R.takes in omega arith in
      ap (counted (length (chains n k))) (read_exact R k in_time i r ci cr ∙ said_level r k cr.0 m) ∙
      level_counts n k (held_by R r)

  pub relayed : (i r : ℕ) (c : List ℕ) → Correct R i → Correct R r → Chain n (r ∷ c) → length c ≤ t →
      held_by R i (r ∷ c) ≡ held_by R r c
  relayed i r c ci cr v m = ap (bit (number n c)) (read_level i r (length c) ci cr m) ∙ level_bit n (held_by R r) c v.2

  abbrev faulty_others : List ℕ → ℕ
  faulty_others c = others n c (λ r. not (R.correct r))

  pub few_faulty : (c : List ℕ) → faulty_others c ≤ t
  few_faulty c = omega (arith, others_root n c (λ r. not (R.correct r)), R.few_faulty)

  -- a chain of at most t stations leaves more than twice as many others as there are faulty ones
  pub correct_majority : (c : List ℕ) → Chain n c → length c ≤ t → 2 * faulty_others c < longer_chains n c
  correct_majority c v m =
      let third = R.takes.third in
      omega (arith, others_chain n c v, few_faulty c)

  pub last_correct : (i r below : ℕ) (c : List ℕ) → Correct R i → Correct R r → Chain n (r ∷ c) →
      length c + below ≡ t → resolved_by R i below (r ∷ c) ≡ held_by R r c
  last_correct i r zero c ci cr v e = relayed i r c ci cr v (omega arith)
  last_correct i r (suc below) c ci cr v e =
      majority n (r ∷ c) R.correct (λ q. resolved_by R i below (q ∷ (r ∷ c))) (held_by R r c)
      (correct_majority (r ∷ c) v (omega arith))
      (λ q l w cq. last_correct i q below (r ∷ c) ci (l, cq) (l, w, v) (omega arith) ∙
      relayed q r c (l, cq) cr v (omega arith))

  -- at a chain whose last station is correct
  meets : (i j below : ℕ) (c : List ℕ) → Correct R i → Correct R j → Chain n c → length c + below ≡ suc t →
      EndsCorrect R c → resolved_by R i below c ≡ resolved_by R j below c
  meets i j below [] ci cj v e ends = absurd ends
  meets i j below (r ∷ c) ci cj v e ends =
      last_correct i r below c ci (v.0, ends) v (omega arith) ∙
      sym (last_correct j r below c cj (v.0, ends) v (omega arith))

  pub frontier : (i j below : ℕ) (c : List ℕ) → Correct R i → Correct R j → Chain n c → length c + below ≡ suc t →
      Covered R below c → resolved_by R i below c ≡ resolved_by R j below c
  frontier i j zero c ci cj v e covered = meets i j zero c ci cj v e covered
  frontier i j (suc below) c ci cj v e (inl ends) = meets i j (suc below) c ci cj v e ends
  frontier i j (suc below) c ci cj v e (inr all) =
      ap (λ x. ltb (longer_chains n c) (2 * x)) (others_same n c _ _ (λ r l w.
      frontier i j below (r ∷ c) ci cj (l, w, v) (omega arith) (all r (l, w, v))))

  met : (below r : ℕ) (c : List ℕ) → R.correct r ≡ true → Covered R below (r ∷ c)
  met zero r c e = e
  met (suc below) r c e = inl e

  -- where fewer faulty stations are left than the ways down have stations to come
  pub covered : (below : ℕ) (c : List ℕ) → faulty_others c < below → Covered R below c
  covered zero c few = absurd (omega arith)
  covered (suc below) c few = inr (λ r v. ⊎_elim
      (λ e. met below r c e)
      (λ e.
      let less = others_cons n r c (λ q. not (R.correct q)) v.0 v.1 (not_from_false (R.correct r) e) in
      covered below (r ∷ c) (omega arith))
      (cases_Bool (R.correct r)))

pub gathers_always : GathersAlways
gathers_always n t R = record {
  says = said_level R;
  tells = tells R;
  answers = answers R;
  relayed = relayed R;
  last_correct = last_correct R;
  frontier = frontier R;
  root_covered = covered R (suc t) [] (omega (arith, few_faulty R []));
}
