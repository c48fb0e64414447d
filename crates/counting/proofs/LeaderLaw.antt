-- The leader of a row leads, and nothing else does.
use Rattle.std.proofs.Common.{◌≡◌, ℕ, zero, suc, ◌+◌, ◌<◌, ◌≤◌, List, [], ◌∷◌, ◌++◌, map, fold, Bool, true, false, cond, ◌&&◌, ◌||◌, eqb, ltb, ◌⊎◌, Some, None, Option, sym, refl, ap, ◌∙◌, inl, inr, ⊎_elim, zero-add, arith}
use mathlib.Core.Path.{subst⁻¹}
use Rattle.std.specs.List.{filter_map, range_with_len}
use Rattle.std.proofs.lemmas.List.{map-append}
use Rattle.std.proofs.lemmas.List.Elements.{filter_map-append}
use Rattle.std.proofs.lemmas.List.Sums.{fold-append}
use Rattle.std.proofs.lemmas.Bool.{cases_Bool, cases_eq, cases_lt, ltb-false, eq-eqb, or_parts, both_ways}
use Rattle.std.proofs.lemmas.Bool.Decides.{nat_tests}
use Rattle.protocol.specs.Kind.{Kind, Lawful}
use Rattle.protocol.specs.Places.{places}
use Rattle.protocol.proofs.KindLaw.{word_injective}
use Rattle.protocol.proofs.PlacesLaw.{place_of, place_counts, places_same}
use Rattle.counting.specs.Leader.{beaten, ahead, considered, counted, leading, leader, Leads, LeadsAlone}

-- rows that are alike at the first n places have one leader
leading_same : {V : Type 0} (K : Kind V) (row row' : ℕ → ℕ) (n k : ℕ) → k ≤ n →
    ((j : ℕ) → j < n → row j ≡ row' j) → leading K row n k ≡ leading K row' n k
leading_same K row row' n zero l h = refl
leading_same {V} K row row' n (suc k) l h =
    ap (λ b. considered K row n b (K.reads (row k))) (leading_same K row row' n k (omega arith) h) ∙
    (ap (λ w. considered K row n (leading K row' n k) (K.reads w)) (h k l) ∙
    at (leading K row' n k) (K.reads (row' k)))
  where
    at : (b : V × ℕ) (o : Option V) → considered K row n b o ≡ considered K row' n b o
    at b None = refl
    at b (Some v) = ap (λ c. ahead K b (v, c)) (places_same row row' (K.word v) n h)

pub leader_same : {V : Type 0} (K : Kind V) (row row' : ℕ → ℕ) (n : ℕ) →
    ((j : ℕ) → j < n → row j ≡ row' j) → leader K row n ≡ leader K row' n
leader_same K row row' n h = leading_same K row row' n n (omega arith) h

-- the numbers below k + 1 are those below k, and k
range_next : (a k : ℕ) → range_with_len a (suc k) ≡ range_with_len a k ++ (a + k) ∷ []
range_next a zero = ap (λ x. x ∷ []) (omega arith)
range_next a (suc k) =
    let e : a + 1 + k ≡ a + suc k = omega arith in
    ap (λ xs. a ∷ xs) (range_next (a + 1) k ∙ ap (λ x. range_with_len (a + 1) k ++ x ∷ []) e)

-- the leader is ahead of all places that read as a value, taken one after the other
module _ {V : Type 0} (K : Kind V) (row : ℕ → ℕ) (n : ℕ) where
  abbrev taken : List ℕ → List (V × ℕ)
  taken js = map (λ v. (v, places row (K.word v) n)) (filter_map (λ j. K.reads (row j)) js)

  -- what place j adds
  place_taken : (j : ℕ) (best : V × ℕ) →
      fold (ahead K) best (taken (j ∷ [])) ≡ considered K row n best (K.reads (row j))
  place_taken j best = go (K.reads (row j)) refl
    where
      go : (o : Option V) → K.reads (row j) ≡ o → fold (ahead K) best (taken (j ∷ [])) ≡ considered K row n best o
      go None e = rw e refl
      go (Some v) e = rw e refl

  taken_next : (js : List ℕ) (j : ℕ) → taken (js ++ j ∷ []) ≡ taken js ++ taken (j ∷ [])
  taken_next js j =
      ap (map (λ v. (v, places row (K.word v) n))) (filter_map-append (λ i. K.reads (row i)) js (j ∷ [])) ∙
      map-append (λ v. (v, places row (K.word v) n)) _ _

  leading_fold : (k : ℕ) → fold (ahead K) (K.rest, 0) (taken (range_with_len 0 k)) ≡ leading K row n k
  leading_fold zero = refl
  leading_fold (suc k) =
      let js = range_with_len 0 k in
      ap (λ is. fold (ahead K) (K.rest, 0) (taken is)) (range_next 0 k ∙ ap (λ j. js ++ j ∷ []) (zero-add k)) ∙
      (ap (fold (ahead K) (K.rest, 0)) (taken_next js k) ∙
      (fold-append (ahead K) (K.rest, 0) (taken js) (taken (k ∷ [])) ∙
      (ap (λ best. fold (ahead K) best (taken (k ∷ []))) (leading_fold k) ∙
      place_taken k (leading K row n k))))

  pub leader_fold : fold (ahead K) (K.rest, 0) (counted K row n) ≡ leader K row n
  leader_fold = leading_fold n

-- a larger number, or an equal one and a test that carries over
carries_over : (x y z : ℕ) (p q r : Bool) → (q ≡ true → p ≡ true → r ≡ true) →
    (ltb x y || (eqb x y && p)) ≡ true → (ltb y z || (eqb y z && q)) ≡ true → (ltb x z || (eqb x z && r)) ≡ true
carries_over x y z p q r h e f = grind (arith, nat_tests)

module _ {V : Type 0} (K : Kind V) (lawful : Lawful K) where
  -- two values are the same, or one is less
  same_or_less : (u v : V) → (u ≡ v) ⊎ ((K.less u v ≡ true) ⊎ (K.less v u ≡ true))
  same_or_less u v = ⊎_elim
      (λ e. inl (word_injective K lawful u v e))
      (λ d. inr (lawful.total u v (λ e. d (ap K.word e))))
      (cases_eq (K.word u) (K.word v))

  never_both : (u v : V) → K.less u v ≡ true → K.less v u ≡ true → ⊥
  never_both u v a b = both_ways (K.less u u) (lawful.irreflexive u) (lawful.transitive u v u a b)

  beaten_by_none : (a : V × ℕ) → beaten K a a ≡ false
  beaten_by_none a = let h = lawful.irreflexive a.0 in grind (arith, nat_tests)

  beaten_on : (a b c : V × ℕ) → beaten K a b ≡ true → beaten K b c ≡ true → beaten K a c ≡ true
  beaten_on a b c e f =
      carries_over a.1 b.1 c.1 (K.less b.0 a.0) (K.less c.0 b.0) (K.less c.0 a.0)
      (lawful.transitive c.0 b.0 a.0) e f

  module _ (row : ℕ → ℕ) (n : ℕ) where
    -- a value with its count
    abbrev with_count : V → V × ℕ
    with_count v = (v, places row (K.word v) n)

    -- what is ahead after the first k places: rest, or a value that is counted; and nothing so far beats it
    record Ahead (k : ℕ) (best : V × ℕ) : Type 0 where
      from : (best ≡ (K.rest, 0)) ⊎ ((0 < best.1) × (best ≡ with_count best.0))
      unbeaten : (j : ℕ) (u : V) → j < k → K.reads (row j) ≡ Some u → beaten K best (with_count u) ≡ false

    one_more : (k : ℕ) (best : V × ℕ) (o : Option V) → k < n → K.reads (row k) ≡ o → Ahead k best →
        Ahead (suc k) (considered K row n best o)
    one_more k best None l e h = record {
      from = h.from;
      unbeaten = λ j u m r. ⊎_elim
          (λ d. absurd (let a : K.reads (row k) ≡ Some u = rw (← d) r in grind arith))
          (λ d. h.unbeaten j u (omega arith) r)
          (cases_eq j k);
    }
    one_more k best (Some v) l e h = step (beaten K best (with_count v)) refl
      where
        here : (j : ℕ) (u : V) → j ≡ k → K.reads (row j) ≡ Some u → u ≡ v
        here j u d r = let a : K.reads (row k) ≡ Some u = rw (← d) r in cc

        step : (b : Bool) → beaten K best (with_count v) ≡ b → Ahead (suc k) (cond b (with_count v) best)
        step true f = record {
          from = inr (place_counts row (K.word v) n k l (lawful.word_reads (row k) v e), refl);
          unbeaten = λ j u m r. ⊎_elim
              (λ d. ap (λ x. beaten K (with_count v) (with_count x)) (here j u d r) ∙ beaten_by_none (with_count v))
              (λ d. ⊎_elim
              (λ g. absurd (both_ways (beaten K best (with_count u)) (h.unbeaten j u (omega arith) r)
              (beaten_on best (with_count v) (with_count u) f g)))
              (λ g. g)
              (cases_Bool (beaten K (with_count v) (with_count u))))
              (cases_eq j k);
        }
        step false f = record {
          from = h.from;
          unbeaten = λ j u m r. ⊎_elim
              (λ d. ap (λ x. beaten K best (with_count x)) (here j u d r) ∙ f)
              (λ d. h.unbeaten j u (omega arith) r)
              (cases_eq j k);
        }

    ahead_after : (k : ℕ) → k ≤ n → Ahead k (leading K row n k)
    ahead_after zero l = record { from = inl refl; unbeaten = λ j u m r. absurd (omega arith) }
    ahead_after (suc k) l =
        one_more k (leading K row n k) (K.reads (row k)) l refl (ahead_after k (omega arith))

    -- a value that is counted stands at a place and so does not beat what is ahead of all
    none_beats : (best : V × ℕ) → Ahead n best → (v : V) → 0 < places row (K.word v) n →
        beaten K best (with_count v) ≡ false
    none_beats best h v some =
        let f = place_of row (K.word v) n some in
        h.unbeaten f.0 v f.1 (ap K.reads f.2 ∙ lawful.reads_word v)

    leads_from : (best : V × ℕ) → Ahead n best → Leads K row n best
    leads_from best h = record { has_places = has; most_places = most; least = least; none = none }
      where
        most : (v : V) → places row (K.word v) n ≤ best.1
        most v = ⊎_elim
            (λ (s : 0 < places row (K.word v) n).
            ltb-false best.1 (places row (K.word v) n) (or_parts _ _ (none_beats best h v s)).0)
            (λ (z : places row (K.word v) n ≤ 0). omega arith)
            (cases_lt 0 (places row (K.word v) n))

        has : best.1 ≡ places row (K.word best.0) n
        has = ⊎_elim
            (λ e. let m = most best.0 in let z : best.1 ≡ 0 = ap (λ (b : V × ℕ). b.1) e in omega arith)
            (λ f. ap (λ (b : V × ℕ). b.1) f.1)
            h.from

        -- rest is the least of all
        above_rest : (v : V) → best ≡ (K.rest, 0) → (v ≡ best.0) ⊎ (K.less best.0 v ≡ true)
        above_rest v e =
            let r : best.0 ≡ K.rest = ap (λ (b : V × ℕ). b.0) e in
            ⊎_elim
            (λ d. inl (word_injective K lawful v K.rest d ∙ sym r))
            (λ d. inr (ap (λ x. K.less x v) r ∙ lawful.rest_least v (λ x. d (ap K.word x))))
            (cases_eq (K.word v) (K.word K.rest))

        least : (v : V) → places row (K.word v) n ≡ best.1 → (v ≡ best.0) ⊎ (K.less best.0 v ≡ true)
        least v e = ⊎_elim
            (above_rest v)
            (λ f.
            let u = none_beats best h v (let s = f.0 in omega arith) in
            let t = (or_parts (ltb best.1 (places row (K.word v) n)) _ u).1 in
            let b : K.less v best.0 ≡ false = sym (ap (λ x. x && K.less v best.0) (eq-eqb _ _ (sym e))) ∙ t in
            ⊎_elim inl
            (λ d. inr (⊎_elim (λ x. absurd (both_ways (K.less v best.0) b x)) (λ x. x) d))
            (same_or_less v best.0))
            h.from

        none : ((j : ℕ) → j < n → K.reads (row j) ≡ None) → best ≡ (K.rest, 0)
        none d = ⊎_elim
            (λ e. e)
            (λ f.
            let p = place_of row (K.word best.0) n (let s = f.0 in let e = has in omega arith) in
            let a : K.reads (row p.0) ≡ Some best.0 = ap K.reads p.2 ∙ lawful.reads_word best.0 in
            let b = d p.0 p.1 in
            absurd (grind arith))
            h.from

    pub leader_leads : Leads K row n (leader K row n)
    leader_leads = leads_from (leader K row n) (ahead_after n (omega arith))

    pub leads_only : (a b : V × ℕ) → Leads K row n a → Leads K row n b → a ≡ b
    leads_only a b h i = ⊎_elim
        (λ s. same (sym s))
        (λ x. ⊎_elim same (λ y. absurd (never_both a.0 b.0 x y)) (i.least a.0 (sym h.has_places ∙ count)))
        (h.least b.0 (sym i.has_places ∙ sym count))
      where
        count : a.1 ≡ b.1
        count =
            let p = h.has_places in
            let q = i.has_places in
            omega (arith, h.most_places b.0, i.most_places a.0)

        same : a.0 ≡ b.0 → a ≡ b
        same s = λ k. (s k, count k)

    -- all that is promised of the leader
    pub leader_is : (best : V × ℕ) → best ≡ leader K row n →
        record {
          value : best ≡ leader K row n;
          leads : Leads K row n best;
          alone : LeadsAlone K row n best;
        }
    leader_is best e = record {
      value = e;
      leads = subst⁻¹ (Leads K row n) e leader_leads;
      alone = λ b h. leads_only b (leader K row n) h leader_leads ∙ sym e;
    }
