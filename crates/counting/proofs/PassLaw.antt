-- One pass over the places of a row: what each place adds to a count.
use Rattle.std.proofs.Common.{◌≡◌, ℕ, zero, suc, ◌+◌, ◌<◌, ◌≤◌, min, List, length, get_or, take, sym, refl, ap, ◌∙◌, ⊎_elim, add-one, arith, length-take}
use lib.ListN.{get_or-eq_default}
use Rattle.std.proofs.lemmas.List.{get_or-take, get_or_default}
use Rattle.std.proofs.lemmas.Bool.{cases_eq, eq-eqb, ne_eqb}
use Rattle.protocol.specs.Places.{places}
use Rattle.protocol.specs.Words.{silent, heard_at}
use Rattle.protocol.proofs.RowLaw.{heard_own, heard_other}

pub place_matches : (row : ℕ → ℕ) (w j : ℕ) → row j ≡ w → places row w (j + 1) ≡ places row w j + 1
place_matches row w j e = rw (add-one j, eq-eqb (row j) w e) (omega arith)

pub place_differs : (row : ℕ → ℕ) (w j : ℕ) → (row j ≡ w → ⊥) → places row w (j + 1) ≡ places row w j
place_differs row w j d = rw (add-one j, ne_eqb (row j) w d) (omega arith)

-- places that differ add nothing
rest_differs : (row : ℕ → ℕ) (w m n : ℕ) → m ≤ n → ((j : ℕ) → m ≤ j → j < n → row j ≡ w → ⊥) →
    places row w n ≡ places row w m
rest_differs row w m zero l d = let e : 0 ≡ m = omega arith in ap (places row w) e
rest_differs row w m (suc n) l d = ⊎_elim
    (λ e. ap (places row w) (sym e))
    (λ e.
    let h : m ≤ n = omega arith in
    let r = rest_differs row w m n h (λ j a b. d j a (omega arith)) in
    rw (ne_eqb (row n) w (d n h (omega arith))) (omega arith))
    (cases_eq m (suc n))

-- a count of the word w in `heard`, compared as `word`, and what it says of all n places: one more where the own place
-- lies past the end
pub record Ends (own said : ℕ) (row heard : List ℕ) (n w word count : ℕ) : Type 0 where
  pub own_past : length heard ≤ own → own < n → said ≡ word → count + 1 ≡ places (heard_at own said row) w n
  pub none_past : (length heard ≤ own → own < n → said ≡ word → ⊥) → count ≡ places (heard_at own said row) w n

-- `heard` is the part of the row that is read
module _ (own said : ℕ) (row heard : List ℕ) (n : ℕ) (front : heard ≡ take n row) where
  shorter : length heard ≡ min n (length row)
  shorter = ap length front ∙ length-take n row

  -- the words of these places, but for the own one
  pub read_front : (j : ℕ) → j < length heard → (j ≡ own → ⊥) → get_or heard j 0 ≡ heard_at own said row j
  read_front j l d =
      let e = shorter in
      ap (λ xs. get_or xs j 0) front ∙
      (get_or-take n row j 0 (omega arith) ∙
      (get_or_default row j 0 silent (omega arith) ∙ sym (heard_other own said row j d)))

  module _ (w : ℕ) (loud : w ≡ silent → ⊥) where
    -- past the end of a short row only the own place can hold a word that is not silent
    past_end : (j : ℕ) → length heard ≤ j → j < n → (j ≡ own → ⊥) → heard_at own said row j ≡ w → ⊥
    past_end j l m d e =
        let h = shorter in
        loud (sym e ∙ (heard_other own said row j d ∙ get_or-eq_default row silent (omega arith)))

    pub past_end_counts : (word : ℕ) → word ≡ w → (count j : ℕ) → count ≡ places (heard_at own said row) word j →
        j ≡ length heard → Ends own said row heard n w word count
    past_end_counts word same count j c end = record { own_past = own_past; none_past = none_past }
      where
        so_far : count ≡ places (heard_at own said row) w j
        so_far = c ∙ ap (λ x. places (heard_at own said row) x j) same

        own_past : length heard ≤ own → own < n → said ≡ word → count + 1 ≡ places (heard_at own said row) w n
        own_past l m e =
            let a = rest_differs (heard_at own said row) w (own + 1) n (omega arith)
            (λ i p q. past_end i (omega arith) q (omega arith)) in
            let b = rest_differs (heard_at own said row) w j own (omega arith)
            (λ i p q. past_end i (omega arith) (omega arith) (omega arith)) in
            let d = place_matches (heard_at own said row) w own (heard_own own said row own refl ∙ (e ∙ same)) in
            let f = so_far in
            omega arith

        none_past : (length heard ≤ own → own < n → said ≡ word → ⊥) → count ≡ places (heard_at own said row) w n
        none_past d =
            let h = shorter in
            so_far ∙
            sym (rest_differs (heard_at own said row) w j n (omega arith)
            (λ i p q e. ⊎_elim
            (λ (o : i ≡ own).
            d (omega arith) (omega arith) (sym (heard_own own said row i o) ∙ (e ∙ sym same)))
            (λ o. past_end i (omega arith) q o e)
            (cases_eq i own)))
