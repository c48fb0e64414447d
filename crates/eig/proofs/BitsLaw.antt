-- Words as lists of bits, and the word of what is held for the chains of one length.
use Rattle.std.proofs.Common.{◌≡◌, ℕ, zero, suc, ◌+◌, ◌*◌, ◌/◌, ◌^◌, ◌<◌, ◌≤◌, Bool, false, cond, List, [], ◌∷◌, map, length, get_or, refl, ap, ◌∙◌, div-one, arith}
use native.Mathlib.Nat.{zero-div, div-div-eq-div-mul}
use lib.ListN.{length-map}
use Rattle.std.proofs.lemmas.List.{get_or-map}
use Rattle.std.proofs.lemmas.Bool.{lt-ltb}
use Rattle.std.proofs.lemmas.Bool.Decides.{nat_tests}
use Rattle.std.specs.List.{AllByRecursion as Every}
use Rattle.eig.specs.Chain.{Chain}
use Rattle.eig.specs.Numbering.{chains, number}
use Rattle.eig.specs.Gathering.{bit, packed, level_word, counted}
use Rattle.eig.proofs.ChainsLaw.{ChainOf, each_numbered, only_chains}

twice : (k : ℕ) → 2 ^ suc k ≡ 2 * 2 ^ k
twice k = omega arith

bit_packed : (bs : List Bool) (b : ℕ) → bit b (packed bs) ≡ get_or bs b false
bit_packed [] b = rw zero-div
bit_packed (x ∷ bs) zero = rw div-one (grind (arith, nat_tests))
bit_packed (x ∷ bs) (suc b) =
    let half : (cond x 1 0 + 2 * packed bs) / 2 ≡ packed bs = grind arith in
    rw (twice b, ← div-div-eq-div-mul (cond x 1 0 + 2 * packed bs) 2 (2 ^ b), half) (bit_packed bs b)

pub packed_below : (bs : List Bool) → packed bs < 2 ^ length bs
packed_below [] = omega arith
packed_below (x ∷ bs) =
    let ih = packed_below bs in
    let one : cond x 1 0 ≤ 1 = grind arith in
    omega (arith, twice (length bs))

module _ (n : ℕ) where
  pub level_bit : (held : List ℕ → Bool) (c : List ℕ) → Chain n c →
      bit (number n c) (level_word n (length c) held) ≡ held c
  level_bit held c v =
      let p = each_numbered n c v in
      bit_packed (map held (chains n (length c))) (number n c) ∙
      (get_or-map held (chains n (length c)) (number n c) [] false p.0 ∙ ap held p.1)

  pub level_below : (k : ℕ) (held : List ℕ → Bool) → level_word n k held < 2 ^ length (chains n k)
  level_below k held = rw (length-map (chains n k) held) at (packed_below (map held (chains n k)))

  pub level_counts : (k : ℕ) (held : List ℕ → Bool) →
      counted (length (chains n k)) (level_word n k held) ≡ level_word n k held
  level_counts k held =
      ap (λ b. cond b (level_word n k held) 0)
      (lt-ltb (level_word n k held) (2 ^ length (chains n k)) (level_below k held))

  pub level_same : (k : ℕ) (f g : List ℕ → Bool) → ((c : List ℕ) → ChainOf n k c → f c ≡ g c) →
      level_word n k f ≡ level_word n k g
  level_same k f g h = ap packed (go (chains n k) (only_chains n k))
    where
      go : (cs : List (List ℕ)) → Every (ChainOf n k) cs → map f cs ≡ map g cs
      go [] e = refl
      go (c ∷ cs) e = ap (λ b. b ∷ map f cs) (h c e.0) ∙ ap (λ bs. g c ∷ bs) (go cs e.1)
