-- The lexical order on lists of one length is strict and total, and the one by which the library compares such lists.
use Rattle.std.specs.Prelude.{◌≡◌, ℕ, true, false, ◌⊎◌, List, [], ◌∷◌, length, refl}
use Rattle.std.proofs.Common.{inl, arith}
use Rattle.std.proofs.lemmas.Bool.Decides.{nat_tests}
use Rattle.std.specs.Ordering.{nat_cmp, is_lt}
use Rattle.std.specs.Cmp.Lexicographic.{slice_cmp}
use Rattle.values.specs.Lexical.{lex_less}

pub lex_irreflexive : (xs : List ℕ) → lex_less xs xs ≡ false
lex_irreflexive [] = refl
lex_irreflexive (x ∷ xs) = let h = lex_irreflexive xs in grind (arith, nat_tests)

pub lex_transitive : (xs ys zs : List ℕ) → lex_less xs ys ≡ true → lex_less ys zs ≡ true → lex_less xs zs ≡ true
lex_transitive [] ys zs p q = cc
lex_transitive (x ∷ xs) [] zs p q = cc
lex_transitive (x ∷ xs) (y ∷ ys) [] p q = cc
lex_transitive (x ∷ xs) (y ∷ ys) (z ∷ zs) p q = let h = lex_transitive xs ys zs in grind (arith, nat_tests)

pub lex_total : (xs ys : List ℕ) → length xs ≡ length ys →
    (xs ≡ ys) ⊎ ((lex_less xs ys ≡ true) ⊎ (lex_less ys xs ≡ true))
lex_total [] [] e = inl refl
lex_total [] (y ∷ ys) e = absurd (omega arith)
lex_total (x ∷ xs) [] e = absurd (omega arith)
lex_total (x ∷ xs) (y ∷ ys) e = let h = lex_total xs ys (omega arith) in grind (arith, nat_tests)

pub lex_compares : (xs ys : List ℕ) → length xs ≡ length ys → is_lt (slice_cmp nat_cmp xs ys) ≡ lex_less xs ys
lex_compares [] [] e = refl
lex_compares [] (y ∷ ys) e = absurd (omega arith)
lex_compares (x ∷ xs) [] e = absurd (omega arith)
lex_compares (x ∷ xs) (y ∷ ys) e = let h = lex_compares xs ys (omega arith) in grind (arith, nat_tests)
