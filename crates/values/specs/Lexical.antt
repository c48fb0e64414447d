-- Lists of numbers in lexical order.
use Rattle.std.specs.Prelude.{ℕ, Bool, false, ◌&&◌, ◌||◌, List, [], ◌∷◌, ◌==◌, nat_lt}

-- the first place where they differ decides
abbrev pub lex_less : List ℕ → List ℕ → Bool
lex_less [] ys = false
lex_less (x ∷ xs) [] = false
lex_less (x ∷ xs) (y ∷ ys) = nat_lt x y || (x == y && lex_less xs ys)
