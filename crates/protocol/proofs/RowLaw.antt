-- What a station reads at the places of a row, and in a round of a run.
use Rattle.std.proofs.Common.{◌≡◌, ℕ, ◌<◌, List, get_or, sym, ap, ◌∙◌, ⊎_elim}
use Rattle.std.proofs.lemmas.Bool.{cases_eq, eq-eqb, ne_eqb}
use Rattle.protocol.specs.Words.{silent, heard_at}
use Rattle.protocol.specs.Protocol.{Protocol}
use Rattle.protocol.specs.Run.{Run, Correct, reached}

pub heard_own : (own said : ℕ) (row : List ℕ) (j : ℕ) → j ≡ own → heard_at own said row j ≡ said
heard_own own said row j e = rw (eq-eqb j own e)

pub heard_other : (own said : ℕ) (row : List ℕ) (j : ℕ) → (j ≡ own → ⊥) → heard_at own said row j ≡ get_or row j silent
heard_other own said row j d = rw (ne_eqb j own d)

module _ {V A : Type 0} {P : Protocol V A} {n t : ℕ} (R : Run P n t) (k : ℕ) where
  -- the word that station j says in round k
  abbrev pub said_in : ℕ → ℕ
  said_in j = P.said (reached R j k)

  -- what listener i reads at place j in round k
  abbrev pub read_in : (i j : ℕ) → ℕ
  read_in i j = heard_at i (said_in i) (R.rows i k) j

  pub read_exact : k < P.rounds n t → (i j : ℕ) → Correct R i → Correct R j → read_in i j ≡ said_in j
  read_exact h i j c d = ⊎_elim
      (λ e. heard_own i _ _ j e ∙ ap said_in (sym e))
      (λ e. heard_other i _ _ j e ∙ R.exact i j k c.0 d.0 h c.1 d.1 (λ f. e (sym f)))
      (cases_eq j i)
