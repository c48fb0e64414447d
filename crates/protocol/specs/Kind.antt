-- A kind of value: how its values are written as words, how they compare, and which one is rest.
use Rattle.std.specs.Prelude.{◌≡◌, ℕ, Bool, true, false, ◌⊎◌, Some, None, Option, ◌≢◌}
use Rattle.std.specs.Option.{unwrap_or}
use Rattle.protocol.specs.Words.{silent}

pub record Kind (V : Type 0) : Type 0 where
  pub word : V → ℕ
  pub reads : ℕ → Option V
  pub less : V → V → Bool
  pub rest : V

-- what every kind of value owes
pub record Lawful {V : Type 0} (K : Kind V) : Type 0 where
  -- the word of v reads as v, and no other word does; the silent word reads as none
  pub reads_word : (v : V) → K.reads (K.word v) ≡ Some v
  pub word_reads : (w : ℕ) (v : V) → K.reads w ≡ Some v → w ≡ K.word v
  pub silence : K.reads silent ≡ None
  -- of two different values exactly one is less, none is less than itself, and less carries over
  pub total : (a b : V) → (a ≢ b) → (K.less a b ≡ true) ⊎ (K.less b a ≡ true)
  pub irreflexive : (v : V) → K.less v v ≡ false
  pub transitive : (a b c : V) → K.less a b ≡ true → K.less b c ≡ true → K.less a c ≡ true
  -- rest is less than every other value
  pub rest_least : (v : V) → (v ≢ K.rest) → K.less K.rest v ≡ true

module _ {V : Type 0} (K : Kind V) where
  -- the word by which a value or none is told
  abbrev pub word_of : Option V → ℕ
  word_of None = silent
  word_of (Some v) = K.word v

  -- the value that a word reads as, or rest
  abbrev pub value_of : ℕ → V
  value_of w = unwrap_or (K.reads w) K.rest
