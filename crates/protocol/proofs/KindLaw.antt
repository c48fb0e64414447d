-- Words of a lawful kind of value.
use Rattle.std.proofs.Common.{◌≡◌, Some, None, Option, unwrap_or, sym, ap, arith}
use Rattle.protocol.specs.Words.{silent}
use Rattle.protocol.specs.Kind.{Kind, Lawful, word_of, value_of}

module _ {V : Type 0} (K : Kind V) (lawful : Lawful K) where
  pub word_injective : (u v : V) → K.word u ≡ K.word v → u ≡ v
  word_injective u v e =
      let a = lawful.reads_word u in
      let b = lawful.reads_word v in
      let f : K.reads (K.word u) ≡ K.reads (K.word v) = ap K.reads e in cc

  pub silent_word : (v : V) → K.word v ≡ silent → ⊥
  silent_word v e =
      let a = lawful.silence in
      let b = lawful.reads_word v in
      let c = ap K.reads e in
      grind arith

  pub value_word : (v : V) → value_of K (K.word v) ≡ v
  value_word v = ap (λ o. unwrap_or o K.rest) (lawful.reads_word v)

  -- who says the word of v tells v
  pub told_value : (o : Option V) (v : V) → word_of K o ≡ K.word v → o ≡ Some v
  told_value None v e = absurd (silent_word v (sym e))
  told_value (Some u) v e = ap Some (word_injective u v e)
