-- What the counting vote answers, said without the way in which it is found.
use Rattle.std.specs.Prelude.{◌≡◌, ℕ, ◌-◌, ◌<◌, ◌≤◌, List, Some, None, Option}
use Rattle.protocol.specs.declared.setup.Setup.{Setup}
use Rattle.protocol.specs.Kind.{Kind}
use Rattle.protocol.specs.Places.{places}
use Rattle.protocol.specs.Protocol.{Admitted}
use Rattle.counting.specs.Counting.{counting}
use Rattle.protocol.specs.Heard.{view}

module _ {V : Type 0} (K : Kind V) (s : Setup) (entry : V) (row : List ℕ) where
  -- what a station answers that entered `entry` and heard this row
  abbrev pub answer_to : Option (Option V)
  answer_to = let P = counting K in P.answer (P.heard (P.begun s entry) row)

  -- how many places of the row as read read as v
  abbrev pub places_of : V → ℕ
  places_of v = places (view s (K.word entry) row) (K.word v) s.n

-- the vote answers v exactly if v has at least n - t places, and none if no value has them
pub record QuorumRule {V : Type 0} (K : Kind V) : Type 0 where
  pub answers : (s : Setup) (entry : V) (row : List ℕ) → Admitted (counting K) s → (v : V) →
      s.n - s.t ≤ places_of K s entry row v → answer_to K s entry row ≡ Some (Some v)
  pub only : (s : Setup) (entry : V) (row : List ℕ) → Admitted (counting K) s → (v : V) →
      answer_to K s entry row ≡ Some (Some v) → s.n - s.t ≤ places_of K s entry row v
  pub none : (s : Setup) (entry : V) (row : List ℕ) → Admitted (counting K) s →
      ((v : V) → places_of K s entry row v < s.n - s.t) → answer_to K s entry row ≡ Some None
