-- What grading answers, said without the way in which it is found.
use Rattle.std.specs.Prelude.{◌≡◌, ℕ, ◌-◌, ◌<◌, ◌≤◌, Bool, true, false, List, Some, Option}
use Rattle.protocol.specs.declared.setup.Setup.{Setup}
use Rattle.protocol.specs.Kind.{Kind}
use Rattle.protocol.specs.Protocol.{Protocol}
use Rattle.counting.specs.declared.grading.Grading.TheVariants.{Polling}
use Rattle.counting.specs.Grading.{grading}
use Rattle.protocol.specs.Heard.{view}
use Rattle.counting.specs.Leader.{Leads}

module _ {V : Type 0} (K : Kind V) (W : Protocol V (Option V)) where
  -- what a station answers that said `word` in the last round and heard this row
  abbrev pub polled : Setup → (word : ℕ) → List ℕ → Option (V × Bool)
  polled s word row = let P = grading K W in P.answer (P.heard (Polling s word) row)

  -- the value that leads the row as read, with grade 1 exactly if it has at least n - t places
  pub record GradeRule : Type 0 where
    pub sure : (s : Setup) (word : ℕ) (row : List ℕ) (v : V) (places : ℕ) →
        Leads K (view s word row) s.n (v, places) → s.n - s.t ≤ places → polled s word row ≡ Some (v, true)
    pub unsure : (s : Setup) (word : ℕ) (row : List ℕ) (v : V) (places : ℕ) →
        Leads K (view s word row) s.n (v, places) → places < s.n - s.t → polled s word row ≡ Some (v, false)
