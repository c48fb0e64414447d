use Rattle.std.proofs.Common.{◌≡◌, ◌≤◌}
use Rattle.protocol.specs.Places.{places}
use Rattle.protocol.specs.Heard.{as_heard}
use Rattle.counting.proofs.tally.places_of.Given as goal

abbrev pub invariant-loop-j : goal.invariant-loop-j
invariant-loop-j g l =
    (l.count ≡ places (as_heard l.heard) l.word l.j) × (l.count ≤ l.j)
