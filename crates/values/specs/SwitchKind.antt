-- The switch as a kind of value: Hold is 0 and rest, Go is 1.
use Rattle.std.specs.Prelude.{ℕ, Bool, true, false, cond, Some, None, Option, ◌==◌, nat_lt}
use Rattle.protocol.specs.Kind.{Kind}
use Rattle.values.specs.declared.switch.Switch.{Switch}
use Rattle.values.specs.declared.switch.Switch.TheVariants.{Hold, Go}

-- the switch that says whether to go
abbrev pub switch_of : (go : Bool) → Switch
switch_of true = Go
switch_of false = Hold

abbrev pub switch_word : Switch → ℕ
switch_word Hold = 0
switch_word Go = 1

abbrev pub switch_reads : ℕ → Option Switch
switch_reads w = cond (w == 0) (Some Hold) (cond (w == 1) (Some Go) None)

-- the lesser has the smaller word
abbrev pub switch_kind : Kind Switch
switch_kind = record {
  word = switch_word;
  reads = switch_reads;
  less = λ a b. nat_lt (switch_word a) (switch_word b);
  rest = Hold;
}
