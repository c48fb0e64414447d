-- A row in the hands of the station that heard it.
use Rattle.std.specs.Prelude.{ℕ, List}
use Rattle.protocol.specs.declared.setup.Setup.{Setup}
use Rattle.protocol.specs.declared.word.Heard.{Heard}
use Rattle.protocol.specs.Words.{heard_at}

-- a row, place by place, as the station reads it that said `said`
abbrev pub view : Setup → (said : ℕ) → List ℕ → ℕ → ℕ
view s said row = heard_at s.own said row

-- the same, as the program has it
abbrev pub as_heard : Heard → ℕ → ℕ
as_heard h = view h.setup h.said h.row.now
