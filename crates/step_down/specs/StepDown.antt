-- Stepping down: a full vote also stands as a weak vote, or as a graded vote with grade 1, in as many rounds.
use Rattle.std.specs.Prelude.{Bool, true, Some, Option}
use Rattle.std.specs.Option.{option_map}
use Rattle.protocol.specs.Protocol.{Protocol}

-- the same protocol with its answers said in another way
abbrev pub answering : {V A B : Type 0} → (A → B) → Protocol V A → Protocol V B
answering f P = record {
  State = P.State;
  max_stations = P.max_stations;
  max_faulty = P.max_faulty;
  rounds = P.rounds;
  begun = P.begun;
  heard = P.heard;
  said = P.said;
  answer = λ s. option_map f (P.answer s);
}

abbrev pub weak_form : {V : Type 0} → V → Option V
weak_form v = Some v

abbrev pub graded_form : {V : Type 0} → V → V × Bool
graded_form v = (v, true)

abbrev pub as_weak : {V : Type 0} → Protocol V V → Protocol V (Option V)
as_weak P = answering weak_form P

abbrev pub as_graded : {V : Type 0} → Protocol V V → Protocol V (V × Bool)
as_graded P = answering graded_form P
