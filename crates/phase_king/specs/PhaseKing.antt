-- Phase king: full, over any graded vote of g rounds, in (t + 1) × (g + 1) rounds. In each phase p, from 0 to t, the
-- graded vote is begun anew with the present value. In one more round station p, the king, says its graded value's word
-- and all others the silent word. The value after phase t is the answer.
use Rattle.std.specs.Prelude.{ℕ, ◌+◌, ◌*◌, Bool, cond, List, Some, None, Option, ◌==◌, nat_lt}
use Rattle.protocol.specs.declared.setup.Setup.{Setup}
use Rattle.protocol.specs.Kind.{Kind, value_of}
use Rattle.protocol.specs.Protocol.{Protocol, saturated}
use Rattle.protocol.specs.Admission.{refusal, unless_refused}
use Rattle.protocol.specs.Nest.{on_answer}
use Rattle.protocol.specs.Words.{silent, heard_at}
use Rattle.phase_king.specs.declared.phase.Phase.{Phase}
use Rattle.phase_king.specs.declared.PhaseKing.{PhaseKing}
use Rattle.phase_king.specs.declared.PhaseKing.TheVariants.{Idle, Voting, KingRound, Answered}

-- phase p at a station
abbrev pub phase_of : Setup → (p : ℕ) → Phase
phase_of s p = record { setup = s; king = p }

-- what a station with this graded value's word says in the king's round
abbrev pub king_word : Phase → (word : ℕ) → ℕ
king_word p word = cond (p.setup.own == p.king) word silent

-- the value with which it leaves that round: with grade 1 its graded value,
-- with grade 0 what the king's place reads as, or rest
abbrev pub after_king : {V : Type 0} → Kind V → Phase → (word : ℕ) → (grade : Bool) → List ℕ → V
after_king K p word grade row =
    value_of K (cond grade word (heard_at p.setup.own (king_word p word) row p.king))

-- phase t is the last one
abbrev pub next_phase : Phase → Option Phase
next_phase p = cond (nat_lt p.king p.setup.t) (Some (phase_of p.setup (p.king + 1))) None

module _ {V : Type 0} (K : Kind V) (G : Protocol V (V × Bool)) where
  abbrev pub king_rounds : (n t : ℕ) → ℕ
  king_rounds n t = saturated ((t + 1) * (G.rounds n t + 1))

  -- a phase begins with the present value
  abbrev pub phase_begun : Phase → V → PhaseKing G.State
  phase_begun p v = Voting p (G.begun p.setup v)

  abbrev pub king_begun : Setup → V → PhaseKing G.State
  king_begun s v =
      unless_refused (refusal G.max_stations G.max_faulty (king_rounds s.n s.t) s) Idle
      (phase_begun (phase_of s 0) v)

  -- a phase ends with a value: the next one begins, or it is the answer
  abbrev pub phase_ended : (next : Option Phase) → V → PhaseKing G.State
  phase_ended (Some p) v = phase_begun p v
  phase_ended None v = Answered (K.word v)

  abbrev pub king_heard : PhaseKing G.State → List ℕ → PhaseKing G.State
  king_heard Idle row = Idle
  king_heard (Voting p graded) row =
      let next = G.heard graded row in
      on_answer (G.answer next) (Voting p next) (λ a. KingRound p (K.word a.0) a.1)
  king_heard (KingRound p word grade) row = phase_ended (next_phase p) (after_king K p word grade row)
  king_heard (Answered word) row = Answered word

  abbrev pub king_said : PhaseKing G.State → ℕ
  king_said Idle = silent
  king_said (Voting p graded) = G.said graded
  king_said (KingRound p word grade) = king_word p word
  king_said (Answered word) = silent

  abbrev pub king_answer : PhaseKing G.State → Option V
  king_answer Idle = None
  king_answer (Voting p graded) = None
  king_answer (KingRound p word grade) = None
  king_answer (Answered word) = Some (value_of K word)

  abbrev pub phase_king : Protocol V V
  phase_king = record {
    State = PhaseKing G.State;
    max_stations = G.max_stations;
    max_faulty = G.max_faulty;
    rounds = king_rounds;
    begun = king_begun;
    heard = king_heard;
    said = king_said;
    answer = king_answer;
  }

-- the protocol's state that a machine is in, where `f` tells that of the machine below
abbrev pub king_state : {S T : Type 0} → (f : S → T) → PhaseKing S → PhaseKing T
king_state f Idle = Idle
king_state f (Voting p graded) = Voting p (f graded)
king_state f (KingRound p word grade) = KingRound p word grade
king_state f (Answered word) = Answered word
