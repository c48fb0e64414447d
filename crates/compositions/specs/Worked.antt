-- Worked cases, held against the definitions.
use Rattle.std.specs.Prelude.{◌≡◌, ℕ, Bool, true, false, List, [], ◌∷◌, pos, Some, None, Option}
use Rattle.std.specs.Option.{option_map}
use Rattle.std.specs.Result.{result_ok}
use Rattle.protocol.specs.declared.refusal.Refusal.TheVariants.{Rounds}
use Rattle.protocol.specs.Kind.{word_of}
use Rattle.protocol.specs.Protocol.{refused}
use Rattle.protocol.specs.Run.{station}
use Rattle.counting.specs.QuorumRule.{answer_to}
use Rattle.values.specs.declared.switch.Switch.{Switch}
use Rattle.values.specs.declared.switch.Switch.TheVariants.{Hold, Go}
use Rattle.values.specs.PointKind.{new_point, point_word, point_reads, rest_point}
use Rattle.values.specs.SwitchKind.{switch_kind}
use Rattle.compositions.specs.Composition.{OnSwitch, protocol}
use Rattle.compositions.specs.Named.{graded, kings, multivalued}

-- a switch heard, or silence
abbrev pub go : Option Switch
go = Some Go

abbrev pub hold : Option Switch
hold = Some Hold

abbrev pub mute : Option Switch
mute = None

-- a row of four places
abbrev pub row : (a b c d : Option Switch) → List ℕ
row a b c d = let w = word_of switch_kind in w a ∷ (w b ∷ (w c ∷ (w d ∷ [])))

-- four stations of which one may be faulty count: what the station `own`, which entered v, answers to a row
abbrev pub counted : (own : ℕ) → (v : Switch) → List ℕ → Option (Option Switch)
counted own v heard = answer_to switch_kind (station 4 1 own) v heard

-- they grade that vote: what it answers to the row of the counting vote and the one after it
abbrev pub graded_by : (own : ℕ) → (v : Switch) → (first second : List ℕ) → Option (Switch × Bool)
graded_by own v first second =
    let P = protocol switch_kind (graded OnSwitch) in
    P.answer (P.heard (P.heard (P.begun (station 4 1 own) v) first) second)

pub record Worked : Type 0 where
  -- Go Go Go Hold gives Go, at a station that entered Go and at the one that entered Hold
  pub three_of_four : counted 0 Go (row go go go hold) ≡ Some (Some Go)
  pub against_own : counted 3 Hold (row go go go hold) ≡ Some (Some Go)
  -- Go Go Hold Hold gives none, at either side
  pub two_and_two : counted 0 Go (row go go hold hold) ≡ Some None
  pub two_and_two_hold : counted 3 Hold (row go go hold hold) ≡ Some None
  -- grading: Go Hold and silence twice gives Hold with 0, at the station that says Go and at one that is silent
  pub tie : graded_by 0 Go (row go go go go) (row go hold mute mute) ≡ Some (Hold, false)
  pub tie_mute : graded_by 2 Hold (row go go hold hold) (row go hold mute mute) ≡ Some (Hold, false)
  -- Go Go Go Hold gives Go with 1, at a station that says Go and at the one that says Hold
  pub graded_one : graded_by 0 Go (row go go go hold) (row go go go hold) ≡ Some (Go, true)
  pub graded_one_against : graded_by 3 Hold (row go hold hold hold) (row go go go hold) ≡ Some (Go, true)
  -- the words of 250.0 bar at 1,500 rpm, of the largest point and of rest; past the largest word nothing reads
  pub middle : option_map point_word (result_ok (new_point 2500 (pos 1500))) ≡ Some 163847500
  pub largest : option_map point_word (result_ok (new_point 7000 (pos 6000))) ≡ Some 458764000
  pub beyond : point_reads 458764001 ≡ None
  pub at_rest : point_word rest_point ≡ 6000
  -- three phase kings one above the other take 32,450 rounds for 64 stations of which 21 may be faulty;
  -- a fourth would take 713,922 and is refused
  pub three_kings : (protocol switch_kind (kings OnSwitch 2)).rounds 64 21 ≡ 32450
  pub three_kings_taken : refused (protocol switch_kind (kings OnSwitch 2)) (station 64 21 0) ≡ None
  pub fourth_king : (protocol switch_kind (kings OnSwitch 3)).rounds 64 21 ≡ 65536
  pub fourth_king_refused : refused (protocol switch_kind (kings OnSwitch 3)) (station 64 21 0) ≡ Some Rounds
  -- values decided by a phase king on the switch: 2 rounds and 2 phases of 3
  pub multivalued_of_four : (protocol switch_kind multivalued).rounds 4 1 ≡ 8
