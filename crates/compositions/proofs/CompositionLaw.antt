-- Every composition is orderly and keeps the law that it promises.
use Rattle.protocol.specs.Kind.{Kind, Lawful}
use Rattle.protocol.specs.Orderly.{Orderly}
use Rattle.values.specs.SwitchKind.{switch_kind}
use Rattle.counting.proofs.CountLaw.{counting_orderly, counting_weak}
use Rattle.counting.proofs.GradingLaw.{grading_orderly, grading_graded}
use Rattle.phase_king.proofs.PhaseKingLaw.{king_orderly, king_full}
use Rattle.turpin_coan.proofs.TurpinCoanLaw.{tc_orderly, tc_full}
use Rattle.step_down.proofs.StepDownLaw.{answering_orderly, stepdown_weak, stepdown_graded}
use Rattle.compositions.specs.Composition.{Over, Given, OnSwitch, Promise, Composition, Counting, Grading, PhaseKing}
use Rattle.compositions.specs.Composition.{TurpinCoan, AsWeak, AsGraded, kind_of, protocol, Law, Compositions}

module _ {V : Type 0} (K : Kind V) (lawful : Lawful K) (switch_lawful : Lawful switch_kind) where
  lawful_of : (o : Over) → Lawful (kind_of K o)
  lawful_of Given = lawful
  lawful_of OnSwitch = switch_lawful

  ordered : {o : Over} {p : Promise} (c : Composition o p) → Orderly (protocol K c)
  ordered (Counting {o = o}) = counting_orderly (kind_of K o)
  ordered (Grading {o = o} w) = grading_orderly (kind_of K o) (protocol K w) (ordered w)
  ordered (PhaseKing {o = o} g) = king_orderly (kind_of K o) (protocol K g) (ordered g)
  ordered (TurpinCoan {o = o} g b) = tc_orderly (kind_of K o) (protocol K g) (ordered g) (protocol K b) (ordered b)
  ordered (AsWeak f) = answering_orderly _ (protocol K f) (ordered f)
  ordered (AsGraded f) = answering_orderly _ (protocol K f) (ordered f)

  keeps : {o : Over} {p : Promise} (c : Composition o p) → Law p (protocol K c)
  keeps (Counting {o = o}) = counting_weak (kind_of K o) (lawful_of o)
  keeps (Grading {o = o} w) = grading_graded (kind_of K o) (protocol K w) (ordered w) (lawful_of o) (keeps w)
  keeps (PhaseKing {o = o} g) = king_full (kind_of K o) (protocol K g) (ordered g) (lawful_of o) (keeps g)
  keeps (TurpinCoan {o = o} g b) =
      tc_full (kind_of K o) (protocol K g) (ordered g) (protocol K b) (ordered b) (lawful_of o) (keeps g) (keeps b)
  keeps (AsWeak f) = stepdown_weak (protocol K f) (keeps f)
  keeps (AsGraded f) = stepdown_graded (protocol K f) (keeps f)

  pub compositions : Compositions K
  compositions = record { orderly = ordered; law = keeps }
