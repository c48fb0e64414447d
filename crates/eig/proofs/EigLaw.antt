-- Information gathering keeps the full law.
use Rattle.std.proofs.Common.{◌≡◌, ℕ, suc, [], ◌∷◌, Some, refl, ap, ◌∙◌, arith}
use Rattle.protocol.specs.Laws.{FullLaw}
use Rattle.protocol.specs.Run.{Run, Correct, Unanimous, answered}
use Rattle.values.specs.declared.switch.Switch.{Switch}
use Rattle.values.specs.declared.switch.Switch.TheVariants.{Hold, Go}
use Rattle.eig.specs.Gathering.{goes, switch, eig}
use Rattle.eig.specs.Held.{resolved_by}
use Rattle.eig.proofs.OthersLaw.{majority}
use Rattle.eig.proofs.HeldLaw.{answers, correct_majority, last_correct, frontier, covered, few_faulty}

switch_goes : (v : Switch) → switch (goes v) ≡ v
switch_goes Hold = refl
switch_goes Go = refl

-- every chain of one correct station resolves to that station's entry, and most stations are correct
valid : (n t : ℕ) (R : Run eig n t) (v : Switch) → Unanimous R v → (i : ℕ) → Correct R i → answered R i ≡ Some v
valid n t R v all i ci =
    answers R i ci.0 ∙
    (ap (λ b. Some (switch b)) (majority n [] R.correct (λ r. resolved_by R i t (r ∷ [])) (goes v)
    (correct_majority R [] tt (omega arith))
    (λ r l w cr. last_correct R i r t [] ci (l, cr) (l, w, tt) (omega arith) ∙ ap goes (all r (l, cr)))) ∙
    ap Some (switch_goes v))

agree : (n t : ℕ) (R : Run eig n t) (i j : ℕ) → Correct R i → Correct R j →
    (v : Switch) × ((answered R i ≡ Some v) × (answered R j ≡ Some v))
agree n t R i j ci cj =
    let alike = frontier R i j (suc t) [] ci cj tt (omega arith)
    (covered R (suc t) [] (omega (arith, few_faulty R []))) in (
      switch (resolved_by R j (suc t) []),
      (answers R i ci.0 ∙ ap (λ b. Some (switch b)) alike, answers R j cj.0),
    )

pub eig_full : FullLaw eig
eig_full = record { validity = valid; agreement = agree }
