-- One station, whatever it hears: it says what it holds for the chains, and answers what the empty chain resolves to.
use Rattle.std.proofs.Common.{◌≡◌, ℕ, zero, suc, ◌+◌, ◌*◌, ◌<◌, ◌≤◌, Bool, cond, ltb, List, [], ◌∷◌, length, Some, None, sym, refl, ap, ◌∙◌, arith}
use mathlib.Core.Path.{subst⁻¹}
use Rattle.std.proofs.lemmas.Bool.{lt-ltb, le-ltb}
use Rattle.std.proofs.lemmas.Option.{none-some}
use Rattle.protocol.specs.declared.setup.Setup.{Setup}
use Rattle.protocol.specs.Orderly.{Orderly, ReadsOnly, Still}
use Rattle.protocol.specs.Protocol.{Takes, Admitted, after}
use Rattle.protocol.proofs.AdmissionLaw.{not_idle}
use Rattle.values.specs.declared.switch.Switch.{Switch}
use Rattle.eig.specs.Chain.{Chain, longer_chains, resolved}
use Rattle.eig.specs.Numbering.{chains, number}
use Rattle.eig.specs.Gathering.{State, idle, gathering, answered, bit, level_word, taken, counted, word_from, switch}
use Rattle.eig.specs.Gathering.{gathered, eig_heard, eig_said, eig_answer, eig}
use Rattle.eig.specs.Held.{held}
use Rattle.eig.proofs.OthersLaw.{others_same}
use Rattle.eig.proofs.ChainsLaw.{ChainOf}
use Rattle.eig.proofs.BitsLaw.{level_same}

-- resolving asks only for what is held for the longest chains
pub resolved_same : (n : ℕ) (f g : List ℕ → Bool) (below : ℕ) (c : List ℕ) → Chain n c →
    ((d : List ℕ) → ChainOf n (length c + below) d → f d ≡ g d) → resolved n f below c ≡ resolved n g below c
resolved_same n f g zero c v h = h c (v, omega arith)
resolved_same n f g (suc below) c v h =
    ap (λ x. ltb (longer_chains n c) (2 * x)) (others_same n c _ _ (λ r l w.
    resolved_same n f g below (r ∷ c) (l, w, v) (λ d e. h d (e.0, let long = e.1 in omega arith))))

-- of the words only those of the n stations count
taken_same : (n : ℕ) (w w' : ℕ → ℕ) → ((r : ℕ) → r < n → w r ≡ w' r) → (c : List ℕ) → Chain n c →
    taken n w c ≡ taken n w' c
taken_same n w w' h [] v = refl
taken_same n w w' h (r ∷ c) v = ap (bit (number n c)) (h r v.0)

pub gathered_same : (s : Setup) (round : ℕ) (w w' : ℕ → ℕ) → ((r : ℕ) → r < s.n → w r ≡ w' r) →
    gathered s round w ≡ gathered s round w'
gathered_same s round w w' h =
    let same = taken_same s.n w w' h in
    ap (λ x. cond (ltb round s.t) (gathering s (suc round) x)
    (answered (switch (resolved s.n (taken s.n w) (suc s.t) []))))
    (level_same s.n (suc round) (taken s.n w) (taken s.n w') (λ c v. same c v.0)) ∙
    ap (λ b. cond (ltb round s.t) (gathering s (suc round) (level_word s.n (suc round) (taken s.n w')))
    (answered (switch b)))
    (resolved_same s.n (taken s.n w) (taken s.n w') (suc s.t) [] tt (λ c v. same c v.0))

pub last_round : {n t : ℕ} → Takes eig n t → eig.rounds n t ≡ suc t
last_round h = let l = h.faulty_within in omega arith

module _ (s : Setup) (round : ℕ) (words : ℕ → ℕ) where
  pub gathers_on : round < s.t →
      gathered s round words ≡ gathering s (suc round) (level_word s.n (suc round) (taken s.n words))
  gathers_on l = rw (lt-ltb round s.t l)

  pub settles : s.t ≤ round →
      gathered s round words ≡ answered (switch (resolved s.n (taken s.n words) (suc s.t) []))
  settles l = rw (le-ltb round s.t l)

module _ (s : Setup) (v : Switch) (rows : ℕ → List ℕ) where
  -- the state after k rounds, and the words that came in the next one
  abbrev at : ℕ → State
  at k = after eig (eig.begun s v) rows k

  abbrev words : ℕ → ℕ → ℕ
  words k = word_from s k (eig_said (at k)) (rows k)

  -- what is taken from the words of a round is held for the chains that are one longer
  taken_held : (k : ℕ) (c : List ℕ) → ChainOf s.n (suc k) c → taken s.n (words k) c ≡ held s v rows c
  taken_held k [] p = let e = p.1 in absurd (omega arith)
  taken_held k (r ∷ c) p =
      let e : k ≡ length c = let l = p.1 in omega arith in
      ap (λ m. bit (number s.n c) (words m r)) e

  -- hearing in a state in which the station gathers
  heard : (k : ℕ) {level : ℕ} → at k ≡ gathering s k level → at (suc k) ≡ gathered s k (words k)
  heard k e =
      ap (λ x. eig_heard x (rows k)) e ∙ ap (λ x. gathered s k (word_from s k x (rows k))) (sym (ap eig_said e))

  module _ (admitted : Admitted eig s) where
    pub gathers : (k : ℕ) → k ≤ s.t → at k ≡ gathering s k (level_word s.n k (held s v rows))
    gathers zero l =
        not_idle eig s idle (gathering s 0 (level_word s.n 0 (held s v rows))) admitted
    gathers (suc k) l =
        heard k (gathers k (omega arith)) ∙
        (gathers_on s k (words k) l ∙
        ap (gathering s (suc k)) (level_same s.n (suc k) (taken s.n (words k)) (held s v rows) (taken_held k)))

    pub says : (k : ℕ) → k ≤ s.t → eig_said (at k) ≡ level_word s.n k (held s v rows)
    says k l = ap eig_said (gathers k l)

    pub ends : eig_answer (at (eig.rounds s.n s.t)) ≡
        Some (switch (resolved s.n (held s v rows) (suc s.t) []))
    ends =
        ap (λ k. eig_answer (at k)) (last_round admitted.takes) ∙
        (ap eig_answer (heard s.t (gathers s.t (omega arith)) ∙ settles s s.t (words s.t) (omega arith)) ∙
        ap (λ b. Some (switch b))
        (resolved_same s.n (taken s.n (words s.t)) (held s v rows) (suc s.t) [] tt
        (λ c p. taken_held s.t c (p.0, let long = p.1 in omega arith))))

    within_rounds : (k : ℕ) → k < eig.rounds s.n s.t → k ≤ s.t
    within_rounds k l = let e = last_round admitted.takes in omega arith

    early : (k : ℕ) → k < eig.rounds s.n s.t → eig_answer (at k) ≡ None
    early k l = ap eig_answer (gathers k (within_rounds k l))

    reading : (k : ℕ) → k < eig.rounds s.n s.t → ReadsOnly eig s.n s.own (at k)
    reading k l = subst⁻¹ (ReadsOnly eig s.n s.own) (gathers k (within_rounds k l)) (λ row row' h.
        gathered_same s k _ _ (λ r m. ap (counted (length (chains s.n k))) (h r m)))

still_answered : (x : State) (a : Switch) → eig_answer x ≡ Some a → Still eig x
still_answered (answered v) a e = record { says = refl; stays = λ row. refl }
still_answered x a e = absurd (none-some a e)

pub eig_orderly : Orderly eig
eig_orderly = record {
  stations = (omega arith, omega arith);
  faults = (omega arith, omega arith);
  some_rounds = λ n t. (omega arith, omega arith);
  early = λ s v rows k a l. early s v rows a k l;
  late = λ s v rows a. (_, ends s v rows a);
  reading = λ s v rows k a l. reading s v rows a k l;
  over = still_answered;
  idle = λ s v r e. rw e (record { says = refl; stays = λ row. refl }, refl);
}
