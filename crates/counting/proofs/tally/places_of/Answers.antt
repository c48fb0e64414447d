use Rattle.std.proofs.Common.{◌≡◌, sym, ◌∙◌, arith}
use Rattle.protocol.proofs.KindLaw.{silent_word}
use Rattle.protocol.proofs.RowLaw.{heard_own}
use Rattle.protocol.specs.Heard.{as_heard}
use Rattle.counting.proofs.PassLaw.{place_matches, place_differs, read_front, Ends, past_end_counts}
use Rattle.counting.proofs.tally.places_of.Given as given
use Rattle.counting.proofs.tally.places_of.Goals as goal
use Rattle.counting.proofs.tally.places_of.Goals.{After-loop-j, then-j-setup, else-j-setup, then-w-word}
use Rattle.counting.proofs.tally.places_of.Goals.{else-w-word, else-front-setup-via-then-front-setup+then-setup+else-said-word, else-front-setup-via-then-front-setup+else-setup, else-front-setup-via-else-front-setup}

pub loop-j-preserved : goal.loop-j-preserved
loop-j-preserved g c =
    let row = as_heard c.args.heard in
    let i = c.loop-j.invariant in
    -- what is compared is the word at the place
    let at : c.if-j-setup.w ≡ row c.loop-j.j = elim c.if-j-setup.branch [
      | then-j-setup w ↦ w.w-is ∙ sym (heard_own _ _ _ _ w.if-j-setup.true)
      | else-j-setup w ↦
          w.w-is ∙
          read_front _ _ _ c.front-front.result.now _ c.front-front.ensures _ c.loop-j-test.true
          w.if-j-setup.false
    ] in
    elim c.if-w-word.branch [
      | then-w-word w ↦
          let m = place_matches row c.word-word.result c.loop-j.j (sym at ∙ w.if-w-word.true) in
          let e = w.count-is in
          (cc, omega arith)
      | else-w-word w ↦
          let m = place_differs row c.word-word.result c.loop-j.j (λ d. w.if-w-word.false (at ∙ d)) in
          let e = w.count-is in
          (cc, omega arith)
    ]

-- what is counted once all places of the row are passed
ends : (g : given.Over) (c : After-loop-j g) →
    Ends c.args.heard.setup.own c.args.heard.said c.args.heard.row.now c.front-front.result.now c.args.heard.setup.n
    (g.V.Value.kind.word c.args.v) c.word-word.result c.loop-j.count
ends g c =
    past_end_counts c.args.heard.setup.own c.args.heard.said c.args.heard.row.now c.front-front.result.now
    c.args.heard.setup.n c.front-front.ensures (g.V.Value.kind.word c.args.v)
    (silent_word g.V.Value.kind g.met.V.Value.lawful c.args.v) c.word-word.result
    c.word-word.ensures
    c.loop-j.count c.loop-j.j c.loop-j.invariant.0 (omega arith)

pub returns-then-said-word : goal.returns-then-said-word
returns-then-said-word g c =
    (ends g (goal.at.returns-then-said-word g c).After-loop-j
    ).own_past c.if-front-setup.true c.if-setup.true c.if-said-word.true

pub returns-else-front-setup : goal.returns-else-front-setup
returns-else-front-setup g c =
    (ends g (goal.at.returns-else-front-setup g c).After-loop-j
    ).none_past
    (elim c.else-front-setup.branch [
      | else-front-setup-via-then-front-setup+then-setup+else-said-word w ↦ λ a b. w.if-said-word.false
      | else-front-setup-via-then-front-setup+else-setup w ↦ λ a b d. omega (arith, w.if-setup.false)
      | else-front-setup-via-else-front-setup w ↦ λ a b d. omega (arith, w.if-front-setup.false)
    ])
