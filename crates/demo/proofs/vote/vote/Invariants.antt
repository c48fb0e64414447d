use Rattle.demo.proofs.RoundLaw.{Reached}
use Rattle.demo.proofs.vote.vote.Given as goal

abbrev pub invariant-loop-k : goal.invariant-loop-k
invariant-loop-k g l =
    let state = g.M.Machine.state in
    Reached g.V.Value.kind g.M.Machine.model l.entries l.forged l.k (state l.first) (state l.second) (state l.third)
