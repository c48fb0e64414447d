use Rattle.std.proofs.Common.{arith}
use Rattle.demo.proofs.PromiseLaw.{keeps_promise}
use Rattle.demo.proofs.RoundLaw.{next_round, answers_are}
use Rattle.demo.proofs.vote.vote.Goals as goal

pub loop-k-preserved : goal.loop-k-preserved
loop-k-preserved g c =
    next_round g.V.Value.kind g.M.Machine.model c.args.entries.now c.args.forged.now c.loop-k.k
    _ _ _ _ _ _ _ _ _ _ c.loop-k.invariant c.say-a.ensures c.say-b.ensures c.say-c.ensures
    c.sent_in.ensures c.hear.ensures c.hear-in-loop-k.ensures c.hear-in-loop-k-2.ensures

pub returns : goal.returns
returns g c =
    let K = g.V.Value.kind in
    let P = g.M.Machine.model in
    let all = answers_are K P c.args.entries.now c.args.forged.now c.loop-k.k _ _ _ c.loop-k.invariant
    (let e = c.rounds-k-end.ensures.value in omega arith) _ _ _
    c.answer.ensures c.answer-2.ensures c.answer-3.ensures in
    record {
      answers = all;
      promise = keeps_promise K P c.args.entries.now c.args.forged.now all c.runs_exist.ensures c.full_law.ensures;
    }
