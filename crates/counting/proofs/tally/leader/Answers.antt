use Rattle.std.proofs.Common.{◌∙◌}
use Rattle.protocol.specs.Heard.{as_heard}
use Rattle.counting.proofs.LeaderLaw.{leader_fold, leader_is}
use Rattle.counting.proofs.MajorityLaw.{majority_is_leader}
use Rattle.counting.proofs.tally.leader.Goals as goal

pub returns-in-Some : goal.returns-in-Some
returns-in-Some g c =
    let k = g.V.Value.kind in
    let row = as_heard c.args.heard in
    let n = c.args.heard.setup.n in
    let best = c.in-Some.best in
    let h = c.in-Some.ensures in
    leader_is k g.met.V.Value.lawful row n best (majority_is_leader k g.met.V.Value.lawful row n best h.0 h.1)

pub returns : goal.returns
returns g c =
    let k = g.V.Value.kind in
    let row = as_heard c.args.heard in
    let n = c.args.heard.setup.n in
    leader_is k g.met.V.Value.lawful row n c.leader_by_counting.result
    (c.leader_by_counting.ensures ∙ leader_fold k row n)
