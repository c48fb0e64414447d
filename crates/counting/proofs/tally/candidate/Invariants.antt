use Rattle.protocol.specs.Heard.{as_heard}
use Rattle.counting.proofs.MajorityLaw.{Lead}
use Rattle.counting.proofs.tally.candidate.Given as goal

abbrev pub invariant-loop-j : goal.invariant-loop-j
invariant-loop-j l = Lead (as_heard l.heard) l.j l.word l.lead
