use Rattle.core_events.proofs.NamingLemmas.{StandSoFar}
use Rattle.core_events.proofs.naming.steps_of.Given as goal

abbrev pub invariant-loop-name : goal.invariant-loop-name
invariant-loop-name l = StandSoFar l.own l.steps l.names l.name-index l.found
