use Rattle.std.proofs.Common.{take}
use Rattle.edit_rules.specs.Kinds.{framework_of}
use Rattle.answer_claims.proofs.HitLemmas.{AreHit}
use Rattle.answer_claims.proofs.hits.all_attacked.Given as goal

abbrev pub invariant-loop-index : goal.invariant-loop-index
invariant-loop-index l = AreHit (framework_of l.tests.framework.now) (take l.index l.sets) l.found.items
