use Rattle.std.proofs.Common.{ℕ, ◌<◌, []}
use Rattle.std.specs.Prelude.{slice_index_or}
use Rattle.edit_rules.specs.Kinds.{framework_of}
use Rattle.certificate_claims.specs.Acceptance.{PassesSet}
use Rattle.certificate_check.proofs.witness.first_failing_set.Given as goal

abbrev pub invariant-loop-index : goal.invariant-loop-index
invariant-loop-index l =
    (k : ℕ) → k < l.index
    → PassesSet (framework_of l.tests.framework.now) l.query l.row k (slice_index_or l.sets k [])
