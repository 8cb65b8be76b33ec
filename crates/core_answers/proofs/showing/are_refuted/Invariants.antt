use Rattle.std.proofs.Common.{◌<◌, ℕ, get_or}
use Rattle.certificate_claims.specs.Refutations.{Claim as TableClaim}
use Rattle.edit_rules.specs.Kinds.{framework_of}
use Rattle.session_log.specs.Ends.{HasRefuting}
use Rattle.answer_claims.specs.ClaimParts.{IsClaimOf}
use Rattle.certificate_check.specs.Flaws.{no_claim}
use Rattle.core_answers.proofs.showing.are_refuted.Given as goal

abbrev pub invariant-loop-index : goal.invariant-loop-index
invariant-loop-index l = (k : ℕ) → k < l.index → (t : TableClaim)
    → IsClaimOf (framework_of l.framework) (get_or l.claims k no_claim) t
    → HasRefuting (framework_of l.framework) l.log t
