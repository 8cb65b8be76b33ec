use Rattle.std.proofs.Common.{◌∷◌, [], ◌++◌, map, take}
use Rattle.edit_rules.specs.Kinds.{framework_of}
use Rattle.certificate_claims.specs.Claims.{range_cover, range_free}
use Rattle.answer_claims.specs.ClaimParts.{AreClaims}
use Rattle.answer_claims.proofs.claims.ranged_claims.Given as goal

abbrev pub invariant-loop-index : goal.invariant-loop-index
invariant-loop-index l =
    AreClaims (framework_of l.framework) l.list (range_cover (framework_of l.framework) l.mode (l.bad ∷ []) l.sets ∷ []
    ++ map (range_free (framework_of l.framework) l.mode l.bad) (take l.index l.sets))
