use Rattle.std.proofs.Common.{◌∙◌, [], ◌∷◌, refl}
use Rattle.engine_tests.proofs.MachineLemmas.{both_may_open}
use Rattle.engine_tests.proofs.tests.machines.over.Goals as goal

pub open-requires : goal.open-requires
open-requires c =
    both_may_open c.from_vec.result (1 ∷ 2 ∷ []) c.args.first c.args.second
    (c.from_vec.ensures ∙ c.in_ok-frameworks.ensures.items) refl
