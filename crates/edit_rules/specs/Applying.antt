-- What the steps of an edit answer, beside the edit's row.
use Rattle.std.specs.Prelude.{◌≡◌, ◌⊎◌, List, ◌++◌, Result, Ok, Err}
use Rattle.semantics.specs.Framework.{Af}
use Rattle.semantics.specs.Frameworks.{Framework, af}
use Rattle.edit_rules.specs.declared.effect.Effect.{Effect}
use Rattle.edit_rules.specs.declared.effect.EditFault.{EditFault}
use Rattle.edit_rules.specs.declared.effect.EditFault.TheVariants.{Memory}
use Rattle.edit_rules.specs.Refusals.{Refusal, done_unless}

-- the first of the refusals that stands is told, and none of them stands where the answer is Ok
abbrev pub AreTold : {X : Type 0} → List Refusal → Result X EditFault → Type 0
AreTold refusals (Ok x) = (more : List Refusal) (done : Framework × Effect)
    → done_unless (refusals ++ more) done ≡ done_unless more done
AreTold refusals (Err fault) = (more : List Refusal) (done : Framework × Effect)
    → done_unless (refusals ++ more) done ≡ Err fault

-- the answer is the outcome of an edit of an abstract framework, or want of memory
abbrev pub ComesTo : Result (Framework × Effect) EditFault → Result (Af × Effect) EditFault → Type 0
ComesTo outcome (Ok done) = outcome ≡ Ok (af done.0, done.1)
ComesTo outcome (Err fault) = (fault ≡ Memory) ⊎ (outcome ≡ Err fault)
