-- What the tests of sets look up.
use Rattle.std.specs.Prelude.{ℕ, List}
use Rattle.semantics.specs.Frameworks.{Framework, aba, af}
use Rattle.iccma_tasks.specs.declared.task.Semantics.{Semantics}
use Rattle.iccma_tasks.specs.declared.task.Semantics.TheVariants.{Complete, Grounded, Preferred, Stable, SemiStable, Ideal, Stage}
use Rattle.certificate_claims.specs.Rights.{IsExtension}
use Rattle.edit_rules.specs.Kinds.{framework_of}
use Rattle.marked_sets.specs.Unattacked.{AreUnattacked}
use Rattle.marked_rules.specs.declared.rule_uses.RuleUses.{RuleUses}
use Rattle.marked_rules.specs.Search.{IsUsesOf}
use Rattle.set_tests.specs.declared.kinds.Basis.{Basis}
use Rattle.set_tests.specs.declared.kinds.SetTests.{SetTests}

-- the extensions under the semantics are tested directly
abbrev pub IsTested : Semantics → Type 0
IsTested Complete = Unit {0}
IsTested Grounded = Unit {0}
IsTested Stable = Unit {0}
IsTested Preferred = ⊥
IsTested SemiStable = ⊥
IsTested Ideal = ⊥
IsTested Stage = ⊥

-- the list has the arguments of an abstract framework that nothing attacks
abbrev pub ListsUnattacked : Framework → List ℕ → Type 0
ListsUnattacked (af f) found = AreUnattacked f found
ListsUnattacked (aba f) found = Unit {0}

-- what the tests under the semantics look up is found
abbrev pub IsBasis : Framework → Semantics → Basis → Type 0
IsBasis f Complete basis = ListsUnattacked f basis.unattacked.items
IsBasis f Grounded basis = IsExtension f Grounded basis.grounded
IsBasis f _ basis = Unit {0}

-- what is looked up is of the framework's rules, if it has any
abbrev pub IsUsesFor : Framework → RuleUses → Type 0
IsUsesFor (af f) uses = Unit {0}
IsUsesFor (aba f) uses = IsUsesOf f uses

-- what is looked up is of the framework that is tested
abbrev pub AreTests : SetTests → Type 0
AreTests t = IsUsesFor (framework_of t.framework.now) t.uses.now
