-- A framework behind an edit of it, as an engine follows it.
use Rattle.std.specs.Prelude.{ℕ}
use Rattle.semantics.specs.Frameworks.{Framework, IsNumbered}
use Rattle.edit_rules.specs.declared.edit.Edit.{Edit}
use Rattle.edit_rules.specs.declared.edit.Edit.TheVariants.{AttackAdd, AttackDrop}
use Rattle.edit_rules.specs.declared.effect.Effect.{Effect}
use Rattle.af_encoding.specs.Changes.{IsEffectOf}

-- an edit of some framework in its form led to this one, with this effect
pub record IsBehind (after : Framework) (effect : Effect) : Type 0 where
  pub before : Framework
  pub numbered : IsNumbered before
  pub of : IsEffectOf before after effect

-- the edit adds an attack, or drops one
abbrev pub ChangesAttack : Edit → Type 0
ChangesAttack (AttackAdd b a) = Unit {0}
ChangesAttack (AttackDrop b a) = Unit {0}
ChangesAttack edit = ⊥
