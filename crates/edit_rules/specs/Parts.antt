-- The steps of an edit: what they answer, and the flat lists that the framework behind it is made of.
use Rattle.std.specs.Prelude.{◌≡◌, ◌↔◌, ◌⊎◌, ◌<◌, ℕ, List, Contains, length, Result, Ok, Err}
use Rattle.semantics.specs.Rules.{Rule}
use Rattle.semantics.specs.AbaFrameworks.{Aba, IsNumberedAba}
use Rattle.aba_notions.specs.declared.rule_table.RuleLists.{RuleLists}
use Rattle.aba_notions.specs.Storage.{rule_at}
use Rattle.edit_rules.specs.declared.effect.Effect.{Effect}
use Rattle.edit_rules.specs.declared.effect.EditFault.{EditFault}
use Rattle.edit_rules.specs.declared.effect.EditFault.TheVariants.{Memory}
use Rattle.edit_rules.specs.AbaEdits.{numbers_of, heads_of}

-- the answer is the outcome of an edit, or want of memory
abbrev pub ComesTo : Result (Aba × Effect) EditFault → Result (Aba × Effect) EditFault → Type 0
ComesTo outcome (Ok done) = outcome ≡ Ok done
ComesTo outcome (Err fault) = (fault ≡ Memory) ⊎ (outcome ≡ Err fault)

-- flat lists of the rules: their numbers, their heads, and pairs of an index and an atom of the body there
pub record AreListsOf (rules : List Rule) (lists : RuleLists) : Type 0 where
  pub numbers_are : lists.numbers.items ≡ numbers_of rules
  pub heads_are : lists.heads.items ≡ heads_of rules
  pub bodies_are : (k y : ℕ) → Contains lists.bodies.items (k, y)
      ↔ ((k < length rules) × Contains (rule_at rules k).body y)

-- a framework that differs from another in its contraries alone, which are the pairs of a list
pub record HasContraries (f : Aba) (pairs : List (ℕ × ℕ)) (g : Aba) : Type 0 where
  pub atoms_are : g.atoms ≡ f.atoms
  pub assumptions_are : g.assumptions ≡ f.assumptions
  pub contraries_are : (p : ℕ × ℕ) → Contains g.contraries p ↔ Contains pairs p
  pub rules_are : g.rules ≡ f.rules
  pub next_is : g.next ≡ f.next
  pub form : IsNumberedAba g
