-- The attacks that leave an argument, and those that reach it.
use Rattle.std.specs.Prelude.{◌≡◌, ◌↔◌, ℕ, List, Contains}
use Rattle.attack_index.specs.semantics.specs.Framework.{Af, Attacks}
use Rattle.attack_index.specs.semantics.specs.Arguments.{IsArgument}
use Rattle.attack_index.specs.PairOrder.{PairsRise}

-- the pairs (argument, target) of exactly the attacks that leave the argument, by rising target
pub record ListsTargets (f : Af) (argument : ℕ) (pairs : List (ℕ × ℕ)) : Type 0 where
  pub rise : PairsRise pairs
  pub targets : (b a : ℕ) → Contains pairs (b, a) ↔ ((b ≡ argument) × Attacks f argument a)

-- the pairs (argument, attacker) of exactly the attacks that reach the argument, by rising attacker
pub record ListsAttackers (f : Af) (argument : ℕ) (pairs : List (ℕ × ℕ)) : Type 0 where
  pub rise : PairsRise pairs
  pub attackers : (a b : ℕ) → Contains pairs (a, b) ↔ ((a ≡ argument) × Attacks f b argument)

-- both ends of each attack are live
abbrev pub AreBetween : List ℕ → List (ℕ × ℕ) → Type 0
AreBetween live attacks = (b a : ℕ) → Contains attacks (b, a) → Contains live b × Contains live a

-- each number is one that an argument may have
abbrev pub AreArguments : List ℕ → Type 0
AreArguments live = (a : ℕ) → Contains live a → IsArgument a
