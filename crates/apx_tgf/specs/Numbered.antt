-- Attacks by the numbers of names.
use Rattle.std.specs.Prelude.{◌≡◌, ℕ, List}
use Rattle.apx_tgf.specs.declared.fault.NameCause.TheVariants.{UnknownName}
use Rattle.apx_tgf.specs.declared.fault.NameFault.{NameFault}
use Rattle.apx_tgf.specs.Names.{IsNumberOf}
use Rattle.apx_tgf.specs.Told.{ToldAttack, IsKnown}
use Rattle.apx_tgf.specs.Faults.{IsFirstUnknown}

-- the numbers are those of the attacker and the target
pub record AreNumbersOf (names : List (List ℕ)) (attack : ToldAttack) (numbers : ℕ × ℕ) : Type 0 where
  pub attacker : IsNumberOf names attack.attacker numbers.0
  pub target : IsNumberOf names attack.target numbers.1

-- a name of the attack isn't declared, and this is told of its line
pub record IsUnknownAttack (names : List (List ℕ)) (attack : ToldAttack) (fault : NameFault) : Type 0 where
  pub is_unknown : ¬ IsKnown names attack
  pub line_is : fault.line ≡ attack.line
  pub cause_is : fault.cause ≡ UnknownName

-- the first attack with a name that isn't declared is told
pub record IsUnknownFault (names : List (List ℕ)) (attacks : List ToldAttack) (fault : NameFault) : Type 0 where
  pub unknown : IsFirstUnknown names attacks fault.line
  pub cause_is : fault.cause ≡ UnknownName
