-- How far a text is read, line by line.
use Rattle.std.specs.Prelude.{◌≡◌, ℕ, ◌<◌, List, ◌∷◌, ◌++◌, length}
use Rattle.num_text.specs.Cuts.{LineText, field_texts}
use Rattle.af_format.specs.declared.af_line.TheConstants.{MAX_ATTACK_LINES}
use Rattle.af_format.specs.declared.fault.LineCause.{LineCause}
use Rattle.af_format.specs.AfText.{IsAttackLine, AreAttackLines}
use Rattle.af_format.specs.Headers.{af_word, BeginWith}
use Rattle.af_format.specs.Causes.{IsFirstCause}
use Rattle.af_format.specs.Faults.{StandsOnAttack}

-- the bytes begin with a header of this number of arguments, and these lines stand behind it
abbrev pub BeginWithHeader : List ℕ → ℕ → List LineText → Type 0
BeginWithHeader bytes count left = BeginWith af_word bytes count left

-- the next line tells this attack, so many attack lines standing before it, and the others are left
pub record TellsNext (count index : ℕ) (before after : List LineText) (attack : ℕ × ℕ) : Type 0 where
  pub line : LineText
  pub lines_are : before ≡ line ∷ after
  pub attack_is : IsAttackLine count line.text attack
  pub few : index < MAX_ATTACK_LINES

-- the next line has this number and is no attack line, so many attack lines standing before it, and the cause is
-- told of it
pub record IsNextFault (count index : ℕ) (lines : List LineText) (number : ℕ) (cause : LineCause) : Type 0 where
  pub line : LineText
  pub others : List LineText
  pub lines_are : lines ≡ line ∷ others
  pub number_is : number ≡ line.number
  pub told : IsFirstCause (StandsOnAttack count index (field_texts line.text)) cause

-- the first line that is no attack line has this number, and the cause is told of it
pub record IsFirstBadLine (count : ℕ) (lines : List LineText) (number : ℕ) (cause : LineCause) : Type 0 where
  pub before : List LineText
  pub bad : LineText
  pub after : List LineText
  pub lines_are : lines ≡ before ++ bad ∷ after
  pub attacks : List (ℕ × ℕ)
  pub before_are : AreAttackLines count before attacks
  pub number_is : number ≡ bad.number
  pub told : IsFirstCause (StandsOnAttack count (length before) (field_texts bad.text)) cause

-- the lines are attack lines, of some attacks
abbrev pub AreSomeAttacks : ℕ → List LineText → Type 0
AreSomeAttacks count lines = (attacks : List (ℕ × ℕ)) × AreAttackLines count lines attacks
