-- What the statements of a text tell together.
use Rattle.std.specs.Prelude.{ℕ, ◌≤◌, List, [], ◌∷◌, ◌++◌, length, fold, Contains}
use Rattle.semantics.specs.declared.argument.TheConstants.{MAX_ARGUMENT}
use Rattle.af_format.specs.declared.af_line.TheConstants.{MAX_ATTACK_LINES}
use Rattle.apx_tgf.specs.Names.{with_name}

-- an attack as a text tells it: the number of its line, and the names of attacker and target
pub record ToldAttack : Type 0 where
  pub line : ℕ
  pub attacker : List ℕ
  pub target : List ℕ

-- a statement: that there is an argument of this name, or this attack
pub data Statement : Type 0 where
  declares : (name : List ℕ) → Statement
  tells : (attack : ToldAttack) → Statement

-- what statements tell together: the names in order of first declaration, each once, and the attacks in order, a
-- repeated one each time
pub record Told : Type 0 where
  pub names : List (List ℕ)
  pub attacks : List ToldAttack

abbrev pub nothing_told : Told
nothing_told = record { names = []; attacks = [] }

-- what is told after one more statement
unfoldable pub told_after : Told → Statement → Told
told_after told (declares name) = record { names = with_name told.names name; attacks = told.attacks }
told_after told (tells attack) = record { names = told.names; attacks = told.attacks ++ attack ∷ [] }

-- what is told after the statements of one more line
abbrev pub told_after_line : Told → List Statement → Told
told_after_line told statements = fold told_after told statements

-- what lines tell, of which these are the statements, line by line
abbrev pub told_by : List (List Statement) → Told
told_by says = fold told_after_line nothing_told says

-- there are no more names than arguments may be, and not too many attacks, of which a repeated one counts each time
pub record IsWithinLimits (told : Told) : Type 0 where
  pub few_names : length told.names ≤ MAX_ARGUMENT
  pub few_attacks : length told.attacks ≤ MAX_ATTACK_LINES

-- both names of the attack are declared
pub record IsKnown (names : List (List ℕ)) (attack : ToldAttack) : Type 0 where
  pub attacker : Contains names attack.attacker
  pub target : Contains names attack.target
