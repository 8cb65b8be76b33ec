-- The text of a framework whose arguments have names, and the framework that it describes.
use Rattle.std.specs.Prelude.{◌≡◌, ◌↔◌, ℕ, Bool, false, List, [], ◌∷◌, length, Contains}
use Rattle.std.specs.List.{range_with_len}
use Rattle.num_text.specs.Cuts.{LineText, lines_of}
use Rattle.semantics.specs.Framework.{Af, IsAf, Attacks}
use Rattle.apx_tgf.specs.declared.format.NameFormat.{NameFormat}
use Rattle.apx_tgf.specs.declared.format.NameFormat.TheVariants.{Apx, Tgf}
use Rattle.apx_tgf.specs.Names.{IsNumberOf}
use Rattle.apx_tgf.specs.Told.{ToldAttack, Statement, IsWithinLimits, IsKnown, told_by}
use Rattle.apx_tgf.specs.ApxText.{IsApxLine}
use Rattle.apx_tgf.specs.TgfText.{IsTgfLine}

-- the line says these statements. In TGF it matters whether the dividing line `#` has come: the first truth value says
-- so of the time before this line, the second of the time after it.
abbrev pub SaysLine : NameFormat → Bool → LineText → List Statement → Bool → Type 0
SaysLine Apx divided line statements after = IsApxLine line statements × (after ≡ divided)
SaysLine Tgf divided line statements after = IsTgfLine divided line statements after

-- a line says the first of the statements, and the others go on from there
pub record SaysFirst (format : NameFormat) (divided : Bool) (line : LineText) (statements : List Statement)
    (Rest : Bool → Type 0) : Type 0 where
  pub after : Bool
  pub line_is : SaysLine format divided line statements after
  pub rest : Rest after

-- the lines say these statements, line by line
unfoldable pub AreSaid : NameFormat → Bool → List LineText → List (List Statement) → Bool → Type 0
AreSaid format divided [] [] last = divided ≡ last
AreSaid format divided [] (statements ∷ says) last = ⊥
AreSaid format divided (line ∷ lines) [] last = ⊥
AreSaid format divided (line ∷ lines) (statements ∷ says) last =
    SaysFirst format divided line statements (λ after. AreSaid format after lines says last)

-- an attack is told from the name with the one number to that with the other
pub record IsTold (names : List (List ℕ)) (attacks : List ToldAttack) (attacker target : ℕ) : Type 0 where
  pub attack : ToldAttack
  pub told : Contains attacks attack
  pub attacker_is : IsNumberOf names attack.attacker attacker
  pub target_is : IsNumberOf names attack.target target

-- the arguments are the numbers of the names, and one attacks another exactly where that is told
pub record IsNamedFramework (names : List (List ℕ)) (attacks : List ToldAttack) (f : Af) : Type 0 where
  pub live : f.live ≡ range_with_len 1 (length names)
  pub known : (attack : ToldAttack) → Contains attacks attack → IsKnown names attack
  pub attacks_are : (b a : ℕ) → Attacks f b a ↔ IsTold names attacks b a
  pub form : IsAf f

-- the bytes are the text of a framework, and describe this one, with these names in the order of their numbers
pub record ReadsAs (format : NameFormat) (bytes : List ℕ) (names : List (List ℕ)) (f : Af) : Type 0 where
  pub says : List (List Statement)
  pub last : Bool
  pub lines_are : AreSaid format false (lines_of bytes) says last
  pub few : IsWithinLimits (told_by says)
  pub names_are : names ≡ (told_by says).names
  pub framework : IsNamedFramework names (told_by says).attacks f
