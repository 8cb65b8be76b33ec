-- The text of an abstract framework, and the framework that it describes.
use Rattle.std.specs.Prelude.{◌≡◌, ◌↔◌, ℕ, ◌≤◌, List, [], ◌∷◌, length, Contains}
use Rattle.std.specs.List.{AllZip, range_with_len}
use Rattle.num_text.specs.Cuts.{LineText, field_texts}
use Rattle.num_text.specs.Number.{IsNumber}
use Rattle.semantics.specs.Framework.{Af, IsAf}
use Rattle.num_text.specs.Lines.{kept_lines}
use Rattle.af_format.specs.Headers.{af_word, IsHeaderOf}
use Rattle.af_format.specs.declared.af_line.TheConstants.{MAX_ATTACK_LINES}

-- the line is `p af n`, where n is the number of arguments
abbrev pub IsHeader : List ℕ → ℕ → Type 0
IsHeader line count = IsHeaderOf af_word line count

-- the text is the number of one of the arguments, 1 to n
pub record SpellsArgument (count : ℕ) (text : List ℕ) (argument : ℕ) : Type 0 where
  pub number : IsNumber text argument
  pub low : 1 ≤ argument
  pub high : argument ≤ count

-- the line is `b a`, which says that b attacks a
pub record IsAttackLine (count : ℕ) (line : List ℕ) (attack : ℕ × ℕ) : Type 0 where
  pub attacker : List ℕ
  pub target : List ℕ
  pub fields : field_texts line ≡ attacker ∷ target ∷ []
  pub attacker_is : SpellsArgument count attacker attack.0
  pub target_is : SpellsArgument count target attack.1

-- each line is an attack line, of the attack at its index, and there aren't too many
pub record AreAttackLines (count : ℕ) (lines : List LineText) (attacks : List (ℕ × ℕ)) : Type 0 where
  pub each : AllZip (λ line attack. IsAttackLine count line.text attack) lines attacks
  pub few : length lines ≤ MAX_ATTACK_LINES

-- but for skipped lines, the bytes are a header with this number of arguments, followed by these attacks
-- line by line
pub record IsAfText (bytes : List ℕ) (count : ℕ) (attacks : List (ℕ × ℕ)) : Type 0 where
  pub header : LineText
  pub others : List LineText
  pub lines : kept_lines bytes ≡ header ∷ others
  pub header_is : IsHeader header.text count
  pub others_are : AreAttackLines count others attacks

-- the framework has the arguments 1 to n, and exactly these attacks, of which a repeated one counts once
pub record IsFrameworkOf (count : ℕ) (attacks : List (ℕ × ℕ)) (f : Af) : Type 0 where
  pub live : f.live ≡ range_with_len 1 count
  pub attacks_are : (p : ℕ × ℕ) → Contains f.attacks p ↔ Contains attacks p
  pub form : IsAf f

-- the bytes are the text of a framework, and describe this one
pub record ReadsAs (bytes : List ℕ) (f : Af) : Type 0 where
  pub count : ℕ
  pub attacks : List (ℕ × ℕ)
  pub text : IsAfText bytes count attacks
  pub framework : IsFrameworkOf count attacks f

-- the bytes are the text of some framework
abbrev pub IsReadable : List ℕ → Type 0
IsReadable bytes = (f : Af) × ReadsAs bytes f
