-- The text with numbers of a framework whose arguments have names.
use Rattle.std.specs.Prelude.{◌≡◌, ℕ, List}
use Rattle.argue_outside.specs.Outside.{KnownFile}
use Rattle.semantics.specs.Framework.{Af}
use Rattle.semantics.specs.Frameworks.{af}
use Rattle.framework_text.specs.FrameworkText.{ReadsAs}
use Rattle.apx_tgf.specs.Names.{AreDistinct}
use Rattle.apx_tgf.specs.NamedText.{ReadsAs as NamedReadsAs}
use Rattle.apx_tgf.specs.Written.{named_text}
use Rattle.apx_tgf.specs.declared.format.NameFormat.{NameFormat}
use Rattle.argue_outside.specs.declared.Role.TheVariants.{Framework}
use Rattle.argue_commands.specs.Inputs.{HasBytes, IsFirstFaultAs}
use Rattle.argue_commands.specs.declared.ended.Refusal.TheVariants.{Line}
use Rattle.argue_commands.specs.declared.ended.Status.{Status}
use Rattle.argue_commands.specs.declared.ended.Status.TheVariants.{InputRefused, WantOfMemory}

-- the text has the names of a framework that the bytes read as, with their numbers, and what it reads as is that framework
pub record IsNumbered (format : NameFormat) (bytes text : List ℕ) : Type 0 where
  pub names : List (List ℕ)
  pub framework : Af
  pub reads : NamedReadsAs format bytes names framework
  pub one_to_one : AreDistinct names
  pub text_is : text ≡ named_text names framework
  pub reads_back : ReadsAs text (af framework)

-- the same of the bytes of a file
pub record IsNumberedOf (known : KnownFile) (format : NameFormat) (text : List ℕ) : Type 0 where
  pub bytes : List ℕ
  pub has : HasBytes known bytes
  pub is : IsNumbered format bytes text

-- why the bytes have no such text
abbrev pub StopsNumbering : NameFormat → List ℕ → Status → Type 0
StopsNumbering format bytes (InputRefused (Line of line cause)) =
    (of ≡ Framework 1) × IsFirstFaultAs format bytes line cause
StopsNumbering format bytes WantOfMemory = Unit {0}
StopsNumbering format bytes _ = ⊥
