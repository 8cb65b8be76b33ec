-- What lines tell together.
use Rattle.std.specs.Prelude.{◌≡◌, Bool, false, List}
use Rattle.num_text.specs.Cuts.{LineText}
use Rattle.apx_tgf.specs.declared.format.NameFormat.{NameFormat}
use Rattle.apx_tgf.specs.Told.{Told, Statement, IsWithinLimits, told_by}
use Rattle.apx_tgf.specs.NamedText.{AreSaid}

-- the lines say something within the limits, and together this is told
pub record TellsAll (format : NameFormat) (lines : List LineText) (told : Told) : Type 0 where
  pub says : List (List Statement)
  pub last : Bool
  pub said : AreSaid format false lines says last
  pub few : IsWithinLimits (told_by says)
  pub told_is : told ≡ told_by says
