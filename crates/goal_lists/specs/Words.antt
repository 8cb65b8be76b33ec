-- The word that a number is attacked.
use Rattle.std.specs.Prelude.{Bool, true, false}
use Rattle.certificate_claims.specs.declared.words.Word.{Word}
use Rattle.certificate_claims.specs.declared.words.Word.TheVariants.{Struck, Contrary}

-- by whether the framework is assumption-based
abbrev pub struck_word : Bool → Word
struck_word true = Contrary
struck_word false = Struck
