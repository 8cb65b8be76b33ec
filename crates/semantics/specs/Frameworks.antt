-- Frameworks of each kind, and their numbers.
use Rattle.std.specs.Prelude.{ℕ, Contains}
use Rattle.semantics.specs.Arguments.{IsArgument}
use Rattle.semantics.specs.Framework.{Af, IsAf}
use Rattle.semantics.specs.AbaFrameworks.{Aba, IsNumberedAba}

-- a framework of one of the kinds: an abstract one, or a flat assumption-based one
pub data Framework : Type 0 where
  af : Af → Framework
  aba : Aba → Framework

-- an abstract framework in its form, whose live arguments have the numbers of arguments
pub record IsNumberedAf (f : Af) : Type 0 where
  pub form : IsAf f
  pub live : (a : ℕ) → Contains f.live a → IsArgument a

-- the framework is in the form of its kind, with numbers within their bounds
abbrev pub IsNumbered : Framework → Type 0
IsNumbered (af f) = IsNumberedAf f
IsNumbered (aba f) = IsNumberedAba f
