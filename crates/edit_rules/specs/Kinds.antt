-- What a framework of either kind means.
use Rattle.semantics.specs.Frameworks.{Framework, af, aba}
use Rattle.iccma_tasks.specs.declared.task.Kind.{Kind}
use Rattle.iccma_tasks.specs.declared.task.Kind.TheVariants.{Af as OfAf, Aba as OfAba}
use Rattle.edit_rules.specs.declared.framework.Framework.{Framework as Held}
use Rattle.edit_rules.specs.declared.framework.Framework.TheVariants.{Af, Aba}

-- the framework that a value holds
abbrev pub framework_of : Held → Framework
framework_of (Af f) = af f
framework_of (Aba f) = aba f

-- a framework's kind
abbrev pub kind_of : Framework → Kind
kind_of (af f) = OfAf
kind_of (aba f) = OfAba
