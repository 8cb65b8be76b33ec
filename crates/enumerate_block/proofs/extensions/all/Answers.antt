use Rattle.semantics.specs.declared.mode.Mode.TheVariants.{Cf, Ad}
use Rattle.enumerate_block.proofs.ExtensionLemmas.{list_abstract}
use Rattle.enumerate_block.proofs.extensions.all.Goals as goal

pub all_ranged-requires : goal.all_ranged-requires
all_ranged-requires g c =
    list_abstract Ad (g.O.Oracle.framework c.args.oracle.now) c.args.task c.requires c.in-SemiStable.is

pub all_ranged-requires-in-Stage : goal.all_ranged-requires-in-Stage
all_ranged-requires-in-Stage g c =
    list_abstract Cf (g.O.Oracle.framework c.args.oracle.now) c.args.task c.requires c.in-Stage.is
