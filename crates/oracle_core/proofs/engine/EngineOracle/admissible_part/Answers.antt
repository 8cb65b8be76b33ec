use Rattle.std.proofs.Common.{ap, subst, sym, IfOk}
use Rattle.meaning_atoms.specs.declared.atom.Atom.TheVariants.{Cf}
use Rattle.meaning_atoms.specs.Worlds.{HoldsOf}
use Rattle.oracle_face.specs.Parts.{IsLargestPart}
use Rattle.oracle_core.specs.Engines.{EngineState}
use Rattle.oracle_core.proofs.engine.EngineOracle.admissible_part.Goals as goal

pub admissible_part_of-requires : goal.admissible_part_of-requires
admissible_part_of-requires c =
    subst (λ f. HoldsOf f c.args.set.now Cf) (sym (ap (λ (e : EngineState). e.framework) c.self.view_is)) c.requires

pub returns : goal.returns
returns c =
    subst (λ f. IfOk c.admissible_part_of.result (IsLargestPart f c.args.set.now c.args.without.now))
    (ap (λ (e : EngineState). e.framework) c.self.view_is) c.admissible_part_of.ensures
