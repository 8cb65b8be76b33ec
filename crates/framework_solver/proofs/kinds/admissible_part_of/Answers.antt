use Rattle.std.proofs.Common.{IfOk, subst, sym}
use Rattle.meaning_atoms.specs.declared.atom.Atom.TheVariants.{Cf}
use Rattle.meaning_atoms.specs.Worlds.{HoldsOf}
use Rattle.edit_rules.specs.declared.framework.Framework.{Framework}
use Rattle.edit_rules.specs.Kinds.{framework_of}
use Rattle.oracle_face.specs.Parts.{IsLargestPart}
use Rattle.framework_solver.proofs.kinds.admissible_part_of.Goals as goal

pub largest_part-requires : goal.largest_part-requires
largest_part-requires c =
    subst (λ (f : Framework). HoldsOf (framework_of f) c.args.set.now Cf) c.in-Af.is c.requires

pub largest_part_of_assumptions-requires : goal.largest_part_of_assumptions-requires
largest_part_of_assumptions-requires c =
    subst (λ (f : Framework). HoldsOf (framework_of f) c.args.set.now Cf) c.in-Aba.is c.requires

pub returns-in-Af : goal.returns-in-Af
returns-in-Af c =
    subst (λ (f : Framework).
    IfOk c.largest_part.result (IsLargestPart (framework_of f) c.args.set.now c.args.without.now)) (sym c.in-Af.is)
    c.largest_part.ensures

pub returns-in-Aba : goal.returns-in-Aba
returns-in-Aba c =
    subst (λ (f : Framework).
    IfOk c.largest_part_of_assumptions.result (IsLargestPart (framework_of f) c.args.set.now c.args.without.now))
    (sym c.in-Aba.is) c.largest_part_of_assumptions.ensures
