use Rattle.std.proofs.Common.{◌≡◌, ◌++◌, map, take}
use Rattle.meaning_atoms.specs.declared.axiom.AxiomName.TheVariants.{Af}
use Rattle.af_encoding.proofs.needed_axioms.push_all.Given as goal

abbrev pub invariant-loop-axiom : goal.invariant-loop-axiom
invariant-loop-axiom l = l.names.items ≡ l.fn.names.items ++ map Af (take l.axiom-index l.added)
