use Rattle.std.proofs.lemmas.Result.{IfOk-weaker}
use Rattle.af_encoding.specs.Decoded.{Affirms}
use Rattle.meaning_atoms.specs.declared.atom.Atom.TheVariants.{Der}
use Rattle.af_encoding.specs.NumberAtoms.{atom_of}
use Rattle.aba_encoding.proofs.LoopLemmas.{atoms_all, atoms_more, atoms_none, same_atom}
use Rattle.aba_encoding.proofs.loops.claimed_atoms.Goals as goal

pub loop-x-init : goal.loop-x-init
loop-x-init c = atoms_none c.args.last c.as_slice-x-items.result.now c.new-atoms.result.items c.new-atoms.ensures.items

pub loop-x-preserved : goal.loop-x-preserved
loop-x-preserved c = atoms_more c.args.last c.as_slice-x-items.result.now c.loop-x.x-index c.loop-x.atoms.items
    c.add_atom.new.atoms.items c.loop-x-test.true c.loop-x.invariant c.in_ok-add_atom.ensures

pub returns : goal.returns
returns c =
    let values = c.args.values.now in
    let which = c.derived_in.result in
    IfOk-weaker c.from_slice.result _ _
    (λ claimed made. atoms_all values c.args.closure c.args.last c.as_slice-x-items.result.now c.loop-x.x-index
    c.loop-x.atoms.items claimed (λ x. Affirms values (atom_of which x))
    (λ x. same_atom values (atom_of which x) (Der c.args.closure x) (c.derived_in.ensures x))
    (rw (← c.as_slice-x-items.ensures.value) at c.in_ok-derived.ensures)
    c.loop-x-test.false c.loop-x.invariant (rw c.deref.ensures.value at made))
    c.from_slice.ensures
