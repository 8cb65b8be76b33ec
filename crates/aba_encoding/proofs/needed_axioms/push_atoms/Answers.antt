use Rattle.std.proofs.Common.{◌≡◌, arith, subst}
use Rattle.std.specs.List.{flat_map, range_with_len}
use Rattle.aba_encoding.specs.Listing.{Gains, atom_axioms}
use Rattle.aba_encoding.proofs.ListingLemmas.{gains_nothing, range_goes}
use Rattle.aba_encoding.proofs.needed_axioms.push_atoms.Goals as goal

pub loop-before-init : goal.loop-before-init
loop-before-init c = gains_nothing c.args.names.now.items

pub loop-before-preserved : goal.loop-before-preserved
loop-before-preserved c = range_goes (atom_axioms c.args.plain.now) c.loop-before.before _ _ _ c.loop-before.invariant
    c.in_ok-push_atom.ensures

pub returns : goal.returns
returns c =
    let f = c.args.plain.now in
    let past = c.loop-before-test.false in
    let few = c.loop-before.auto.before-end in
    let value = c.atoms-before-end.ensures.value in
    let same : c.loop-before.before ≡ f.atoms = omega arith in
    subst (λ n. Gains (flat_map (atom_axioms f) (range_with_len 1 n)) c.args.names.now.items c.loop-before.names.items)
    same c.loop-before.invariant
