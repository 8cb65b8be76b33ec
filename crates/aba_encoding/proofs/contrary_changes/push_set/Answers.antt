use Rattle.std.proofs.Common.{Ok, ◌+◌, ◌++◌, [], ◌∷◌}
use Rattle.meaning_atoms.specs.declared.atom.Closure.TheVariants.{Own, Rest}
use Rattle.meaning_atoms.specs.declared.aba_axiom.AbaAxiom.TheVariants.{B9Con, B12, B13, B18}
use Rattle.aba_encoding.specs.Brought.{by_contrary_set}
use Rattle.aba_encoding.specs.Listing.{contrary_end, only_if}
use Rattle.aba_encoding.proofs.GainedLemmas.{on_brought, set_axioms, set_listed}
use Rattle.aba_encoding.proofs.ListingLemmas.{gains_on}
use Rattle.aba_encoding.proofs.contrary_changes.push_set.Goals as goal

pub returns : goal.returns
returns c =
    let a = c.args.assumption in
    let b = c.args.contrary in
    let pair = c.is_new_contrary.result in
    let step = c.is_new_step.result in
    let end = c.is_new_end.result in
    let steps = only_if step (B18 Own a 1 b ∷ B18 Rest a 1 b ∷ []) in
    let ends = only_if end (contrary_end a (b + 1)) in
    on_brought (by_contrary_set a b c.args.gone.now) (set_axioms a b pair step end) _ _ (Ok tt)
    (set_listed a b c.requires.high c.args.gone.now pair step end c.is_new_contrary.ensures c.is_new_step.ensures
    c.is_new_end.ensures)
    (gains_on (only_if pair (B9Con a b ∷ B12 a b ∷ B13 a b ∷ [])) (steps ++ ends) _ _ _ c.in_ok-push_if.ensures
    (gains_on steps ends _ _ _ c.in_ok-push_if-2.ensures c.in_ok-push_if-3.ensures))
