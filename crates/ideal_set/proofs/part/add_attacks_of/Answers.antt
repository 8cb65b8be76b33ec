use Rattle.std.proofs.Common.{◌≡◌, ◌∙◌, ◌++◌, ap, map}
use Rattle.attack_index.specs.PairOrder.{reversed}
use Rattle.ideal_set.proofs.RoundLemmas.{gains_attacks}
use Rattle.ideal_set.proofs.part.add_attacks_of.Goals as goal

pub returns : goal.returns
returns c =
    let suffered : c.deref.result.now ≡ map reversed c.attackers_of.result.now =
    c.deref.ensures.value ∙ c.in_ok-suffered.ensures in
    gains_attacks c.args.plain.now c.args.argument c.args.found.now.items c.targets_of.result.now
    c.attackers_of.result.now _ c.targets_of.ensures c.attackers_of.ensures
    (c.in_ok-extend_from_slice-2.ensures.items
    ∙ (ap (λ xs. xs ++ c.deref.result.now) c.in_ok-extend_from_slice.ensures.items
    ∙ ap (λ xs. (c.args.found.now.items ++ c.targets_of.result.now) ++ xs) suffered))
