use Rattle.std.proofs.Common.{ℕ, List, subst}
use Rattle.std.specs.Prelude.{OnOk}
use Rattle.af_encoding.specs.Changes.{Gains, IsCalledByPairs}
use Rattle.af_encoding.proofs.GainedLemmas.{on_called}
use Rattle.af_encoding.proofs.OutcomeLemmas.{argument_called, attack_called, drop_called, loss_called, taken_as}
use Rattle.af_encoding.proofs.OutcomeLemmas.{added_attacker, dropped_argument, dropped_attacker}
use Rattle.af_encoding.proofs.changing.push_changed.Goals as goal

pub returns-in-ArgAdd : goal.returns-in-ArgAdd
returns-in-ArgAdd c =
    on_called _ _ _ _ _ c.push_argument.result
    (λ f ok of. argument_called f c.args.plain.now c.in-ArgAdd.argument c.args.effect.now ok
    (taken_as f c.args.plain.now c.args.effect.now _ of c.in-ArgAdd.is))
    c.push_argument.ensures

pub push_targets-requires-clause-low : goal.push_targets-requires-clause-low
push_targets-requires-clause-low c =
    let edited = c.requires.effect in
    (dropped_argument edited.before c.args.plain.now c.in-ArgDrop.argument c.args.effect.now
    (taken_as edited.before c.args.plain.now c.args.effect.now _ edited.of c.in-ArgDrop.is)).low

pub returns-in-ArgDrop : goal.returns-in-ArgDrop
returns-in-ArgDrop c =
    on_called _ _ _ _ _ c.push_targets.result
    (λ f ok of. loss_called f c.args.plain.now c.in-ArgDrop.argument c.args.effect.now ok c.requires.form
    (taken_as f c.args.plain.now c.args.effect.now _ of c.in-ArgDrop.is))
    (subst (λ (ps : List (ℕ × ℕ)). OnOk c.push_targets.result (Gains
    (IsCalledByPairs c.args.plain.now c.in-ArgDrop.argument ps) c.args.names.now.items c.push_targets.new.names.items))
    c.as_slice.ensures c.push_targets.ensures)

pub push_attack-requires-clause-argument : goal.push_attack-requires-clause-argument
push_attack-requires-clause-argument c =
    let edited = c.requires.effect in
    added_attacker edited.before c.args.plain.now c.in-AttackAdd.attacker c.in-AttackAdd.target c.args.effect.now
    (taken_as edited.before c.args.plain.now c.args.effect.now _ edited.of c.in-AttackAdd.is)

pub returns-in-AttackAdd : goal.returns-in-AttackAdd
returns-in-AttackAdd c =
    on_called _ _ _ _ _ c.push_attack.result
    (λ f ok of. attack_called f c.args.plain.now c.in-AttackAdd.attacker c.in-AttackAdd.target c.args.effect.now
    (taken_as f c.args.plain.now c.args.effect.now _ of c.in-AttackAdd.is))
    c.push_attack.ensures

pub push_past-requires-clause-low : goal.push_past-requires-clause-low
push_past-requires-clause-low c =
    let edited = c.requires.effect in
    (dropped_attacker edited.before c.args.plain.now c.in-AttackDrop.attacker c.in-AttackDrop.target c.args.effect.now
    (taken_as edited.before c.args.plain.now c.args.effect.now _ edited.of c.in-AttackDrop.is)).low

pub returns-in-AttackDrop : goal.returns-in-AttackDrop
returns-in-AttackDrop c =
    on_called _ _ _ _ _ c.push_past.result
    (λ f ok of. drop_called f c.args.plain.now c.in-AttackDrop.attacker c.in-AttackDrop.target c.args.effect.now ok
    (taken_as f c.args.plain.now c.args.effect.now _ of c.in-AttackDrop.is))
    c.push_past.ensures
