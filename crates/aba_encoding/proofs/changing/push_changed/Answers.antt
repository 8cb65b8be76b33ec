use Rattle.std.proofs.Common.{inl, inr, subst, sym}
use Rattle.std.specs.Prelude.{OnOk}
use Rattle.aba_encoding.specs.Brought.{AreAtoms, GainsBrought, by_assumption, by_last_rule, by_rule_gone}
use Rattle.aba_encoding.specs.Brought.{by_contrary_added, by_contrary_gone, by_contrary_set}
use Rattle.aba_encoding.proofs.GainedLemmas.{none_called, on_called, wrong_kind}
use Rattle.aba_encoding.proofs.OutcomeLemmas.{assumption_called, drop_called, gone_number, loss_called}
use Rattle.aba_encoding.proofs.OutcomeLemmas.{added_called, dropped_called, edited_pair}
use Rattle.aba_encoding.proofs.OutcomeLemmas.{set_called, set_gone, set_under}
use Rattle.aba_encoding.proofs.OutcomeLemmas.{rule_called, some_rule, taken_as}
use Rattle.aba_encoding.proofs.changing.push_changed.Goals as goal

pub push_last_rule-requires : goal.push_last_rule-requires
push_last_rule-requires c =
    let edited = c.requires in
    some_rule edited.before c.args.plain.now c.in-RuleAdd.head c.in-RuleAdd.field-1 c.args.effect.now
    (taken_as edited.before c.args.plain.now c.args.effect.now _ edited.of c.in-RuleAdd.is)

pub push_past-requires : goal.push_past-requires
push_past-requires c =
    let edited = c.requires in
    let range = gone_number edited.before c.args.plain.now c.in-RuleDrop.number c.args.effect.now edited.form
    (taken_as edited.before c.args.plain.now c.args.effect.now _ edited.of c.in-RuleDrop.is) in
    record { low = range.0; high = range.1 }

pub push_set-requires : goal.push_set-requires
push_set-requires c =
    let f = c.requires.before in
    let g = c.args.plain.now in
    let a = c.in-ConSet.assumption in
    let b = c.in-ConSet.contrary in
    let effect = c.args.effect.now in
    let taken = taken_as f g effect _ c.requires.of c.in-ConSet.is in
    record {
      atoms = subst AreAtoms (sym c.as_slice.ensures) (set_gone f g a b effect c.requires.form taken);
      high = set_under f g a b effect c.requires.form taken;
    }

pub push_added-requires : goal.push_added-requires
push_added-requires c =
    let pair = edited_pair c.args.plain.now c.args.effect.now _ _ c.requires (inl c.in-ConAdd.is) in
    record { low = pair.low; high = pair.under }

pub push_gone-requires : goal.push_gone-requires
push_gone-requires c =
    let pair = edited_pair c.args.plain.now c.args.effect.now _ _ c.requires (inr c.in-ConDrop.is) in
    record { low = pair.low; high = pair.under }

pub returns-in-AsmAdd : goal.returns-in-AsmAdd
returns-in-AsmAdd c =
    on_called (by_assumption c.args.plain.now c.in-AsmAdd.assumption) _ _ _ _ c.push_whole.result
    (λ f ok of. assumption_called f c.args.plain.now c.in-AsmAdd.assumption c.in-AsmAdd.field-1 c.args.effect.now ok
    (taken_as f c.args.plain.now c.args.effect.now _ of c.in-AsmAdd.is))
    c.push_whole.ensures

pub returns-in-ConSet : goal.returns-in-ConSet
returns-in-ConSet c =
    let a = c.in-ConSet.assumption in
    let b = c.in-ConSet.contrary in
    on_called (by_contrary_set a b c.args.effect.now.gone) _ _ _ _ c.push_set.result
    (λ f ok of. set_called f c.args.plain.now a b c.args.effect.now
    (taken_as f c.args.plain.now c.args.effect.now _ of c.in-ConSet.is))
    (subst (λ gone. OnOk c.push_set.result (GainsBrought (by_contrary_set a b gone) c.args.names.now.items
    c.push_set.new.names.items)) c.as_slice.ensures c.push_set.ensures)

pub returns-in-ConAdd : goal.returns-in-ConAdd
returns-in-ConAdd c =
    on_called (by_contrary_added c.args.plain.now c.in-ConAdd.assumption c.in-ConAdd.contrary) _ _ _ _
    c.push_added.result
    (λ f ok of. added_called f c.args.plain.now c.in-ConAdd.assumption c.in-ConAdd.contrary c.args.effect.now ok
    (taken_as f c.args.plain.now c.args.effect.now _ of c.in-ConAdd.is))
    c.push_added.ensures

pub returns-in-ConDrop : goal.returns-in-ConDrop
returns-in-ConDrop c =
    on_called (by_contrary_gone c.args.plain.now c.in-ConDrop.assumption c.in-ConDrop.contrary) _ _ _ _
    c.push_gone.result
    (λ f ok of. dropped_called f c.args.plain.now c.in-ConDrop.assumption c.in-ConDrop.contrary c.args.effect.now ok
    (taken_as f c.args.plain.now c.args.effect.now _ of c.in-ConDrop.is))
    c.push_gone.ensures

pub returns-in-RuleAdd : goal.returns-in-RuleAdd
returns-in-RuleAdd c =
    on_called (by_last_rule c.args.plain.now c.in-RuleAdd.head) _ _ _ _ c.push_last_rule.result
    (λ f ok of. rule_called f c.args.plain.now c.in-RuleAdd.head c.in-RuleAdd.field-1 c.args.effect.now ok
    (taken_as f c.args.plain.now c.args.effect.now _ of c.in-RuleAdd.is))
    c.push_last_rule.ensures

pub returns-in-RuleDrop : goal.returns-in-RuleDrop
returns-in-RuleDrop c =
    on_called (by_rule_gone c.args.plain.now c.args.effect.now.head c.in-RuleDrop.number) _ _ _ _ c.push_past.result
    (λ f ok of. loss_called f c.args.plain.now c.in-RuleDrop.number c.args.effect.now ok
    (taken_as f c.args.plain.now c.args.effect.now _ of c.in-RuleDrop.is))
    c.push_past.ensures

pub returns-in-AsmDrop : goal.returns-in-AsmDrop
returns-in-AsmDrop c =
    none_called c.args.plain.now c.args.effect.now c.args.names.now.items
    (λ f ok of. drop_called f c.args.plain.now _ c.args.effect.now
    (taken_as f c.args.plain.now c.args.effect.now _ of c.in-AsmDrop.is))

pub returns-in-ArgAdd : goal.returns-in-ArgAdd
returns-in-ArgAdd c =
    wrong_kind c.args.plain.now c.args.effect.now c.args.names.now.items c.in-ArgAdd.is

pub returns-in-ArgAdd-2 : goal.returns-in-ArgAdd-2
returns-in-ArgAdd-2 c =
    wrong_kind c.args.plain.now c.args.effect.now c.args.names.now.items c.in-ArgAdd.is

pub returns-in-ArgAdd-3 : goal.returns-in-ArgAdd-3
returns-in-ArgAdd-3 c =
    wrong_kind c.args.plain.now c.args.effect.now c.args.names.now.items c.in-ArgAdd.is

pub returns-in-ArgAdd-4 : goal.returns-in-ArgAdd-4
returns-in-ArgAdd-4 c =
    wrong_kind c.args.plain.now c.args.effect.now c.args.names.now.items c.in-ArgAdd.is
