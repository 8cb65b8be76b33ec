-- An effect has its edit.
use Rattle.std.proofs.Common.{◌≡◌, Ok, Some, is_ok, sym, ap}
use Rattle.std.proofs.lemmas.Bool.{false≢true}
use Rattle.semantics.specs.Frameworks.{Framework, af, aba}
use Rattle.edit_rules.specs.declared.edit.Edit.{Edit}
use Rattle.edit_rules.specs.declared.edit.Edit.TheVariants.{ArgAdd, ArgDrop, AttackAdd, AttackDrop}
use Rattle.edit_rules.specs.declared.edit.Edit.TheVariants.{AsmAdd, AsmDrop, ConSet, ConAdd, ConDrop, RuleAdd, RuleDrop}
use Rattle.edit_rules.specs.declared.effect.Effect.{Effect}
use Rattle.edit_rules.proofs.RefusalLemmas.{done_row}
use Rattle.edit_rules.specs.AbaEdits.{AbaRow, assumption_added, assumption_dropped, contrary_set}
use Rattle.edit_rules.specs.AbaEdits.{contrary_added, contrary_dropped, rule_added, rule_dropped}
use Rattle.edit_rules.specs.Edits.{Row, any_row, edit_outcome, outcome_in, row_outcome}
use Rattle.edit_rules.specs.Edits.{argument_added, argument_dropped, attack_added, attack_dropped}

row_edit : (row : Row) (done : Framework × Effect) → row_outcome row ≡ Ok done → done.1.edit ≡ row.effect.edit
row_edit row done e = sym (ap (λ d. d.1.edit) (done_row row.refusals (row.framework, row.effect) done e).1)

aba_row_edit : (row : AbaRow) (done : Framework × Effect) → outcome_in (any_row (Some row)) ≡ Ok done
    → done.1.edit ≡ row.effect.edit
aba_row_edit row done e =
    row_edit (record { refusals = row.refusals; framework = aba row.framework; effect = row.effect }) done e

pub effect_edit : (f : Framework) (edit : Edit) (done : Framework × Effect) → edit_outcome f edit ≡ Ok done
    → done.1.edit ≡ edit
effect_edit (af f) (ArgAdd n) done e = row_edit (argument_added f n) done e
effect_edit (af f) (ArgDrop n) done e = row_edit (argument_dropped f n) done e
effect_edit (af f) (AttackAdd b a) done e = row_edit (attack_added f b a) done e
effect_edit (af f) (AttackDrop b a) done e = row_edit (attack_dropped f b a) done e
effect_edit (af f) (AsmAdd a c) done e = absurd (false≢true (ap is_ok e))
effect_edit (af f) (AsmDrop a) done e = absurd (false≢true (ap is_ok e))
effect_edit (af f) (ConSet a c) done e = absurd (false≢true (ap is_ok e))
effect_edit (af f) (ConAdd a c) done e = absurd (false≢true (ap is_ok e))
effect_edit (af f) (ConDrop a c) done e = absurd (false≢true (ap is_ok e))
effect_edit (af f) (RuleAdd h body) done e = absurd (false≢true (ap is_ok e))
effect_edit (af f) (RuleDrop r) done e = absurd (false≢true (ap is_ok e))
effect_edit (aba f) (ArgAdd n) done e = absurd (false≢true (ap is_ok e))
effect_edit (aba f) (ArgDrop n) done e = absurd (false≢true (ap is_ok e))
effect_edit (aba f) (AttackAdd b a) done e = absurd (false≢true (ap is_ok e))
effect_edit (aba f) (AttackDrop b a) done e = absurd (false≢true (ap is_ok e))
effect_edit (aba f) (AsmAdd a c) done e = aba_row_edit (assumption_added f a c) done e
effect_edit (aba f) (AsmDrop a) done e = aba_row_edit (assumption_dropped f a) done e
effect_edit (aba f) (ConSet a c) done e = aba_row_edit (contrary_set f a c) done e
effect_edit (aba f) (ConAdd a c) done e = aba_row_edit (contrary_added f a c) done e
effect_edit (aba f) (ConDrop a c) done e = aba_row_edit (contrary_dropped f a c) done e
effect_edit (aba f) (RuleAdd h body) done e = aba_row_edit (rule_added f h body) done e
effect_edit (aba f) (RuleDrop r) done e = aba_row_edit (rule_dropped f r) done e
