-- What edits keep of a flat assumption-based framework.
use Rattle.std.proofs.Common.{Ok, ◌≡◌, ◌≤◌, ap, subst, arith}
use Rattle.std.specs.Prelude.{is_ok}
use Rattle.std.proofs.lemmas.Bool.{false≢true}
use Rattle.semantics.specs.AbaFrameworks.{Aba, IsNumberedAba}
use Rattle.edit_rules.specs.declared.edit.Edit.{Edit}
use Rattle.edit_rules.specs.declared.edit.Edit.TheVariants.{ArgAdd, ArgDrop, AttackAdd, AttackDrop, AsmAdd, AsmDrop, ConSet, ConAdd, ConDrop, RuleAdd, RuleDrop}
use Rattle.edit_rules.specs.declared.effect.Effect.{Effect}
use Rattle.edit_rules.specs.Refusals.{NoneStands}
use Rattle.edit_rules.specs.AbaEdits.{AbaRow, aba_outcome, aba_row_outcome}
use Rattle.edit_rules.specs.AbaEdits.{assumption_added, assumption_dropped, contrary_set, contrary_added, contrary_dropped, rule_added, rule_dropped}
use Rattle.edit_rules.proofs.RefusalLemmas.{done_row}
use Rattle.edit_rules.proofs.AbaRowForms.{with_assumption_form, without_assumption_form, with_contrary_form}
use Rattle.edit_rules.proofs.AbaRowForms.{with_pair_form, without_pair_form, with_rule_form, without_rule_form}

-- what holds of the framework of a row of which no refusal stands holds behind the edit
behind_row : (P : Aba → Type 0) (row : AbaRow) (g : Aba) (effect : Effect) → aba_row_outcome row ≡ Ok (g, effect)
    → (NoneStands row.refusals → P row.framework) → P g
behind_row P row g effect is holds =
    let made = done_row row.refusals (row.framework, row.effect) (g, effect) is in
    subst P (ap (λ d. d.0) made.1) (holds made.0)

pub keeps_form : (f g : Aba) (edit : Edit) (effect : Effect) → IsNumberedAba f → aba_outcome f edit ≡ Ok (g, effect)
    → IsNumberedAba g
keeps_form f g (ArgAdd n) effect ok is = absurd (false≢true (ap is_ok is))
keeps_form f g (ArgDrop n) effect ok is = absurd (false≢true (ap is_ok is))
keeps_form f g (AttackAdd b a) effect ok is = absurd (false≢true (ap is_ok is))
keeps_form f g (AttackDrop b a) effect ok is = absurd (false≢true (ap is_ok is))
keeps_form f g (AsmAdd a c) effect ok is =
    behind_row IsNumberedAba (assumption_added f a c) g effect is (λ none. with_assumption_form f a c ok none)
keeps_form f g (AsmDrop a) effect ok is =
    behind_row IsNumberedAba (assumption_dropped f a) g effect is (λ none. without_assumption_form f a ok)
keeps_form f g (ConSet a c) effect ok is =
    behind_row IsNumberedAba (contrary_set f a c) g effect is (λ none. with_contrary_form f a c ok none)
keeps_form f g (ConAdd a c) effect ok is =
    behind_row IsNumberedAba (contrary_added f a c) g effect is (λ none. with_pair_form f a c ok none)
keeps_form f g (ConDrop a c) effect ok is =
    behind_row IsNumberedAba (contrary_dropped f a c) g effect is (λ none. without_pair_form f a c ok)
keeps_form f g (RuleAdd h body) effect ok is =
    behind_row IsNumberedAba (rule_added f h body) g effect is (λ none. with_rule_form f h body ok none)
keeps_form f g (RuleDrop r) effect ok is =
    behind_row IsNumberedAba (rule_dropped f r) g effect is (λ none. without_rule_form f r ok)

pub given_once : (f g : Aba) (edit : Edit) (effect : Effect) → aba_outcome f edit ≡ Ok (g, effect) → f.next ≤ g.next
given_once f g (ArgAdd n) effect is = absurd (false≢true (ap is_ok is))
given_once f g (ArgDrop n) effect is = absurd (false≢true (ap is_ok is))
given_once f g (AttackAdd b a) effect is = absurd (false≢true (ap is_ok is))
given_once f g (AttackDrop b a) effect is = absurd (false≢true (ap is_ok is))
given_once f g (AsmAdd a c) effect is =
    behind_row (λ h. f.next ≤ h.next) (assumption_added f a c) g effect is (λ none. omega arith)
given_once f g (AsmDrop a) effect is =
    behind_row (λ h. f.next ≤ h.next) (assumption_dropped f a) g effect is (λ none. omega arith)
given_once f g (ConSet a c) effect is =
    behind_row (λ h. f.next ≤ h.next) (contrary_set f a c) g effect is (λ none. omega arith)
given_once f g (ConAdd a c) effect is =
    behind_row (λ h. f.next ≤ h.next) (contrary_added f a c) g effect is (λ none. omega arith)
given_once f g (ConDrop a c) effect is =
    behind_row (λ h. f.next ≤ h.next) (contrary_dropped f a c) g effect is (λ none. omega arith)
given_once f g (RuleAdd h body) effect is =
    behind_row (λ h. f.next ≤ h.next) (rule_added f h body) g effect is (λ none. omega arith)
given_once f g (RuleDrop r) effect is =
    behind_row (λ h. f.next ≤ h.next) (rule_dropped f r) g effect is (λ none. omega arith)
