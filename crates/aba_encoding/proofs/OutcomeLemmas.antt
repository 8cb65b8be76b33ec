-- What an effect tells of the edit, and so which axioms the edit calls for.
use Rattle.std.proofs.Common.{
  Result,
  Ok,
  Err,
  ◌≡◌,
  ◌≤◌,
  ◌<◌,
  ◌-◌,
  ◌↔◌,
  ◌⊎◌,
  inl,
  inr,
  ⊎_elim,
  ℕ,
  List,
  [],
  ◌∷◌,
  ◌++◌,
  length,
  arith,
  ap,
  sym,
  subst,
  ◌∙◌,
}
use Rattle.std.specs.Prelude.{Contains, is_ok}
use Rattle.std.proofs.lemmas.Bool.{false≢true, not-false}
use Rattle.std.proofs.lemmas.List.{get_or_push, length_push}
use Rattle.semantics.specs.AbaFrameworks.{Aba, IsNumberedAba}
use Rattle.semantics.specs.Rules.{Rule}
use Rattle.aba_notions.specs.Storage.{no_rule, rule_at}
use Rattle.semantics.specs.Frameworks.{Framework, af, aba}
use Rattle.meaning_atoms.specs.declared.axiom.AxiomName.{AxiomName}
use Rattle.edit_rules.specs.declared.edit.Edit.{Edit}
use Rattle.edit_rules.specs.declared.edit.Edit.TheVariants.{ArgAdd, ArgDrop, AttackAdd, AttackDrop, AsmAdd, AsmDrop, ConSet, ConAdd, ConDrop, RuleAdd, RuleDrop}
use Rattle.edit_rules.specs.declared.effect.Effect.{Effect}
use Rattle.edit_rules.specs.declared.effect.EditFault.{EditFault}
use Rattle.edit_rules.specs.declared.effect.EditFault.TheVariants.{WrongKind}
use Rattle.edit_rules.proofs.EditWordTests.{absent}
use Rattle.edit_rules.proofs.RefusalLemmas.{EachPasses, done_passes, done_row}
use Rattle.edit_rules.proofs.AbaOutcomes.{aba_edit_outcome, any_outcome}
use Rattle.edit_rules.specs.AbaEdits.{AbaRow, aba_outcome, aba_row_outcome, next_rule, numbers_of, pair_refusals}
use Rattle.edit_rules.specs.AbaEdits.{assumption_added, assumption_dropped, contrary_added, contrary_dropped, contrary_set, rule_added, rule_dropped}
use Rattle.edit_rules.proofs.AbaRowForms.{in_range, rule_for}
use Rattle.edit_rules.proofs.ContraryLists.{contraries_of_members}
use Rattle.edit_rules.proofs.EditTests.{pair_there, there_pair}
use Rattle.edit_rules.proofs.RuleLists.{numbered_is}
use Rattle.af_encoding.specs.Changes.{IsCalledFor, IsEffectOf}
use Rattle.aba_encoding.specs.Brought.{by_assumption, by_last_rule, by_rule_added, by_rule_gone, IsNamed, nothing}
use Rattle.aba_encoding.specs.Brought.{AreAtoms, Brought, IsEdited, by_contrary_added, by_contrary_gone, by_contrary_set}
use Rattle.aba_encoding.proofs.BroughtLemmas.{Brings, called}
use Rattle.aba_encoding.proofs.EditsBring.{assumption_brings, assumption_gone, rule_brings, rule_gone_brings}
use Rattle.aba_encoding.proofs.EditsBring.{added_brings, contrary_gone_brings, set_brings}
use Rattle.aba_encoding.proofs.ContraryLemmas.{contraries_rise, contrary_low, contrary_under}
use Rattle.lists.proofs.Images.{image_from}
use Rattle.edit_rules.proofs.DetermineLemmas.{there}

-- ---- the outcome of the edit

back : Result (Framework × Effect) EditFault → Result (Aba × Effect) EditFault
back (Ok (aba g, effect)) = Ok (g, effect)
back (Ok (af g, effect)) = Err WrongKind
back (Err fault) = Err fault

aba_told : (outcome : Result (Aba × Effect) EditFault) (g : Aba) (effect : Effect)
    → any_outcome outcome ≡ Ok (aba g, effect) → outcome ≡ Ok (g, effect)
unfolding back
aba_told (Ok done) g effect is = ap back is
aba_told (Err fault) g effect is = ap back is

row_edit : (row : AbaRow) (g : Aba) (effect : Effect) → aba_row_outcome row ≡ Ok (g, effect)
    → effect.edit ≡ row.effect.edit
row_edit row g effect is =
    sym (ap (λ d. d.1.edit) (done_row row.refusals (row.framework, row.effect) (g, effect) is).1)

own_edit : (f : Aba) (edit : Edit) (g : Aba) (effect : Effect) → aba_outcome f edit ≡ Ok (g, effect)
    → effect.edit ≡ edit
own_edit f (ArgAdd n) g effect is = absurd (false≢true (ap is_ok is))
own_edit f (ArgDrop n) g effect is = absurd (false≢true (ap is_ok is))
own_edit f (AttackAdd b a) g effect is = absurd (false≢true (ap is_ok is))
own_edit f (AttackDrop b a) g effect is = absurd (false≢true (ap is_ok is))
own_edit f (AsmAdd a c) g effect is = row_edit (assumption_added f a c) g effect is
own_edit f (AsmDrop a) g effect is = row_edit (assumption_dropped f a) g effect is
own_edit f (ConSet a c) g effect is = row_edit (contrary_set f a c) g effect is
own_edit f (ConAdd a c) g effect is = row_edit (contrary_added f a c) g effect is
own_edit f (ConDrop a c) g effect is = row_edit (contrary_dropped f a c) g effect is
own_edit f (RuleAdd h body) g effect is = row_edit (rule_added f h body) g effect is
own_edit f (RuleDrop r) g effect is = row_edit (rule_dropped f r) g effect is

pub taken_as : (f g : Aba) (effect : Effect) (edit : Edit) → IsEffectOf (aba f) (aba g) effect → effect.edit ≡ edit
    → aba_outcome f edit ≡ Ok (g, effect)
taken_as f g effect edit of is =
    let outcome = aba_told (aba_outcome f of.edit) g effect (sym (aba_edit_outcome f of.edit) ∙ of.taken) in
    subst (λ e. aba_outcome f e ≡ Ok (g, effect)) (sym (own_edit f of.edit g effect outcome) ∙ is) outcome

-- an edit that is refused has no effect
pub never_taken : (f g : Aba) (effect : Effect) (edit : Edit) → aba_outcome f edit ≡ Err WrongKind
    → IsEffectOf (aba f) (aba g) effect → effect.edit ≡ edit → ⊥
never_taken f g effect edit refused of is =
    false≢true (sym (ap is_ok refused) ∙ ap is_ok (taken_as f g effect edit of is))

-- what a row says, where none of its refusals stands
record IsMade (row : AbaRow) (g : Aba) (effect : Effect) : Type 0 where
  pub none : EachPasses row.refusals
  pub framework : row.framework ≡ g
  pub effect_is : row.effect ≡ effect

made : (row : AbaRow) (g : Aba) (effect : Effect) → aba_row_outcome row ≡ Ok (g, effect) → IsMade row g effect
made row g effect is =
    let done = done_passes row.refusals (row.framework, row.effect) (g, effect) is in
    record { none = done.0; framework = ap (λ d. d.0) done.1; effect_is = ap (λ d. d.1) done.1 }

-- ---- what each edit calls for

-- what is brought has just the axioms that the edit from the one framework to the other calls for
abbrev pub CallsFor : (f g : Aba) → Brought → Type 0
CallsFor f g b = (name : AxiomName) → IsNamed b name ↔ IsCalledFor (aba f) (aba g) name

-- what the row of an edit brings, by the framework that the edit leads to
row_called : (row : AbaRow) (f g : Aba) (effect : Effect) (b : Aba → Brought) → IsMade row g effect
    → Brings f row.framework (b row.framework) → CallsFor f g (b g)
row_called row f g effect b is brings = subst (λ h. CallsFor f h (b h)) is.framework (called f _ _ brings)

pub assumption_called : (f g : Aba) (a c : ℕ) (effect : Effect) → IsNumberedAba f
    → aba_outcome f (AsmAdd a c) ≡ Ok (g, effect) → CallsFor f g (by_assumption g a)
assumption_called f g a c effect ok is =
    let row = made (assumption_added f a c) g effect is in
    row_called _ f g effect (λ h. by_assumption h a) row
    (assumption_brings f a c ok (absent f.assumptions a row.none.1.1.0))

pub drop_called : (f g : Aba) (a : ℕ) (effect : Effect) → aba_outcome f (AsmDrop a) ≡ Ok (g, effect)
    → CallsFor f g nothing
drop_called f g a effect is =
    row_called _ f g effect (λ h. nothing) (made (assumption_dropped f a) g effect is) (assumption_gone f a)

-- ---- contraries

pub set_called : (f g : Aba) (a c : ℕ) (effect : Effect) → aba_outcome f (ConSet a c) ≡ Ok (g, effect)
    → CallsFor f g (by_contrary_set a c effect.gone)
set_called f g a c effect is =
    let row = made (contrary_set f a c) g effect is in
    row_called _ f g effect (λ h. by_contrary_set a c effect.gone) row
    (set_brings f a c effect.gone (there f.assumptions a row.none.1.1.0) (sym (ap (λ e. e.gone) row.effect_is)))

pub set_under : (f g : Aba) (a c : ℕ) (effect : Effect) → IsNumberedAba f
    → aba_outcome f (ConSet a c) ≡ Ok (g, effect) → c < 1000001
set_under f g a c effect ok is =
    let row = made (contrary_set f a c) g effect is in
    let range = in_range 0 f.atoms c row.none.1.0 in
    let high = range.1 in
    let most = ok.atoms in
    omega arith

pub set_gone : (f g : Aba) (a c : ℕ) (effect : Effect) → IsNumberedAba f
    → aba_outcome f (ConSet a c) ≡ Ok (g, effect) → AreAtoms effect.gone
set_gone f g a c effect ok is =
    let row = made (contrary_set f a c) g effect is in
    subst AreAtoms (ap (λ e. e.gone) row.effect_is) (record {
      rise = contraries_rise f ok a;
      each = λ y d.
          let con = (contraries_of_members f.contraries a y).0 d in
          let under = contrary_under f ok a y con in
          record { low = contrary_low f ok a y con; high = omega arith };
    })

-- what an edit of one contrary says of its numbers
pub record IsPairOf (f : Aba) (a c : ℕ) : Type 0 where
  pub there : Contains f.assumptions a
  pub low : 1 ≤ c
  pub under : c < 1000001

pair_of : (f g : Aba) (a c : ℕ) (effect : Effect) → IsNumberedAba f
    → (aba_outcome f (ConAdd a c) ≡ Ok (g, effect)) ⊎ (aba_outcome f (ConDrop a c) ≡ Ok (g, effect)) → IsPairOf f a c
pair_of f g a c effect ok which =
    let passes : EachPasses (pair_refusals 1 f a c) = ⊎_elim
    (λ is. let none = (made (contrary_added f a c) g effect is).none in (none.0, (none.1.0, (none.1.1.0, tt))))
    (λ is. let none = (made (contrary_dropped f a c) g effect is).none in (none.0, (none.1.0, (none.1.1.0, tt))))
    which in
    let range = in_range 1 f.atoms c passes.1.0 in
    let high = range.1 in
    let most = ok.atoms in
    record { there = there f.assumptions a passes.1.1.0; low = range.0; under = omega arith }

-- the contrary that an edit names, where the edit led here
pub edited_pair : (g : Aba) (effect : Effect) (a c : ℕ) (edited : IsEdited (aba g) effect)
    → (effect.edit ≡ ConAdd a c) ⊎ (effect.edit ≡ ConDrop a c) → IsPairOf edited.before a c
edited_pair g effect a c edited which =
    pair_of edited.before g a c effect edited.form
    (⊎_elim (λ e. inl (taken_as edited.before g effect (ConAdd a c) edited.of e))
    (λ e. inr (taken_as edited.before g effect (ConDrop a c) edited.of e)) which)

pub added_called : (f g : Aba) (a c : ℕ) (effect : Effect) → IsNumberedAba f
    → aba_outcome f (ConAdd a c) ≡ Ok (g, effect) → CallsFor f g (by_contrary_added g a c)
added_called f g a c effect ok is =
    let row = made (contrary_added f a c) g effect is in
    let pair = pair_of f g a c effect ok (inl is) in
    row_called _ f g effect (λ h. by_contrary_added h a c) row (added_brings f a c pair.there pair.low
    (λ old. false≢true (sym row.none.1.1.1.0 ∙ there_pair f.contraries (a, c) old)))

pub dropped_called : (f g : Aba) (a c : ℕ) (effect : Effect) → IsNumberedAba f
    → aba_outcome f (ConDrop a c) ≡ Ok (g, effect) → CallsFor f g (by_contrary_gone g a c)
dropped_called f g a c effect ok is =
    let pair = pair_of f g a c effect ok (inr is) in
    let row = made (contrary_dropped f a c) g effect is in
    let was = pair_there f.contraries (a, c) (not-false _ row.none.1.1.1.0) in
    row_called _ f g effect (λ h. by_contrary_gone h a c) row
    (contrary_gone_brings f a c pair.there pair.under was)

-- ---- rules

-- the framework behind a rule that came has it last
last_is : (f : Aba) (rule : Rule) → rule_at (f.rules ++ rule ∷ []) (length (f.rules ++ rule ∷ []) - 1) ≡ rule
last_is f rule =
    let long = length_push f.rules rule in
    get_or_push f.rules rule no_rule (length (f.rules ++ rule ∷ []) - 1) (omega arith)

pub rule_called : (f g : Aba) (h : ℕ) (body : List ℕ) (effect : Effect) → IsNumberedAba f
    → aba_outcome f (RuleAdd h body) ≡ Ok (g, effect) → CallsFor f g (by_last_rule g h)
rule_called f g h body effect ok is =
    let done = done_row (rule_added f h body).refusals _ (g, effect) is in
    let fits = rule_for f h body done.0 in
    let more = (rule_added f h body).framework in
    subst (λ k. CallsFor f k (by_last_rule k h)) (ap (λ d. d.0) done.1)
    (subst (λ q. CallsFor f more (by_rule_added more h q)) (sym (last_is f (next_rule f h body)))
    (called f more _ (rule_brings f h body ok fits.head)))

pub some_rule : (f g : Aba) (h : ℕ) (body : List ℕ) (effect : Effect) → aba_outcome f (RuleAdd h body) ≡ Ok (g, effect)
    → 0 < length g.rules
some_rule f g h body effect is =
    let row = made (rule_added f h body) g effect is in
    let long = length_push f.rules (next_rule f h body) in
    subst (λ k. 0 < length k.rules) row.framework (omega arith)

-- the rule that goes, which the effect tells
pub record IsGone (f : Aba) (n : ℕ) (effect : Effect) (rule : Rule) : Type 0 where
  pub there : Contains f.rules rule
  pub numbered : rule.number ≡ n
  pub head : rule.head ≡ effect.head

gone_rule : (f g : Aba) (n : ℕ) (effect : Effect) → IsNumberedAba f → aba_outcome f (RuleDrop n) ≡ Ok (g, effect)
    → (rule : Rule) × IsGone f n effect rule
gone_rule f g n effect ok is =
    let row = made (rule_dropped f n) g effect is in
    let from = image_from (λ (r : Rule). r.number) f.rules n (there (numbers_of f.rules) n row.none.1.0) in (
      from.0,
      record {
        there = from.1;
        numbered = from.2;
        head = sym (ap (λ (r : Rule). r.head) (numbered_is f from.0 n ok from.1 from.2))
            ∙ ap (λ e. e.head) row.effect_is;
      },
    )

pub loss_called : (f g : Aba) (n : ℕ) (effect : Effect) → IsNumberedAba f
    → aba_outcome f (RuleDrop n) ≡ Ok (g, effect) → CallsFor f g (by_rule_gone g effect.head n)
loss_called f g n effect ok is =
    let row = made (rule_dropped f n) g effect is in
    let gone = gone_rule f g n effect ok is in
    let less = (rule_dropped f n).framework in
    subst (λ k. CallsFor f k (by_rule_gone k effect.head n)) row.framework
    (subst (λ h. CallsFor f less (by_rule_gone less h n)) gone.1.head
    (subst (λ m. CallsFor f (rule_dropped f m).framework (by_rule_gone (rule_dropped f m).framework gone.0.head m))
    gone.1.numbered
    (called f _ _ (rule_gone_brings f gone.0 ok gone.1.there))))

-- the number of a rule that goes
pub gone_number : (f g : Aba) (n : ℕ) (effect : Effect) → IsNumberedAba f
    → aba_outcome f (RuleDrop n) ≡ Ok (g, effect) → (1 ≤ n) × (n < 1000001)
gone_number f g n effect ok is =
    let gone = gone_rule f g n effect ok is in
    let rule = ok.form.rules_are gone.0 gone.1.there in
    let low = rule.low in
    let given = rule.given in
    let e = gone.1.numbered in
    let most = ok.rules in
    (omega arith, omega arith)
