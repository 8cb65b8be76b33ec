-- Which cause is told of the fields of a command.
use Rattle.std.proofs.Common.{◌≡◌, ℕ, zero, suc, ◌<◌, ◌≤◌, List, [], ◌∷◌, length, get_or, refl, sym, ap, subst}
use Rattle.std.proofs.Common.{◌∙◌, inl, inr, arith}
use Rattle.std.specs.Prelude.{Contains, codes, Option, Some, None}
use Rattle.std.specs.List.{AllZip}
use Rattle.std.proofs.lemmas.Slice.Zip.{AllZip-long}
use Rattle.num_text.specs.Number.{IsNumber}
use Rattle.iccma_tasks.specs.declared.task.Problem.{Problem}
use Rattle.iccma_tasks.specs.declared.task.Problem.TheVariants.{Credulous, Sceptical, SomeExtension, AllExtensions}
use Rattle.iccma_tasks.specs.declared.task.Task.{Task}
use Rattle.iccma_tasks.specs.Tasks.{FitsTask, IsTask, task_name}
use Rattle.script_text.specs.declared.edit_word.EditWord.{EditWord}
use Rattle.script_text.specs.declared.fault.ScriptCause.{ScriptCause}
use Rattle.script_text.specs.declared.fault.ScriptCause.TheVariants.{BadSession, BadCommand, BadTask, BadNumber}
use Rattle.script_text.specs.declared.fault.ScriptCause.TheVariants.{BadQuery, EmptyGroup, GroupTooLong, OpenGroup}
use Rattle.script_text.specs.declared.fault.ScriptCause.TheVariants.{BadFramework}
use Rattle.script_text.specs.Changes.{change_name, Takes}
use Rattle.script_text.specs.ScriptFaults.{rank, asks_about, IsFirstCause, HaveAskForm, HaveChangeForm, HaveForm, HaveMarkForm}
use Rattle.script_text.specs.ScriptFaults.{HaveNoNumber, HaveUnknownTask, HaveUnfitTask, HaveUseForm, StandsOnCommand}
use Rattle.script_text.specs.ScriptText.{asked_numbers}
use Rattle.script_text.proofs.Names.{ask_is_no_change, begin_is_no_ask, begin_is_no_change, changes_same}
use Rattle.script_text.proofs.Names.{end_is_no_ask, end_is_no_change, tasks_same}
use Rattle.script_text.proofs.Names.{use_is_no_ask, use_is_no_begin, use_is_no_change, use_is_no_end}

-- ---- fields

pub first_same : (x y : List ℕ) (xs ys : List (List ℕ)) → x ∷ xs ≡ y ∷ ys → x ≡ y
first_same x y xs ys e = ap (λ fields. get_or fields 0 []) e

pub others_same : (x y : List ℕ) (xs ys : List (List ℕ)) → x ∷ xs ≡ y ∷ ys → xs ≡ ys
others_same x y xs ys e = cc

-- a command that changes the framework isn't `ask`
pub forms_differ : (fields : List (List ℕ)) → HaveChangeForm fields → HaveAskForm fields → ⊥
forms_differ fields c a = ask_is_no_change c.change
    (first_same (change_name c.change) (codes "ask") c.arguments (a.task ∷ a.arguments)
    (sym c.fields_are ∙ a.fields_are))

-- neither is `begin` or `end`
pub change_no_mark : (change : EditWord) (arguments : List (List ℕ)) → HaveMarkForm (change_name change ∷ arguments) → ⊥
change_no_mark change arguments (inl e) =
    begin_is_no_change change (first_same (change_name change) (codes "begin") arguments [] e)
change_no_mark change arguments (inr e) =
    end_is_no_change change (first_same (change_name change) (codes "end") arguments [] e)

pub ask_no_mark : (arguments : List (List ℕ)) → HaveMarkForm (codes "ask" ∷ arguments) → ⊥
ask_no_mark arguments (inl e) = begin_is_no_ask (first_same (codes "ask") (codes "begin") arguments [] e)
ask_no_mark arguments (inr e) = end_is_no_ask (first_same (codes "ask") (codes "end") arguments [] e)

pub marks_no_change : (fields : List (List ℕ)) → HaveMarkForm fields → HaveChangeForm fields → ⊥
marks_no_change fields mark form =
    change_no_mark form.change form.arguments (subst HaveMarkForm form.fields_are mark)

marks_no_ask : (fields : List (List ℕ)) → HaveMarkForm fields → HaveAskForm fields → ⊥
marks_no_ask fields mark form =
    ask_no_mark (form.task ∷ form.arguments) (subst HaveMarkForm form.fields_are mark)

-- neither is `use`
pub change_no_use : (fields : List (List ℕ)) → HaveUseForm fields → HaveChangeForm fields → ⊥
change_no_use fields one form = use_is_no_change form.change
    (first_same (change_name form.change) (codes "use") form.arguments one.arguments
    (sym form.fields_are ∙ one.fields_are))

ask_no_use : (fields : List (List ℕ)) → HaveUseForm fields → HaveAskForm fields → ⊥
ask_no_use fields one form = use_is_no_ask
    (first_same (codes "ask") (codes "use") (form.task ∷ form.arguments) one.arguments
    (sym form.fields_are ∙ one.fields_are))

pub mark_no_use : (fields : List (List ℕ)) → HaveUseForm fields → HaveMarkForm fields → ⊥
mark_no_use fields one (inl e) =
    use_is_no_begin (first_same (codes "begin") (codes "use") [] one.arguments (sym e ∙ one.fields_are))
mark_no_use fields one (inr e) =
    use_is_no_end (first_same (codes "end") (codes "use") [] one.arguments (sym e ∙ one.fields_are))

-- the arguments of the one form
ask_arguments : (task : List ℕ) (arguments : List (List ℕ)) (form : HaveAskForm (codes "ask" ∷ task ∷ arguments))
    → form.arguments ≡ arguments
ask_arguments task arguments form =
    let behind = others_same (codes "ask") (codes "ask") (task ∷ arguments) (form.task ∷ form.arguments) form.fields_are
    in
    sym (others_same task form.task arguments form.arguments behind)

ask_task : (task : List ℕ) (arguments : List (List ℕ)) (form : HaveAskForm (codes "ask" ∷ task ∷ arguments))
    → form.task ≡ task
ask_task task arguments form =
    let behind = others_same (codes "ask") (codes "ask") (task ∷ arguments) (form.task ∷ form.arguments) form.fields_are
    in
    sym (first_same task form.task arguments form.arguments behind)

change_arguments : (change : EditWord) (arguments : List (List ℕ))
    (form : HaveChangeForm (change_name change ∷ arguments)) → form.arguments ≡ arguments
change_arguments change arguments form =
    sym (others_same (change_name change) (change_name form.change) arguments form.arguments form.fields_are)

change_same : (change : EditWord) (arguments : List (List ℕ))
    (form : HaveChangeForm (change_name change ∷ arguments)) → form.change ≡ change
change_same change arguments form = sym (changes_same change form.change
    (first_same (change_name change) (change_name form.change) arguments form.arguments form.fields_are))

-- fields that spell numbers hold none that spells no number
pub none_missing : (fields : List (List ℕ)) (numbers : List ℕ) → AllZip IsNumber fields numbers → HaveNoNumber fields
    → ⊥
none_missing [] [] are none = let c = none.member in absurd (omega (arith, c.1))
none_missing [] (n ∷ ns) are none = absurd are
none_missing (f ∷ fs) [] are none = absurd are
none_missing (f ∷ fs) (n ∷ ns) are none =
    at (λ later. none_missing fs ns are.1 later) none.field none.member none.none
  where
    at : (HaveNoNumber fs → ⊥) → (field : List ℕ) → Contains (f ∷ fs) field → ((m : ℕ) → ¬ IsNumber field m) → ⊥
    at behind field (zero, within, e) not = not n (subst (λ t. IsNumber t n) e are.0)
    at behind field (suc k, within, e) not =
        behind (record { field = field; member = (k, omega arith, e); none = not })

-- ---- ranks

-- where a cause stands, it is not BadSession
from_command : (fields : List (List ℕ)) (other : ScriptCause) → StandsOnCommand fields other → 2 ≤ rank other
from_command fields BadSession stands = absurd stands
from_command fields BadCommand stands = omega arith
from_command fields BadTask stands = omega arith
from_command fields BadNumber stands = omega arith
from_command fields BadQuery stands = omega arith
from_command fields OpenGroup stands = absurd stands
from_command fields GroupTooLong stands = absurd stands
from_command fields EmptyGroup stands = absurd stands
from_command fields BadFramework stands = absurd stands

-- where the fields have a form, it isn't BadCommand either
from_task : (fields : List (List ℕ)) → HaveForm fields → (other : ScriptCause)
    → StandsOnCommand fields other → 3 ≤ rank other
from_task fields form BadSession stands = absurd stands
from_task fields form BadCommand stands = absurd (stands form)
from_task fields form BadTask stands = omega arith
from_task fields form BadNumber stands = omega arith
from_task fields form BadQuery stands = omega arith
from_task fields form OpenGroup stands = absurd stands
from_task fields form GroupTooLong stands = absurd stands
from_task fields form EmptyGroup stands = absurd stands
from_task fields form BadFramework stands = absurd stands

-- where no unknown task is asked, it isn't BadTask either
from_number : (fields : List (List ℕ)) → HaveForm fields → (HaveUnknownTask fields → ⊥)
    → (other : ScriptCause) → StandsOnCommand fields other → 4 ≤ rank other
from_number fields form known BadSession stands = absurd stands
from_number fields form known BadCommand stands = absurd (stands form)
from_number fields form known BadTask stands = absurd (known stands)
from_number fields form known BadNumber stands = omega arith
from_number fields form known BadQuery stands = omega arith
from_number fields form known OpenGroup stands = absurd stands
from_number fields form known GroupTooLong stands = absurd stands
from_number fields form known EmptyGroup stands = absurd stands
from_number fields form known BadFramework stands = absurd stands

-- where all numbers are spelled, it can only be BadQuery
from_query : (fields : List (List ℕ)) → HaveForm fields → (HaveUnknownTask fields → ⊥)
    → (StandsOnCommand fields BadNumber → ⊥) → (other : ScriptCause) → StandsOnCommand fields other
    → HaveUnfitTask fields × (5 ≤ rank other)
from_query fields form known spelled BadSession stands = absurd stands
from_query fields form known spelled BadCommand stands = absurd (stands form)
from_query fields form known spelled BadTask stands = absurd (known stands)
from_query fields form known spelled BadNumber stands = absurd (spelled stands)
from_query fields form known spelled BadQuery stands = (stands, omega arith)
from_query fields form known spelled OpenGroup stands = absurd stands
from_query fields form known spelled GroupTooLong stands = absurd stands
from_query fields form known spelled EmptyGroup stands = absurd stands
from_query fields form known spelled BadFramework stands = absurd stands

-- ---- the causes

pub bad_command : (fields : List (List ℕ)) → (HaveChangeForm fields → ⊥) → (HaveAskForm fields → ⊥)
    → (HaveMarkForm fields → ⊥) → (HaveUseForm fields → ⊥) → IsFirstCause (StandsOnCommand fields) BadCommand
bad_command fields change ask mark use_not = record {
  stands = λ form. elim form [
    | inl f ↦ change f
    | inr (inl f) ↦ ask f
    | inr (inr (inl f)) ↦ mark f
    | inr (inr (inr f)) ↦ use_not f
  ];
  first = from_command fields;
}

-- a command that changes the framework asks no unknown task
change_known : (fields : List (List ℕ)) → HaveChangeForm fields → HaveUnknownTask fields → ⊥
change_known fields form h = forms_differ fields form h.form

pub bad_change : (change : EditWord) (arguments : List (List ℕ)) → (Takes change (length arguments) → ⊥)
    → IsFirstCause (StandsOnCommand (change_name change ∷ arguments)) BadCommand
bad_change change arguments takes_not = bad_command (change_name change ∷ arguments)
    (λ form. takes_not (subst (λ c. Takes c (length arguments)) (change_same change arguments form)
    (subst (λ xs. Takes form.change (length xs)) (change_arguments change arguments form) form.takes)))
    (λ form. ask_is_no_change change
    (first_same (change_name change) (codes "ask") arguments (form.task ∷ form.arguments) form.fields_are))
    (change_no_mark change arguments)
    (λ form. use_is_no_change change
    (first_same (change_name change) (codes "use") arguments form.arguments form.fields_are))

pub bad_change_number : (change : EditWord) (arguments : List (List ℕ)) → Takes change (length arguments)
    → HaveNoNumber arguments → IsFirstCause (StandsOnCommand (change_name change ∷ arguments)) BadNumber
bad_change_number change arguments takes none =
    let fields : List (List ℕ) = change_name change ∷ arguments in
    let form : HaveChangeForm fields
    = record { change = change; arguments = arguments; fields_are = refl; takes = takes } in
    record {
      stands = inl (form, none);
      first = from_number fields (inl form) (change_known fields form);
    }

-- ---- what is asked

abbrev ask_fields : List ℕ → List (List ℕ) → List (List ℕ)
ask_fields task arguments = codes "ask" ∷ task ∷ arguments

abbrev pub ask_form : (task : List ℕ) (arguments : List (List ℕ)) → length arguments ≤ 1
    → HaveAskForm (codes "ask" ∷ task ∷ arguments)
ask_form task arguments few = record { task = task; arguments = arguments; fields_are = refl; few = few }

pub ask_too_long : (task : List ℕ) (arguments : List (List ℕ)) → 1 < length arguments
    → IsFirstCause (StandsOnCommand (codes "ask" ∷ task ∷ arguments)) BadCommand
ask_too_long task arguments long = bad_command (ask_fields task arguments)
    (λ form. ask_is_no_change form.change
    (first_same (change_name form.change) (codes "ask") form.arguments (task ∷ arguments) (sym form.fields_are)))
    (λ form. let few = subst (λ xs. length xs ≤ 1) (ask_arguments task arguments form) form.few in absurd (omega arith))
    (ask_no_mark (task ∷ arguments))
    (λ form. use_is_no_ask (first_same (codes "ask") (codes "use") (task ∷ arguments) form.arguments form.fields_are))

pub ask_alone : IsFirstCause (StandsOnCommand (codes "ask" ∷ [])) BadCommand
ask_alone = bad_command (codes "ask" ∷ [])
    (λ form. ask_is_no_change form.change
    (first_same (change_name form.change) (codes "ask") form.arguments [] (sym form.fields_are)))
    (λ form. let long : 1 ≡ length (codes "ask" ∷ form.task ∷ form.arguments) = ap length form.fields_are in
    absurd (omega arith))
    (ask_no_mark [])
    (λ form. use_is_no_ask (first_same (codes "ask") (codes "use") [] form.arguments form.fields_are))

pub bad_task : (task : List ℕ) (arguments : List (List ℕ)) → length arguments ≤ 1
    → ((t : Task) → IsTask t → ¬ (task_name t ≡ task))
    → IsFirstCause (StandsOnCommand (codes "ask" ∷ task ∷ arguments)) BadTask
bad_task task arguments few unknown =
    let form = ask_form task arguments few in
    record {
      stands = record { form = form; unknown = unknown };
      first = from_task (ask_fields task arguments) (inr (inl form));
    }

known_task : (task : List ℕ) (arguments : List (List ℕ)) (t : Task) → IsTask t → task_name t ≡ task
    → HaveUnknownTask (codes "ask" ∷ task ∷ arguments) → ⊥
known_task task arguments t is named h = h.unknown t is (named ∙ sym (ask_task task arguments h.form))

pub bad_ask_number : (task : List ℕ) (arguments : List (List ℕ)) (t : Task) → length arguments ≤ 1 → IsTask t
    → task_name t ≡ task → HaveNoNumber arguments
    → IsFirstCause (StandsOnCommand (codes "ask" ∷ task ∷ arguments)) BadNumber
bad_ask_number task arguments t few is named none =
    let form = ask_form task arguments few in
    record {
      stands = inr (inl (form, none));
      first = from_number (ask_fields task arguments) (inr (inl form)) (known_task task arguments t is named);
    }

-- a query that was made fits its task
pub made_fits : (p : Problem) (number : Option ℕ) → ((FitsTask p number → ⊥) → ⊥) → FitsTask p number
made_fits Credulous None h = absurd (h (λ f. f))
made_fits Credulous (Some n) h = tt
made_fits Sceptical None h = absurd (h (λ f. f))
made_fits Sceptical (Some n) h = tt
made_fits SomeExtension None h = tt
made_fits SomeExtension (Some n) h = absurd (h (λ f. f))
made_fits AllExtensions None h = tt
made_fits AllExtensions (Some n) h = absurd (h (λ f. f))

-- an argument too many or too few
pub counts_tell : (p : Problem) (number : Option ℕ) → (FitsTask p number → ⊥)
    → length (asked_numbers number) ≡ asks_about p → ⊥
counts_tell Credulous None unfit e = absurd (omega arith)
counts_tell Credulous (Some n) unfit e = unfit tt
counts_tell Sceptical None unfit e = absurd (omega arith)
counts_tell Sceptical (Some n) unfit e = unfit tt
counts_tell SomeExtension None unfit e = unfit tt
counts_tell SomeExtension (Some n) unfit e = absurd (omega arith)
counts_tell AllExtensions None unfit e = unfit tt
counts_tell AllExtensions (Some n) unfit e = absurd (omega arith)

fitting_counts : (p : Problem) (number : Option ℕ) → FitsTask p number
    → length (asked_numbers number) ≡ asks_about p
fitting_counts Credulous None fits = absurd fits
fitting_counts Credulous (Some n) fits = refl
fitting_counts Sceptical None fits = absurd fits
fitting_counts Sceptical (Some n) fits = refl
fitting_counts SomeExtension None fits = refl
fitting_counts SomeExtension (Some n) fits = absurd fits
fitting_counts AllExtensions None fits = refl
fitting_counts AllExtensions (Some n) fits = absurd fits

ask_spelled : (task : List ℕ) (arguments : List (List ℕ)) (numbers : List ℕ) → AllZip IsNumber arguments numbers
    → StandsOnCommand (codes "ask" ∷ task ∷ arguments) BadNumber → ⊥
ask_spelled task arguments numbers spelled (inl (form, none)) = ask_is_no_change form.change
    (first_same (change_name form.change) (codes "ask") form.arguments (task ∷ arguments) (sym form.fields_are))
ask_spelled task arguments numbers spelled (inr (inl (form, none))) = none_missing arguments numbers spelled
    (subst HaveNoNumber (ask_arguments task arguments form) none)
ask_spelled task arguments numbers spelled (inr (inr (form, none))) = use_is_no_ask
    (first_same (codes "ask") (codes "use") (task ∷ arguments) form.arguments form.fields_are)

pub bad_query : (task : List ℕ) (arguments : List (List ℕ)) (t : Task) (number : Option ℕ) → length arguments ≤ 1
    → IsTask t → task_name t ≡ task → AllZip IsNumber arguments (asked_numbers number)
    → (FitsTask t.problem number → ⊥)
    → IsFirstCause (StandsOnCommand (codes "ask" ∷ task ∷ arguments)) BadQuery
bad_query task arguments t number few is named spelled unfit =
    let form = ask_form task arguments few in
    let long = AllZip-long IsNumber arguments (asked_numbers number) spelled in
    record {
      stands = record {
        form = form;
        task = t;
        task_is = is;
        named = named;
        unfit = λ e. counts_tell t.problem number unfit (long ∙ e);
      };
      first = λ other stands. (from_query (ask_fields task arguments) (inr (inl form)) (known_task task arguments t is named)
          (ask_spelled task arguments (asked_numbers number) spelled) other stands).1;
    }

-- ---- no cause

pub change_is_good : (change : EditWord) (arguments : List (List ℕ)) (numbers : List ℕ)
    → Takes change (length arguments) → AllZip IsNumber arguments numbers → (cause : ScriptCause)
    → StandsOnCommand (change_name change ∷ arguments) cause → ⊥
change_is_good change arguments numbers takes spelled cause stands =
    let fields : List (List ℕ) = change_name change ∷ arguments in
    let form : HaveChangeForm fields
    = record { change = change; arguments = arguments; fields_are = refl; takes = takes } in
    let unfit = (from_query fields (inl form) (change_known fields form) (numbers_stand fields form) cause stands).0 in
    forms_differ fields form unfit.form
  where
    numbers_stand : (fields : List (List ℕ)) → HaveChangeForm (change_name change ∷ arguments)
        → StandsOnCommand (change_name change ∷ arguments) BadNumber → ⊥
    numbers_stand fields form (inl (other, none)) = none_missing arguments numbers spelled
        (subst HaveNoNumber (change_arguments change arguments other) none)
    numbers_stand fields form (inr (inl (other, none))) = forms_differ (change_name change ∷ arguments) form other
    numbers_stand fields form (inr (inr (other, none))) = change_no_use (change_name change ∷ arguments) other form

pub ask_is_good : (task : List ℕ) (arguments : List (List ℕ)) (t : Task) (number : Option ℕ) → IsTask t
    → task_name t ≡ task → AllZip IsNumber arguments (asked_numbers number) → FitsTask t.problem number
    → (cause : ScriptCause) → StandsOnCommand (codes "ask" ∷ task ∷ arguments) cause → ⊥
ask_is_good task arguments t number is named spelled fits cause stands =
    let long = AllZip-long IsNumber arguments (asked_numbers number) spelled in
    let few : length arguments ≤ 1 = few_asked number (sym long) in
    let form = ask_form task arguments few in
    let unfit = (from_query (ask_fields task arguments) (inr (inl form)) (known_task task arguments t is named)
    (ask_spelled task arguments (asked_numbers number) spelled) cause stands).0 in
    let same : unfit.task ≡ t = tasks_same unfit.task t (unfit.named ∙ ask_task task arguments unfit.form ∙ sym named)
    in
    unfit.unfit
    (ap length (ask_arguments task arguments unfit.form) ∙ sym long ∙ fitting_counts t.problem number fits
    ∙ ap (λ x. asks_about x.problem) (sym same))
  where
    few_asked : (number : Option ℕ) → length arguments ≡ length (asked_numbers number) → length arguments ≤ 1
    few_asked None e = omega arith
    few_asked (Some n) e = omega arith

-- `begin` or `end` alone is good, and nothing may follow it
pub mark_is_good : (fields : List (List ℕ)) → HaveMarkForm fields → (cause : ScriptCause)
    → StandsOnCommand fields cause → ⊥
mark_is_good fields mark BadSession stands = stands
mark_is_good fields mark BadCommand stands = stands (inr (inr (inl mark)))
mark_is_good fields mark BadTask stands = marks_no_ask fields mark stands.form
mark_is_good fields mark BadNumber (inl h) = marks_no_change fields mark h.0
mark_is_good fields mark BadNumber (inr (inl h)) = marks_no_ask fields mark h.0
mark_is_good fields mark BadNumber (inr (inr h)) = mark_no_use fields h.0 mark
mark_is_good fields mark BadQuery stands = marks_no_ask fields mark stands.form
mark_is_good fields mark OpenGroup stands = stands
mark_is_good fields mark GroupTooLong stands = stands
mark_is_good fields mark EmptyGroup stands = stands
mark_is_good fields mark BadFramework stands = stands

pub bad_begin : (argument : List ℕ) (more : List (List ℕ))
    → IsFirstCause (StandsOnCommand (codes "begin" ∷ argument ∷ more)) BadCommand
bad_begin argument more = bad_command (codes "begin" ∷ argument ∷ more)
    (λ form. begin_is_no_change form.change
    (first_same (change_name form.change) (codes "begin") form.arguments (argument ∷ more) (sym form.fields_are)))
    (λ form. begin_is_no_ask
    (first_same (codes "ask") (codes "begin") (form.task ∷ form.arguments) (argument ∷ more) (sym form.fields_are)))
    (too_long argument more)
    (λ form. use_is_no_begin
    (first_same (codes "begin") (codes "use") (argument ∷ more) form.arguments form.fields_are))
  where
    too_long : (argument : List ℕ) (more : List (List ℕ)) → HaveMarkForm (codes "begin" ∷ argument ∷ more) → ⊥
    too_long argument more (inl e) = let long = ap length e in absurd (omega (arith, long))
    too_long argument more (inr e) = let long = ap length e in absurd (omega (arith, long))

pub bad_end : (argument : List ℕ) (more : List (List ℕ))
    → IsFirstCause (StandsOnCommand (codes "end" ∷ argument ∷ more)) BadCommand
bad_end argument more = bad_command (codes "end" ∷ argument ∷ more)
    (λ form. end_is_no_change form.change
    (first_same (change_name form.change) (codes "end") form.arguments (argument ∷ more) (sym form.fields_are)))
    (λ form. end_is_no_ask
    (first_same (codes "ask") (codes "end") (form.task ∷ form.arguments) (argument ∷ more) (sym form.fields_are)))
    (too_long argument more)
    (λ form. use_is_no_end
    (first_same (codes "end") (codes "use") (argument ∷ more) form.arguments form.fields_are))
  where
    too_long : (argument : List ℕ) (more : List (List ℕ)) → HaveMarkForm (codes "end" ∷ argument ∷ more) → ⊥
    too_long argument more (inl e) = let long = ap length e in absurd (omega (arith, long))
    too_long argument more (inr e) = let long = ap length e in absurd (omega (arith, long))

-- ---- which framework

use_arguments : (arguments : List (List ℕ)) (form : HaveUseForm (codes "use" ∷ arguments)) → form.arguments ≡ arguments
use_arguments arguments form =
    sym (others_same (codes "use") (codes "use") arguments form.arguments form.fields_are)

abbrev use_form : (arguments : List (List ℕ)) → length arguments ≡ 1 → HaveUseForm (codes "use" ∷ arguments)
use_form arguments one = record { arguments = arguments; fields_are = refl; one = one }

-- no unknown task is asked
use_known : (fields : List (List ℕ)) → HaveUseForm fields → HaveUnknownTask fields → ⊥
use_known fields one h = ask_no_use fields one h.form

pub bad_use : (arguments : List (List ℕ)) → (length arguments ≡ 1 → ⊥)
    → IsFirstCause (StandsOnCommand (codes "use" ∷ arguments)) BadCommand
bad_use arguments many = bad_command (codes "use" ∷ arguments)
    (λ form. use_is_no_change form.change
    (first_same (change_name form.change) (codes "use") form.arguments arguments (sym form.fields_are)))
    (λ form. use_is_no_ask
    (first_same (codes "ask") (codes "use") (form.task ∷ form.arguments) arguments (sym form.fields_are)))
    (no_mark arguments)
    (λ form. many (subst (λ xs. length xs ≡ 1) (use_arguments arguments form) form.one))
  where
    no_mark : (arguments : List (List ℕ)) → HaveMarkForm (codes "use" ∷ arguments) → ⊥
    no_mark arguments (inl e) = use_is_no_begin (sym (first_same (codes "use") (codes "begin") arguments [] e))
    no_mark arguments (inr e) = use_is_no_end (sym (first_same (codes "use") (codes "end") arguments [] e))

pub bad_use_number : (arguments : List (List ℕ)) → length arguments ≡ 1 → HaveNoNumber arguments
    → IsFirstCause (StandsOnCommand (codes "use" ∷ arguments)) BadNumber
bad_use_number arguments one none =
    let form = use_form arguments one in
    record {
      stands = inr (inr (form, none));
      first = from_number (codes "use" ∷ arguments) (inr (inr (inr form))) (use_known (codes "use" ∷ arguments) form);
    }

pub use_is_good : (arguments : List (List ℕ)) (numbers : List ℕ) → length arguments ≡ 1
    → AllZip IsNumber arguments numbers → (cause : ScriptCause) → StandsOnCommand (codes "use" ∷ arguments) cause → ⊥
use_is_good arguments numbers one spelled cause stands =
    let fields : List (List ℕ) = codes "use" ∷ arguments in
    let form = use_form arguments one in
    let unfit = (from_query fields (inr (inr (inr form))) (use_known fields form) numbers_stand cause stands).0 in
    ask_no_use fields form unfit.form
  where
    numbers_stand : StandsOnCommand (codes "use" ∷ arguments) BadNumber → ⊥
    numbers_stand (inl (other, none)) = change_no_use (codes "use" ∷ arguments) (use_form arguments one) other
    numbers_stand (inr (inl (other, none))) = ask_no_use (codes "use" ∷ arguments) (use_form arguments one) other
    numbers_stand (inr (inr (other, none))) = none_missing arguments numbers spelled
        (subst HaveNoNumber (use_arguments arguments other) none)
