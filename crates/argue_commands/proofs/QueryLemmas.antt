-- The query of a task's name and a number's text.
use Rattle.std.proofs.Common.{◌≡◌, ◌∙◌, ◌&&◌, ℕ, ◌<◌, ◌^◌, Bool, true, false, List, [], ◌∷◌, length, get_or, refl, sym, ap, subst, arith, Option, None, Some, inl, inr, nat_le, nat_lt}
use Rattle.std.specs.Prelude.{IfNone, IfSome, IsNone, ◌↔◌}
use Rattle.std.specs.List.{list_all}
use Rattle.std.specs.Str.{bytes_eq}
use Rattle.std.proofs.lemmas.Bool.{and_parts, cases_Bool, cond-true, cond-false}
use Rattle.std.proofs.lemmas.Bool.Decides.{nat_tests}
use Rattle.std.proofs.lemmas.List.{get_or_default}
use Rattle.std.proofs.lemmas.Slice.Eq.{bytes_eq-Decides}
use Rattle.lists.proofs.ListTests.{all_from, all_gives}
use Rattle.num_text.specs.Number.{IsDigit, IsNumber, digits_value}
use Rattle.iccma_tasks.specs.declared.task.Kind.TheVariants.{Af}
use Rattle.iccma_tasks.specs.declared.task.Problem.{Problem}
use Rattle.iccma_tasks.specs.declared.task.Problem.TheVariants.{Credulous, Sceptical, SomeExtension, AllExtensions}
use Rattle.iccma_tasks.specs.declared.task.Semantics.{Semantics}
use Rattle.iccma_tasks.specs.declared.task.Semantics.TheVariants.{Complete, Grounded, Preferred, Stable, SemiStable, Ideal, Stage}
use Rattle.iccma_tasks.specs.declared.task.Task.{Task}
use Rattle.iccma_tasks.specs.Tasks.{Asked, FitsTask, HasTask, IsTask, all_tasks, task_name, task_of}
use Rattle.argue_commands.specs.Queries.{asked_with, first_named, fits_task, number_of, spells_number}

-- ---- tasks

named_at : (p : Problem) (s : Semantics) → HasTask Af p s
    → first_named all_tasks (task_name (task_of p s)) ≡ Some (task_of p s)
unfolding first_named
named_at Credulous Complete is = refl
named_at Credulous Grounded is = refl
named_at Credulous Preferred is = refl
named_at Credulous Stable is = refl
named_at Credulous SemiStable is = refl
named_at Credulous Ideal is = refl
named_at Credulous Stage is = refl
named_at Sceptical Complete is = refl
named_at Sceptical Grounded is = refl
named_at Sceptical Preferred is = refl
named_at Sceptical Stable is = refl
named_at Sceptical SemiStable is = refl
named_at Sceptical Ideal is = refl
named_at Sceptical Stage is = refl
named_at SomeExtension Complete is = refl
named_at SomeExtension Grounded is = refl
named_at SomeExtension Preferred is = refl
named_at SomeExtension Stable is = refl
named_at SomeExtension SemiStable is = refl
named_at SomeExtension Ideal is = refl
named_at SomeExtension Stage is = refl
named_at AllExtensions Complete is = refl
named_at AllExtensions Grounded is = absurd is
named_at AllExtensions Preferred is = refl
named_at AllExtensions Stable is = refl
named_at AllExtensions SemiStable is = refl
named_at AllExtensions Ideal is = absurd is
named_at AllExtensions Stage is = refl

pub task_found : (name : List ℕ) (task : Task) → IsTask task → task_name task ≡ name
    → first_named all_tasks name ≡ Some task
task_found name task is same =
    subst (λ n. first_named all_tasks n ≡ Some task) same (named_at task.problem task.semantics is)

AreTasks : List Task → Type 0
AreTasks [] = Unit {0}
AreTasks (t ∷ ts) = IsTask t × AreTasks ts

none_named : (tasks : List Task) (name : List ℕ) → AreTasks tasks
    → ((task : Task) → IsTask task → task_name task ≡ name → ⊥) → first_named tasks name ≡ None
unfolding first_named AreTasks
none_named [] name are other = refl
none_named (t ∷ ts) name are other = elim (cases_Bool (bytes_eq (task_name t) name)) [
  | inl same ↦ absurd (other t are.0 ((bytes_eq-Decides (task_name t) name).0 same))
  | inr apart ↦ cond-false _ _ _ apart ∙ none_named ts name are.1 other
]

all_are : AreTasks all_tasks
unfolding AreTasks
all_are =
    (tt, (tt, (tt, (tt, (tt, (tt, (tt, (tt, (tt, (tt, (tt, (tt, (tt, (tt, (tt, (tt, (tt, (tt, (tt, (tt, (tt, (tt, (tt, (tt, (tt, (tt, tt))))))))))))))))))))))))))

pub task_unfound : (name : List ℕ) → ((task : Task) → IsTask task → task_name task ≡ name → ⊥)
    → first_named all_tasks name ≡ None
task_unfound name other = none_named all_tasks name all_are other

-- ---- numbers

digit_test : (b : ℕ) → IsDigit b → (nat_le 48 b && nat_le b 57) ≡ true
digit_test b is = let low = is.low in let high = is.high in grind (arith, nat_tests)

digit_from : (b : ℕ) → (nat_le 48 b && nat_le b 57) ≡ true → IsDigit b
digit_from b e =
    let both = and_parts (nat_le 48 b) (nat_le b 57) e in
    let low = both.0 in
    let high = both.1 in
    record { low = grind (arith, nat_tests); high = grind (arith, nat_tests) }

all_true : (a b c : Bool) → a ≡ true → b ≡ true → c ≡ true → (a && b && c) ≡ true
all_true true true true e f g = refl
all_true true true false e f g = g
all_true true false c e f g = f
all_true false b c e f g = e

below_test : (m n : ℕ) → m < n → nat_lt m n ≡ true
below_test m n h = grind (arith, nat_tests)

below_from : (m n : ℕ) → nat_lt m n ≡ true → m < n
below_from m n h = grind (arith, nat_tests)

abbrev is_digit : ℕ → Bool
is_digit byte = nat_le 48 byte && nat_le byte 57

spelled : (text : List ℕ) (n : ℕ) → IsNumber text n → spells_number text ≡ true
spelled text n is =
    let value = is.value in
    all_true (nat_lt 0 (length text)) (list_all is_digit text) (nat_lt (digits_value text) (2 ^ 32))
    (below_test 0 (length text) is.not_empty)
    (all_from is_digit text
    (λ x c. digit_test x (subst IsDigit c.2 (is.digits c.0 x c.1))))
    (below_test (digits_value text) (2 ^ 32) (subst (λ m. m < 2 ^ 32) (sym value) is.fits))

number_from : (text : List ℕ) → spells_number text ≡ true → IsNumber text (digits_value text)
number_from text e =
    let outer = and_parts (nat_lt 0 (length text) && list_all is_digit text) (nat_lt (digits_value text) (2 ^ 32)) e in
    let inner = and_parts (nat_lt 0 (length text)) (list_all is_digit text) outer.0 in
    record {
      not_empty = below_from 0 (length text) inner.0;
      digits = λ k d within. digit_from (get_or text k d)
          (all_gives is_digit text inner.1 (get_or text k d) (k, within, same_at text k d within));
      value = refl;
      fits = below_from (digits_value text) (2 ^ 32) outer.1;
    }
  where
    same_at : (xs : List ℕ) (k d : ℕ) → k < length xs → get_or xs k (get_or xs k d) ≡ get_or xs k d
    same_at xs k d h = get_or_default xs k (get_or xs k d) d h

pub number_found : (text : List ℕ) (r : Option ℕ) → IfSome r (IsNumber text) → IfNone r ((n : ℕ) → ¬ IsNumber text n)
    → r ≡ number_of text
number_found text (Some n) some none =
    ap Some (sym some.value) ∙ sym (cond-true (spells_number text) (Some (digits_value text)) None (spelled text n some))
number_found text None some none = elim (cases_Bool (spells_number text)) [
  | inl spells ↦ absurd (none (digits_value text) (number_from text spells))
  | inr other ↦ sym (cond-false (spells_number text) (Some (digits_value text)) None other)
]

-- ---- queries

fits_from : (p : Problem) (number : Option ℕ) → fits_task p number ≡ true → FitsTask p number
fits_from Credulous (Some n) e = tt
fits_from Credulous None e = cc
fits_from Sceptical (Some n) e = tt
fits_from Sceptical None e = cc
fits_from SomeExtension (Some n) e = cc
fits_from SomeExtension None e = tt
fits_from AllExtensions (Some n) e = cc
fits_from AllExtensions None e = tt

fits_test : (p : Problem) (number : Option ℕ) → FitsTask p number → fits_task p number ≡ true
fits_test Credulous (Some n) h = refl
fits_test Credulous None h = absurd h
fits_test Sceptical (Some n) h = refl
fits_test Sceptical None h = absurd h
fits_test SomeExtension (Some n) h = absurd h
fits_test SomeExtension None h = refl
fits_test AllExtensions (Some n) h = absurd h
fits_test AllExtensions None h = refl

pub query_found : (task : Task) (number : Option ℕ) (r : Option Asked)
    → IfSome r (λ query. query ≡ record { task = task; number = number })
    → (IsNone r ↔ ¬ FitsTask task.problem number) → r ≡ asked_with task number
query_found task number (Some asked) some none = elim (cases_Bool (fits_task task.problem number)) [
  | inl fits ↦ ap Some some ∙ sym (cond-true _ (Some (record { task = task; number = number })) None fits)
  | inr other ↦
      let gone = none.1 (λ fits. let e = sym (fits_test task.problem number fits) ∙ other in cc e) in cc gone
]
query_found task number None some none = elim (cases_Bool (fits_task task.problem number)) [
  | inl fits ↦ absurd (none.0 refl (fits_from task.problem number fits))
  | inr other ↦ sym (cond-false _ (Some (record { task = task; number = number })) None other)
]
