-- What is shown is right, and what is accepted is shown.
use Rattle.std.proofs.Common.{⊎_elim, ℕ, Bool, true, false, List, [], ◌∷◌, Option, Some, None, subst, arith}
use Rattle.iccma_tasks.specs.semantics.specs.declared.mode.Mode.TheVariants.{Cf as OfCf, Ad as OfAd}
use Rattle.iccma_tasks.specs.semantics.specs.Frameworks.{Framework}
use Rattle.aba_axioms.specs.meaning_atoms.specs.declared.atom.Atom.TheVariants.{Ad, St}
use Rattle.aba_axioms.specs.meaning_atoms.specs.Literals.{negated}
use Rattle.aba_axioms.specs.meaning_atoms.specs.Worlds.{HoldsOf, Says}
use Rattle.iccma_tasks.specs.declared.answer.Answer.{Answer}
use Rattle.iccma_tasks.specs.declared.answer.Answer.TheVariants.{Yes, No, Sets}
use Rattle.iccma_tasks.specs.declared.task.Problem.{Problem}
use Rattle.iccma_tasks.specs.declared.task.Problem.TheVariants.{Credulous, Sceptical, SomeExtension, AllExtensions}
use Rattle.iccma_tasks.specs.declared.task.Semantics.{Semantics}
use Rattle.iccma_tasks.specs.declared.task.Semantics.TheVariants.{Complete, Grounded, Preferred, Stable, SemiStable, Ideal, Stage}
use Rattle.certificate_claims.specs.declared.row.Row.{Row}
use Rattle.certificate_claims.specs.Acceptance.{Tests}
use Rattle.certificate_claims.specs.Claims.{claims, row_for, sets_of, shown as shown_row, none_accepts, each_accepts, there_is_none}
use Rattle.certificate_claims.specs.Rights.{Accepts, IsExtension, IsRightOf, IsRightCredulous, IsRightSceptical, IsRightSome, IsRightAll}
use Rattle.certificate_claims.specs.SetLiterals.{goal}
use Rattle.certificate_claims.specs.Laws.{AreExcluded, ShownIsRight, AcceptedIsRight}
use Rattle.certificate_claims.proofs.AfEvidence.{is_widest, none_widest, row_is_own}
use Rattle.certificate_claims.proofs.Evidence.{Shows, asked_of, no_such_set, none_of_mode, is_preferred, is_covered, ideal_found, are_all}
use Rattle.certificate_claims.proofs.ExtensionFacts.{admissible_world, complete_extension_admissible, preferred_admissible, stable_extension_admissible, grounded_complete, grounded_least, ideal_accepts}
use Rattle.certificate_claims.proofs.KindFacts.{stable_is, goal_is, denied_is, goal_asks_nothing, decide_accepts}
use Rattle.certificate_claims.proofs.Refuting.{excluded}

-- ---- a set that is shown

-- it is an extension
shown_is : (f : Framework) (problem : Problem) (semantics : Semantics) (number : Option ℕ) (accepts : Option Bool)
    (e : List ℕ) (sets : List (List ℕ))
    → Shows f (asked_of problem semantics number) (shown_row semantics e accepts) (e ∷ []) sets
    → IsExtension f semantics e
shown_is f problem Complete number accepts e sets h = (h.tests.witnesses 0 (omega arith)).0
shown_is f problem Grounded number accepts e sets h = (h.tests.witnesses 0 (omega arith)).0
shown_is f problem Preferred number accepts e sets h =
    is_preferred f e sets h.numbered (h.tests.witnesses 0 (omega arith)).0 h.none
shown_is f problem Stable number accepts e sets h = (h.tests.witnesses 0 (omega arith)).0
shown_is f problem SemiStable number accepts e sets h =
    is_widest OfAd f h.rows e sets h.numbered (h.tests.witnesses 0 (omega arith)).0 h.none
shown_is f problem Stage number accepts e sets h =
    is_widest OfCf f h.rows e sets h.numbered (h.tests.witnesses 0 (omega arith)).0 h.none
shown_is f problem Ideal number accepts e sets h =
    let i = ideal_found f (asked_of problem Ideal number) (Some e) accepts (e ∷ []) sets h in
    subst (λ (s : List ℕ). IsExtension f Ideal s) i.shown i.is

-- for DC it accepts the query
shown_accepts : (f : Framework) (semantics : Semantics) (q : ℕ) (e : List ℕ) (sets : List (List ℕ))
    → Shows f (asked_of Credulous semantics (Some q)) (shown_row semantics e (Some true)) (e ∷ []) sets
    → Accepts f e q
shown_accepts f Complete q e sets h = (h.tests.witnesses 0 (omega arith)).1
shown_accepts f Grounded q e sets h = (h.tests.witnesses 0 (omega arith)).1
shown_accepts f Preferred q e sets h = (h.tests.witnesses 0 (omega arith)).1
shown_accepts f Stable q e sets h = (h.tests.witnesses 0 (omega arith)).1
shown_accepts f SemiStable q e sets h = (h.tests.witnesses 0 (omega arith)).1
shown_accepts f Stage q e sets h = (h.tests.witnesses 0 (omega arith)).1
shown_accepts f Ideal q e sets h =
    let i = ideal_found f (asked_of Credulous Ideal (Some q)) (Some e) (Some true) (e ∷ []) sets h in
    subst (λ (s : List ℕ). Accepts f s q) i.shown i.accepts_as_said

-- for DS it doesn't
shown_refuses : (f : Framework) (semantics : Semantics) (q : ℕ) (e : List ℕ) (sets : List (List ℕ))
    → Shows f (asked_of Sceptical semantics (Some q)) (shown_row semantics e (Some false)) (e ∷ []) sets
    → Accepts f e q
    → ⊥
shown_refuses f Complete q e sets h = (h.tests.witnesses 0 (omega arith)).1
shown_refuses f Grounded q e sets h = (h.tests.witnesses 0 (omega arith)).1
shown_refuses f Preferred q e sets h = (h.tests.witnesses 0 (omega arith)).1
shown_refuses f Stable q e sets h = (h.tests.witnesses 0 (omega arith)).1
shown_refuses f SemiStable q e sets h = (h.tests.witnesses 0 (omega arith)).1
shown_refuses f Stage q e sets h = (h.tests.witnesses 0 (omega arith)).1
shown_refuses f Ideal q e sets h =
    let i = ideal_found f (asked_of Sceptical Ideal (Some q)) (Some e) (Some false) (e ∷ []) sets h in
    subst (λ (s : List ℕ). Accepts f s q → ⊥) i.shown i.accepts_as_said

-- ---- none and each

none_right : (f : Framework) (semantics : Semantics) (q : ℕ) (shown sets : List (List ℕ))
    → Shows f (asked_of Credulous semantics (Some q)) (none_accepts f semantics q) shown sets
    → (e : List ℕ) → IsExtension f semantics e → Accepts f e q → ⊥
none_right f Complete q shown sets h e is accepts =
    no_such_set f Ad (goal f q) sets (λ x. x) (goal_asks_nothing f q) h.none e
    (admissible_world f e h.numbered (complete_extension_admissible f e is))
    (complete_extension_admissible f e is) ((goal_is f e q).1 accepts)
none_right f Grounded q shown sets h e is accepts =
    let g = h.tests.grounded in g.2 (grounded_least f e g.0 q is (grounded_complete f g.0 g.1) accepts)
none_right f Preferred q shown sets h e is accepts =
    no_such_set f Ad (goal f q) sets (λ x. x) (goal_asks_nothing f q) h.none e
    (admissible_world f e h.numbered (preferred_admissible f e is))
    (preferred_admissible f e is) ((goal_is f e q).1 accepts)
none_right f Stable q shown sets h e is accepts =
    no_such_set f St (goal f q) sets (λ x. x) (goal_asks_nothing f q) h.none e
    (admissible_world f e h.numbered (stable_extension_admissible f e h.numbered is))
    ((stable_is f e).0 is) ((goal_is f e q).1 accepts)
none_right f SemiStable q shown sets h e is accepts =
    none_widest OfAd f h.rows (goal f q) sets h.numbered (goal_asks_nothing f q) h.tests.each_set h.none e is
    ((goal_is f e q).1 accepts)
none_right f Stage q shown sets h e is accepts =
    none_widest OfCf f h.rows (goal f q) sets h.numbered (goal_asks_nothing f q) h.tests.each_set h.none e is
    ((goal_is f e q).1 accepts)
none_right f Ideal q shown sets h e is accepts =
    let i = ideal_found f (asked_of Credulous Ideal (Some q)) None (Some false) shown sets h in
    i.accepts_as_said (ideal_accepts f e i.set q is i.is accepts)

-- what doesn't refuse the query accepts it
accepts_unless : (f : Framework) (e : List ℕ) (q : ℕ)
    → (Says (negated (goal f q)).positive (HoldsOf f e (negated (goal f q)).atom) → ⊥) → Accepts f e q
accepts_unless f e q never =
    ⊎_elim (λ accepts. accepts) (λ refuses. absurd (never ((denied_is f e q).1 refuses))) (decide_accepts f e q)

each_right : (f : Framework) (semantics : Semantics) (q : ℕ) (shown sets : List (List ℕ))
    → Shows f (asked_of Sceptical semantics (Some q)) (each_accepts f semantics q) shown sets
    → (e : List ℕ) → IsExtension f semantics e → Accepts f e q
each_right f Complete q shown sets h e is = let g = h.tests.grounded in grounded_least f g.0 e q g.1 is g.2
each_right f Grounded q shown sets h e is =
    let g = h.tests.grounded in grounded_least f g.0 e q g.1 (grounded_complete f e is) g.2
each_right f Preferred q shown sets h e is = is_covered f q sets h.numbered h.tests.each_set h.none e is
each_right f Stable q shown sets h e is =
    accepts_unless f e q (no_such_set f St (negated (goal f q)) sets (λ x. x) (goal_asks_nothing f q) h.none e
    (admissible_world f e h.numbered (stable_extension_admissible f e h.numbered is)) ((stable_is f e).0 is))
each_right f SemiStable q shown sets h e is =
    accepts_unless f e q (none_widest OfAd f h.rows (negated (goal f q)) sets h.numbered (goal_asks_nothing f q)
    h.tests.each_set h.none e is)
each_right f Stage q shown sets h e is =
    accepts_unless f e q (none_widest OfCf f h.rows (negated (goal f q)) sets h.numbered (goal_asks_nothing f q)
    h.tests.each_set h.none e is)
each_right f Ideal q shown sets h e is =
    let i = ideal_found f (asked_of Sceptical Ideal (Some q)) None (Some true) shown sets h in
    ideal_accepts f i.set e q i.is is i.accepts_as_said

none_exist : (f : Framework) (problem : Problem) (semantics : Semantics) (number : Option ℕ)
    (shown sets : List (List ℕ))
    → Shows f (asked_of problem semantics number) (there_is_none semantics) shown sets
    → (e : List ℕ) → IsExtension f semantics e → ⊥
none_exist f problem Complete number shown sets h = absurd (h.tests.shape)
none_exist f problem Grounded number shown sets h = absurd (h.tests.shape)
none_exist f problem Preferred number shown sets h = absurd (h.tests.shape)
none_exist f problem Stable number shown sets h =
    λ e is. none_of_mode f St sets (λ x. x) h.none e
    (admissible_world f e h.numbered (stable_extension_admissible f e h.numbered is)) ((stable_is f e).0 is)
none_exist f problem SemiStable number shown sets h = absurd (h.tests.shape)
none_exist f problem Stage number shown sets h = absurd (h.tests.shape)
none_exist f problem Ideal number shown sets h = absurd (h.tests.shape)

-- ---- answers

credulous_right : (f : Framework) (semantics : Semantics) (q : ℕ) (answer : Answer) (sets : List (List ℕ))
    → Shows f (asked_of Credulous semantics (Some q)) (row_for f Credulous semantics (Some q) answer)
    (sets_of answer) sets
    → IsRightCredulous f semantics q answer
credulous_right f semantics q (Yes (Some e)) sets h =
    (shown_is f Credulous semantics (Some q) (Some true) e sets h, shown_accepts f semantics q e sets h)
credulous_right f semantics q (No None) sets h = none_right f semantics q [] sets h
credulous_right f semantics q _ sets h = absurd (h.tests.shape)

sceptical_right : (f : Framework) (semantics : Semantics) (q : ℕ) (answer : Answer) (sets : List (List ℕ))
    → Shows f (asked_of Sceptical semantics (Some q)) (row_for f Sceptical semantics (Some q) answer)
    (sets_of answer) sets
    → IsRightSceptical f semantics q answer
sceptical_right f semantics q (Yes None) sets h = each_right f semantics q [] sets h
sceptical_right f semantics q (No (Some e)) sets h =
    (shown_is f Sceptical semantics (Some q) (Some false) e sets h, shown_refuses f semantics q e sets h)
sceptical_right f semantics q _ sets h = absurd (h.tests.shape)

some_right : (f : Framework) (semantics : Semantics) (answer : Answer) (sets : List (List ℕ))
    → Shows f (asked_of SomeExtension semantics None) (row_for f SomeExtension semantics None answer)
    (sets_of answer) sets
    → IsRightSome f semantics answer
some_right f semantics (Sets (e ∷ [])) sets h = shown_is f SomeExtension semantics None None e sets h
some_right f semantics (No None) sets h = none_exist f SomeExtension semantics None [] sets h
some_right f semantics _ sets h = absurd (h.tests.shape)

all_right : (f : Framework) (semantics : Semantics) (answer : Answer) (sets : List (List ℕ))
    → Shows f (asked_of AllExtensions semantics None) (row_for f AllExtensions semantics None answer)
    (sets_of answer) sets
    → IsRightAll f semantics answer
all_right f semantics (Sets (e ∷ more)) sets h = are_all f semantics (e ∷ more) sets h
all_right f semantics (No None) sets h = none_exist f AllExtensions semantics None [] sets h
all_right f semantics _ sets h = absurd (h.tests.shape)

right_of : (f : Framework) (problem : Problem) (semantics : Semantics) (number : Option ℕ) (answer : Answer)
    (sets : List (List ℕ))
    → Shows f (asked_of problem semantics number) (row_for f problem semantics number answer) (sets_of answer) sets
    → IsRightOf f problem semantics number answer
right_of f Credulous semantics (Some q) answer sets h = credulous_right f semantics q answer sets h
right_of f Sceptical semantics (Some q) answer sets h = sceptical_right f semantics q answer sets h
right_of f SomeExtension semantics None answer sets h = some_right f semantics answer sets h
right_of f AllExtensions semantics None answer sets h = all_right f semantics answer sets h
right_of f _ semantics _ answer sets h = absurd (h.tests.shape)

pub shown_right : ShownIsRight
shown_right f asked answer sets numbered tests none =
    let shown = sets_of answer in
    let row = row_for f asked.task.problem asked.task.semantics asked.number answer in
    let own = row_is_own asked.task.semantics f asked row shown sets tests in
    right_of f asked.task.problem asked.task.semantics asked.number answer sets
    (record {
      numbered = numbered;
      rows = own.0;
      tests = subst (λ (r : Row). Tests f asked r shown sets) own.1 tests;
      none = subst (λ (r : Row). AreExcluded f (claims f r sets)) own.1 none;
    })

pub accepted_right : AcceptedIsRight
accepted_right f asked answer certificate numbered accepted =
    shown_right f asked answer certificate.sets numbered accepted.tests
    (λ k lt plain. excluded f _ _ plain (accepted.refutations k (rw accepted.number lt)))
