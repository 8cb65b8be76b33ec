-- What the grounded set shows.
use Rattle.std.proofs.Common.{◌≡◌, ℕ, ◌<◌, zero, suc, Bool, true, false, List, [], ◌∷◌, length, refl, sym, ap, subst}
use Rattle.std.proofs.Common.{arith, Option, Some, None, true≢false}
use Rattle.std.specs.Prelude.{◌↔◌, IsTrue, if◌then◌else◌, slice_index_or}
use Rattle.std.proofs.lemmas.List.{get_or_default}
use Rattle.std.proofs.lemmas.List.Elements.{All-nil, All-cons}
use Rattle.semantics.specs.Frameworks.{Framework, IsNumbered}
use Rattle.iccma_tasks.specs.declared.answer.Answer.{Answer}
use Rattle.iccma_tasks.specs.declared.answer.Answer.TheVariants.{Yes, No, Sets}
use Rattle.iccma_tasks.specs.declared.task.Problem.{Problem}
use Rattle.iccma_tasks.specs.declared.task.Problem.TheVariants.{Credulous, Sceptical, SomeExtension, AllExtensions}
use Rattle.iccma_tasks.specs.declared.task.Semantics.{Semantics}
use Rattle.iccma_tasks.specs.declared.task.Semantics.TheVariants.{Complete, Grounded, Preferred, Stable, SemiStable}
use Rattle.iccma_tasks.specs.declared.task.Semantics.TheVariants.{Ideal, Stage}
use Rattle.iccma_tasks.specs.declared.task.Task.{Task}
use Rattle.certificate_claims.specs.declared.certificate.Refutation.{Refutation}
use Rattle.iccma_tasks.specs.Tasks.{Asked, FitsTask, task_of}
use Rattle.iccma_tasks.specs.WrittenText.{HasArguments, IsWritable as IsWritableAnswer}
use Rattle.certificate_claims.specs.Acceptance.{GroundedSays, IsAccepted, PassesTest, Tests}
use Rattle.certificate_claims.specs.Claims.{claims, row_of, sets_of}
use Rattle.certificate_claims.specs.Rights.{Accepts, IsExtension}
use Rattle.certificate_claims.specs.declared.row.Row.TheVariants.{Tested, ByGrounded}
use Rattle.certificate_claims.proofs.ExtensionFacts.{extension_members, grounded_complete}
use Rattle.certificate_claims.proofs.KindFacts.{admissible_members, numbered_members}
use Rattle.certificate_claims.proofs.Agreeing.{agrees_with_right}
use Rattle.certificate_claims.proofs.Right.{accepted_right}
use Rattle.session_log.specs.Ends.{is_by_grounded}
use Rattle.query_answers.specs.Answers.{IsSaid}
use Rattle.oracle_core.specs.Answers.{IsAnswerBy, IsShownBy, answer_by, no_certificate}

-- ---- certificates without claims

module _ (f : Framework) (numbered : IsNumbered f) (asked : Asked) (answer : Answer) where
  -- an answer whose row has no claim is shown by its tests alone
  shown : Tests f asked (row_of f asked answer) (sets_of answer) []
      → claims f (row_of f asked answer) [] ≡ [] → IsWritableAnswer answer
      → IsShownBy f asked answer no_certificate
  shown tests none writable =
      let accepted : IsAccepted f asked answer no_certificate = record {
        tests = tests;
        number = sym (ap length none);
        refutations = λ k lt. absurd (omega arith);
      } in
      let right = accepted_right f asked answer no_certificate numbered accepted in
      record {
        right = right;
        agrees = agrees_with_right f asked answer right;
        accepted = accepted;
        writable_answer = writable;
        writable = record { sets = All-nil HasArguments; steps = All-nil _ };
      }

  -- a set that is tested
  tested : (e g : List ℕ) → row_of f asked answer ≡ Tested g → sets_of answer ≡ e ∷ []
      → PassesTest f asked (Tested g) e → IsWritableAnswer answer → IsShownBy f asked answer no_certificate
  tested e g row sets test writable =
      shown (subst (λ r. Tests f asked r (sets_of answer) []) (sym row)
      (subst (λ shown. Tests f asked (Tested g) shown []) (sym sets) (record {
        shape = tt;
        witnesses = λ k lt. at_first k lt;
        order = tt;
        grounded = tt;
        count = refl;
        each_set = λ k lt. absurd (omega arith);
      }))) (ap (λ r. claims f r []) row) writable
    where
      at_first : (k : ℕ) → k < 1 → PassesTest f asked (Tested g) (slice_index_or (e ∷ []) k [])
      at_first zero lt = test
      at_first (suc k) lt = absurd (omega arith)

  -- what the grounded set says alone
  said : (accepts : Bool) → row_of f asked answer ≡ ByGrounded accepts → sets_of answer ≡ []
      → GroundedSays f accepts asked.number → IsWritableAnswer answer → IsShownBy f asked answer no_certificate
  said accepts row sets says writable =
      shown (subst (λ r. Tests f asked r (sets_of answer) []) (sym row)
      (subst (λ shown. Tests f asked (ByGrounded accepts) shown []) (sym sets) (record {
        shape = tt;
        witnesses = λ k lt. absurd (omega arith);
        order = tt;
        grounded = says;
        count = refl;
        each_set = λ k lt. absurd (omega arith);
      }))) (ap (λ r. claims f r []) row) writable

-- ---- the grounded set of a framework

module _ (f : Framework) (numbered : IsNumbered f) (g : List ℕ) (grounded : IsExtension f Grounded g) where
  complete : IsExtension f Complete g
  complete = grounded_complete f g grounded

  arguments : HasArguments g
  arguments = λ k d lt. numbered_members f numbered (slice_index_or g k d)
      (extension_members f Grounded g numbered grounded (slice_index_or g k d) (k, lt, get_again k d lt))
    where
      get_again : (k : ℕ) (d : ℕ) → k < length g → slice_index_or g k (slice_index_or g k d) ≡ slice_index_or g k d
      get_again k d lt = get_or_default g k (slice_index_or g k d) d lt

  abbrev asked_with : Problem → Semantics → Option ℕ → Asked
  asked_with problem semantics number = record { task = task_of problem semantics; number = number }

  -- the question that the answer of these is shown for
  abbrev Shows : Problem → Semantics → Option ℕ → Answer → Type 0
  Shows problem semantics number answer = IsShownBy f (asked_with problem semantics number) answer no_certificate

  credulous_by : (q : ℕ) (b : Bool) → (IsTrue b ↔ Accepts f g q)
      → Shows Credulous Grounded (Some q) (if b then Yes (Some g) else No None)
  credulous_by q true e =
      tested f numbered (asked_with Credulous Grounded (Some q)) (Yes (Some g)) g g refl refl
      (grounded, e.0 refl) arguments
  credulous_by q false e =
      said f numbered (asked_with Credulous Grounded (Some q)) (No None) false refl refl
      (g, grounded, λ c. true≢false (sym (e.1 c))) tt

  sceptical_grounded : (q : ℕ) (b : Bool) → (IsTrue b ↔ Accepts f g q)
      → Shows Sceptical Grounded (Some q) (if b then Yes None else No (Some g))
  sceptical_grounded q true e =
      said f numbered (asked_with Sceptical Grounded (Some q)) (Yes None) true refl refl (g, grounded, e.0 refl) tt
  sceptical_grounded q false e =
      tested f numbered (asked_with Sceptical Grounded (Some q)) (No (Some g)) g g refl refl
      (grounded, λ c. true≢false (sym (e.1 c))) arguments

  sceptical_complete : (q : ℕ) (b : Bool) → (IsTrue b ↔ Accepts f g q)
      → Shows Sceptical Complete (Some q) (if b then Yes None else No (Some g))
  sceptical_complete q true e =
      said f numbered (asked_with Sceptical Complete (Some q)) (Yes None) true refl refl (g, grounded, e.0 refl) tt
  sceptical_complete q false e =
      tested f numbered (asked_with Sceptical Complete (Some q)) (No (Some g)) g g refl refl
      (complete, λ c. true≢false (sym (e.1 c))) arguments

  one_set : IsWritableAnswer (Sets (g ∷ []))
  one_set = (omega arith, All-cons HasArguments g [] arguments (All-nil HasArguments))

  -- the answer by the grounded set is shown by an empty certificate
  pub shows : (problem : Problem) (semantics : Semantics) (number : Option ℕ) (accepts : Bool)
      → is_by_grounded problem semantics ≡ true → FitsTask problem number → IsSaid f number g accepts
      → Shows problem semantics number (answer_by problem number accepts g)
  shows Credulous Grounded (Some q) accepts is fits said_so = credulous_by q accepts said_so
  shows Sceptical Grounded (Some q) accepts is fits said_so = sceptical_grounded q accepts said_so
  shows Sceptical Complete (Some q) accepts is fits said_so = sceptical_complete q accepts said_so
  shows SomeExtension Grounded None accepts is fits said_so =
      tested f numbered (asked_with SomeExtension Grounded None) (Sets (g ∷ [])) g g refl refl (grounded, tt) one_set
  shows SomeExtension Complete None accepts is fits said_so =
      tested f numbered (asked_with SomeExtension Complete None) (Sets (g ∷ [])) g g refl refl
      (complete, tt) one_set
  shows Credulous semantics None accepts is fits said_so = absurd fits
  shows Sceptical semantics None accepts is fits said_so = absurd fits
  shows SomeExtension semantics (Some q) accepts is fits said_so = absurd fits
  shows AllExtensions semantics number accepts is fits said_so = absurd (true≢false (sym is))
  shows Credulous Complete (Some q) accepts is fits said_so = absurd (true≢false (sym is))
  shows Credulous Preferred (Some q) accepts is fits said_so = absurd (true≢false (sym is))
  shows Credulous Stable (Some q) accepts is fits said_so = absurd (true≢false (sym is))
  shows Credulous SemiStable (Some q) accepts is fits said_so = absurd (true≢false (sym is))
  shows Credulous Ideal (Some q) accepts is fits said_so = absurd (true≢false (sym is))
  shows Credulous Stage (Some q) accepts is fits said_so = absurd (true≢false (sym is))
  shows Sceptical Preferred (Some q) accepts is fits said_so = absurd (true≢false (sym is))
  shows Sceptical Stable (Some q) accepts is fits said_so = absurd (true≢false (sym is))
  shows Sceptical SemiStable (Some q) accepts is fits said_so = absurd (true≢false (sym is))
  shows Sceptical Ideal (Some q) accepts is fits said_so = absurd (true≢false (sym is))
  shows Sceptical Stage (Some q) accepts is fits said_so = absurd (true≢false (sym is))
  shows SomeExtension Preferred None accepts is fits said_so = absurd (true≢false (sym is))
  shows SomeExtension Stable None accepts is fits said_so = absurd (true≢false (sym is))
  shows SomeExtension SemiStable None accepts is fits said_so = absurd (true≢false (sym is))
  shows SomeExtension Ideal None accepts is fits said_so = absurd (true≢false (sym is))
  shows SomeExtension Stage None accepts is fits said_so = absurd (true≢false (sym is))

-- the answer to such a problem about a number, where the grounded set accepts it or doesn't
pub answer_said : (f : Framework) (problem kind : Problem) (number : Option ℕ) (q : ℕ) (g : List ℕ) (accepts : Bool)
    (answer : Answer) → problem ≡ kind → number ≡ Some q → (IsTrue accepts ↔ Accepts f g q)
    → answer ≡ answer_by kind (Some q) accepts g → IsAnswerBy f problem number g answer
answer_said f problem kind number q g accepts answer of_problem of_number test is =
    subst (λ (n : Option ℕ). IsAnswerBy f problem n g answer) (sym of_number)
    (subst (λ (p : Problem). IsAnswerBy f p (Some q) g answer) (sym of_problem)
    (record { accepts = accepts; said = test; same = is }))

-- the answer by the grounded set, for a query that the grounded set answers
pub shown_for : (f : Framework) (asked : Asked) (task : Task) (number : Option ℕ) (g : List ℕ) (answer : Answer)
    (sets : List (List ℕ)) (refutations : List Refutation) → IsNumbered f → IsExtension f Grounded g
    → task ≡ asked.task → number ≡ asked.number → is_by_grounded task.problem task.semantics ≡ true
    → FitsTask asked.task.problem asked.number → IsAnswerBy f task.problem number g answer → sets ≡ []
    → refutations ≡ [] → IsShownBy f asked answer (record { sets = sets; refutations = refutations })
shown_for f asked task number g answer sets refutations numbered grounded of_task of_number by fits answers no_sets
    no_refutations =
    let is_by : is_by_grounded asked.task.problem asked.task.semantics ≡ true =
    subst (λ (t : Task). is_by_grounded t.problem t.semantics ≡ true) of_task by in
    let asked_answer : IsAnswerBy f asked.task.problem asked.number g answer =
    subst (λ (n : Option ℕ). IsAnswerBy f asked.task.problem n g answer) of_number
    (subst (λ (t : Task). IsAnswerBy f t.problem number g answer) of_task answers) in
    let h = shows f numbered g grounded asked.task.problem asked.task.semantics asked.number asked_answer.accepts is_by
    fits asked_answer.said in
    subst (λ s. IsShownBy f asked answer (record { sets = s; refutations = refutations })) (sym no_sets)
    (subst (λ r. IsShownBy f asked answer (record { sets = []; refutations = r })) (sym no_refutations)
    (subst (λ a. IsShownBy f asked a no_certificate) (sym asked_answer.same) h))
