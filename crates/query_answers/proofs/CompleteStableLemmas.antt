-- Answers by stable and complete sets.
use Rattle.std.proofs.Common.{◌≡◌, ⊎_elim, ℕ, Bool, true, false, List, [], ◌∷◌, ◌++◌, refl, ap, sym, subst, ◌∙◌}
use Rattle.std.specs.Prelude.{Contains, IfOk, Option, Some, None, Result, Ok, Err}
use Rattle.std.proofs.lemmas.List.Elements.{Contains-append_cases}
use Rattle.lists.specs.Members.{IsWithin}
use Rattle.lists.proofs.Membership.{Contains-cons_cases, Contains-nil}
use Rattle.plain_lits.specs.declared.halt.Halt.{Halt}
use Rattle.semantics.specs.Frameworks.{Framework}
use Rattle.meaning_atoms.specs.declared.atom.Atom.{Atom}
use Rattle.meaning_atoms.specs.declared.atom.Atom.TheVariants.{Ad, Co, St}
use Rattle.meaning_atoms.specs.declared.atom.AtomLit.{AtomLit}
use Rattle.meaning_atoms.specs.Literals.{affirmed, negated, AsksNothing}
use Rattle.meaning_atoms.specs.Worlds.{world_of, HoldsLit, HoldsOf}
use Rattle.iccma_tasks.specs.declared.task.Problem.{Problem}
use Rattle.iccma_tasks.specs.declared.task.Problem.TheVariants.{Credulous, Sceptical, SomeExtension}
use Rattle.iccma_tasks.specs.declared.task.Semantics.{Semantics}
use Rattle.iccma_tasks.specs.declared.task.Semantics.TheVariants.{Complete, Stable}
use Rattle.iccma_tasks.specs.declared.task.Task.{Task}
use Rattle.iccma_tasks.specs.Tasks.{Asked, FitsTask, task_of}
use Rattle.certificate_claims.specs.declared.row.Row.TheVariants.{Tested}
use Rattle.certificate_claims.specs.Acceptance.{AcceptsAsSaid}
use Rattle.certificate_claims.specs.Claims.{claim_of}
use Rattle.certificate_claims.specs.SetLiterals.{goal, are_in, members}
use Rattle.certificate_claims.proofs.ExtensionFacts.{admissible_world}
use Rattle.certificate_claims.proofs.GoalLists.{asks_cons, asks_nil}
use Rattle.certificate_claims.proofs.KindFacts.{accepts_more, complete_admissible, complete_is, complete_round}
use Rattle.certificate_claims.proofs.KindFacts.{member_is, stable_is}
use Rattle.edit_rules.specs.Fitting.{Fits}
use Rattle.oracle_face.specs.declared.face.Found.{Found}
use Rattle.oracle_face.specs.declared.face.Found.TheVariants.{Set, Refuted}
use Rattle.oracle_face.specs.Goals.{IsMode, MakesTrue, Refutes, RefutesGoals}
use Rattle.oracle_face.specs.Growing.{Grows, IsFound, NoSide}
use Rattle.oracle_face.specs.Logs.{IsKept, OracleLog, SideClause, literals_of}
use Rattle.oracle_face.proofs.Refuting.{goals_excluded, refutes_grown}
use Rattle.goal_lists.specs.Asking.{IsAskable, IsAskableAbout, goals_of, query_goals}
use Rattle.goal_lists.proofs.AskedGoals.{in_form}
use Rattle.goal_lists.proofs.Calls.{admissible_members, found_in, found_mode}
use Rattle.goal_lists.proofs.QueryGoals.{query_mode, query_plain, query_said}
use Rattle.enumerate_block.proofs.StepLemmas.{refuted_none}
use Rattle.enumerate_block.proofs.OneSet.{tests_one}
use Rattle.query_answers.specs.Answers.{AsksAbout, AsksSome, IsAdmissibleIn, IsCompleted, IsEvidence, problem_of}
use Rattle.query_answers.specs.Forms.{evidence_of}
use Rattle.query_answers.proofs.TestLemmas.{asked_of, goals_refuted, refuted_one, tests_none}

-- ---- goals

pub may_ask : (f : Framework) (sides : List SideClause) (mode : Atom) (ins outs : List ℕ) → IsMode mode
    → IsWithin ins (members f) → IsWithin outs (members f) → ((a : ℕ) → Contains ins a → Contains outs a → ⊥)
    → IsAskable f sides mode ins outs [] []
may_ask f sides mode ins outs moded inside outside apart = record {
  moded = moded;
  in_members = inside;
  out_members = outside;
  ranged_members = λ a c. absurd (Contains-nil a c);
  apart = apart;
  asked = λ n c. absurd (Contains-nil n c);
}

-- what is asked about is there
pub may_ask_about : (f : Framework) (sides : List SideClause) (mode : Atom) (asked : Asked) (q : ℕ) → IsMode mode
    → Fits f asked → asked.number ≡ Some q → IsAskableAbout f sides mode q []
may_ask_about f sides mode asked q moded fits is = record {
  moded = moded;
  known = fits.known q is;
  asked = λ n c. absurd (Contains-nil n c);
}

-- ---- what is asked

abbrev asked_with : Task → Option ℕ → Asked
asked_with task number = record { task = task; number = number }

pub asked_about : (f : Framework) (asked : Asked) (problem : Problem) (semantics : Semantics) (q : ℕ)
    → AsksAbout f asked problem semantics q → asked ≡ asked_of problem semantics (Some q)
asked_about f asked problem semantics q h =
    ap (λ (t : Task). asked_with t asked.number) h.same
    ∙ ap (λ (n : Option ℕ). asked_with (task_of problem semantics) n) h.about

no_number : (number : Option ℕ) → FitsTask SomeExtension number → number ≡ None
no_number None fits = refl
no_number (Some q) fits = absurd fits

pub asked_some : (f : Framework) (asked : Asked) (semantics : Semantics) → AsksSome f asked semantics
    → FitsTask asked.task.problem asked.number → asked ≡ asked_of SomeExtension semantics None
asked_some f asked semantics h fits =
    ap (λ (t : Task). asked_with t asked.number) h.same
    ∙ ap (λ (n : Option ℕ). asked_with (task_of SomeExtension semantics) n)
    (no_number asked.number (subst (λ (t : Task). FitsTask t.problem asked.number) h.same fits))

-- ---- stable sets

stable_about : (f : Framework) (log : OracleLog) (q : ℕ) (accepted : Bool) (set : List ℕ) → HoldsOf f set St
    → AcceptsAsSaid f (Some q) (Some accepted) set
    → IsEvidence f (asked_of (problem_of accepted) Stable (Some q)) log (evidence_of (problem_of accepted) (Set set))
stable_about f log q true set ok said = record {
  tests = tests_one f (asked_of Credulous Stable (Some q)) (Tested set) set tt
      ((stable_is f set).1 ok, said) tt tt refl;
  refuted = refuted_none f log;
}
stable_about f log q false set ok said = record {
  tests = tests_one f (asked_of Sceptical Stable (Some q)) (Tested set) set tt
      ((stable_is f set).1 ok, said) tt tt refl;
  refuted = refuted_none f log;
}

none_stable_about : (f : Framework) (log : OracleLog) (q : ℕ) (accepted : Bool) (step : ℕ)
    → RefutesGoals f log (query_goals f St q accepted []) step
    → IsEvidence f (asked_of (problem_of accepted) Stable (Some q)) log
    (evidence_of (problem_of accepted) (Refuted step))
none_stable_about f log q true step refuted =
    let goals : List AtomLit = affirmed St ∷ goal f q ∷ [] in
    record {
      tests = tests_none f (asked_of Credulous Stable (Some q)) goals;
      refuted = refuted_one f log (claim_of goals []) step
          (goals_refuted f log goals step (query_plain f St q true tt) refuted);
    }
none_stable_about f log q false step refuted =
    let goals : List AtomLit = affirmed St ∷ negated (goal f q) ∷ [] in
    record {
      tests = tests_none f (asked_of Sceptical Stable (Some q)) goals;
      refuted = refuted_one f log (claim_of goals []) step
          (goals_refuted f log goals step (query_plain f St q false tt) refuted);
    }

found_about : (f : Framework) (log : OracleLog) (q : ℕ) (accepted : Bool) (found : Found)
    → IsFound f log (query_goals f St q accepted []) found
    → IsEvidence f (asked_of (problem_of accepted) Stable (Some q)) log (evidence_of (problem_of accepted) found)
found_about f log q accepted (Set set) makes =
    stable_about f log q accepted set (query_mode f log St q accepted [] set tt makes)
    (query_said f log St q accepted [] set makes)
found_about f log q accepted (Refuted step) refuted = none_stable_about f log q accepted step refuted

pub stable_evidence : (f : Framework) (log : OracleLog) (asked : Asked) (q : ℕ) (accepted : Bool) (found : Found)
    → AsksAbout f asked (problem_of accepted) Stable q → IsFound f log (query_goals f St q accepted []) found
    → IsEvidence f asked log (evidence_of asked.task.problem found)
stable_evidence f log asked q accepted found h is =
    subst (λ (x : Asked). IsEvidence f x log (evidence_of x.task.problem found))
    (sym (asked_about f asked (problem_of accepted) Stable q h))
    (found_about f log q accepted found is)

some_found : (f : Framework) (log : OracleLog) (found : Found) → IsFound f log (goals_of St [] [] [] []) found
    → IsEvidence f (asked_of SomeExtension Stable None) log (evidence_of SomeExtension found)
some_found f log (Set set) makes = record {
  tests = tests_one f (asked_of SomeExtension Stable None) (Tested set) set tt
      ((stable_is f set).1 (found_mode f log St [] [] [] [] set tt makes), tt) tt tt refl;
  refuted = refuted_none f log;
}
some_found f log (Refuted step) refuted =
    let goals : List AtomLit = affirmed St ∷ [] in
    let plain : AsksNothing goals = asks_cons (affirmed St) [] (λ x. x) asks_nil in
    record {
      tests = tests_none f (asked_of SomeExtension Stable None) goals;
      refuted = refuted_one f log (claim_of goals []) step (goals_refuted f log goals step plain refuted);
    }

pub some_evidence : (f : Framework) (log : OracleLog) (asked : Asked) (found : Found) → AsksSome f asked Stable
    → FitsTask asked.task.problem asked.number → IsFound f log (goals_of St [] [] [] []) found
    → IsEvidence f asked log (evidence_of SomeExtension found)
some_evidence f log asked found h fits is =
    subst (λ (x : Asked). IsEvidence f x log (evidence_of SomeExtension found)) (sym (asked_some f asked Stable h fits))
    (some_found f log found is)

-- ---- complete sets

-- goals for an admissible set that accepts a query, as a claim that a step refutes
pub admissible_refuted : (f : Framework) (log : OracleLog) (q step : ℕ)
    → RefutesGoals f log (query_goals f Ad q true []) step
    → Refutes f log (claim_of (affirmed Ad ∷ goal f q ∷ []) []) step
admissible_refuted f log q step refuted =
    goals_refuted f log (affirmed Ad ∷ goal f q ∷ []) step (query_plain f Ad q true tt) refuted

complete_found : (f : Framework) (q : ℕ) (a b : OracleLog) (found grown : Found) → IsKept f a → Grows NoSide a b
    → IsFound f a (query_goals f Ad q true []) found → IsCompleted f found grown
    → IsEvidence f (asked_of Credulous Complete (Some q)) b (evidence_of Credulous grown)
complete_found f q a b (Set set) (Set c) kept grows makes h = record {
  tests = tests_one f (asked_of Credulous Complete (Some q)) (Tested c) c tt
      (h.0, accepts_more f set c q h.1 (query_said f a Ad q true [] set makes)) tt tt refl;
  refuted = refuted_none f b;
}
complete_found f q a b (Refuted step) (Refuted same) kept grows refuted h =
    let goals : List AtomLit = affirmed Ad ∷ goal f q ∷ [] in
    let claimed = refutes_grown f NoSide a b (claim_of goals []) step kept.form grows
    (admissible_refuted f a q step refuted) in
    subst (λ (n : ℕ). IsEvidence f (asked_of Credulous Complete (Some q)) b (evidence_of Credulous (Refuted n)))
    (sym h)
    (record {
      tests = tests_none f (asked_of Credulous Complete (Some q)) goals;
      refuted = refuted_one f b (claim_of goals []) step claimed;
    })
complete_found f q a b (Set set) (Refuted step) kept grows found h = absurd h
complete_found f q a b (Refuted step) (Set set) kept grows found h = absurd h

pub complete_evidence : (f g : Framework) (asked : Asked) (q : ℕ) (a b : OracleLog) (found grown : Found) → g ≡ f
    → AsksAbout f asked Credulous Complete q → IsKept g a → Grows NoSide a b
    → IsFound f a (query_goals f Ad q true []) found → IsCompleted g found grown
    → IsEvidence f asked b (evidence_of Credulous grown)
complete_evidence f g asked q a b found grown same h kept grows is completed =
    subst (λ (x : Asked). IsEvidence f x b (evidence_of Credulous grown))
    (sym (asked_about f asked Credulous Complete q h))
    (complete_found f q a b found grown (subst (λ (x : Framework). IsKept x a) same kept) grows is
    (subst (λ (x : Framework). IsCompleted x found grown) same completed))

-- ---- a complete set round an admissible one

pub found_admissible : (f g : Framework) (log : OracleLog) (q : ℕ) (found : Found) → g ≡ f
    → IsFound f log (query_goals f Ad q true []) found → IsAdmissibleIn g found
found_admissible f g log q (Set set) same makes =
    subst (λ (x : Framework). HoldsOf x set Ad) (sym same) (query_mode f log Ad q true [] set tt makes)
found_admissible f g log q (Refuted step) same refuted = tt

pub may_ask_round : (f : Framework) (sides : List SideClause) (mode : Atom) (found : Found) (set ins : List ℕ)
    → IsMode mode → ins ≡ set → found ≡ Set set → IsAdmissibleIn f found → IsAskable f sides mode ins [] [] []
may_ask_round f sides mode found set ins moded same is ok =
    may_ask f sides mode ins [] moded
    (subst (λ (xs : List ℕ). IsWithin xs (members f)) (sym same)
    (admissible_members f set (subst (IsAdmissibleIn f) is ok)))
    (λ a c. absurd (Contains-nil a c)) (λ a c d. Contains-nil a d)

-- a complete set that holds the other makes such goals true
complete_makes : (f : Framework) (log : OracleLog) (set c : List ℕ) → HoldsOf f c Co → IsWithin set c
    → MakesTrue f log (goals_of Co set [] [] []) c
complete_makes f log set c ok sub l there =
    let True : AtomLit → Type 0 = λ k. HoldsLit (world_of f c) (literals_of log.sides) k in
    ⊎_elim (λ e. subst True e ok)
    (λ more. ⊎_elim (λ k. let m = in_form set l k in subst True m.2 ((member_is f c m.0).1 (sub m.0 m.1)))
    (λ none. absurd (Contains-nil l none))
    (Contains-append_cases (are_in set) [] l more))
    (Contains-cons_cases (affirmed Co) (are_in set ++ []) l there)

-- each admissible set lies in a complete one, so no step refutes that
never_refuted : (f : Framework) (log : OracleLog) (set : List ℕ) (step : ℕ) → IsKept f log → HoldsOf f set Ad
    → RefutesGoals f log (goals_of Co set [] [] []) step → ⊥
never_refuted f log set step kept ok refuted =
    let round = complete_round f set ok in
    let c = round.0 in
    goals_excluded f log (goals_of Co set [] [] []) step kept.form refuted c
    (admissible_world f c kept.numbered (complete_admissible f c round.1)) (complete_makes f log set c round.1 round.2)

grown_found : (f : Framework) (log : OracleLog) (set : List ℕ) → IsKept f log → HoldsOf f set Ad → (grown : Found)
    → IsFound f log (goals_of Co set [] [] []) grown → IsCompleted f (Set set) grown
grown_found f log set kept ok (Set c) makes = (
  (complete_is f c).1 (found_mode f log Co set [] [] [] c tt makes),
  found_in f log Co set [] [] [] c makes,
)
grown_found f log set kept ok (Refuted step) refuted = never_refuted f log set step kept ok refuted

pub completed_from : (f g : Framework) (log : OracleLog) (found : Found) (set : List ℕ) (r : Result Found Halt) → g ≡ f
    → IsKept g log → found ≡ Set set → IsAdmissibleIn f found → IfOk r (IsFound f log (goals_of Co set [] [] []))
    → IfOk r (IsCompleted f found)
completed_from f g log found set (Ok grown) same kept is ok h =
    subst (λ (x : Found). IsCompleted f x grown) (sym is)
    (grown_found f log set (subst (λ (x : Framework). IsKept x log) same kept) (subst (IsAdmissibleIn f) is ok) grown h)
completed_from f g log found set (Err halt) same kept is ok h = h
