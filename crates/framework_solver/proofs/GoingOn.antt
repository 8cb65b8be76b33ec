-- What a call of the solver adds is steps of the session.
use Rattle.std.proofs.Common.{◌≡◌, ◌∙◌, ⊎_elim, ℕ, ◌+◌, Bool, true, true≢false, refl, List, [], ◌∷◌, ◌++◌, length, ap}
use Rattle.std.proofs.Common.{arith, sym, subst, inl}
use Rattle.std.specs.Prelude.{◌⊎◌, ◌&&◌, cond, count_by, None, Option, Result, Some, Ok, Err, IsErr, IsErrAnd}
use Rattle.std.proofs.lemmas.Bool.{false≢true}
use Rattle.lists.proofs.Counts.{count_by-cons}
use Rattle.plain_lits.specs.declared.halt.Halt.{Halt}
use Rattle.plain_lits.specs.declared.halt.Halt.TheVariants.{Spent, LogFull, Memory}
use Rattle.plain_lits.specs.Units.{Units}
use Rattle.semantics.specs.Frameworks.{Framework, IsNumbered}
use Rattle.meaning_atoms.specs.declared.axiom.AxiomName.{AxiomName}
use Rattle.certificate_claims.specs.Refutations.{IsAxiomOf, axiom_clause}
use Rattle.oracle_face.specs.declared.entry.Entry.{Entry}
use Rattle.oracle_face.specs.declared.face.Pending.{Pending}
use Rattle.oracle_face.specs.declared.face.Pending.TheVariants.{Learned, Loop, Side}
use Rattle.oracle_face.specs.Growing.{HasRun, NoSide, UnlessMemory, halt_of}
use Rattle.oracle_face.specs.Logs.{OracleLog, LogStep, IsNew, IsNumberOf, by_axiom, by_hints, by_side, is_loop, is_unit}
use Rattle.oracle_face.specs.Logs.{step_at, units_of, working}
use Rattle.oracle_face.proofs.GrowingLemmas.{unless_then}
use Rattle.session_log.specs.Ends.{IsTakenByNone, LoopInHand}
use Rattle.session_log.specs.Steps.{LearnsClauses, nothing as none_learned, one_more as one_learned, own_step}
use Rattle.session_log.proofs.AxiomLemmas.{needed_no_loop}
use Rattle.session_log.proofs.GivenSteps.{gains_one}
use Rattle.session_log.specs.OwnSteps.{IsCalledOn, IsWanted, OwnStep, keeps_side, learns_axiom, learns_clause, nothing}
use Rattle.session_log.specs.OwnSteps.{one_more}
use Rattle.session_log.specs.OwnSteps.{takes_entry}
use Rattle.atom_solver.specs.States.{AddsAxiom, AtomState, IsNoLoop, TakesSideOf}
use Rattle.framework_solver.specs.Stepping.{EndsInHand, GoesOnBySteps}
use Rattle.framework_solver.specs.SteppingLaws.{goes_on_joined, goes_on_none, loops_one}
use Rattle.framework_solver.specs.Updating.{AddsNeeded, GainsNeeded, TakesNeeded}
use Rattle.framework_solver.proofs.KindLemmas.{needed_axiom}

same_axiom : (a b : AxiomName) → by_axiom a ≡ by_axiom b → a ≡ b
same_axiom a b e = cc

side_no_axiom : (n : ℕ) (name : AxiomName) → by_side n ≡ by_axiom name → ⊥
side_no_axiom n name e = cc

hints_no_axiom : (hints : List ℕ) (name : AxiomName) → by_hints hints ≡ by_axiom name → ⊥
hints_no_axiom hints name e = cc

-- ---- one step

one_step : (f : Framework) (own : ℕ) (given : List Entry) (a b : OracleLog) (step : OwnStep f own given a b)
    → ((name : AxiomName) → (gains_one f own given a b step).0.source ≡ by_axiom name → is_loop name ≡ true
    → IsTakenByNone a.steps (axiom_clause name)) → GoesOnBySteps f own given a b
one_step f own given a b step serves =
    let gained = gains_one f own given a b step in
    record { steps = one_more a a b (nothing a) step; loops = loops_one a b gained.0 gained.1 serves }

-- ---- axioms that the framework needs, for which no entry has to be given

one_needed : (f : Framework) (own : ℕ) (name : AxiomName) (a b : OracleLog) → IsNumbered f → TakesNeeded f name a b
    → GoesOnBySteps f own [] a b
one_needed f own name a b numbered takes =
    let no_loop = needed_no_loop f name takes.needed in
    one_step f own [] a b (learns_axiom name takes.clause (record {
      of_kind = needed_axiom f numbered name takes.needed;
      once = takes.once;
      called = subst (IsWanted (IsCalledOn f []) a name) (sym no_loop) (inl takes.needed);
      takes = takes.takes;
    }))
    (λ other source loop.
    absurd (true≢false (sym loop ∙ (ap is_loop (sym (same_axiom name other source)) ∙ no_loop))))

needed_go_on : (f : Framework) (own : ℕ) (names : List AxiomName) (a b : OracleLog) → IsNumbered f
    → AddsNeeded f names a b → GoesOnBySteps f own [] a b
needed_go_on f own [] a b numbered adds =
    subst (GoesOnBySteps f own [] a) (sym adds) (goes_on_none f own [] a)
needed_go_on f own (name ∷ names) a b numbered adds =
    goes_on_joined f own [] a adds.0 b (one_needed f own name a adds.0 numbered adds.1)
    (needed_go_on f own names adds.0 b numbered adds.2)

pub gains_go_on : (f : Framework) (own : ℕ) (a b : OracleLog) → IsNumbered f → GainsNeeded f a b
    → GoesOnBySteps f own [] a b
gains_go_on f own a b numbered gains = needed_go_on f own gains.names a b numbered gains.adds

-- ---- clauses that are learned

pub learned_go_on : (f : Framework) (own : ℕ) (a b : OracleLog) → LearnsClauses a b → GoesOnBySteps f own [] a b
learned_go_on f own a b (none_learned _) = goes_on_none f own [] a
learned_go_on f own a b (one_learned _ mid _ clause hints closing before last) =
    goes_on_joined f own [] a mid b (learned_go_on f own a mid before)
    (one_step f own [] mid b (learns_clause clause hints closing last)
    (λ name source loop. absurd (hints_no_axiom hints name source)))

pub search_goes_on : (f : Framework) (a b : OracleLog) (halt : Option Halt) → UnlessMemory halt (LearnsClauses a b)
    → UnlessMemory halt ((own : ℕ) → GoesOnBySteps f own [] a b)
search_goes_on f a b halt learns =
    unless_then (LearnsClauses a b) ((own : ℕ) → GoesOnBySteps f own [] a b) (λ h own. learned_go_on f own a b h) halt
    learns

-- ---- side clauses

pub side_goes_on : (f : Framework) (own : ℕ) (side : List _) (from : List ℕ) (a b : OracleLog)
    → (b ≡ a) ⊎ TakesSideOf side from a b → GoesOnBySteps f own [] a b
side_goes_on f own side from a b keeps =
    ⊎_elim (λ same. subst (GoesOnBySteps f own [] a) (sym same) (goes_on_none f own [] a))
    (λ (takes : TakesSideOf side from a b).
    one_step f own [] a b (keeps_side takes.literals from takes.clause takes.takes)
    (λ name source loop. absurd (side_no_axiom (length a.sides + 1) name source)))
    keeps

-- ---- loop clauses

-- no step is a loop clause that is new to what searches use, since each axiom is in use
pub loop_goes_on : (f : Framework) (own : ℕ) (name : AxiomName) (a b : AtomState) → IsAxiomOf f name
    → is_loop name ≡ true → IsNew (working a.log.steps) (axiom_clause name)
    → ((number : ℕ) → IsNumberOf a.log.steps number → (step_at a.log.steps number).source ≡ by_axiom name → ⊥)
    → IsTakenByNone a.log.steps (axiom_clause name) → AddsAxiom name a b → GoesOnBySteps f own [] a.log b.log
loop_goes_on f own name a b of_kind loop fresh once by_none adds =
    one_step f own [] a.log b.log (learns_axiom name adds.clause (record {
      of_kind = of_kind;
      once = once;
      called = subst (IsWanted (IsCalledOn f []) a.log name) (sym loop) fresh;
      takes = adds.takes;
    }))
    (λ other source is. subst (λ n. IsTakenByNone a.log.steps (axiom_clause n)) (same_axiom name other source) by_none)

-- ---- entries

count_more : (p : LogStep → Bool) (old : List LogStep) (step : LogStep)
    → count_by p (old ++ step ∷ []) ≡ count_by p old + cond (p step) 1 0
count_more p [] step = count_by-cons p step [] ∙ plus_none (cond (p step) 1 0)
  where
    plus_none : (n : ℕ) → n + 0 ≡ 0 + n
    plus_none n = omega arith
count_more p (s ∷ more) step =
    let n = cond (p s) 1 0 in
    let k = cond (p step) 1 0 in
    count_by-cons p s (more ++ step ∷ [])
    ∙ (ap (λ m. n + m) (count_more p more step) ∙ (moved n (count_by p more) k
    ∙ ap (λ m. m + k) (sym (count_by-cons p s more))))
  where
    moved : (n m k : ℕ) → n + (m + k) ≡ (n + m) + k
    moved n m k = omega arith

-- a loop clause of one's own is a unit
loop_counts : (name : AxiomName) (clause : List _) (a b : OracleLog) → is_loop name ≡ true
    → b.steps ≡ a.steps ++ own_step clause (by_axiom name) ∷ [] → units_of b ≡ units_of a → ⊥
loop_counts name clause a b loop is same =
    let step = own_step clause (by_axiom name) in
    let unit : is_unit step ≡ true = ap (λ (x : Bool). x && true) loop in
    let one : ◌≡◌ {A = ℕ} (cond (is_unit step) 1 0) 1 = ap (λ (x : Bool). cond x 1 0) unit in
    let more : units_of b ≡ units_of a + cond (is_unit step) 1 0 =
    ap (λ steps. count_by is_unit steps) is ∙ count_more is_unit a.steps step in
    omega (arith, one, more, same)

entry_serves : (f : Framework) (own : ℕ) (given : List Entry) (a b : OracleLog) (step : OwnStep f own given a b)
    → units_of b ≡ units_of a → (name : AxiomName) → (gains_one f own given a b step).0.source ≡ by_axiom name
    → is_loop name ≡ true
    → IsTakenByNone a.steps (axiom_clause name)
entry_serves f own given a b (learns_axiom name clause learns) same other source loop =
    absurd (loop_counts name clause a b (ap is_loop (same_axiom name other source) ∙ loop) learns.takes.gains.steps
    same)
entry_serves f own given a b (learns_clause clause hints closing learns) same other source loop =
    absurd (hints_no_axiom hints other source)
entry_serves f own given a b (keeps_side literals set clause takes) same other source loop =
    absurd (side_no_axiom (length a.sides + 1) other source)
entry_serves f own given a b (takes_entry entry was may takes) same other source loop =
    absurd (hints_no_axiom takes.hints other source)

pub entry_goes_on : (f : Framework) (own : ℕ) (given : List Entry) (a b : OracleLog) → units_of b ≡ units_of a
    → (b ≡ a) ⊎ OwnStep f own given a b → GoesOnBySteps f own given a b
entry_goes_on f own given a b same went =
    ⊎_elim (λ is. subst (GoesOnBySteps f own given a) (sym is) (goes_on_none f own given a))
    (λ (step : OwnStep f own given a b). one_step f own given a b step (entry_serves f own given a b step same)) went

-- ---- the clause in hand

-- a halt that is handed on
pub handed_on : {T : Type 0} (P : Option Halt → Type 0) (r : Result T Halt) (halt : Halt)
    → IsErr r × IsErrAnd r (λ x. x ≡ halt) → P (Some halt) → P (halt_of r)
handed_on P (Ok value) halt h p = absurd (false≢true h.0)
handed_on P (Err x) halt h p = subst (λ y. P (Some y)) (sym h.1) p

no_loop_in_hand : (log : OracleLog) (pending : Option Pending) → IsNoLoop pending → LoopInHand log pending
no_loop_in_hand log None is = tt
no_loop_in_hand log (Some (Side literals set)) is = tt
no_loop_in_hand log (Some (Learned clause hints)) is = tt
no_loop_in_hand log (Some (Loop name)) is = absurd is

-- a search, or a side clause
pub ends_without_loop : {T : Type 0} (log : OracleLog) (pending : Option Pending) (r : Result T Halt)
    → ((count : ℕ) → r ≡ Err (Spent count) → IsNoLoop pending) → EndsInHand (halt_of r) log pending
ends_without_loop log pending (Ok value) is = tt
ends_without_loop log pending (Err (Spent count)) is = no_loop_in_hand log pending (is count refl)
ends_without_loop log pending (Err LogFull) is = tt
ends_without_loop log pending (Err Memory) is = tt

-- a loop clause that didn't come
pub ends_with_loop : {T : Type 0} (a b : AtomState) (name : AxiomName) (halt : Halt) (r : Result T Halt)
    → IsErr r × IsErrAnd r (λ x. x ≡ halt) → IsTakenByNone a.log.steps (axiom_clause name) → b.log ≡ a.log
    → ((count : ℕ) → halt ≡ Spent count → b.pending ≡ Some (Loop name)) → EndsInHand (halt_of r) b.log b.pending
ends_with_loop a b name halt r handed by_none same is =
    handed_on (λ h. EndsInHand h b.log b.pending) r halt handed (go halt is)
  where
    go : (x : Halt) → ((count : ℕ) → x ≡ Spent count → b.pending ≡ Some (Loop name))
        → EndsInHand (Some x) b.log b.pending
    go (Spent count) here =
        subst (λ p. LoopInHand b.log p) (sym (here count refl))
        (subst (λ (g : OracleLog). IsTakenByNone g.steps (axiom_clause name)) (sym same) by_none)
    go LogFull here = tt
    go Memory here = tt

-- a call that spends nothing is halted by no budget
pub none_in_hand : (f : Framework) (a b : OracleLog) (pending : Option Pending) (halt : Halt)
    → ((units : Units) → HasRun NoSide 0 f a b pending units units (Some halt)) → EndsInHand (Some halt) b pending
none_in_hand f a b pending (Spent count) run =
    let low = (run (record { limit = 0; used = 0 })).stop.is_limit in
    let high = (run (record { limit = 1; used = 0 })).stop.is_limit in
    absurd (omega (arith, low, high))
none_in_hand f a b pending LogFull run = tt
none_in_hand f a b pending Memory run = tt
