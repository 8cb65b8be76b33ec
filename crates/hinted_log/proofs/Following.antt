-- Each step of a proof follows from what it reaches.
use Rattle.std.proofs.Common.{◌≡◌, ◌≢◌, ℕ, zero, suc, ◌<◌, ◌≤◌, ◌-◌, List, [], ◌∷◌, length, length-take}
use Rattle.std.proofs.Common.{get_or, arith, ap, sym, ◌∙◌, refl, inl, inr, ⊎_elim, Ok, take, drop, Bool, true}
use Rattle.std.proofs.Common.{false, not}
use Rattle.std.specs.Prelude.{Contains, ◌⊎◌}
use Rattle.std.proofs.lemmas.List.{get_or-take, take_all, take-append-drop}
use Rattle.std.proofs.lemmas.List.Elements.{Contains-append_left}
use Rattle.lists.proofs.Membership.{Contains-nil}
use Rattle.plain_lits.specs.declared.lit.Lit.{Lit}
use Rattle.plain_lits.specs.Literals.{negation}
use Rattle.plain_lits.specs.HintCheck.{Checks, clause_at, IsValuation}
use Rattle.plain_lits.proofs.HintCheckLemmas.{taken_sound}
use Rattle.hinted_log.specs.declared.step_kind.StepKind.{StepKind}
use Rattle.hinted_log.specs.declared.step_kind.StepKind.TheVariants.{Axiom, Side, Derived}
use Rattle.hinted_log.specs.Logs.{Step, no_step, clauses_of, step_at, IsGiven, IsProof, Reaches, itself}
use Rattle.hinted_log.specs.Logs.{by_hint, valuation_of, IsTrueUnder}
use Rattle.hinted_log.specs.Logs.{IsStepOf}
use Rattle.hinted_log.specs.Follows.{FollowsFromHints, StepsFollow}
use Rattle.lists.proofs.TruthValues.{not_not}

signed_reading : (truth : ℕ → Bool) (v : ℕ) (p : Bool)
    → valuation_of truth (negation (record { var = v; positive = p }))
    ≡ not (valuation_of truth (record { var = v; positive = p }))
signed_reading truth v true = refl
signed_reading truth v false = sym (not_not (truth v))

-- a truth value for each variable reads a literal and its negation as one of each
pub reads_both : (truth : ℕ → Bool) → IsValuation negation (valuation_of truth)
reads_both truth l = signed_reading truth l.var l.positive

-- a clause by its step
pub clause_of_step : (steps : List Step) (k : ℕ)
    → get_or (clauses_of steps) k [] ≡ (get_or steps k no_step).clause
clause_of_step [] k = refl
clause_of_step (s ∷ steps) zero = refl
clause_of_step (s ∷ steps) (suc k) = clause_of_step steps k

pub length-clauses_of : (steps : List Step) → length (clauses_of steps) ≡ length steps
length-clauses_of [] = refl
length-clauses_of (s ∷ steps) = ap suc (length-clauses_of steps)

cases_kind : (kind : StepKind) → (kind ≡ Derived) ⊎ (kind ≢ Derived)
cases_kind Axiom = inr (λ e. let bad : Axiom ≡ Derived = e in cc)
cases_kind Side = inr (λ e. let bad : Side ≡ Derived = e in cc)
cases_kind Derived = inl refl

-- a derived step's clause follows from those of its hints, and these are before it
given_follows : (before : List Step) (step : Step) (kind : StepKind) → kind ≡ Derived → IsGiven before step kind
    → (truth : ℕ → Bool)
    → ((hint : ℕ) → Contains step.hints hint → IsTrueUnder truth (clause_at (clauses_of before) hint))
    → IsTrueUnder truth step.clause
given_follows before step Axiom e h truth all = cc
given_follows before step Side e h truth all = cc
given_follows before step Derived e h truth all =
    let sound = taken_sound negation (clauses_of before) step.clause step.hints (length step.hints) h in
    sound.follows (valuation_of truth) (reads_both truth)
    (λ hint c. all hint (rw (take_all (length step.hints) step.hints (omega arith)) at c))

given_hints : (before : List Step) (step : Step) (kind : StepKind) → IsGiven before step kind → (hint : ℕ)
    → Contains step.hints hint → (0 < hint) × (hint ≤ length before)
given_hints before step Axiom h hint c = absurd (Contains-nil hint (rw h at c))
given_hints before step Side h hint c = absurd (Contains-nil hint (rw h at c))
given_hints before step Derived h hint c =
    let sound = taken_sound negation (clauses_of before) step.clause step.hints (length step.hints) h in
    let named = sound.named hint (rw (take_all (length step.hints) step.hints (omega arith)) c) in
    let low = named.from_one in
    let high = named.within in
    (low, omega (arith, length-clauses_of before))

pub hint_before : (steps : List Step) → IsProof steps → (number hint : ℕ) → IsStepOf steps number
    → Contains (step_at steps number).hints hint → (0 < hint) × (hint < number)
hint_before steps h number hint s c =
    let low = s.from_one in
    let high = s.within in
    let g = given_hints (take (number - 1) steps) (step_at steps number) (step_at steps number).kind
    (h.each (number - 1) (omega arith)) hint c in
    let pos = g.0 in
    let below = g.1 in
    (pos, omega (arith, length-take (number - 1) steps))

-- the clause of an earlier step, among the steps before a later one
earlier_clause : (steps : List Step) (number hint : ℕ) → 0 < hint → hint < number
    → clause_at (clauses_of (take (number - 1) steps)) hint ≡ (step_at steps hint).clause
earlier_clause steps number hint pos lt = clause_of_step (take (number - 1) steps) (hint - 1)
    ∙ ap (λ (s : Step). s.clause) (get_or-take (number - 1) steps (hint - 1) no_step (omega arith))

follows_fuel : (steps : List Step) → IsProof steps → (truth : ℕ → Bool) → (fuel number : ℕ) → number ≤ fuel
    → IsStepOf steps number
    → ((given : ℕ) → Reaches steps number given → (step_at steps given).kind ≢ Derived
    → IsTrueUnder truth (step_at steps given).clause)
    → IsTrueUnder truth (step_at steps number).clause
follows_fuel steps h truth zero number le s all = let low = s.from_one in absurd (omega arith)
follows_fuel steps h truth (suc fuel) number le s all =
    let low = s.from_one in
    let high = s.within in
    ⊎_elim
    (λ derived.
    given_follows (take (number - 1) steps) (step_at steps number) (step_at steps number).kind derived
    (h.each (number - 1) (omega arith)) truth
    (λ hint c.
    let b = hint_before steps h number hint s c in
    let pos = b.0 in
    let lt = b.1 in
    rw (earlier_clause steps number hint b.0 b.1) (follows_fuel steps h truth fuel hint (omega arith)
    (record { from_one = b.0; within = omega arith })
    (λ given r ne. all given (by_hint number hint given c r) ne))))
    (λ ne. all number (itself number) ne)
    (cases_kind (step_at steps number).kind)

reach_earlier : (steps : List Step) → IsProof steps → {number reached : ℕ} → Reaches steps number reached
    → IsStepOf steps number → IsStepOf steps reached × (reached ≤ number)
reach_earlier steps h (itself number) s = (s, omega arith)
reach_earlier steps h (by_hint number hint reached c r) s =
    let b = hint_before steps h number hint s c in
    let high = s.within in
    let lt = b.1 in
    let rest = reach_earlier steps h r (record { from_one = b.0; within = omega arith }) in
    let le = rest.1 in
    (rest.0, omega arith)

pub all_follow : (steps : List Step) → IsProof steps → StepsFollow steps
all_follow steps h = record {
  from_reached = λ number s truth all. follows_fuel steps h truth number number (omega arith) s all;
  earlier = λ number reached s r. reach_earlier steps h r s;
  from_given = λ truth all number s. follows_fuel steps h truth number number (omega arith) s
      (λ given r ne. all given (reach_earlier steps h r s).0 ne);
}

-- a clause that the check takes follows from the clauses of its hints
pub taken_from_hints : (steps : List Step) (clause : List Lit) (hints : List ℕ) (used : ℕ)
    → Checks negation (clauses_of steps) clause hints (Ok used) → FollowsFromHints steps hints clause
taken_from_hints steps clause hints used w truth all =
    let sound = taken_sound negation (clauses_of steps) clause hints used w in
    sound.follows (valuation_of truth) (reads_both truth)
    (λ hint c. rw (clause_of_step steps (hint - 1))
    (all hint (rw (take-append-drop used hints) at (Contains-append_left (take used hints) (drop used hints) hint
    c))))
