-- A refutation excludes each set that meets its goals and side clauses.
use Rattle.std.proofs.Common.{◌≡◌, ⊎_elim, ℕ, zero, suc, ◌-◌, ◌<◌, ◌≤◌, Bool, true, false, not, List, [], length, take, refl, ap, sym, subst, ◌∙◌, arith}
use Rattle.std.specs.Prelude.{Contains, slice_index_or, Ok}
use Rattle.std.proofs.lemmas.Bool.{cases_lt}
use Rattle.std.proofs.lemmas.List.{get_or-map, get_or-take, length-map, length-take-le}
use Rattle.std.proofs.lemmas.List.Elements.{Contains-get_or}
use Rattle.lists.proofs.Membership.{Contains-tail}
use Rattle.plain_lits.specs.HintCheck.{Checks, IsTrueClause, IsValuation, clause_at}
use Rattle.plain_lits.proofs.HintCheckLemmas.{taken_sound}
use Rattle.iccma_tasks.specs.semantics.specs.Frameworks.{Framework}
use Rattle.aba_axioms.specs.meaning_atoms.specs.declared.atom.Atom.{Atom}
use Rattle.aba_axioms.specs.meaning_atoms.specs.declared.atom.Atom.TheVariants.{Ask}
use Rattle.aba_axioms.specs.meaning_atoms.specs.declared.atom.AtomLit.{AtomLit}
use Rattle.aba_axioms.specs.meaning_atoms.specs.declared.axiom.AxiomName.{AxiomName}
use Rattle.aba_axioms.specs.meaning_atoms.specs.Literals.{denied, negated, lit_value}
use Rattle.aba_axioms.specs.meaning_atoms.specs.Valuations.{IsValuation as IsWorldValuation}
use Rattle.aba_axioms.specs.meaning_atoms.specs.Worlds.{world_of, IsWorldOf, Holds, HoldsOf, IsTrueAlone, IsTrueBeside}
use Rattle.aba_axioms.specs.meaning_atoms.proofs.Valuations.{world_valuation}
use Rattle.aba_axioms.specs.meaning_atoms.proofs.Clauses.{from_alone, alone_holds, holds_alone, says_moved, read_true, under}
use Rattle.af_axioms.specs.Facts.{IsFactValue}
use Rattle.certificate_claims.specs.declared.certificate.Step.{Step}
use Rattle.certificate_claims.specs.declared.certificate.Step.TheVariants.{Axiom, Side, Derived}
use Rattle.certificate_claims.specs.Refutations.{IsAxiomOf, Claim, IsPlain, axiom_clause, step_clause, step_clauses, no_step, StepHolds, IsNotAsked, IsClosed, IsRefutationOf, MeetsGoals, MeetsSides}
use Rattle.certificate_claims.specs.Laws.{RefutationsExclude}
use Rattle.certificate_claims.proofs.KindFacts.{axiom_valid}
use Rattle.lists.proofs.TruthValues.{not_not}
use Rattle.meaning_atoms.proofs.Clauses.{clash}

-- ---- a literal and its negation have opposite values

opposite_of : (value : Atom → Bool) (atom : Atom) (positive : Bool)
    → lit_value value (negated (record { atom = atom; positive = positive })) ≡ not
    (lit_value value (record { atom = atom; positive = positive }))
opposite_of value atom true = refl
opposite_of value atom false = sym (not_not (value atom))

opposite : (value : Atom → Bool) → IsValuation negated (lit_value value)
opposite value l = opposite_of value l.atom l.positive

-- ---- each step's clause is true

-- a framework, a set that meets the side clauses, and what each literal's value is there
pub record IsMet (f : Framework) (s : List ℕ) (claim : Claim) (value : Atom → Bool) : Type 0 where
  pub world : IsWorldOf f s
  pub plain : IsPlain claim
  pub sides : MeetsSides f s claim.sides
  pub reads : IsWorldValuation (world_of f s) claim.sides value

abbrev IsTrueStep : Claim → (Atom → Bool) → Step → Type 0
IsTrueStep claim value step = IsTrueClause (lit_value value) (step_clause claim.sides step)

true_beside : (f : Framework) (s : List ℕ) (claim : Claim) (value : Atom → Bool) → IsMet f s claim value
    → (clause : List AtomLit)
    → IsTrueBeside (world_of f s) claim.sides clause → IsTrueClause (lit_value value) clause
true_beside f s claim value met clause h = under (world_of f s) claim.sides value met.reads clause h

axiom_true : (f : Framework) (s : List ℕ) (claim : Claim) (value : Atom → Bool) → IsMet f s claim value
    → (name : AxiomName) → IsAxiomOf f name
    → IsTrueClause (lit_value value) (axiom_clause name)
axiom_true f s claim value met name is =
    true_beside f s claim value met (axiom_clause name) (axiom_valid f name is (world_of f s) met.world claim.sides)

side_met : (f : Framework) (s : List ℕ) (claim : Claim) (value : Atom → Bool) → IsMet f s claim value → (n : ℕ) → 1 ≤ n
    → n ≤ length claim.sides → IsTrueAlone (world_of f s) (slice_index_or claim.sides (n - 1) [])
side_met f s claim value met n low high = met.sides _ (Contains-get_or claim.sides (n - 1) [] (omega arith))

side_true : (f : Framework) (s : List ℕ) (claim : Claim) (value : Atom → Bool) → IsMet f s claim value → (n : ℕ) → 1 ≤ n
    → n ≤ length claim.sides → IsTrueStep claim value (Side n)
side_true f s claim value met n low high =
    let side = slice_index_or claim.sides (n - 1) [] in
    let one = Contains-get_or claim.sides (n - 1) [] (omega arith) in
    let t = true_beside f s claim value met side
    (from_alone (world_of f s) claim.sides side (met.plain.sides side one) (side_met f s claim value met n low high)) in
    (t.0, Contains-tail (denied (Ask n)) side t.0 t.1, t.2)

-- the clause that a number names among the clauses of the first k steps
named_clause : (sides : List (List AtomLit)) (steps : List Step) (k n : ℕ) → k ≤ length steps → 0 < n → n ≤ k
    → clause_at (step_clauses sides (take k steps)) n ≡ step_clause sides (slice_index_or steps (n - 1) no_step)
named_clause sides steps k n within low high =
    get_or-map (step_clause sides) (take k steps) (n - 1) no_step [] (omega (arith, length-take-le k steps within))
    ∙ ap (step_clause sides) (get_or-take k steps (n - 1) no_step (omega arith))

derived_true : (claim : Claim) (value : Atom → Bool) (steps : List Step) (k : ℕ) → k ≤ length steps
    → ((j : ℕ) → j < k → IsTrueStep claim value (slice_index_or steps j no_step))
    → (literals : List AtomLit) (hints : List ℕ) (used : ℕ)
    → Checks negated (step_clauses claim.sides (take k steps)) literals hints (Ok used)
    → IsTrueClause (lit_value value) literals
derived_true claim value steps k within before literals hints used checks =
    let sound = taken_sound negated (step_clauses claim.sides (take k steps)) literals hints used checks in
    sound.follows (lit_value value) (opposite value) (λ hint c.
    let named = sound.named hint c in
    let low = named.from_one in
    let inside = named.within in
    let high : hint ≤ k = omega (
      arith,
      inside,
      length-map (take k steps)
          (step_clause claim.sides),
      length-take-le k steps within,
    ) in
    subst (λ clause. IsTrueClause (lit_value value) clause)
    (sym (named_clause claim.sides steps k hint within low high))
    (before (hint - 1) (omega arith)))

step_true : (f : Framework) (s : List ℕ) (claim : Claim) (value : Atom → Bool) (steps : List Step)
    → IsMet f s claim value
    → (k : ℕ) → k ≤ length steps → ((j : ℕ) → j < k → IsTrueStep claim value (slice_index_or steps j no_step))
    → (step : Step) → StepHolds f claim.sides (take k steps) step → IsTrueStep claim value step
step_true f s claim value steps met k within before (Axiom name) h = axiom_true f s claim value met name h
step_true f s claim value steps met k within before (Side n) h = side_true f s claim value met n h.0 h.1
step_true f s claim value steps met k within before (Derived literals hints) h =
    derived_true claim value steps k within before literals hints h.0 h.1

before_true : (f : Framework) (s : List ℕ) (claim : Claim) (value : Atom → Bool) (steps : List Step)
    → IsMet f s claim value
    → IsRefutationOf f claim steps → (k : ℕ) → k ≤ length steps → (j : ℕ) → j < k
    → IsTrueStep claim value (slice_index_or steps j no_step)
before_true f s claim value steps met stands zero within j lt = absurd (omega arith)
before_true f s claim value steps met stands (suc k) within j lt =
    let before = before_true f s claim value steps met stands k (omega arith) in
    ⊎_elim (λ less. before j less)
    (λ ge. let here : k ≡ j = omega arith in
    subst (λ i. IsTrueStep claim value (slice_index_or steps i no_step)) here
    (step_true f s claim value steps met k (omega arith) before (slice_index_or steps k no_step)
    (stands.each k (omega arith))))
    (cases_lt j k)

-- ---- each literal that is closed is false

fact_false : (f : Framework) (s : List ℕ) (claim : Claim) (value : Atom → Bool) → IsMet f s claim value
    → (atom : Atom) (positive : Bool)
    → IsFactValue f atom (not positive) → lit_value value (record { atom = atom; positive = positive }) ≡ true → ⊥
fact_false f s claim value met atom true h e =
    let no : false ≡ true = (h.reading s claim.sides).1 ((met.reads atom).0 e) in absurd (cc)
fact_false f s claim value met atom false h e = clash (value atom)
    ((met.reads atom).1 ((h.reading s claim.sides).0 refl)) e

goal_false : (f : Framework) (s : List ℕ) (claim : Claim) (value : Atom → Bool) → IsMet f s claim value
    → MeetsGoals f s claim.goals
    → (l : AtomLit) → Contains claim.goals (negated l) → lit_value value l ≡ true → ⊥
goal_false f s claim value met goals l c e =
    let w = world_of f s in
    let none = met.plain.goals (negated l) c in
    let says = says_moved (not l.positive) (HoldsOf f s l.atom) (Holds w claim.sides l.atom)
    (alone_holds w claim.sides l.atom none)
    (holds_alone w claim.sides l.atom none) (goals (negated l) c) in
    let read = read_true (not l.positive) (value l.atom) (Holds w claim.sides l.atom) (met.reads l.atom) says in
    clash (lit_value value l) e (sym (opposite value l) ∙ read)

asked_false : (f : Framework) (s : List ℕ) (claim : Claim) (value : Atom → Bool) → IsMet f s claim value
    → (atom : Atom) (positive : Bool)
    → IsNotAsked atom positive (length claim.sides)
    → lit_value value (record { atom = atom; positive = positive }) ≡ true → ⊥
asked_false f s claim value met (Ask n) false h e =
    clash (value (Ask n))
    ((met.reads (Ask n)).1 (record { low = h.0; high = h.1; true_there = side_met f s claim value met n h.0 h.1 })) e
asked_false f s claim value met _ _ h e = h

closed_false : (f : Framework) (s : List ℕ) (claim : Claim) (value : Atom → Bool) → IsMet f s claim value
    → MeetsGoals f s claim.goals
    → (l : AtomLit) → IsClosed f claim l → lit_value value l ≡ true → ⊥
closed_false f s claim value met goals l closed e =
    ⊎_elim (λ fact. fact_false f s claim value met l.atom l.positive fact e)
    (λ more. ⊎_elim (λ c. goal_false f s claim value met goals l c e)
    (λ asked. asked_false f s claim value met l.atom l.positive asked e) more) closed

pub excluded : RefutationsExclude
excluded f claim steps plain stands s world goals sides =
    let r = world_valuation (world_of f s) claim.sides in
    let met : IsMet f s claim r.0 = record { world = world; plain = plain; sides = sides; reads = r.1 } in
    let some = stands.some_step in
    let t = before_true f s claim r.0 steps met stands (length steps) (omega arith) (length steps - 1) (omega arith) in
    closed_false f s claim r.0 met goals t.0 (stands.closed t.0 t.1) t.2
