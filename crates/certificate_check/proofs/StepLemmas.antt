-- Steps that are taken in turn, and literals that are closed in turn.
use Rattle.std.proofs.Common.{◌≡◌, ℕ, ◌+◌, ◌-◌, ◌<◌, ◌≤◌, Bool, true, false, List, [], ◌∷◌, ◌++◌, zero, suc, eqb, length, get_or, take, ap, sym, subst, ◌∙◌, arith, ⊎_elim}
use Rattle.std.specs.Prelude.{◌↔◌, Contains, IsTrue, Some}
use Rattle.std.proofs.lemmas.Bool.{cases_eq, false≢true}
use Rattle.std.proofs.lemmas.List.{length-map, map-append, take_more, get_or_default, get_or-map, take_all}
use Rattle.std.proofs.lemmas.List.Elements.{Contains-push_cases}
use Rattle.semantics.specs.Frameworks.{Framework}
use Rattle.meaning_atoms.specs.declared.atom.Atom.TheVariants.{Ask, Member}
use Rattle.meaning_atoms.specs.declared.atom.AtomLit.{AtomLit}
use Rattle.meaning_atoms.specs.Literals.{denied}
use Rattle.certificate_claims.specs.declared.certificate.Step.{Step}
use Rattle.certificate_claims.specs.declared.certificate.Step.TheVariants.{Axiom, Side, Derived}
use Rattle.certificate_claims.specs.Refutations.{StepHolds, step_clause, step_clauses, no_step}
use Rattle.answer_claims.specs.declared.claim.Claim.{Claim}
use Rattle.answer_claims.specs.declared.sides.SideKind.{SideKind}
use Rattle.answer_claims.specs.SideClauses.{side_of, sides_of}
use Rattle.certificate_check.specs.Flaws.{EndsClosedBy}
use Rattle.certificate_check.specs.Standing.{AreClosed, IsNamed, StandsBehind, StandsAt, TakesStep, IsFirstWithout}

-- what holds of a list's first members, with one more
pub front_more : {X : Type 0} (P : X → Type 0) (xs : List X) (i : ℕ) (d : X) → i < length xs
    → ((x : X) → Contains (take i xs) x → P x) → P (get_or xs i d) → (x : X) → Contains (take (i + 1) xs) x → P x
front_more P xs i d lt all here x c =
    ⊎_elim (λ old. all x old) (λ (e : get_or xs i d ≡ x). subst P e here)
    (Contains-push_cases (take i xs) (get_or xs i d) x (subst (λ ys. Contains ys x) (take_more xs i d lt) c))

-- what holds of the first so many holds of all where there are no more
pub front_whole : {X : Type 0} (P : X → Type 0) (xs : List X) (i : ℕ) → length xs ≡ i
    → ((x : X) → Contains (take i xs) x → P x) → (x : X) → Contains xs x → P x
front_whole P xs i e all x c = all x (subst (λ ys. Contains ys x) (sym (take_all i xs (omega (arith, e)))) c)

-- a step behind the clauses of steps
pub behind_steps : (f : Framework) (sides : List (List AtomLit)) (before : List Step) (step : Step)
    → StandsBehind f sides (step_clauses sides before) step → StepHolds f sides before step
behind_steps f sides before (Axiom name) h = h
behind_steps f sides before (Side n) h = h
behind_steps f sides before (Derived literals hints) h = h

pub steps_behind : (f : Framework) (sides : List (List AtomLit)) (before : List Step) (step : Step)
    → StepHolds f sides before step → StandsBehind f sides (step_clauses sides before) step
steps_behind f sides before (Axiom name) h = h
steps_behind f sides before (Side n) h = h
steps_behind f sides before (Derived literals hints) h = h

-- the steps so far stand, and the bench has their clauses
pub record HasTaken (f : Framework) (sides clauses : List (List AtomLit)) (steps : List Step) (count : ℕ) : Type 0 where
  pub clauses_are : clauses ≡ step_clauses sides (take count steps)
  pub each : (k : ℕ) → k < count → StandsAt f sides steps k

pub none_taken : (f : Framework) (sides clauses : List (List AtomLit)) (steps : List Step) → clauses ≡ []
    → HasTaken f sides clauses steps 0
none_taken f sides clauses steps e = record { clauses_are = e; each = λ k lt. absurd (omega arith) }

pub takes_next : (f : Framework) (sides before after : List (List AtomLit)) (steps : List Step) (i : ℕ) (step : Step)
    (taken : Bool) → i < length steps → step ≡ get_or steps i step → HasTaken f sides before steps i
    → TakesStep f sides before step after taken → taken ≡ true → HasTaken f sides after steps (i + 1)
takes_next f sides before after steps i step taken lt same h took e =
    let is : TakesStep f sides before step after true = subst (λ t. TakesStep f sides before step after t) e took in
    let at : step ≡ get_or steps i no_step = same ∙ get_or_default steps i step no_step lt in
    let stands : StepHolds f sides (take i steps) step =
    behind_steps f sides (take i steps) step (subst (λ cs. StandsBehind f sides cs step) h.clauses_are is.0) in record {
      clauses_are = is.1 ∙ (ap (λ cs. cs ++ step_clause sides step ∷ []) h.clauses_are
          ∙ (sym (map-append (step_clause sides) (take i steps) (step ∷ []))
          ∙ (ap (λ x. step_clauses sides (take i steps ++ x ∷ [])) same
          ∙ ap (λ xs. step_clauses sides xs) (sym (take_more steps i step lt)))));
      each = λ k below. ⊎_elim (λ (here : k ≡ i). subst (λ j. StandsAt f sides steps j) (sym here)
          (subst (λ s. StepHolds f sides (take i steps) s) at stands))
          (λ ne. h.each k (omega (arith, ne))) (cases_eq k i);
    }

pub stops_at : (f : Framework) (sides before after : List (List AtomLit)) (steps : List Step) (i : ℕ) (step : Step)
    (taken : Bool) → i < length steps → step ≡ get_or steps i step → HasTaken f sides before steps i
    → TakesStep f sides before step after taken → taken ≡ false
    → IsFirstWithout (StandsAt f sides steps) (length steps) (Some i)
stops_at f sides before after steps i step taken lt same h took e =
    let is : TakesStep f sides before step after false = subst (λ t. TakesStep f sides before step after t) e took in
    let at : step ≡ get_or steps i no_step = same ∙ get_or_default steps i step no_step lt in (
      lt,
      (
        h.each,
        λ stands. is.0 (subst (λ cs. StandsBehind f sides cs step) (sym h.clauses_are)
            (steps_behind f sides (take i steps) step
            (subst (λ s. StepHolds f sides (take i steps) s) (sym at) stands))),
      ),
    )

-- a literal for places that are never read
abbrev pub blank : AtomLit
blank = record { atom = Member 0; positive = false }

-- the test of a clause is that of the same clause
pub closed_moved : (f : Framework) (c : Claim) (given clause : List AtomLit) (r : Bool) → given ≡ clause
    → (IsTrue r ↔ AreClosed f c given) → IsTrue r ↔ AreClosed f c clause
closed_moved f c given clause r e h = subst (λ x. IsTrue r ↔ AreClosed f c x) e h

-- a side clause by its number
pub side_at : (f : Framework) (kind : SideKind) (sets : List (List ℕ)) (n : ℕ) (set : List ℕ) (clause : List AtomLit)
    → 1 ≤ n → n ≤ length sets → set ≡ get_or sets (n - 1) set → clause ≡ denied (Ask n) ∷ side_of f kind set
    → clause ≡ step_clause (sides_of f kind sets) (Side n)
side_at f kind sets n set clause low high e is =
    let lt : n - 1 < length sets = omega arith in
    is ∙ ap (λ x. denied (Ask n) ∷ x) (ap (side_of f kind) e
    ∙ sym (get_or-map (side_of f kind) sets (n - 1) set [] lt))

-- what the last step names is there, where each step stands
pub last_named : (f : Framework) (sides : List (List AtomLit)) (before : List Step) (step : Step)
    → StepHolds f sides before step → IsNamed f (length sides) step
last_named f sides before (Axiom name) h = h
last_named f sides before (Side n) h = h
last_named f sides before (Derived literals hints) h = record {}

pub ends_named : (f : Framework) (kind : SideKind) (sets : List (List ℕ)) (steps : List Step)
    → ((k : ℕ) → k < length steps → StandsAt f (sides_of f kind sets) steps k)
    → 0 < length steps → IsNamed f (length sets) (get_or steps (length steps - 1) no_step)
ends_named f kind sets steps all some_step =
    subst (λ n. IsNamed f n (get_or steps (length steps - 1) no_step)) (length-map sets (side_of f kind))
    (last_named f (sides_of f kind sets) (take (length steps - 1) steps) (get_or steps (length steps - 1) no_step)
    (all (length steps - 1) (omega arith)))

pub no_end : (f : Framework) (c : Claim) (steps : List Step) → steps ≡ [] → EndsClosedBy f c steps → ⊥
no_end f c steps e h = let some_step : 0 < length steps = h.some_step in
    let none : length steps ≡ 0 = ap length e in absurd (omega arith)

pub end_closed : (f : Framework) (c : Claim) (steps : List Step) (step : Step) (r : Bool) → 0 < length steps
    → step ≡ get_or steps (length steps - 1) step
    → (IsTrue r ↔ AreClosed f c (step_clause (sides_of f c.kind c.sides) step))
    → IsTrue r ↔ EndsClosedBy f c steps
end_closed f c steps step r some_step e h =
    let at : step ≡ get_or steps (length steps - 1) no_step =
    e ∙ get_or_default steps (length steps - 1) step no_step (omega arith) in (
      λ t. record {
        some_step = some_step;
        closed = subst (λ s. AreClosed f c (step_clause (sides_of f c.kind c.sides) s)) at (h.0 t);
      },
      λ ends. h.1 (subst (λ s. AreClosed f c (step_clause (sides_of f c.kind c.sides) s)) (sym at) ends.closed),
    )

pub positive_length : (n : ℕ) → false ≡ eqb n 0 → 0 < n
positive_length zero e = absurd (false≢true e)
positive_length (suc n) e = omega arith
