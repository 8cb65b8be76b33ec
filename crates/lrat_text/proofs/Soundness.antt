-- A formula with a refutation that passes the check has no model.
use Rattle.std.proofs.Common.{◌≡◌, ℕ, ◌-◌, ◌<◌, ◌≤◌, Bool, List, [], ◌∷◌, ◌++◌, length, map, inl, inr, subst, arith, refl, ⊎_elim}
use Rattle.std.specs.Prelude.{Contains}
use Rattle.std.proofs.lemmas.List.Elements.{Contains-push_cases}
use Rattle.lists.proofs.Membership.{Contains-nil}
use Rattle.plain_lits.specs.declared.lit.Lit.{Lit}
use Rattle.plain_lits.specs.Literals.{negation}
use Rattle.plain_lits.specs.HintCheck.{clause_at}
use Rattle.plain_lits.proofs.HintCheckLemmas.{taken_sound}
use Rattle.plain_lits.proofs.CheckingLemmas.{clause_member}
use Rattle.hinted_log.specs.Logs.{IsTrueUnder, valuation_of}
use Rattle.hinted_log.proofs.Following.{reads_both}
use Rattle.lrat_text.specs.declared.verdict.Verdict.TheVariants.{Verified, RejectedStep, NoEmptyClause}
use Rattle.lrat_text.specs.Checking.{StepLine, StepList, steps_of, with_line, number_of, Passes, ComesTo}
use Rattle.lrat_text.specs.Unsatisfiable.{AreTrueUnder, HasNoModel}

-- the clause of a line that passes is true where those before it are
passed_true : (truth : ℕ → Bool) (steps : StepList) (line : StepLine) → AreTrueUnder truth steps.clauses
    → Passes steps line → IsTrueUnder truth line.clause
passed_true truth steps line all passes =
    let hints : List ℕ = map (number_of steps.ids) line.hints in
    let sound = taken_sound negation steps.clauses line.clause hints passes.0 passes.1 in
    sound.follows (valuation_of truth) (reads_both truth)
    (λ hint c.
    let named = sound.named hint c in
    let low : 0 < hint = named.from_one in
    let high : hint ≤ length steps.clauses = named.within in
    all (clause_at steps.clauses hint)
    (clause_member steps.clauses (hint - 1) (clause_at steps.clauses hint) (omega arith) refl))

-- one more clause is true
more_true : (truth : ℕ → Bool) (clauses : List (List Lit)) (clause : List Lit) → AreTrueUnder truth clauses
    → IsTrueUnder truth clause → AreTrueUnder truth (clauses ++ clause ∷ [])
more_true truth clauses clause all here one c =
    ⊎_elim (λ old. all one old) (λ (e : clause ≡ one). subst (IsTrueUnder truth) e here)
    (Contains-push_cases clauses clause one c)

verified_refutes : (truth : ℕ → Bool) (steps : StepList) (lines : List StepLine) → AreTrueUnder truth steps.clauses
    → ComesTo steps lines Verified → ⊥
verified_refutes truth steps [] all h = let e : Verified ≡ NoEmptyClause = h in cc
verified_refutes truth steps (line ∷ lines) all (inl h) = let e : Verified ≡ RejectedStep line.id = h.1 in cc
verified_refutes truth steps (line ∷ lines) all (inr (inl h)) =
    let is_true = passed_true truth steps line all h.0 in
    Contains-nil is_true.0 (subst (λ ls. Contains ls is_true.0) h.1 is_true.1)
verified_refutes truth steps (line ∷ lines) all (inr (inr h)) =
    verified_refutes truth (with_line steps line) lines
    (more_true truth steps.clauses line.clause all (passed_true truth steps line all h.0)) h.2

pub verified_has_no_model : (clauses : List (List Lit)) (lines : List StepLine) → ComesTo (steps_of clauses) lines Verified
    → HasNoModel clauses
verified_has_no_model clauses lines h truth all = verified_refutes truth (steps_of clauses) lines all h
