-- Logs as proofs, as steps are added.
use Rattle.std.proofs.Common.{◌≡◌, ◌≢◌, ℕ, ◌≤◌, ◌-◌, List, [], ◌∷◌, ◌++◌, length, length-append, get_or}
use Rattle.std.proofs.Common.{◌<◌, arith, ap, sym, subst, ◌∙◌, refl, ⊎_elim, Ok, take, drop, Bool, false}
use Rattle.std.specs.Prelude.{◌↔◌, Contains, IsTrue}
use Rattle.std.proofs.lemmas.Bool.{cases_lt, false≢true}
use Rattle.std.proofs.lemmas.List.{get_or_append_left, get_or-append_right, take-append-le, length-take-le}
use Rattle.std.proofs.lemmas.List.{take-take, get_or-take, take-map, take-append-drop}
use Rattle.std.proofs.Math.Seq.{take-append_seam}
use Rattle.std.proofs.lemmas.List.Elements.{Contains-push_cases, Contains-append_left}
use Rattle.plain_lits.specs.declared.lit.Lit.{Lit}
use Rattle.plain_lits.specs.Literals.{negation}
use Rattle.plain_lits.specs.HintCheck.{Checks}
use Rattle.plain_lits.proofs.HintCheckLemmas.{taken_sound}
use Rattle.hinted_log.specs.declared.step_kind.StepKind.{StepKind}
use Rattle.hinted_log.specs.declared.step_kind.StepKind.TheVariants.{Axiom, Side, Derived}
use Rattle.plain_lits.specs.Checking.{HasRoomFor}
use Rattle.hinted_log.specs.Logs.{Step, LogState, log_of, no_step, clauses_of, given_step, derived_step}
use Rattle.hinted_log.specs.Logs.{IsGiven, IsProof, IsStored}

-- the step at an index of a longer log
after_push : (steps : List Step) (step : Step) → get_or (steps ++ step ∷ []) (length steps) no_step ≡ step
after_push steps step = get_or-append_right steps (step ∷ []) (length steps) (length steps) no_step refl (omega arith)
    ∙ ap (λ k. get_or (step ∷ []) k no_step) (let z : length steps - length steps ≡ 0 = omega arith in z)

pub IsProof-push : (steps : List Step) (step : Step) → IsProof steps → IsGiven steps step step.kind
    → IsProof (steps ++ step ∷ [])
IsProof-push steps step h new = record {
  each = λ k lt. ⊎_elim
      (λ old. rw (take-append-le k steps (step ∷ []) (omega arith), get_or_append_left steps (step ∷ []) no_step k old)
      (h.each k old))
      (λ last.
      let e : k ≡ length steps = omega (arith, length-append steps (step ∷ [])) in
      rw (e, after_push steps step, take-append_seam steps (step ∷ [])) new)
      (cases_lt k (length steps));
}

clauses_of-push : (steps : List Step) (step : Step)
    → clauses_of (steps ++ step ∷ []) ≡ clauses_of steps ++ step.clause ∷ []
clauses_of-push [] step = refl
clauses_of-push (s ∷ steps) step = ap (λ rest. s.clause ∷ rest) (clauses_of-push steps step)

-- a given step needs nothing
pub IsGiven-given : (before : List Step) (clause : List Lit) (kind : StepKind) → kind ≢ Derived
    → IsGiven before (given_step clause kind) kind
IsGiven-given before clause Axiom ne = refl
IsGiven-given before clause Side ne = refl
IsGiven-given before clause Derived ne = absurd (ne refl)

-- a derived step keeps the hints that were looked at
pub IsGiven-derived : (before : List Step) (clauses : List (List Lit)) (clause : List Lit) (hints : List ℕ) (used : ℕ)
    → clauses ≡ clauses_of before → Checks negation clauses clause hints (Ok used)
    → IsGiven before (derived_step clause (take used hints)) Derived
IsGiven-derived before clauses clause hints used e w =
    let sound = taken_sound negation clauses clause hints used w in
    rw (length-take-le used hints sound.within, ← e) sound.alone

-- the parts of a log, with more room
pub stored_kept : (log : LogState) (truths now : List Lit) (vars more : ℕ) → IsStored log truths vars
    → now ≡ truths → vars ≤ more → IsStored log now more
stored_kept log truths now vars more h e le = record {
  form = h.form;
  clear = e ∙ h.clear;
  room = λ clause c l k. let lt = h.room clause c l k in omega arith;
}

-- and with one more step
pub stored_more : (limit : ℕ) (steps new : List Step) (step : Step) (truths now : List Lit) (vars more : ℕ)
    → IsStored (log_of limit steps) truths vars → now ≡ truths → vars ≤ more → length steps ≢ limit
    → IsGiven steps step step.kind → HasRoomFor more step.clause → new ≡ steps ++ step ∷ []
    → IsStored (log_of limit new) now more
stored_more limit steps new step truths now vars more h e le ne given room is_new =
    let within = h.form.within in
    rw is_new (record {
      form = record {
        proof = IsProof-push steps step h.form.proof given;
        within = omega (arith, length-append steps (step ∷ []));
        small = h.form.small;
      };
      clear = e ∙ h.clear;
      room = λ clause c l k. ⊎_elim
          (λ old. let lt = h.room clause old l k in omega arith)
          (λ (last : step.clause ≡ clause). room l (rw (← last) at k))
          (Contains-push_cases (clauses_of steps) step.clause clause (rw (clauses_of-push steps step) at c));
    })

-- and with fewer steps
pub stored_less : (log : LogState) (truths : List Lit) (vars n : ℕ) → IsStored log truths vars → n ≤ length log.steps
    → IsStored (log_of log.limit (take n log.steps)) truths vars
stored_less log truths vars n h le =
    let long : length (take n log.steps) ≡ n = length-take-le n log.steps le in
    let within = h.form.within in
    record {
      form = record {
        proof = record {
          each = λ k lt.
              let below : k < n = omega arith in
              rw (take-take k n log.steps (omega arith), get_or-take n log.steps k no_step below)
              (h.form.proof.each k (omega arith));
        };
        within = omega arith;
        small = h.form.small;
      };
      clear = h.clear;
      room = λ clause c. h.room clause
          (subst (λ xs. Contains xs clause) (take-append-drop n (clauses_of log.steps))
          (Contains-append_left (take n (clauses_of log.steps)) (drop n (clauses_of log.steps)) clause
          (subst (λ xs. Contains xs clause) (sym (take-map (λ (s : Step). s.clause) n log.steps)) c)));
    }

-- a test that came out false says that its fact doesn't hold
pub not_so : (b : Bool) (P : Type 0) → (IsTrue b ↔ P) → b ≡ false → P → ⊥
not_so b P h e p = false≢true (sym e ∙ h.1 p)

-- as many hints are kept as were looked at
pub used_hints : (clauses : List (List Lit)) (clause : List Lit) (hints : List ℕ) (used : ℕ)
    → Checks negation clauses clause hints (Ok used) → used ≡ length (take used hints)
used_hints clauses clause hints used w =
    sym (length-take-le used hints ((taken_sound negation clauses clause hints used w).within))
