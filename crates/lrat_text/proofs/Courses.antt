-- The course of a check, line by line.
use Rattle.std.proofs.Common.{◌≡◌, ◌≢◌, ℕ, ◌<◌, ◌≤◌, List, [], ◌∷◌, ◌++◌, length, append_assoc, inl, inr, ap, sym, subst, refl, ◌∙◌, arith, ⊎_elim}
use Rattle.std.specs.Prelude.{Contains, Result, Ok, Err}
use Rattle.std.specs.List.{AllZip, range_with_len}
use Rattle.std.proofs.lemmas.List.Elements.{Contains-push_cases}
use Rattle.lists.proofs.Membership.{Contains-nil, Contains-cons_cases}
use Rattle.std.proofs.lemmas.List.{append-nil}
use Rattle.num_text.specs.Cuts.{LineText, field_texts, lines_of}
use Rattle.plain_lits.specs.declared.lit.Lit.{Lit}
use Rattle.lrat_text.specs.declared.fault.LratCause.{LratCause}
use Rattle.lrat_text.specs.declared.fault.LratFault.{LratFault}
use Rattle.lrat_text.specs.declared.fault.LratFault.TheVariants.{At, Memory}
use Rattle.lrat_text.specs.declared.verdict.Verdict.{Verdict}
use Rattle.lrat_text.specs.declared.verdict.Verdict.TheVariants.{Verified, RejectedStep, NoEmptyClause}
use Rattle.lrat_text.specs.Causes.{IsFirstLratCause}
use Rattle.lrat_text.specs.Numbers.{SpellsLit}
use Rattle.lrat_text.specs.Checking.{StepLine, StepList, step_line, with_line, steps_of, Passes, Fails, ComesTo, CheckState, check_state, steps_in, IsLast}
use Rattle.lrat_text.specs.LratText.{AreSteps, IsFirstFault, IsStepLine, LineStands, FaultsAt, GoesOn, IsJudged, IsFaultOf, AreSomeSteps, IsChecked}
use Rattle.lrat_text.specs.CnfText.{Formula}
use Rattle.lrat_text.specs.Lines.{lrat_kept}
use Rattle.lrat_text.specs.Unsatisfiable.{HasNoModel}
use Rattle.lrat_text.proofs.Soundness.{verified_has_no_model}

pub goes_start : (vars last : ℕ) (steps : StepList) (lines : List LineText) → GoesOn vars last steps lines last steps lines
goes_start vars last steps lines = record { good = λ more verdict a b. (more, a, b); bad = λ line cause f. f }

pub goes_more : (vars last : ℕ) (steps : StepList) (lines : List LineText) (last1 : ℕ) (steps1 steps2 : StepList)
    (old left : List LineText) (line : LineText) (id : ℕ) (clause : List Lit) (hints : List ℕ)
    → GoesOn vars last steps lines last1 steps1 old → old ≡ line ∷ left
    → IsStepLine vars last1 (field_texts line.text) id clause hints → Passes steps1 (step_line id clause hints)
    → clause ≢ [] → steps2 ≡ with_line steps1 (step_line id clause hints) → GoesOn vars last steps lines id steps2 left
goes_more vars last steps lines last1 steps1 steps2 old left line id clause hints g cut is passes some same =
    let at : GoesOn vars last steps lines last1 steps1 (line ∷ left) = subst (GoesOn vars last steps lines last1 steps1) cut g in
    rw same (record {
      good = λ more verdict a b. at.good (step_line id clause hints ∷ more) verdict (is, a) (inr (inr (passes, some, b)));
      bad = λ l cause f. at.bad l cause (inl (step_line id clause hints, is, f));
    })

pub judged_failed : (vars last : ℕ) (steps : StepList) (lines : List LineText) (last1 : ℕ) (steps1 : StepList)
    (old left : List LineText) (line : LineText) (id : ℕ) (clause : List Lit) (hints : List ℕ)
    → GoesOn vars last steps lines last1 steps1 old → old ≡ line ∷ left
    → IsStepLine vars last1 (field_texts line.text) id clause hints → Fails steps1 (step_line id clause hints)
    → IsJudged vars last steps lines id left (RejectedStep id)
judged_failed vars last steps lines last1 steps1 old left line id clause hints g cut is fails =
    let at : GoesOn vars last steps lines last1 steps1 (line ∷ left) = subst (GoesOn vars last steps lines last1 steps1) cut g in
    record {
      good = λ more a. at.good (step_line id clause hints ∷ more) (RejectedStep id) (is, a) (inl (fails, refl));
      bad = λ l cause f. at.bad l cause (inl (step_line id clause hints, is, f));
    }

pub judged_empty : (vars last : ℕ) (steps : StepList) (lines : List LineText) (last1 : ℕ) (steps1 : StepList)
    (old left : List LineText) (line : LineText) (id : ℕ) (clause : List Lit) (hints : List ℕ)
    → GoesOn vars last steps lines last1 steps1 old → old ≡ line ∷ left
    → IsStepLine vars last1 (field_texts line.text) id clause hints → Passes steps1 (step_line id clause hints)
    → clause ≡ [] → IsJudged vars last steps lines id left Verified
judged_empty vars last steps lines last1 steps1 old left line id clause hints g cut is passes none =
    let at : GoesOn vars last steps lines last1 steps1 (line ∷ left) = subst (GoesOn vars last steps lines last1 steps1) cut g in
    record {
      good = λ more a. at.good (step_line id clause hints ∷ more) Verified (is, a) (inr (inl (passes, none, refl)));
      bad = λ l cause f. at.bad l cause (inl (step_line id clause hints, is, f));
    }

pub judged_end : (vars last : ℕ) (steps : StepList) (lines : List LineText) (last1 : ℕ) (steps1 : StepList)
    (old left : List LineText) → GoesOn vars last steps lines last1 steps1 old → old ≡ [] → left ≡ []
    → IsJudged vars last steps lines last1 left NoEmptyClause
judged_end vars last steps lines last1 steps1 old left g none end =
    let at : GoesOn vars last steps lines last1 steps1 [] = subst (GoesOn vars last steps lines last1 steps1) none g in
    rw end (record {
      good = λ more a. at.good [] NoEmptyClause refl refl;
      bad = λ l cause f. absurd f;
    })

pub goes_faulty : (vars last : ℕ) (steps : StepList) (lines : List LineText) (last1 : ℕ) (steps1 : StepList)
    (old left : List LineText) (line : LineText) (fault : LratFault)
    → GoesOn vars last steps lines last1 steps1 old → old ≡ line ∷ left
    → FaultsAt line.number (IsFirstLratCause (LineStands vars last1 (field_texts line.text))) fault
    → IsFaultOf vars last lines fault
goes_faulty vars last steps lines last1 steps1 old left line (At l cause) g cut told =
    let at : GoesOn vars last steps lines last1 steps1 (line ∷ left) = subst (GoesOn vars last steps lines last1 steps1) cut g in
    at.bad l cause (inr told)
goes_faulty vars last steps lines last1 steps1 old left line Memory g cut told = tt

-- the literals of a line are within
pub literals_within : (vars : ℕ) (fields : List (List ℕ)) (clause : List Lit) → AllZip (SpellsLit vars) fields clause
    → (l : Lit) → Contains clause l → l.var ≤ vars
literals_within vars [] [] all l c = absurd (Contains-nil l c)
literals_within vars [] (m ∷ ms) all l c = absurd all
literals_within vars (f ∷ fs) [] all l c = absurd all
literals_within vars (f ∷ fs) (m ∷ ms) all l c =
    ⊎_elim (λ (e : m ≡ l). subst (λ k. k.var ≤ vars) e all.0.within) (λ rest. literals_within vars fs ms all.1 l rest)
    (Contains-cons_cases m ms l c)

-- the last id, with one line more
pub last_more : (s after : CheckState) (last id : ℕ) (clauses : List (List Lit)) → IsLast last s → last < id
    → after ≡ check_state s.vars s.count (s.ids ++ id ∷ []) clauses → IsLast id after
last_more s after last id clauses h above same =
    let low = h.count in
    rw same (record {
      count = omega (arith, low, above);
      ids = λ i c. ⊎_elim (λ old. let le = h.ids i old in omega (arith, le, above)) (λ (e : id ≡ i). omega (arith, e))
          (Contains-push_cases s.ids id i c);
    })

-- the steps, with one line more
pub steps_more : (s after : CheckState) (id : ℕ) (clause : List Lit) (hints : List ℕ)
    → after ≡ check_state s.vars s.count (s.ids ++ id ∷ []) (s.clauses ++ clause ∷ [])
    → steps_in after ≡ with_line (steps_in s) (step_line id clause hints)
steps_more s after id clause hints same =
    ap steps_in same
    ∙ ap (λ ids. record { ids = ids; clauses = s.clauses ++ clause ∷ [] })
    (sym (append_assoc (range_with_len 1 s.count) s.ids (id ∷ [])))

-- ---- lines that are read without a check

pub record ReadTo (vars last : ℕ) (lines : List LineText) (new_last : ℕ) (left : List LineText) : Type 0 where
  pub good : (more : List StepLine) → AreSteps vars new_last left more → AreSomeSteps vars last lines
  pub bad : (line : ℕ) (cause : LratCause) → IsFirstFault vars new_last left line cause
      → IsFirstFault vars last lines line cause

pub read_start : (vars last : ℕ) (lines : List LineText) → ReadTo vars last lines last lines
read_start vars last lines = record { good = λ more a. (more, a); bad = λ line cause f. f }

pub read_more : (vars last : ℕ) (lines : List LineText) (last1 : ℕ) (old left : List LineText) (line : LineText) (id : ℕ)
    (clause : List Lit) (hints : List ℕ) → ReadTo vars last lines last1 old → old ≡ line ∷ left
    → IsStepLine vars last1 (field_texts line.text) id clause hints → ReadTo vars last lines id left
read_more vars last lines last1 old left line id clause hints r cut is =
    let at : ReadTo vars last lines last1 (line ∷ left) = subst (ReadTo vars last lines last1) cut r in
    record {
      good = λ more a. at.good (step_line id clause hints ∷ more) (is, a);
      bad = λ l cause f. at.bad l cause (inl (step_line id clause hints, is, f));
    }

pub read_end : (vars last : ℕ) (lines : List LineText) (last1 : ℕ) (old : List LineText) → ReadTo vars last lines last1 old
    → old ≡ [] → AreSomeSteps vars last lines
read_end vars last lines last1 old r none =
    let at : ReadTo vars last lines last1 [] = subst (ReadTo vars last lines last1) none r in at.good [] refl

pub read_faulty : (vars last : ℕ) (lines : List LineText) (last1 : ℕ) (old left : List LineText) (line : LineText)
    (fault : LratFault) → ReadTo vars last lines last1 old → old ≡ line ∷ left
    → FaultsAt line.number (IsFirstLratCause (LineStands vars last1 (field_texts line.text))) fault
    → IsFaultOf vars last lines fault
read_faulty vars last lines last1 old left line (At l cause) r cut told =
    let at : ReadTo vars last lines last1 (line ∷ left) = subst (ReadTo vars last lines last1) cut r in
    at.bad l cause (inr told)
read_faulty vars last lines last1 old left line Memory r cut told = tt

-- ---- the whole

-- the lines of a text come to what is told of them
pub checked_ok : (f : Formula) (bytes : List ℕ) (s : CheckState) (vars last new_last : ℕ) (left : List LineText)
    (verdict : Verdict) → s ≡ check_state f.vars (length f.clauses) [] f.clauses → vars ≡ s.vars
    → last ≡ s.count
    → IsJudged s.vars last (steps_in s) (lrat_kept (lines_of bytes)) new_last left verdict
    → AreSomeSteps vars new_last left → IsChecked f bytes (Ok verdict)
checked_ok f bytes s vars last new_last left verdict begun same_vars same_last judged rest =
    let more : AreSteps s.vars new_last left rest.0 = subst (λ v. AreSteps v new_last left rest.0) same_vars rest.1 in
    let all = judged.good rest.0 more in
    let lines : List LineText = lrat_kept (lines_of bytes) in
    let steps : AreSteps f.vars (length f.clauses) lines all.0
    = subst (λ v. AreSteps v (length f.clauses) lines all.0) (ap (λ (t : CheckState). t.vars) begun)
    (subst (λ n. AreSteps s.vars n lines all.0) (same_last ∙ ap (λ (t : CheckState). t.count) begun) all.1) in
    let first : steps_in s ≡ steps_of f.clauses = ap steps_in begun
    ∙ ap (λ ids. record { ids = ids; clauses = f.clauses }) (append-nil (range_with_len 1 (length f.clauses))) in
    (all.0, steps, subst (λ t. ComesTo t all.0 verdict) first all.2)

abbrev pub IsOkVerified : Result Verdict LratFault → Type 0
IsOkVerified result = result ≡ Ok Verified

-- a text that is verified refutes the CNF
pub checked_sound : (f : Formula) (bytes : List ℕ) (verdict : Verdict) → IsChecked f bytes (Ok verdict)
    → IsOkVerified (Ok verdict) → HasNoModel f.clauses
checked_sound f bytes verdict checked e =
    let same : verdict ≡ Verified = ap (λ r. verdict_of r) e in
    verified_has_no_model f.clauses checked.0 (subst (ComesTo (steps_of f.clauses) checked.0) same checked.2)
  where
    verdict_of : Result Verdict LratFault → Verdict
    verdict_of (Ok v) = v
    verdict_of (Err fault) = NoEmptyClause
