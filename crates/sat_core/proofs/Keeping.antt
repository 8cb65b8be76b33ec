-- The log and the steps in use are the same from the front on.
use Rattle.std.proofs.Common.{◌≡◌, ℕ, ◌+◌, ◌<◌, ◌≤◌, ◌-◌, List, [], ◌∷◌, ◌++◌, length, take, get_or, ap, sym}
use Rattle.std.proofs.Common.{◌∙◌, refl, subst, arith}
use Rattle.std.proofs.Common.{inl, inr, ⊎_elim, Ok, length-append}
use Rattle.std.specs.Prelude.{◌⊎◌, Contains}
use Rattle.std.proofs.Math.Seq.{take-append_seam}
use Rattle.std.proofs.lemmas.Bool.{cases_lt}
use Rattle.std.proofs.lemmas.List.{append-nil, append_assoc, get_or_append_left, get_or-append_right, take-append-le}
use Rattle.std.proofs.lemmas.List.Elements.{Contains-append_left, Contains-push_cases}
use Rattle.plain_lits.specs.declared.lit.Lit.{Lit}
use Rattle.plain_lits.specs.Literals.{negation}
use Rattle.plain_lits.specs.HintCheck.{Checks}
use Rattle.hinted_log.specs.Logs.{Step, LogState, clauses_of, derived_step, log_of, no_step}
use Rattle.sat_core.specs.Solving.{SolverState, Keeps, Derives, IsShown, IsShownAt, front, clause_of, with_unit}
use Rattle.sat_core.specs.Solving.{with_derived}
use Rattle.sat_core.specs.Mirrors.{IsDerived}
use Rattle.sat_core.proofs.Searching.{Recorded}

-- ---- what comes into use

abbrev pub AreLater : SolverState → List ℕ → Type 0
AreLater old active = (number : ℕ) → Contains active number → Contains old.active number
    ⊎ (length old.log.steps < number)

same_later : (old : SolverState) (active : List ℕ) → active ≡ old.active → AreLater old active
same_later old active e number c = inl (subst (λ xs. Contains xs number) e c)

pushed_later : (old : SolverState) (active : List ℕ) (next : ℕ) → next ≡ length old.log.steps + 1
    → active ≡ old.active ++ next ∷ [] → AreLater old active
pushed_later old active next is e number c =
    ⊎_elim (λ there. inl there)
    (λ (last : next ≡ number). inr (let z : length old.log.steps < number = omega arith in z))
    (Contains-push_cases old.active next number (subst (λ xs. Contains xs number) e c))

-- ---- all is kept

pub keeps_logs : (old new : SolverState) → new.log ≡ old.log → new.active ≡ old.active → Keeps old new
keeps_logs old new log active = record {
  limit = ap (λ (g : LogState). g.limit) log;
  more_steps = ([], ap (λ (g : LogState). g.steps) log ∙ sym (append-nil old.log.steps));
  more_active = ([], active ∙ sym (append-nil old.active));
  later = same_later old new.active active;
}

longer : (a b : SolverState) → Keeps a b → length a.log.steps ≤ length b.log.steps
longer a b h =
    let s = h.more_steps in
    omega (arith, ap length s.1, length-append a.log.steps s.0)

pub keeps_trans : (a b c : SolverState) → Keeps a b → Keeps b c → Keeps a c
keeps_trans a b c h k =
    let s = h.more_steps in
    let t = k.more_steps in
    let n = h.more_active in
    let m = k.more_active in
    let le = longer a b h in
    record {
      limit = k.limit ∙ h.limit;
      more_steps = (s.0 ++ t.0, t.1 ∙ (ap (λ xs. xs ++ t.0) s.1 ∙ append_assoc a.log.steps s.0 t.0));
      more_active = (n.0 ++ m.0, m.1 ∙ (ap (λ xs. xs ++ m.0) n.1 ∙ append_assoc a.active n.0 m.0));
      later = λ number there.
          ⊎_elim (h.later number)
          (λ (lt : length b.log.steps < number). inr (let z : length a.log.steps < number = omega arith in z))
          (k.later number there);
    }

-- a recorded step has come, and is in use
pub keeps_recorded : (old new : SolverState) (clause : List Lit) (number : ℕ) → Recorded old.log new.log clause number
    → new.active ≡ old.active ++ number ∷ [] → Keeps old new
keeps_recorded old new clause number r e = record {
  limit = r.limit;
  more_steps = (r.step ∷ [], r.steps);
  more_active = (number ∷ [], e);
  later = pushed_later old new.active number r.next e;
}

-- a recorded step was taken back
pub taken_back : (old mid new : LogState) (clause : List Lit) (number : ℕ) → Recorded old mid clause number
    → new ≡ log_of mid.limit (take (length mid.steps - 1) mid.steps) → new ≡ old
taken_back old mid new clause number r e =
    let long : length mid.steps ≡ length old.steps + 1 = ap length r.steps ∙ length-append old.steps (r.step ∷ []) in
    let less : length mid.steps - 1 ≡ length old.steps = omega arith in
    let front : take (length old.steps) mid.steps ≡ old.steps = ap (λ xs. take (length old.steps) xs) r.steps
    ∙ take-append_seam old.steps (r.step ∷ []) in
    e ∙ rw (less, front, r.limit) refl

-- ---- and what comes is shown

pub shown_as : (s t : SolverState) (clause : List Lit) (hints : List ℕ) → t.log.steps ≡ s.log.steps
    → ((number : ℕ) → Contains s.active number → Contains t.active number) → IsShown s clause hints
    → IsShown t clause hints
shown_as s t clause hints e more h = record {
  taken = subst (λ steps. Checks negation (clauses_of steps) clause hints (Ok (length hints))) (sym e) h.taken;
  in_use = λ hint c. more hint (h.in_use hint c);
  used = subst
      (λ steps. (hint : ℕ) (l : Lit) → Contains hints hint → Contains (clause_of steps hint) l
      → Contains clause l ⊎ ((other : ℕ) × Contains hints other × Contains (clause_of steps other) (negation l)))
      (sym e) h.used;
  from_hints = subst
      (λ steps. (l : Lit) → Contains clause l
      → (hint : ℕ) × Contains hints hint × Contains (clause_of steps hint) l) (sym e) h.from_hints;
}

shown_later : (b c : SolverState) → Keeps b c → (k : ℕ) → k < length b.log.steps → IsShownAt b k → IsShownAt c k
shown_later b c keeps k lt h =
    let t = keeps.more_steps in
    let m = keeps.more_active in
    let step : get_or c.log.steps k no_step ≡ get_or b.log.steps k no_step =
    ap (λ xs. get_or xs k no_step) t.1 ∙ get_or_append_left b.log.steps t.0 no_step k lt in
    let first : take k c.log.steps ≡ take k b.log.steps =
    ap (λ xs. take k xs) t.1 ∙ take-append-le k b.log.steps t.0 (omega arith) in
    record {
      shown = subst (λ (x : Step). IsShown (front c k) x.clause x.hints) (sym step)
          (shown_as (front b k) (front c k) (get_or b.log.steps k no_step).clause (get_or b.log.steps k no_step).hints
          first
          (λ number there. subst (λ xs. Contains xs number) (sym m.1) (Contains-append_left b.active m.0 number there))
          h.shown);
    }

pub derives_logs : (old new : SolverState) → new.log ≡ old.log → new.active ≡ old.active → Derives old new
derives_logs old new log active = record {
  keeps = keeps_logs old new log active;
  each = λ k low high.
      let long : length new.log.steps ≡ length old.log.steps = ap (λ (g : LogState). length g.steps) log in
      absurd (omega arith);
}

pub derives_same : (old new : SolverState) → new ≡ old → Derives old new
derives_same old new e =
    derives_logs old new (ap (λ (s : SolverState). s.log) e) (ap (λ (s : SolverState). s.active) e)

pub derives_trans : (a b c : SolverState) → Derives a b → Derives b c → Derives a c
derives_trans a b c h k = record {
  keeps = keeps_trans a b c h.keeps k.keeps;
  each = λ i low high.
      ⊎_elim (λ early. shown_later b c k.keeps i early (h.each i low early)) (λ late. k.each i late high)
      (cases_lt i (length b.log.steps));
}

-- one step has come, which is in use or not
derives_one : (old new : SolverState) (clause : List Lit) (hints : List ℕ) → IsShown old clause hints
    → new.log ≡ with_derived old.log clause hints → (more : List ℕ) → new.active ≡ old.active ++ more
    → AreLater old new.active → Derives old new
derives_one old new clause hints shown log more active later =
    let steps : new.log.steps ≡ old.log.steps ++ derived_step clause hints ∷ [] = ap (λ (g : LogState). g.steps) log in
    let long : length new.log.steps ≡ length old.log.steps + 1 =
    ap length steps ∙ length-append old.log.steps (derived_step clause hints ∷ []) in
    let last : get_or new.log.steps (length old.log.steps) no_step ≡ derived_step clause hints =
    ap (λ xs. get_or xs (length old.log.steps) no_step) steps
    ∙ (get_or-append_right old.log.steps (derived_step clause hints ∷ []) (length old.log.steps)
    (length old.log.steps) no_step refl (omega arith)
    ∙ ap (λ k. get_or (derived_step clause hints ∷ []) k no_step)
    (let z : length old.log.steps - length old.log.steps ≡ 0 = omega arith in z)) in
    let first : take (length old.log.steps) new.log.steps ≡ old.log.steps =
    ap (λ xs. take (length old.log.steps) xs) steps
    ∙ take-append_seam old.log.steps (derived_step clause hints ∷ []) in
    let here : IsShownAt new (length old.log.steps) = record {
      shown = subst (λ (x : Step). IsShown (front new (length old.log.steps)) x.clause x.hints) (sym last)
          (shown_as old (front new (length old.log.steps)) clause hints first
          (λ number there. subst (λ xs. Contains xs number) (sym active)
          (Contains-append_left old.active more number there)) shown);
    } in
    record {
      keeps = record {
        limit = ap (λ (g : LogState). g.limit) log;
        more_steps = (derived_step clause hints ∷ [], steps);
        more_active = (more, active);
        later = later;
      };
      each = λ k low high.
          let is : length old.log.steps ≡ k = omega arith in
          subst (IsShownAt new) is here;
    }

pub derives_derived : (old new : SolverState) (clause : List Lit) (hints : List ℕ) (number : ℕ)
    → IsShown old clause hints → IsDerived old.log new.log clause hints number → new.active ≡ old.active
    → Derives old new
derives_derived old new clause hints number shown d active =
    derives_one old new clause hints shown d.log_is [] (active ∙ sym (append-nil old.active))
    (same_later old new.active active)

pub derives_unit : (old new : SolverState) (clause : List Lit) (hints : List ℕ) → IsShown old clause hints
    → new ≡ with_unit old clause hints → Derives old new
derives_unit old new clause hints shown e =
    let active : new.active ≡ old.active ++ (length old.log.steps + 1) ∷ [] = ap (λ (s : SolverState). s.active) e in
    derives_one old new clause hints shown (ap (λ (s : SolverState). s.log) e) ((length old.log.steps + 1) ∷ []) active
    (pushed_later old new.active (length old.log.steps + 1) refl active)
