-- The names of a log's steps, as more of them are looked at and as the log grows.
use Rattle.std.proofs.Common.{◌≡◌, ℕ, ◌+◌, ◌-◌, ◌<◌, ◌≤◌, false, List, ◌++◌, length, ap, sym, subst, ◌∙◌, refl, arith, inl, inr, ⊎_elim}
use Rattle.std.specs.Prelude.{◌⊎◌, cond, Option, Some, None}
use Rattle.std.proofs.lemmas.Bool.{cases_lt, cases_Bool, false≢true}
use Rattle.std.proofs.lemmas.List.{get_or_append_left, length-append}
use Rattle.oracle_face.specs.Growing.{Making, Grows}
use Rattle.oracle_face.specs.Logs.{OracleLog, LogStep, by_axiom, no_step, step_at}
use Rattle.oracle_face.specs.declared.step_source.StepSource.{StepSource}
use Rattle.oracle_face.specs.declared.step_source.StepSource.TheVariants.{Axiom as OfAxiom, Side as OfSide, Entry as OfEntry, Hints}
use Rattle.oracle_face.specs.StepSources.{imported_of, source_of}
use Rattle.entry_taking.specs.declared.names.StepName.{StepName}
use Rattle.entry_taking.specs.declared.names.StepName.TheVariants.{Axiom, Entry}
use Rattle.entry_taking.specs.declared.names.StepNames.{StepNames}
use Rattle.entry_taking.specs.contracts.names.StepNamePartialEq.TheImpl.{eq-value as name_eq}
use Rattle.entry_taking.specs.NameEquality.{name_decides}
use Rattle.entry_taking.specs.Names.{AreNamed, IsCalledSo, IsFirstCalled, IsFirstOf, IsNoted, IsPut, IsSameNames, name_of, told_of}

-- ---- a log that grows

same_step : (steps more : List LogStep) (number : ℕ) → 0 < number → number ≤ length steps
    → step_at (steps ++ more) number ≡ step_at steps number
same_step steps more number low high = get_or_append_left steps more no_step (number - 1) (omega arith)

first_still : (steps more : List LogStep) (seen : ℕ) (name : StepName) (told : Option ℕ) → seen ≤ length steps
    → IsFirstOf steps seen name told → IsFirstOf (steps ++ more) seen name told
first_still steps more seen name None within h = λ number low high called.
    h number low high (subst (IsCalledSo name) (same_step steps more number low (omega arith)) called)
first_still steps more seen name (Some k) within h =
    let low = h.low in
    let high = h.high in
    record {
      low = low;
      high = high;
      called = subst (IsCalledSo name) (sym (same_step steps more k low (omega arith))) h.called;
      first = λ other from upto called. h.first other from upto
          (subst (IsCalledSo name) (same_step steps more other from (omega arith)) called);
    }

pub named_grown : (P : Making) (names : StepNames) (old new : OracleLog) → Grows P old new → AreNamed names old.steps
    → AreNamed names new.steps
named_grown P names old new grows h =
    let more = grows.more_steps in
    subst (AreNamed names) (sym more.1) (record {
      within = let few = h.within in omega (arith, length-append old.steps more.0);
      each = λ name. first_still old.steps more.0 names.seen name (told_of names name) h.within (h.each name);
    })

-- ---- a name is told

pub put_one : (name : StepName) (step : ℕ) (old new : StepNames) → new.seen ≡ old.seen → told_of old name ≡ None
    → ((other : StepName) → told_of new other ≡ cond ((name_eq).it name other) (Some step) (told_of old other))
    → IsPut (Some name) step old new
put_one name step old new seen none told =
    let same : (other : StepName) → name ≡ other → told_of new other ≡ Some step =
    λ other e. told other ∙ ap (λ b. cond b (Some step) (told_of old other)) ((name_decides name other).1 e) in
    let else_ : (other : StepName) → (name_eq).it name other ≡ false → told_of new other ≡ told_of old other =
    λ other e. told other ∙ ap (λ b. cond b (Some step) (told_of old other)) e in
    record {
      seen = seen;
      kept = λ other number is. ⊎_elim
          (λ yes_.
          let e : name ≡ other = (name_decides name other).0 yes_ in
          let f : None ≡ Some number = sym none ∙ (ap (told_of old) e ∙ is) in absurd (cc))
          (λ not_. else_ other not_ ∙ is)
          (cases_Bool ((name_eq).it name other));
      gained = λ other is by. let e : name ≡ other = cc in same other e;
      others = λ other is not_by. ⊎_elim
          (λ yes_. absurd (not_by (ap Some ((name_decides name other).0 yes_))))
          (λ not_. else_ other not_ ∙ is)
          (cases_Bool ((name_eq).it name other));
    }

-- ---- one step more

-- a step is called as its origin says
called_by : (origin : StepSource) (name : StepName) (step : LogStep) (hints : List ℕ)
    → step.source ≡ source_of origin hints → step.imported ≡ imported_of origin → IsCalledSo name step
    → name_of origin ≡ Some name
called_by (OfAxiom a) (Axiom b) step hints source imported called =
    let e : by_axiom a ≡ by_axiom b = sym source ∙ called in cc
called_by (OfAxiom a) (Entry s n) step hints source imported called = let e = sym imported ∙ called in absurd (cc)
called_by (OfSide a) (Axiom b) step hints source imported called = let e = sym source ∙ called in absurd (cc)
called_by (OfSide a) (Entry s n) step hints source imported called = let e = sym imported ∙ called in absurd (cc)
called_by (OfEntry a) (Axiom b) step hints source imported called = let e = sym source ∙ called in absurd (cc)
called_by (OfEntry a) (Entry s n) step hints source imported called =
    let e : Some a ≡ Some (record { session = s; step = n }) = sym imported ∙ called in cc
called_by Hints (Axiom b) step hints source imported called = let e = sym source ∙ called in absurd (cc)
called_by Hints (Entry s n) step hints source imported called = let e = sym imported ∙ called in absurd (cc)

calls_so : (origin : StepSource) (name : StepName) (step : LogStep) (hints : List ℕ)
    → step.source ≡ source_of origin hints → step.imported ≡ imported_of origin → name_of origin ≡ Some name
    → IsCalledSo name step
calls_so (OfAxiom a) (Axiom b) step hints source imported is =
    let f : Some (Axiom a) ≡ Some (Axiom b) = is in let e : a ≡ b = cc in source ∙ ap (λ x. by_axiom x) e
calls_so (OfAxiom a) (Entry s n) step hints source imported is =
    let f : Some (Axiom a) ≡ Some (Entry s n) = is in absurd (cc)
calls_so (OfSide a) name step hints source imported is = let e : None ≡ Some name = is in absurd (cc)
calls_so (OfEntry a) (Axiom b) step hints source imported is =
    let f : Some (Entry a.session a.step) ≡ Some (Axiom b) = is in absurd (cc)
calls_so (OfEntry a) (Entry s n) step hints source imported is =
    let f : Some (Entry a.session a.step) ≡ Some (Entry s n) = is in
    let e : a.session ≡ s = cc in
    let e' : a.step ≡ n = cc in
    imported ∙ (ap (λ x. Some (record { session = x; step = a.step })) e
    ∙ ap (λ x. Some (record { session = s; step = x })) e')
calls_so Hints name step hints source imported is = let e : None ≡ Some name = is in absurd (cc)

-- what was told is told, with one step more to look at
first_longer : (steps : List LogStep) (seen : ℕ) (name : StepName) (k : ℕ) → IsFirstCalled steps seen name k
    → IsFirstCalled steps (seen + 1) name k
first_longer steps seen name k h =
    let high = h.high in
    record {
      low = h.low;
      high = omega arith;
      called = h.called;
      first = λ other from upto called. ⊎_elim
          (λ early. h.first other from (omega arith) called) (λ late. omega arith) (cases_lt other (seen + 1));
    }

module _ (origin : StepSource) (old new : StepNames) (steps : List LogStep) (hints : List ℕ)
    (within : old.seen < length steps) (named : AreNamed old steps) (noted : IsNoted origin (old.seen + 1) old new)
    (source : (step_at steps (old.seen + 1)).source ≡ source_of origin hints)
    (imported : (step_at steps (old.seen + 1)).imported ≡ imported_of origin) where
  abbrev next : ℕ
  next = old.seen + 1

  decide_name : (name : StepName) (by : Option StepName) → ((by ≡ Some name) ⊎ (by ≡ Some name → ⊥))
  decide_name name None = inr (λ e. absurd (cc))
  decide_name name (Some other) =
      ⊎_elim (λ yes_. inl (ap Some ((name_decides other name).0 yes_)))
      (λ not_. inr (λ e. let same : other ≡ name = cc in false≢true (sym not_ ∙ (name_decides other name).1 same)))
      (cases_Bool ((name_eq).it other name))

  one_more : (name : StepName) (before : Option ℕ) → told_of old name ≡ before → IsFirstOf steps old.seen name before
      → IsFirstOf steps next name (told_of new name)
  one_more name (Some k) is h =
      subst (IsFirstOf steps next name) (sym (noted.kept name k is)) (first_longer steps old.seen name k h)
  one_more name None is none =
      ⊎_elim
      (λ by.
      subst (IsFirstOf steps next name) (sym (noted.gained name is by)) (record {
        low = omega arith;
        high = omega arith;
        called = calls_so origin name (step_at steps next) hints source imported by;
        first = λ other from upto called. ⊎_elim
            (λ (early : other < next). absurd (none other from (omega arith) called)) (λ late. late)
            (cases_lt other next);
      }))
      (λ not_by.
      subst (IsFirstOf steps next name) (sym (noted.others name is not_by))
      (λ other from upto called. ⊎_elim
      (λ (early : other < next). none other from (omega arith) called)
      (λ (late : next ≤ other).
      let same : other ≡ next = omega arith in
      not_by (called_by origin name (step_at steps next) hints source imported
      (subst (λ n. IsCalledSo name (step_at steps n)) same called)))
      (cases_lt other next)))
      (decide_name name (name_of origin))

  pub named_more : AreNamed new steps
  named_more =
      let seen : new.seen ≡ next = noted.seen in
      record {
        within = omega arith;
        each = λ name. subst (λ n. IsFirstOf steps n name (told_of new name)) (sym seen)
            (one_more name (told_of old name) refl (named.each name));
      }

-- names that are told as before
pub named_same : (old new : StepNames) (steps : List LogStep) → IsSameNames old new → AreNamed old steps
    → AreNamed new steps
named_same old new steps same h = record {
  within = subst (λ n. n ≤ length steps) (sym same.seen) h.within;
  each = λ name. subst (λ n. IsFirstOf steps n name (told_of new name)) (sym same.seen)
      (subst (IsFirstOf steps old.seen name) (sym (same.told name)) (h.each name));
}
