-- A log that takes an entry in stays guarded, spends nothing, and searches use its clause.
use Rattle.std.proofs.Common.{◌≡◌, ⊎_elim, ℕ, ◌+◌, ◌<◌, ◌≤◌, Bool, true, false, not, List, [], ◌∷◌, ◌++◌, length, take, cond, filter}
use Rattle.std.proofs.Common.{refl, ap, sym, subst, ◌∙◌, arith, inl, inr}
use Rattle.std.specs.Prelude.{◌⊎◌, Contains, slice_index_or, Some, count_by, map}
use Rattle.std.proofs.lemmas.Bool.{false≢true}
use Rattle.std.proofs.lemmas.List.{get_or_default, length_push, get_or_push}
use Rattle.std.proofs.lemmas.List.Elements.{Contains-push}
use Rattle.std.proofs.lemmas.List.Sums.{sum_by_push}
use Rattle.lists.proofs.Filters.{Contains-filter}
use Rattle.plain_lits.specs.Units.{Units}
use Rattle.semantics.specs.Frameworks.{Framework}
use Rattle.meaning_atoms.specs.declared.atom.Atom.TheVariants.{Ask}
use Rattle.meaning_atoms.specs.declared.atom.AtomLit.{AtomLit}
use Rattle.meaning_atoms.specs.Atoms.{IsLit}
use Rattle.meaning_atoms.specs.Literals.{affirmed, denied, AsksNothing}
use Rattle.oracle_face.specs.declared.entry.Entry.{Entry as PoolEntry}
use Rattle.oracle_face.specs.declared.entry.EntryOrigin.{EntryOrigin}
use Rattle.oracle_face.specs.declared.entry.EntryOrigin.TheVariants.{Axiom as OfAxiom, Hints}
use Rattle.oracle_face.specs.declared.entry.HintName.{HintName}
use Rattle.oracle_face.specs.declared.entry.HintName.TheVariants.{Entry}
use Rattle.oracle_face.specs.Entries.{IsShareable}
use Rattle.oracle_face.specs.Growing.{NoSide, Works}
use Rattle.oracle_face.specs.Logs.{LogStep, SideClause, OracleLog, HasPart, IsLog, IsNumberOf, Reaches, itself, by_hint}
use Rattle.oracle_face.specs.Logs.{by_side, by_hints, hints_of, step_at, is_unit, no_step, units_of, closings_of, working}
use Rattle.session_log.specs.Guards.{RestsOn, IsGuarded}
use Rattle.session_log.specs.Steps.{GainsStep, StaysGuarded, Spends, derived_step}
use Rattle.session_log.proofs.StepLemmas.{guarded_step, top_step, side_step_still, rests_back, same_sides_form, same_sides_grow}
use Rattle.session_log.specs.Imports.{AreHintsOf, TakesEntry}
use Rattle.lists.proofs.Images.{image_there}

some_name : HintName
some_name = Entry (record { session = 0; step = 0 })

-- a step that a name of an origin stands for
abbrev IsPlainStep : List LogStep → ℕ → Type 0
IsPlainStep steps hint =
    IsNumberOf steps hint × ((step_at steps hint).closing ≡ false) × AsksNothing (step_at steps hint).clause

hint_is : (own : ℕ) (steps : List LogStep) (origin : EntryOrigin) (hints : List ℕ) (hint : ℕ)
    → AreHintsOf own steps origin hints → Contains hints hint → IsPlainStep steps hint
hint_is own steps (OfAxiom name) hints hint are c = absurd are
hint_is own steps (Hints names) hints hint are c =
    let s = are.each c.0 some_name (subst (λ n. c.0 < n) are.long c.1) in
    subst (IsPlainStep steps) (get_or_default hints c.0 0 hint c.1 ∙ c.2) (s.named, s.kept, s.plain)

-- a step that rests on a side clause is its step, or has a hint that rests on it
rests_by : (log : OracleLog) (number k n : ℕ) → Reaches log.steps number k → (step_at log.steps k).source ≡ by_side n
    → ((step_at log.steps number).source ≡ by_side n)
    ⊎ ((hint : ℕ) × Contains (hints_of (step_at log.steps number).source) hint × RestsOn log hint n)
rests_by log number k n (itself m) source = inl source
rests_by log number k n (by_hint m hint reached c more) source =
    inr (hint, c, record { step = k; reaches = more; source = source })

module _ (own : ℕ) (entry : PoolEntry) (old new : OracleLog) (takes : TakesEntry own entry old new) where
  abbrev step : LogStep
  step = derived_step takes.clause takes.hints (Some entry.name) false

  top_rests : (n : ℕ) → RestsOn new (length old.steps + 1) n
      → (step.source ≡ by_side n) ⊎ ((hint : ℕ) × Contains takes.hints hint × RestsOn new hint n)
  top_rests n rests =
      subst (λ (s : LogStep). (s.source ≡ by_side n)
      ⊎ ((hint : ℕ) × Contains (hints_of s.source) hint × RestsOn new hint n))
      (top_step step old.sides old new takes.gains)
      (rests_by new (length old.steps + 1) rests.step n rests.reaches rests.source)

  pub entry_stays : (f : Framework) → IsLog f old → IsGuarded old → IsShareable entry → StaysGuarded NoSide f old new
  entry_stays f form guards may =
      let gains = takes.gains in
      let hint_of = λ (hint : ℕ) (c : Contains takes.hints hint). hint_is own old.steps entry.origin takes.hints hint
      takes.named c in
      let asks_not : (l : AtomLit) → Contains takes.clause l → Contains entry.clause l = takes.same.there in
      record {
        grows = same_sides_grow step old new gains;
        form = same_sides_form f step old new form gains (takes.checks, λ hint c. (hint_of hint c).1);
        guards = guarded_step step old.sides old new gains f form guards (record {
          denies_top = λ n rests. ⊎_elim (λ source. absurd (cc))
              (λ by.
              let here = hint_of by.0 by.1 in
              let before = rests_back step old.sides old new gains f form by.0 n here.0 by.2 in
              absurd (here.2 (denied (Ask n)) (guards.denies by.0 n here.0 before) tt))
              (top_rests n rests);
          rests_top = λ n c. absurd (may.plain (denied (Ask n)) (asks_not (denied (Ask n)) c) tt);
          unasked_top = λ n c. may.plain (affirmed (Ask n)) (asks_not (affirmed (Ask n)) c) tt;
          within_top = λ l c plain.
              let there = asks_not l c in
              subst (λ (k : AtomLit). IsLit k) there.2 (may.within there.0 l there.1);
          stepped_all = λ n named. side_step_still step old.sides old new gains n
              (guards.stepped n (subst (λ (sides : List SideClause). IsNumberOf sides n) gains.sides_now named));
        });
      }

  count_same : (p : LogStep → Bool) → p step ≡ false → count_by p new.steps ≡ count_by p old.steps
  count_same p not_it =
      ap (λ (steps : List LogStep). count_by p steps) takes.gains.steps
      ∙ (sum_by_push (λ s. cond (p s) 1 0) old.steps step ∙ (ap (λ b. count_by p old.steps + cond b 1 0) not_it ∙ omega arith))

  top_only : (k : ℕ) → length old.steps ≤ k → k < length new.steps → is_unit (slice_index_or new.steps k no_step) ≡ true
      → ⊥
  top_only k low high unit =
      let at : slice_index_or new.steps k no_step ≡ step =
      ap (λ (steps : List LogStep). slice_index_or steps k no_step) takes.gains.steps
      ∙ get_or_push old.steps step no_step k (omega (arith, ap length takes.gains.steps, length_push old.steps step)) in
      false≢true (sym (ap is_unit at) ∙ unit)

  pub entry_spends : (f : Framework) → Spends f old new 0 0
  entry_spends f = record {
    works = λ before after spent. record {
      fresh = λ k low high unit. absurd (top_only k low high unit);
      facts = λ k low high unit. absurd (top_only k low high unit);
      counted = omega (arith, count_same is_unit refl, spent);
    };
    closes = count_same (λ (s : LogStep). s.closing) refl ∙ omega arith;
  }

  pub entry_used : HasPart (working new.steps) entry.clause
  entry_used = record {
    part = takes.clause;
    listed = image_there (λ (s : LogStep). s.clause) (filter (λ (s : LogStep). not s.closing) new.steps) step
        ((Contains-filter (λ (s : LogStep). not s.closing) new.steps step).1 (
          subst (λ (steps : List LogStep). Contains steps step) (sym takes.gains.steps) (Contains-push old.steps step),
          refl,
        ));
    inside = takes.same.there;
  }
