-- What a log gains by an entry, and why it gains nothing.
use Rattle.std.proofs.Common.{◌≡◌, ℕ, List, length, take, ap, sym, subst, ◌∙◌, refl, arith, inl, inr, ⊎_elim}
use Rattle.std.proofs.Common.{false, not, filter}
use Rattle.std.specs.Prelude.{Contains, Bool, true, Option, Some, None, Result, Ok, Err, OnOk, OnErr}
use Rattle.std.specs.Prelude.{IsSome}
use Rattle.lists.specs.declared.memory.Memory.{Memory}
use Rattle.plain_lits.specs.declared.halt.Halt.{Halt}
use Rattle.plain_lits.specs.declared.halt.Halt.TheVariants.{Spent, LogFull, Memory as OfMemory}
use Rattle.std.proofs.lemmas.Bool.{false≢true}
use Rattle.std.proofs.lemmas.List.Elements.{Contains-push}
use Rattle.lists.proofs.Filters.{Contains-filter}
use Rattle.plain_lits.specs.HintCheck.{Checks}
use Rattle.plain_lits.proofs.HintCheckLemmas.{Contains-mapped}
use Rattle.semantics.specs.Frameworks.{Framework, af, aba}
use Rattle.meaning_atoms.specs.declared.atom.AtomLit.{AtomLit}
use Rattle.meaning_atoms.specs.declared.axiom.AxiomName.{AxiomName}
use Rattle.meaning_atoms.specs.declared.axiom.AxiomName.TheVariants.{Af as OfAf, Aba as OfAba}
use Rattle.meaning_atoms.specs.AxiomNames.{IsAxiomName}
use Rattle.meaning_atoms.specs.Literals.{negated}
use Rattle.certificate_claims.specs.Refutations.{IsAxiomOf}
use Rattle.oracle_face.specs.declared.entry.Entry.{Entry as AnEntry}
use Rattle.oracle_face.specs.declared.entry.EntryOrigin.{EntryOrigin}
use Rattle.oracle_face.specs.declared.entry.EntryOrigin.TheVariants.{Axiom, Hints}
use Rattle.oracle_face.specs.declared.entry.HintName.{HintName}
use Rattle.oracle_face.specs.Entries.{IsShareable}
use Rattle.oracle_face.specs.Growing.{Grows, NoSide}
use Rattle.oracle_face.specs.Kinds.{is_assumption_based}
use Rattle.oracle_face.specs.Logs.{OracleLog, LogStep, by_axiom, clauses_of, working}
use Rattle.oracle_face.proofs.GrowingLemmas.{grows_same, run_none}
use Rattle.session_log.specs.Steps.{GainsStep, Spends, StaysGuarded, derived_step, own_step}
use Rattle.session_log.proofs.Spending.{axiom_spends}
use Rattle.session_log.proofs.Staying.{axiom_stays}
use Rattle.session_log.proofs.StepLemmas.{same_sides_grow}
use Rattle.session_log.specs.Imports.{AreHintsOf, IsShownHere, MayImport, StandForSteps, TakesEntry}
use Rattle.session_log.proofs.Naming.{front_stands}
use Rattle.session_log.proofs.Taking.{entry_spends, entry_stays, entry_used}
use Rattle.atom_solver.specs.Imported.{Imports, IsImported, IsRefused}
use Rattle.atom_solver.specs.States.{AddsAxiom, AtomState, IsGuardedLog}
use Rattle.entry_taking.specs.declared.names.StepName.TheVariants.{Axiom as OfAxiom, Entry as EntryOf}
use Rattle.entry_taking.specs.declared.names.StepNames.{StepNames}
use Rattle.entry_taking.specs.Names.{IsFirstOf, told_of}
use Rattle.entry_taking.specs.Taking.{ComesIn, ImportsOrMayNot, GoesOn, IsKnown, IsLooked, IsOfAxiom, MayCome}
use Rattle.entry_taking.specs.Taking.{is_of_aba}
use Rattle.entry_taking.proofs.Finding.{stand_once}

-- ---- the log goes on

pub goes_same : (kind : Bool) (s : AtomState) → GoesOn kind s s
goes_same kind s = record {
  grows = grows_same NoSide s.log;
  log = λ f is h. h;
  run = λ f units h. run_none NoSide 0 f s.log s.pending units;
}

goes_by : (kind : Bool) (old new : AtomState) → Grows NoSide old.log new.log
    → ((f : Framework) → is_assumption_based f ≡ kind → IsGuardedLog f old.log → StaysGuarded NoSide f old.log new.log)
    → ((f : Framework) → Spends f old.log new.log 0 0) → GoesOn kind old new
goes_by kind old new grows stays spends = record {
  grows = grows;
  log = λ f is h. let s = stays f is h in record { form = s.form; guards = s.guards };
  run = λ f units h. record {
    grows = grows;
    limit = refl;
    works = (spends f).works units units (omega arith);
    closing = let few = (spends f).closes in omega arith;
    stop = tt;
  };
}

-- ---- an axiom comes

pub of_kind : (f : Framework) (name : AxiomName) → is_of_aba name ≡ is_assumption_based f → IsAxiomName name
    → IsAxiomOf f name
of_kind (af f) (OfAf name) same is = is
of_kind (af f) (OfAba name) same is = absurd (false≢true (sym same))
of_kind (aba f) (OfAf name) same is = absurd (false≢true same)
of_kind (aba f) (OfAba name) same is = is

pub axiom_goes : (kind : Bool) (name : AxiomName) (old new : AtomState) → MayCome kind name → IsAxiomName name
    → AddsAxiom name old new → GoesOn kind old new
axiom_goes kind name old new may is adds =
    goes_by kind old new (same_sides_grow (own_step adds.clause (by_axiom name)) old.log new.log adds.takes.gains)
    (λ f same h. axiom_stays f name adds.clause old.log new.log h.form h.guards
    (of_kind f name (may.of_kind ∙ sym same) is) adds.takes)
    (λ f. axiom_spends f name adds.clause old.log new.log may.no_loop adds.takes)

-- searches use the clause of a step that is gained and didn't only end a search
gained_used : (step : LogStep) (old new : OracleLog) → GainsStep step old.sides old new → step.closing ≡ false
    → Contains (working new.steps) step.clause
gained_used step old new gains kept =
    Contains-mapped (λ (s : LogStep). s.clause) (filter (λ (s : LogStep). not s.closing) new.steps) step
    ((Contains-filter (λ (s : LogStep). not s.closing) new.steps step).1 (
      subst (λ (steps : List LogStep). Contains steps step) (sym gains.steps) (Contains-push old.steps step),
      ap not kept,
    ))

pub axiom_comes : (f : Framework) (own : ℕ) (name : AxiomName) (clause : List AtomLit) (old new : AtomState)
    → IsOfAxiom name clause → AddsAxiom name old new → ComesIn f own clause (Axiom name) old.log new.log
axiom_comes f own name clause old new is adds = inl (record {
  part = adds.clause;
  listed = gained_used (own_step adds.clause (by_axiom name)) old.log new.log adds.takes.gains refl;
  inside = λ l c. is.1.back l (adds.takes.same.there l c);
})

pub full_comes : (f : Framework) (own : ℕ) (clause : List AtomLit) (origin : EntryOrigin) (old new : OracleLog)
    → length old.steps ≡ old.limit → ComesIn f own clause origin old new
full_comes f own clause origin old new full = inr (λ room. absurd (omega arith))

name_fits : (f : Framework) (name : AxiomName) → IsAxiomOf f name → IsAxiomName name
name_fits (af f) (OfAf name) is = is
name_fits (af f) (OfAba name) is = absurd is
name_fits (aba f) (OfAf name) is = absurd is
name_fits (aba f) (OfAba name) is = is

pub other_clause : (f : Framework) (own : ℕ) (name : AxiomName) (clause : List AtomLit) (old new : OracleLog)
    → (IsOfAxiom name clause → ⊥) → ComesIn f own clause (Axiom name) old new
other_clause f own name clause old new not_so =
    inr (λ room shown. not_so (name_fits f name shown.0, shown.2))

kind_fits : (f : Framework) (name : AxiomName) → IsAxiomOf f name → is_of_aba name ≡ is_assumption_based f
kind_fits (af f) (OfAf name) is = refl
kind_fits (af f) (OfAba name) is = absurd is
kind_fits (aba f) (OfAf name) is = absurd is
kind_fits (aba f) (OfAba name) is = refl

-- an axiom that may not come from an entry isn't what the entry shows
pub stays_outside : (kind : Bool) (f : Framework) (own : ℕ) (name : AxiomName) (clause : List AtomLit)
    (old new : OracleLog) → is_assumption_based f ≡ kind → (MayCome kind name → ⊥)
    → ComesIn f own clause (Axiom name) old new
stays_outside kind f own name clause old new same not_so =
    inr (λ room shown. not_so (record { of_kind = kind_fits f name shown.0 ∙ same; no_loop = shown.1 }))

pub axiom_there : (f : Framework) (own : ℕ) (name : AxiomName) (clause : List AtomLit) (old new : OracleLog)
    (names : StepNames) → IsLooked names old.steps → IsSome (told_of names (OfAxiom name))
    → ComesIn f own clause (Axiom name) old new
axiom_there f own name clause old new names looked some = go (told_of names (OfAxiom name)) refl some
  where
    go : (told : Option ℕ) → told_of names (OfAxiom name) ≡ told → IsSome told
        → ComesIn f own clause (Axiom name) old new
    go None is said = absurd (cc)
    go (Some k) is said =
        let first = subst (IsFirstOf old.steps names.seen (OfAxiom name)) is (looked.named.each (OfAxiom name)) in
        let high = first.high in
        let all = looked.all in
        inr (λ room shown. shown.3 k (record { from_one = first.low; within = omega arith }) first.called)

-- ---- a derived clause comes

module _ (own : ℕ) (entry : AnEntry) (names : List HintName) (origin : entry.origin ≡ Hints names) (hints : List ℕ)
    (old new : AtomState) (stand : StandForSteps own old.log.steps names hints) where
  pub takes : Imports entry.clause hints entry.name old new → TakesEntry own entry old.log new.log
  takes i = record {
    clause = i.clause;
    hints = take i.used hints;
    same = i.same;
    checks = i.checks;
    named = subst (λ o. AreHintsOf own old.log.steps o (take i.used hints)) (sym origin)
        (front_stands own old.log.steps names hints i.used stand);
    gains = i.gains;
  }

  pub derived_goes : (kind : Bool) → IsShareable entry → Imports entry.clause hints entry.name old new
      → GoesOn kind old new
  derived_goes kind may i =
      let t = takes i in
      goes_by kind old new
      (same_sides_grow (derived_step i.clause (take i.used hints) (Some entry.name) false) old.log new.log i.gains)
      (λ f same h. entry_stays own entry old.log new.log t f h.form h.guards may)
      (λ f. entry_spends own entry old.log new.log t f)

  pub derived_comes : (f : Framework) → Imports entry.clause hints entry.name old new
      → ComesIn f own entry.clause (Hints names) old.log new.log
  derived_comes f i = inl (entry_used own entry old.log new.log (takes i))

  pub derived_refused : (f : Framework) → IsRefused old.log entry.clause hints
      → ComesIn f own entry.clause (Hints names) old.log new.log
  derived_refused f refused =
      ⊎_elim (λ full. full_comes f own entry.clause (Hints names) old.log new.log full)
      (λ none. inr (λ room shown.
      let same = stand_once own old.log.steps names shown.hints hints shown.stand stand in
      none shown.used (subst (λ hs. Checks negated (clauses_of old.log.steps) entry.clause hs (Ok shown.used)) same
      shown.checks)))
      refused

pub unnamed_comes : (f : Framework) (own : ℕ) (clause : List AtomLit) (names : List HintName) (old new : OracleLog)
    → ((hints : List ℕ) → StandForSteps own old.steps names hints → ⊥) → ComesIn f own clause (Hints names) old new
unnamed_comes f own clause names old new none = inr (λ room shown. none shown.hints shown.stand)

-- ---- an entry comes

pub entry_comes : (f : Framework) (own : ℕ) (entry : AnEntry) (origin : EntryOrigin) (old new : OracleLog)
    → entry.origin ≡ origin → ComesIn f own entry.clause origin old new → ImportsOrMayNot f own entry old new
entry_comes f own entry origin old new is comes =
    ⊎_elim (λ part. inl part)
    (λ none. inr (λ may. none may.room (subst (λ o. IsShownHere f own old.steps entry.clause o) is may.shown)))
    comes

pub known_stays : (f : Framework) (own : ℕ) (entry : AnEntry) (old new : OracleLog) (names : StepNames)
    → IsLooked names old.steps → IsKnown names own entry.name → ImportsOrMayNot f own entry old new
known_stays f own entry old new names looked known = inr (λ may. ⊎_elim (λ same. may.other same)
    (λ some. go may (told_of names (EntryOf entry.name.session entry.name.step)) refl some) known)
  where
    go : MayImport f own old entry → (told : Option ℕ)
        → told_of names (EntryOf entry.name.session entry.name.step) ≡ told → IsSome told → ⊥
    go may None is said = absurd (cc)
    go may (Some k) is said =
        let first = subst (IsFirstOf old.steps names.seen (EntryOf entry.name.session entry.name.step)) is
        (looked.named.each (EntryOf entry.name.session entry.name.step)) in
        let high = first.high in
        let all = looked.all in
        may.absent k (record { from_one = first.low; within = omega arith }) first.called

-- ---- by what a call answers

pub axiom_went : (r : Result (Unit {0}) Halt) (kind : Bool) (name : AxiomName) (old new : AtomState)
    → MayCome kind name → IsAxiomName name → OnOk r (AddsAxiom name old new) → OnErr r (new ≡ old)
    → GoesOn kind old new
axiom_went (Ok u) kind name old new may is ok err = axiom_goes kind name old new may is ok
axiom_went (Err halt) kind name old new may is ok err = subst (GoesOn kind old) (sym err) (goes_same kind old)

pub axiom_came : (r : Result (Unit {0}) Halt) (f : Framework) (own : ℕ) (name : AxiomName) (clause : List AtomLit)
    (old new : AtomState) → IsOfAxiom name clause → OnOk r (AddsAxiom name old new)
    → (r ≡ Err LogFull → length old.log.steps ≡ old.log.limit) → (r ≡ Err OfMemory → ⊥)
    → ((count : ℕ) → r ≡ Err (Spent count) → ⊥) → ComesIn f own clause (Axiom name) old.log new.log
axiom_came (Ok u) f own name clause old new is ok full not_memory unspent = axiom_comes f own name clause old new is ok
axiom_came (Err LogFull) f own name clause old new is ok full not_memory unspent =
    full_comes f own clause (Axiom name) old.log new.log (full refl)
axiom_came (Err OfMemory) f own name clause old new is ok full not_memory unspent = absurd (not_memory refl)
axiom_came (Err (Spent count)) f own name clause old new is ok full not_memory unspent = absurd (unspent count refl)

module _ (own : ℕ) (entry : AnEntry) (names : List HintName) (origin : entry.origin ≡ Hints names) (hints : List ℕ)
    (old new : AtomState) (stand : StandForSteps own old.log.steps names hints) where
  pub import_went : (kind taken : Bool) → IsShareable entry → IsImported entry.clause hints entry.name old new taken
      → GoesOn kind old new
  import_went kind true may i = derived_goes own entry names origin hints old new stand kind may i
  import_went kind false may i = subst (GoesOn kind old) (sym i.0) (goes_same kind old)

  pub import_came : (taken : Bool) (f : Framework) → IsImported entry.clause hints entry.name old new taken
      → ComesIn f own entry.clause (Hints names) old.log new.log
  import_came true f i = derived_comes own entry names origin hints old new stand f i
  import_came false f i = derived_refused own entry names origin hints old new stand f i.1

pub axiom_entry_came : (r : Result (Unit {0}) Memory) (kind : Bool) (own : ℕ) (entry : AnEntry) (name : AxiomName)
    (clause : List AtomLit) (old new : OracleLog) → entry.origin ≡ Axiom name → clause ≡ entry.clause
    → OnOk r ((f : Framework) (own : ℕ) → is_assumption_based f ≡ kind → ComesIn f own clause (Axiom name) old new)
    → OnOk r ((f : Framework) → is_assumption_based f ≡ kind → ImportsOrMayNot f own entry old new)
axiom_entry_came (Ok u) kind own entry name clause old new is same comes = λ f of_kind.
    entry_comes f own entry (Axiom name) old new is
    (subst (λ c. ComesIn f own c (Axiom name) old new) same (comes f own of_kind))
axiom_entry_came (Err e) kind own entry name clause old new is same comes = tt

pub hints_entry_came : (r : Result (Unit {0}) Memory) (kind : Bool) (own : ℕ) (entry : AnEntry)
    (names others : List HintName)
    (old new : OracleLog) → entry.origin ≡ Hints names → others ≡ names
    → OnOk r ((f : Framework) → ComesIn f own entry.clause (Hints others) old new)
    → OnOk r ((f : Framework) → is_assumption_based f ≡ kind → ImportsOrMayNot f own entry old new)
hints_entry_came (Ok u) kind own entry names others old new is same comes = λ f of_kind.
    entry_comes f own entry (Hints names) old new is
    (subst (λ hs. ComesIn f own entry.clause (Hints hs) old new) same (comes f))
hints_entry_came (Err e) kind own entry names others old new is same comes = tt

-- what comes beside any framework comes beside those of a kind
pub came_of_kind : (r : Result (Unit {0}) Memory) (kind : Bool) (name : AxiomName) (clause : List AtomLit)
    (old new : OracleLog) → OnOk r ((f : Framework) (own : ℕ) → ComesIn f own clause (Axiom name) old new)
    → OnOk r ((f : Framework) (own : ℕ) → is_assumption_based f ≡ kind → ComesIn f own clause (Axiom name) old new)
came_of_kind (Ok u) kind name clause old new comes = λ f own same. comes f own
came_of_kind (Err e) kind name clause old new comes = tt
