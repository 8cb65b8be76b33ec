-- A clause that is taken from an entry, and why one is refused.
use Rattle.std.proofs.Common.{◌≡◌, ℕ, ◌+◌, ◌-◌, ◌<◌, Bool, true, false, not, List, [], ◌∷◌, ◌++◌, length, take, map, get_or, ap, sym, subst, ◌∙◌, refl, arith, inl, inr, ⊎_elim}
use Rattle.std.specs.Prelude.{◌↔◌, IsTrue, Contains, Option, Result, Ok, Err, IfOk}
use Rattle.std.proofs.lemmas.List.{take_all, length-take-le, get_or_default}
use Rattle.std.proofs.lemmas.Bool.{false≢true}
use Rattle.lists.specs.declared.memory.Memory.{Memory}
use Rattle.plain_lits.specs.declared.lit.Lit.{Lit}
use Rattle.plain_lits.specs.Literals.{negation}
use Rattle.plain_lits.specs.HintCheck.{Checks, IsTautology}
use Rattle.plain_lits.specs.Checking.{HasRoomFor}
use Rattle.plain_lits.proofs.HintCheckLemmas.{IsSameSet, propagates_same_set, taken_sound}
use Rattle.plain_lits.proofs.OneOutcome.{one_outcome}
use Rattle.clause_watches.proofs.Fronts.{front_cases}
use Rattle.hinted_log.specs.Logs.{LogState, IsStepOf, clauses_of, derived_step, step_at}
use Rattle.hinted_log.specs.declared.fault.LogFault.{LogFault}
use Rattle.hinted_log.specs.declared.fault.LogFault.TheVariants.{LogFull, Rejected, Memory as OfMemory}
use Rattle.sat_core.specs.declared.answer.Added.TheVariants.{Derived}
use Rattle.sat_core.specs.Solving.{SolverState, AddsTo}
use Rattle.atom_table.specs.Numbering.{AreDifferent}
use Rattle.meaning_atoms.specs.declared.atom.Atom.{Atom}
use Rattle.meaning_atoms.specs.declared.atom.AtomLit.{AtomLit}
use Rattle.meaning_atoms.specs.Literals.{negated, AsksNothing}
use Rattle.meaning_atoms.specs.Worlds.{IsAsk}
use Rattle.meaning_atoms.proofs.SameAtoms.{same_literal}
use Rattle.oracle_face.specs.declared.entry.EntryName.{EntryName}
use Rattle.oracle_face.specs.declared.face.Pending.{Pending}
use Rattle.oracle_face.specs.Logs as face
use Rattle.oracle_face.specs.Logs.{OracleLog, LogStep, SideClause, IsNumberOf, IsSameClause}
use Rattle.oracle_face.specs.declared.step_source.StepSource.{StepSource}
use Rattle.oracle_face.specs.declared.step_source.StepSource.TheVariants.{Entry}
use Rattle.atom_solver.specs.States.{AtomState}
use Rattle.atom_solver.specs.Imported.{Imports, IsImported, IsPlain, IsRefused}
use Rattle.atom_solver.specs.Inner.{IsFilled}
use Rattle.atom_solver.specs.Lifted.{IsLifting, atom_at, atoms_of, in_use, lit_of, lifted_at, listed, log_over, state_over}
use Rattle.atom_solver.proofs.Lifting.{checks_lifted, in_use_no, in_use_yes, step_lifted}
use Rattle.atom_solver.proofs.Listing.{length-listed}
use Rattle.atom_solver.proofs.Reading.{step_named}
use Rattle.atom_solver.proofs.Giving.{Gains, step_gains, step_whole}
use Rattle.lists.proofs.Images.{image_there, image_from}
use Rattle.session_log.proofs.Staying.{turned}

-- ---- of a clause only the members count

mapped_same : (xs ys : List AtomLit) → IsSameClause xs ys → IsSameSet (map negated xs) (map negated ys)
mapped_same xs ys same = record {
  there = λ l c.
      let w = image_from negated xs l c in
      subst (λ x. Contains (map negated ys) x) w.2 (image_there negated ys w.0 (same.there w.0 w.1));
  back = λ l c.
      let w = image_from negated ys l c in
      subst (λ x. Contains (map negated xs) x) w.2 (image_there negated xs w.0 (same.back w.0 w.1));
}

tautology_same : (xs ys : List AtomLit) → IsSameClause xs ys → IsTautology negated xs → IsTautology negated ys
tautology_same xs ys same t = (t.0, same.there t.0 t.1, same.there (negated t.0) t.2)

pub checks_same : (steps : List (List AtomLit)) (xs ys : List AtomLit) (hints : List ℕ) (outcome : Result ℕ ℕ)
    → IsSameClause xs ys → Checks negated steps xs hints outcome → Checks negated steps ys hints outcome
checks_same steps xs ys hints outcome same w =
    ⊎_elim (λ t. inl (tautology_same xs ys same t.0, t.1))
    (λ p. inr (
      λ t. p.0 (tautology_same ys xs (turned xs ys same) t),
      propagates_same_set negated steps (map negated xs) (map negated ys) 1 hints outcome (mapped_same xs ys same) p.1,
    )) w

taken_not_rejected : (steps : List (List AtomLit)) (xs ys : List AtomLit) (hints : List ℕ) (place n : ℕ)
    → IsSameClause xs ys → Checks negated steps xs hints (Err place) → Checks negated steps ys hints (Ok n) → ⊥
taken_not_rejected steps xs ys hints place n same rejected taken =
    let e : Err place ≡ Ok n = (one_outcome negated same_literal steps xs hints).one (Err place) (Ok n) rejected
    (checks_same steps ys xs hints (Ok n) (turned xs ys same) taken) in
    cc

-- ---- a clause comes

module _ (atoms : List Atom) (old new : SolverState) (clause : List Lit) (hints : List ℕ) (number : ℕ)
    (adds : AddsTo old new clause (Derived hints) number) where
  abbrev kept : List ℕ
  kept = take adds.recorded.used hints

  derived_gains : Gains old new (derived_step clause kept)
  derived_gains = record {
    steps = ap (λ (g : LogState). g.steps) adds.recorded.added.new_log;
    limit = ap (λ (g : LogState). g.limit) adds.recorded.added.new_log;
    active = adds.in_use ∙ ap (λ n. old.active ++ n ∷ []) adds.recorded.added.next;
  }

  lifted_check : (origins : List StepSource) (k : ℕ) → k ≡ length old.log.steps → AreDifferent atoms
      → IsLifting atoms old origins → HasRoomFor (length atoms) clause
      → Checks negated (face.clauses_of (listed (lifted_at atoms old origins) k)) (atoms_of atoms clause) kept
      (Ok (length kept))
  lifted_check origins k is different whole room =
      let sound = taken_sound negation (clauses_of old.log.steps) clause hints adds.recorded.used adds.recorded.taken in
      let long : length kept ≡ adds.recorded.used = length-take-le adds.recorded.used hints sound.within in
      let all : take k old.log.steps ≡ old.log.steps = take_all k old.log.steps (omega arith) in
      checks_lifted atoms old origins k clause kept (Ok (length kept)) different whole.room (omega arith) room
      (subst (λ steps. Checks negation (clauses_of steps) clause kept (Ok (length kept))) (sym all)
      (subst (λ n. Checks negation (clauses_of old.log.steps) clause kept (Ok n)) (sym long) sound.alone))

  module _ (origins filled pushed : List StepSource) (name : EntryName)
      (same : IsFilled origins filled (length old.log.steps)) (long : length filled ≡ length old.log.steps)
      (is : pushed ≡ filled ++ Entry name ∷ []) where
    pub entry_whole : HasRoomFor (length atoms) clause → IsLifting atoms old origins → IsLifting atoms new pushed
    entry_whole room whole =
        step_whole atoms old new (derived_step clause kept) derived_gains origins filled pushed (Entry name) same long is
        room whole

    pub entry_imports : (sides : List SideClause) (pending : Option Pending) → AreDifferent atoms
        → IsLifting atoms old origins → HasRoomFor (length atoms) clause → length old.log.steps < old.log.limit
        → Imports (atoms_of atoms clause) hints name (state_over atoms old origins sides pending)
        (state_over atoms new pushed sides pending)
    entry_imports sides pending different whole room free = record {
      clause = atoms_of atoms clause;
      used = adds.recorded.used;
      same = record { there = λ l c. c; back = λ l c. c };
      checks = lifted_check origins (length old.log.steps) refl different whole room;
      gains = step_gains atoms old new (derived_step clause kept) derived_gains origins filled pushed (Entry name) same
          long is sides free;
      pending_same = refl;
    }

-- ---- a clause is refused

rejected_there : (atoms : List Atom) (s : SolverState) (origins : List StepSource) (k : ℕ) (clause : List Lit)
    (hints : List ℕ) (place : ℕ) → k ≡ length s.log.steps → AreDifferent atoms → IsLifting atoms s origins
    → HasRoomFor (length atoms) clause → Checks negation (clauses_of s.log.steps) clause hints (Err place)
    → Checks negated (face.clauses_of (listed (lifted_at atoms s origins) k)) (atoms_of atoms clause) hints (Err place)
rejected_there atoms s origins k clause hints place is different whole room w =
    let all : take k s.log.steps ≡ s.log.steps = take_all k s.log.steps (omega arith) in
    checks_lifted atoms s origins k clause hints (Err place) different whole.room (omega arith) room
    (subst (λ steps. Checks negation (clauses_of steps) clause hints (Err place)) (sym all) w)

pub refused_full : (atoms : List Atom) (s : SolverState) (origins : List StepSource) (sides : List SideClause)
    (literals : List AtomLit) (hints : List ℕ) → length s.log.steps ≡ s.log.limit
    → IsRefused (log_over atoms s origins sides) literals hints
refused_full atoms s origins sides literals hints full =
    inl (length-listed (lifted_at atoms s origins) (length s.log.steps) ∙ full)

pub refused_check : (atoms : List Atom) (s : SolverState) (origins : List StepSource) (sides : List SideClause)
    (clause : List Lit) (hints : List ℕ) (place : ℕ) → AreDifferent atoms → IsLifting atoms s origins
    → HasRoomFor (length atoms) clause → Checks negation (clauses_of s.log.steps) clause hints (Err place)
    → IsRefused (log_over atoms s origins sides) (atoms_of atoms clause) hints
refused_check atoms s origins sides clause hints place different whole room w =
    inr (λ used taken. taken_not_rejected (face.clauses_of (listed (lifted_at atoms s origins) (length s.log.steps)))
    (atoms_of atoms clause) (atoms_of atoms clause) hints place used
    (record { there = λ l c. c; back = λ l c. c })
    (rejected_there atoms s origins (length s.log.steps) clause hints place refl different whole room w) taken)

-- a log that is full, or hints that are rejected
pub refused_by : (fault : LogFault) (atoms : List Atom) (s : SolverState) (origins : List StepSource)
    (sides : List SideClause) (clause : List Lit) (hints : List ℕ) → AreDifferent atoms → IsLifting atoms s origins
    → HasRoomFor (length atoms) clause → (fault ≡ OfMemory → ⊥)
    → (fault ≡ LogFull → length s.log.steps ≡ s.log.limit)
    → ((place : ℕ) → fault ≡ Rejected place → Checks negation (clauses_of s.log.steps) clause hints (Err place))
    → IsRefused (log_over atoms s origins sides) (atoms_of atoms clause) hints
refused_by LogFull atoms s origins sides clause hints different whole room not_memory full rejected =
    refused_full atoms s origins sides (atoms_of atoms clause) hints (full refl)
refused_by (Rejected place) atoms s origins sides clause hints different whole room not_memory full rejected =
    refused_check atoms s origins sides clause hints place different whole room (rejected place refl)
refused_by OfMemory atoms s origins sides clause hints different whole room not_memory full rejected =
    absurd (not_memory refl)

-- ---- the same of literals that the clause stands for

refused_for : (log : OracleLog) (literals others : List AtomLit) (hints : List ℕ) → IsSameClause literals others
    → IsRefused log literals hints → IsRefused log others hints
refused_for log literals others hints same refused =
    ⊎_elim (λ full. inl full)
    (λ none. inr (λ used taken. none used (checks_same (face.clauses_of log.steps) others literals hints (Ok used)
    (turned literals others same) taken)))
    refused

imports_for : (literals others : List AtomLit) (hints : List ℕ) (name : EntryName) (old new : AtomState)
    → IsSameClause literals others → Imports literals hints name old new → Imports others hints name old new
imports_for literals others hints name old new same i = record {
  clause = i.clause;
  used = i.used;
  same = record {
    there = λ l c. same.there l (i.same.there l c);
    back = λ l c. i.same.back l (same.back l c);
  };
  checks = i.checks;
  gains = i.gains;
  pending_same = i.pending_same;
}

imported_for : (taken : Bool) (literals others : List AtomLit) (hints : List ℕ) (name : EntryName)
    (old new : AtomState) → IsSameClause literals others → IsImported literals hints name old new taken
    → IsImported others hints name old new taken
imported_for true literals others hints name old new same i = imports_for literals others hints name old new same i
imported_for false literals others hints name old new same i = (i.0, refused_for old.log literals others hints same i.1)

pub imported_as : (r : Result Bool Memory) (literals others : List AtomLit) (hints : List ℕ) (name : EntryName)
    (old new : AtomState) → IsSameClause literals others → IfOk r (IsImported literals hints name old new)
    → IfOk r (IsImported others hints name old new)
imported_as (Ok taken) literals others hints name old new same i =
    imported_for taken literals others hints name old new same i
imported_as (Err error) literals others hints name old new same i = tt

-- ---- steps that ask for no side clause

pub asks_front : (atoms : List Atom) (clause : List Lit) (i : ℕ) (l : Lit) → i < length clause → get_or clause i l ≡ l
    → (IsAsk (atom_at atoms l.var) → ⊥) → AsksNothing (atoms_of atoms (take i clause))
    → AsksNothing (atoms_of atoms (take (i + 1) clause))
asks_front atoms clause i l lt at plain before m c =
    let w = image_from (lit_of atoms) (take (i + 1) clause) m c in
    ⊎_elim
    (λ early. before m (subst (λ x. Contains (atoms_of atoms (take i clause)) x) w.2
    (image_there (lit_of atoms) (take i clause) w.0 early)))
    (λ late.
    let same : l ≡ w.0 = sym at ∙ (get_or_default clause i l w.0 lt ∙ late.1) in
    λ ask. plain (subst (λ (x : Lit). IsAsk (atom_at atoms x.var)) (sym same)
    (subst (λ (x : AtomLit). IsAsk x.atom) (sym w.2) ask)))
    (front_cases i clause w.0 w.1)

pub asks_at : (atoms : List Atom) (clause : List Lit) (i : ℕ) (l : Lit) → i < length clause → get_or clause i l ≡ l
    → IsAsk (atom_at atoms l.var) → AsksNothing (atoms_of atoms clause) → ⊥
asks_at atoms clause i l lt at ask none =
    none (lit_of atoms l) (image_there (lit_of atoms) clause l (i, lt, at)) ask

module _ (atoms : List Atom) (s : SolverState) (origins : List StepSource) (number : ℕ)
    (is : IsNumberOf (listed (lifted_at atoms s origins) (length s.log.steps)) number) where
  abbrev at_number : LogStep
  at_number = face.step_at (listed (lifted_at atoms s origins) (length s.log.steps)) number

  is_step : IsStepOf s.log.steps number
  is_step = step_named atoms s origins number is

  at_is : at_number ≡ lifted_at atoms s origins (number - 1)
  at_is = step_lifted atoms s origins (length s.log.steps) number is_step.from_one is_step.within

  same_number : number - 1 + 1 ≡ number
  same_number = let low = is_step.from_one in omega arith

  pub plain_used : (plain : Bool) (clause : List Lit) → Contains s.active number
      → clause ≡ (step_at s.log.steps number).clause → (IsTrue plain ↔ AsksNothing (atoms_of atoms clause))
      → (IsTrue plain ↔ IsPlain at_number)
  plain_used plain clause used read asks =
      let same : at_number.clause ≡ atoms_of atoms clause =
      ap (λ (x : LogStep). x.clause) at_is ∙ ap (atoms_of atoms) (sym read) in (
        λ yes. record {
          kept = ap (λ (x : LogStep). x.closing) at_is
              ∙ ap not (ap (in_use s.active) same_number ∙ in_use_yes s.active number used);
          plain = subst AsksNothing (sym same) (asks.0 yes);
        },
        λ h. asks.1 (subst AsksNothing same h.plain),
      )

  pub plain_unused : (Contains s.active number → ⊥) → IsPlain at_number → ⊥
  plain_unused unused h =
      let closing : at_number.closing ≡ true =
      ap (λ (x : LogStep). x.closing) at_is
      ∙ ap not (ap (in_use s.active) same_number ∙ in_use_no s.active number unused) in
      false≢true (sym h.kept ∙ closing)
