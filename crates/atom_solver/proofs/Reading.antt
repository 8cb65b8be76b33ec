-- Steps as they are read.
use Rattle.std.proofs.Common.{◌≡◌, ℕ, ◌-◌, List, [], length, get_or, ap, sym, ◌∙◌, refl, arith}
use Rattle.std.specs.Prelude.{Result, Ok, Err, IfOk, true, false}
use Rattle.std.proofs.lemmas.Bool.{false≢true}
use Rattle.lists.specs.declared.memory.Memory.{Memory}
use Rattle.plain_lits.specs.declared.lit.Lit.{Lit}
use Rattle.plain_lits.specs.Checking.{HaveRoomFor}
use Rattle.hinted_log.specs.Logs as hinted
use Rattle.hinted_log.specs.Logs.{IsStepOf, clauses_of}
use Rattle.sat_core.specs.Solving.{SolverState}
use Rattle.meaning_atoms.specs.declared.atom.Atom.{Atom}
use Rattle.meaning_atoms.specs.declared.atom.AtomLit.{AtomLit}
use Rattle.oracle_face.specs.Logs.{LogStep, IsNumberOf, step_at, hints_of}
use Rattle.oracle_face.specs.declared.step_source.StepSource.{StepSource}
use Rattle.oracle_face.specs.declared.step_source.StepSource.TheVariants.{Axiom, Side, Entry, Hints}
use Rattle.atom_solver.specs.Lifted.{lifted_at, listed}
use Rattle.oracle_face.specs.StepSources.{imported_of, is_given, source_of}
use Rattle.atom_solver.specs.Tables.{told}
use Rattle.atom_solver.proofs.Listing.{length-listed}
use Rattle.atom_solver.proofs.Lifting.{room_at, step_lifted}
use Rattle.atom_solver.proofs.TableLemmas.{told_whole}

pub step_named : (atoms : List Atom) (s : SolverState) (origins : List StepSource) (number : ℕ)
    → IsNumberOf (listed (lifted_at atoms s origins) (length s.log.steps)) number → IsStepOf s.log.steps number
step_named atoms s origins number is =
    let high = is.within in
    record {
      from_one = is.from_one;
      within = omega (arith, length-listed (lifted_at atoms s origins) (length s.log.steps));
    }

pub clause_read : (atoms : List Atom) (s : SolverState) (origins : List StepSource) (number : ℕ) (clause : List Lit)
    (r : Result (List AtomLit) Memory) → HaveRoomFor (length atoms) (clauses_of s.log.steps)
    → IsNumberOf (listed (lifted_at atoms s origins) (length s.log.steps)) number
    → clause ≡ (hinted.step_at s.log.steps number).clause → IfOk r (λ literals. literals ≡ told atoms clause)
    → IfOk r (λ literals. literals ≡ (step_at (listed (lifted_at atoms s origins) (length s.log.steps)) number).clause)
clause_read atoms s origins number clause (Ok literals) room is e read =
    let step = step_named atoms s origins number is in
    let low = step.from_one in
    let high = step.within in
    read ∙ (ap (told atoms) e
    ∙ (told_whole atoms (hinted.step_at s.log.steps number).clause
    (room_at (length atoms) s.log.steps (number - 1) room (omega arith))
    ∙ sym (ap (λ (x : LogStep). x.clause) (step_lifted atoms s origins (length s.log.steps) number low high))))
clause_read atoms s origins number clause (Err m) room is e read = tt

source_again : (origin : StepSource) (hints : List ℕ)
    → source_of origin hints ≡ source_of origin (hints_of (source_of origin hints))
source_again (Axiom name) hints = refl
source_again (Side n) hints = refl
source_again (Entry name) hints = refl
source_again Hints hints = refl

-- a step has hints where it has no name of an axiom and no side clause
abbrev pub HasHints : StepSource → Type 0
HasHints (Axiom name) = ⊥
HasHints (Side n) = ⊥
HasHints (Entry name) = Unit {0}
HasHints Hints = Unit {0}

pub given_none : (origin : StepSource) → is_given origin ≡ true → HasHints origin → ⊥
given_none (Axiom name) given h = h
given_none (Side n) given h = h
given_none (Entry name) given h = false≢true given
given_none Hints given h = false≢true given

pub given_some : (origin : StepSource) → is_given origin ≡ false → HasHints origin
given_some (Axiom name) given = absurd (false≢true (sym given))
given_some (Side n) given = absurd (false≢true (sym given))
given_some (Entry name) given = tt
given_some Hints given = tt

none_of : (origin : StepSource) (hints : List ℕ) → (HasHints origin → ⊥) → [] ≡ hints_of (source_of origin hints)
none_of (Axiom name) hints not_so = refl
none_of (Side n) hints not_so = refl
none_of (Entry name) hints not_so = absurd (not_so tt)
none_of Hints hints not_so = absurd (not_so tt)

some_of : (origin : StepSource) (hints : List ℕ) → HasHints origin → hints ≡ hints_of (source_of origin hints)
some_of (Axiom name) hints so = absurd so
some_of (Side n) hints so = absurd so
some_of (Entry name) hints so = refl
some_of Hints hints so = refl

pub source_read : (atoms : List Atom) (s : SolverState) (origins : List StepSource) (number : ℕ) (origin : StepSource)
    → IsNumberOf (listed (lifted_at atoms s origins) (length s.log.steps)) number
    → origin ≡ get_or origins (number - 1) Hints
    → (step_at (listed (lifted_at atoms s origins) (length s.log.steps)) number).source
    ≡ source_of origin (hints_of (step_at (listed (lifted_at atoms s origins) (length s.log.steps)) number).source)
source_read atoms s origins number origin is e =
    let step = step_named atoms s origins number is in
    let here = ap (λ (x : LogStep). x.source)
    (step_lifted atoms s origins (length s.log.steps) number step.from_one step.within) in
    here ∙ (source_again (get_or origins (number - 1) Hints) (get_or s.log.steps (number - 1) hinted.no_step).hints
    ∙ (ap (λ o. source_of o (hints_of (source_of (get_or origins (number - 1) Hints)
    (get_or s.log.steps (number - 1) hinted.no_step).hints))) (sym e)
    ∙ ap (λ src. source_of origin (hints_of src)) (sym here)))

pub hints_none : (atoms : List Atom) (s : SolverState) (origins : List StepSource) (number : ℕ) (origin : StepSource)
    → IsNumberOf (listed (lifted_at atoms s origins) (length s.log.steps)) number
    → origin ≡ get_or origins (number - 1) Hints → (HasHints origin → ⊥)
    → [] ≡ hints_of (step_at (listed (lifted_at atoms s origins) (length s.log.steps)) number).source
hints_none atoms s origins number origin is e ne =
    let step = step_named atoms s origins number is in
    none_of origin (get_or s.log.steps (number - 1) hinted.no_step).hints ne
    ∙ sym (ap (λ (x : LogStep). hints_of x.source)
    (step_lifted atoms s origins (length s.log.steps) number step.from_one step.within)
    ∙ ap (λ o. hints_of (source_of o (get_or s.log.steps (number - 1) hinted.no_step).hints)) (sym e))

pub hints_read : (atoms : List Atom) (s : SolverState) (origins : List StepSource) (number : ℕ) (origin : StepSource)
    (hints : List ℕ) → IsNumberOf (listed (lifted_at atoms s origins) (length s.log.steps)) number
    → origin ≡ get_or origins (number - 1) Hints → HasHints origin → hints ≡ (hinted.step_at s.log.steps number).hints
    → hints ≡ hints_of (step_at (listed (lifted_at atoms s origins) (length s.log.steps)) number).source
hints_read atoms s origins number origin hints is e has read =
    let step = step_named atoms s origins number is in
    read ∙ (some_of origin (get_or s.log.steps (number - 1) hinted.no_step).hints has
    ∙ sym (ap (λ (x : LogStep). hints_of x.source)
    (step_lifted atoms s origins (length s.log.steps) number step.from_one step.within)
    ∙ ap (λ o. hints_of (source_of o (get_or s.log.steps (number - 1) hinted.no_step).hints)) (sym e)))

-- where a step was taken from
pub imported_read : (atoms : List Atom) (s : SolverState) (origins : List StepSource) (number : ℕ) (origin : StepSource)
    → IsNumberOf (listed (lifted_at atoms s origins) (length s.log.steps)) number
    → origin ≡ get_or origins (number - 1) Hints
    → (step_at (listed (lifted_at atoms s origins) (length s.log.steps)) number).imported ≡ imported_of origin
imported_read atoms s origins number origin is e =
    let step = step_named atoms s origins number is in
    ap (λ (x : LogStep). x.imported)
    (step_lifted atoms s origins (length s.log.steps) number step.from_one step.within)
    ∙ ap imported_of (sym e)

-- the same where an origin was read
pub if_source_read : (atoms : List Atom) (s : SolverState) (origins : List StepSource) (number : ℕ)
    (r : Result StepSource Memory) → IsNumberOf (listed (lifted_at atoms s origins) (length s.log.steps)) number
    → IfOk r (λ origin. origin ≡ get_or origins (number - 1) Hints)
    → IfOk r (λ origin. (step_at (listed (lifted_at atoms s origins) (length s.log.steps)) number).source
    ≡ source_of origin (hints_of (step_at (listed (lifted_at atoms s origins) (length s.log.steps)) number).source))
if_source_read atoms s origins number (Ok origin) is e = source_read atoms s origins number origin is e
if_source_read atoms s origins number (Err m) is e = tt

pub if_imported_read : (atoms : List Atom) (s : SolverState) (origins : List StepSource) (number : ℕ)
    (r : Result StepSource Memory) → IsNumberOf (listed (lifted_at atoms s origins) (length s.log.steps)) number
    → IfOk r (λ origin. origin ≡ get_or origins (number - 1) Hints)
    → IfOk r (λ origin. (step_at (listed (lifted_at atoms s origins) (length s.log.steps)) number).imported
    ≡ imported_of origin)
if_imported_read atoms s origins number (Ok origin) is e = imported_read atoms s origins number origin is e
if_imported_read atoms s origins number (Err m) is e = tt
