-- A log of the steps of a refutation, with one step more.
use Rattle.std.proofs.Common.{◌≡◌, ℕ, ◌+◌, ◌-◌, ◌<◌, ◌≤◌, List, [], ◌∷◌, ◌++◌, length, get_or, take, fold, Ok, arith, refl, ap, sym, subst, ◌∙◌, ⊎_elim}
use Rattle.std.proofs.Math.Seq.{take-append_seam}
use Rattle.std.proofs.lemmas.Bool.{cases_eq}
use Rattle.std.proofs.lemmas.List.{get_or-map, get_or_append_left, get_or_default, get_or_push, length-append, length-map, length-take-le, length_push, map-append, take-append-le, take_more}
use Rattle.std.proofs.lemmas.List.Sums.{fold-append}
use Rattle.plain_lits.specs.declared.lit.Lit.{Lit}
use Rattle.plain_lits.specs.Literals.{LitsRise, negation}
use Rattle.plain_lits.specs.HintCheck.{Checks}
use Rattle.plain_lits.specs.Checking.{HasRoomFor, HaveRoomFor}
use Rattle.semantics.specs.Frameworks.{Framework}
use Rattle.meaning_atoms.specs.declared.atom.Atom.{Atom}
use Rattle.meaning_atoms.specs.declared.atom.Atom.TheVariants.{Ask}
use Rattle.meaning_atoms.specs.declared.atom.AtomLit.{AtomLit}
use Rattle.meaning_atoms.specs.declared.axiom.AxiomName.{AxiomName}
use Rattle.meaning_atoms.specs.Literals.{denied}
use Rattle.certificate_claims.specs.declared.certificate.Step.{Step}
use Rattle.certificate_claims.specs.declared.certificate.Step.TheVariants.{Axiom, Side, Derived}
use Rattle.certificate_claims.specs.Refutations.{StepHolds, no_step, step_clause, step_clauses}
use Rattle.answer_claims.specs.declared.sides.SideKind.{SideKind}
use Rattle.answer_claims.specs.SideClauses.{side_of, sides_of}
use Rattle.atom_table.specs.Numbering.{AreDifferent}
use Rattle.hinted_log.specs.Logs.{IsGiven, IsLog, Step as LogStep, clauses_of, log_of, no_step as no_logged}
use Rattle.hinted_log.specs.declared.log.TheConstants.{MAX_STEPS}
use Rattle.hinted_log.proofs.Proofs.{IsGiven-derived, IsProof-push}
use Rattle.hinted_log.specs.declared.step_kind.StepKind.TheVariants as kinds
use Rattle.clause_bench.specs.Benches.{HasGrown}
use Rattle.lrat_text.specs.declared.cnf.TheConstants.{MAX_VARIABLE}
use Rattle.lrat_writing.specs.declared.writer.Writer.{Writer}
use Rattle.lrat_writing.specs.Walks.{last_clause}
use Rattle.lrat_writing.specs.Writers.{AreTextsOf, IsWriterOf, step_of}
use Rattle.lrat_writing.proofs.WriterLemmas.{texts_check, texts_read}
use Rattle.refutation_logs.specs.declared.steps.Table.{Table}
use Rattle.refutation_logs.specs.declared.texts.Exported.{Exported}
use Rattle.refutation_logs.specs.Variables.{AreStanding, StandsFor, atoms_of, with_atoms}
use Rattle.refutation_logs.specs.Exports.{IsTextOf}
use Rattle.refutation_logs.specs.Logged.{AllHold, CanBeAdded, IsLogFor, IsStepFor}
use Rattle.refutation_logs.specs.Tables.{AddsStepFor, IsLogged, IsThere}
use Rattle.refutation_logs.proofs.Standing.{atoms_grown, over_atoms, standing_grown, stands_grown}

-- ---- one step

-- the clause of a side by its number
pub side_given : (f : Framework) (kind : SideKind) (sets : List (List ℕ)) (n : ℕ) (set : List ℕ) (given : List AtomLit)
    → 1 ≤ n → n ≤ length sets → set ≡ get_or sets (n - 1) set → given ≡ denied (Ask n) ∷ side_of f kind set
    → given ≡ step_clause (sides_of f kind sets) (Side n)
side_given f kind sets n set given low high e is =
    let lt : n - 1 < length sets = omega arith in
    is ∙ ap (λ x. denied (Ask n) ∷ x) (ap (side_of f kind) e
    ∙ sym (get_or-map (side_of f kind) sets (n - 1) set [] lt))

-- a clause that stands for the same clause
pub stands_same : (atoms : List Atom) (given literals : List AtomLit) (clause : List Lit) → given ≡ literals
    → StandsFor atoms given clause → StandsFor atoms literals clause
stands_same atoms given literals clause e h = subst (λ x. StandsFor atoms x clause) e h

pub axiom_added : (sides : List (List AtomLit)) (name : AxiomName) (old new : Table) (before after : Writer)
    (given : List AtomLit) (clause packed : List Lit) → given ≡ step_clause sides (Axiom name) → packed ≡ clause
    → new.atoms ≡ with_atoms old.atoms given → StandsFor new.atoms given clause
    → new.clauses ≡ old.clauses ++ packed ∷ []
    → ((steps : List LogStep) → IsWriterOf steps before
    → IsWriterOf (steps ++ step_of kinds.Axiom packed [] ∷ []) after)
    → new.trail.lits ≡ [] → after.count ≡ before.count → AddsStepFor sides (Axiom name) old new before after
axiom_added sides name old new before after given clause packed same is appearance stands added written idle count =
    record {
      logged = step_of kinds.Axiom packed [];
      added = added;
      written = written;
      proof = λ steps e. refl;
      appearance = appearance ∙ ap (with_atoms old.atoms) same;
      kind = refl;
      clause = subst (λ x. StandsFor new.atoms (step_clause sides (Axiom name)) x) (sym is)
          (stands_same new.atoms given (step_clause sides (Axiom name)) clause same stands);
      hints = λ clauses standing. refl;
      idle = idle;
      count = count;
    }

pub side_added : (sides : List (List AtomLit)) (n : ℕ) (old new : Table) (before after : Writer)
    (given : List AtomLit) (clause packed : List Lit) → given ≡ step_clause sides (Side n) → packed ≡ clause
    → new.atoms ≡ with_atoms old.atoms given → StandsFor new.atoms given clause
    → new.clauses ≡ old.clauses ++ packed ∷ []
    → ((steps : List LogStep) → IsWriterOf steps before
    → IsWriterOf (steps ++ step_of kinds.Side packed [] ∷ []) after)
    → new.trail.lits ≡ [] → after.count ≡ before.count → AddsStepFor sides (Side n) old new before after
side_added sides n old new before after given clause packed same is appearance stands added written idle count =
    record {
      logged = step_of kinds.Side packed [];
      added = added;
      written = written;
      proof = λ steps e. refl;
      appearance = appearance ∙ ap (with_atoms old.atoms) same;
      kind = refl;
      clause = subst (λ x. StandsFor new.atoms (step_clause sides (Side n)) x) (sym is)
          (stands_same new.atoms given (step_clause sides (Side n)) clause same stands);
      hints = λ clauses standing. refl;
      idle = idle;
      count = count;
    }

-- the literals of a clause that stands for another have room, and so have those of the clauses before it
pub clause_room : (atoms : List Atom) (given : List AtomLit) (clause : List Lit) (vars : ℕ)
    → StandsFor atoms given clause → length atoms ≤ vars → HasRoomFor vars clause
clause_room atoms given clause vars stands le l c = let lt = stands.image.within l c in omega (arith, lt, le)

pub clauses_room : (atoms : List Atom) (clauses : List (List AtomLit)) (logged : List (List Lit)) (vars : ℕ)
    → AreStanding atoms clauses logged → length atoms ≤ vars → HaveRoomFor vars logged
clauses_room atoms clauses logged vars standing le clause c =
    let long = standing.long in
    let here : get_or logged c.0 [] ≡ clause = get_or_default logged c.0 [] clause c.1 ∙ c.2 in
    clause_room atoms (get_or clauses c.0 []) clause vars
    (subst (λ x. StandsFor atoms (get_or clauses c.0 []) x) here (standing.each c.0 (omega (arith, c.1, long)))) le

pub no_fewer : (old atoms : List Atom) (literals : List AtomLit) → atoms ≡ with_atoms old literals
    → length old ≤ length atoms
no_fewer old atoms literals e =
    let grown = atoms_grown old literals in
    let long = ap length (e ∙ grown.1) in
    omega (arith, long, length-append old grown.0)

pub derived_added : (sides : List (List AtomLit)) (literals : List AtomLit) (hints steps kept : List ℕ)
    (old new : Table) (before after : Writer) (clause packed : List Lit) (used : ℕ) → AreDifferent new.atoms
    → packed ≡ clause → new.atoms ≡ with_atoms old.atoms literals → StandsFor new.atoms literals clause
    → steps ≡ hints → kept ≡ take used steps → Checks negation old.clauses clause steps (Ok used)
    → new.clauses ≡ old.clauses ++ packed ∷ []
    → ((ss : List LogStep) → IsWriterOf ss before → IsWriterOf (ss ++ step_of kinds.Derived packed kept ∷ []) after)
    → new.trail.lits ≡ [] → after.count ≡ before.count
    → AddsStepFor sides (Derived literals hints) old new before after
derived_added sides literals hints steps kept old new before after clause packed used different is appearance stands
    same kept_is taken added written idle count =
    let grown : HasGrown old.atoms new.atoms
    = subst (λ xs. HasGrown old.atoms xs) (sym appearance) (atoms_grown old.atoms literals) in record {
      logged = step_of kinds.Derived packed kept;
      added = added;
      written = written;
      proof = λ ss e. subst (λ k. IsGiven ss (step_of kinds.Derived packed k) kinds.Derived) (sym kept_is)
          (subst (λ p. IsGiven ss (step_of kinds.Derived p (take used steps)) kinds.Derived) (sym is)
          (IsGiven-derived ss old.clauses clause steps used (sym e) taken));
      appearance = appearance;
      kind = refl;
      clause = subst (λ x. StandsFor new.atoms literals x) (sym is) stands;
      hints = λ clauses standing. record {
        count = used;
        taken = over_atoms new.atoms clauses old.clauses literals clause hints (Ok used) different
            (standing_grown old.atoms new.atoms clauses old.clauses grown standing) stands
            (subst (λ x. Checks negation old.clauses clause x (Ok used)) same taken);
        used_are = kept_is ∙ ap (take used) same;
      };
      idle = idle;
      count = count;
    }

-- ---- all steps

-- the clauses of the log stand for those of the steps
pub log_standing : (sides : List (List AtomLit)) (steps : List Step) (atoms : List Atom) (logged : List LogStep)
    → IsLogFor sides steps atoms logged → AreStanding atoms (step_clauses sides steps) (clauses_of logged)
log_standing sides steps atoms logged h =
    let many = length-map steps (step_clause sides) in
    let logged_many = length-map logged (λ (s : LogStep). s.clause) in
    let long = h.long in record {
      long = omega (arith, many, logged_many, long);
      each = λ k lt.
          let below : k < length steps = omega (arith, many, lt) in
          subst (λ x. StandsFor atoms x (get_or (clauses_of logged) k []))
          (sym (get_or-map (step_clause sides) steps k no_step [] below))
          (subst (λ x. StandsFor atoms (step_clause sides (get_or steps k no_step)) x)
          (sym (get_or-map (λ (s : LogStep). s.clause) logged k no_logged [] (omega (arith, below, long))))
          (h.each k below).clause);
    }

step_moved : (atoms : List Atom) (sides : List (List AtomLit)) (before before' : List Step) (step step' : Step)
    (logged logged' : LogStep) → before ≡ before' → step ≡ step' → logged ≡ logged'
    → IsStepFor atoms sides before step logged → IsStepFor atoms sides before' step' logged'
step_moved atoms sides before before' step step' logged logged' a b c h =
    subst (λ x. IsStepFor atoms sides before' step' x) c (subst (λ x. IsStepFor atoms sides before' x logged) b
    (subst (λ x. IsStepFor atoms sides x step logged) a h))

step_grown : (old atoms : List Atom) (sides : List (List AtomLit)) (before : List Step) (step : Step)
    (logged : LogStep) → HasGrown old atoms → IsStepFor old sides before step logged
    → IsStepFor atoms sides before step logged
step_grown old atoms sides before step logged grown h = record {
  kind = h.kind;
  clause = stands_grown old atoms (step_clause sides step) logged.clause grown h.clause;
  hints = h.hints;
}

appeared_more : (sides : List (List AtomLit)) (before : List Step) (step : Step) (old_atoms atoms : List Atom)
    → old_atoms ≡ atoms_of (step_clauses sides before) → atoms ≡ with_atoms old_atoms (step_clause sides step)
    → atoms ≡ atoms_of (step_clauses sides (before ++ step ∷ []))
appeared_more sides before step old_atoms atoms was is =
    is ∙ (ap (λ xs. with_atoms xs (step_clause sides step)) was
    ∙ (sym (fold-append with_atoms [] (step_clauses sides before) (step_clause sides step ∷ []))
    ∙ ap (λ cs. fold with_atoms [] cs) (sym (map-append (step_clause sides) before (step ∷ [])))))

log_more : (sides : List (List AtomLit)) (before : List Step) (step : Step) (old_atoms atoms : List Atom)
    (old : List LogStep) (logged : LogStep) → IsLogFor sides before old_atoms old
    → atoms ≡ with_atoms old_atoms (step_clause sides step)
    → IsStepFor atoms sides before step logged → IsLogFor sides (before ++ step ∷ []) atoms (old ++ logged ∷ [])
log_more sides before step old_atoms atoms old logged h appearance is =
    let grown : HasGrown old_atoms atoms = subst (λ xs. HasGrown old_atoms xs) (sym appearance)
    (atoms_grown old_atoms (step_clause sides step)) in
    let long = h.long in
    let more = length_push before step in
    let logged_more = length_push old logged in
    let all = before ++ step ∷ [] in
    let new = old ++ logged ∷ [] in record {
      appearance = appeared_more sides before step old_atoms atoms h.appearance appearance;
      long = omega (arith, long, more, logged_more);
      each = λ k lt. ⊎_elim
          (λ (here : k ≡ length before).
          step_moved atoms sides before (take k all) step (get_or all k no_step) logged (get_or new k no_logged)
          (sym (ap (λ n. take n all) here ∙ take-append_seam before (step ∷ [])))
          (sym (get_or_push before step no_step k (sym here)))
          (sym (get_or_push old logged no_logged k (long ∙ sym here))) is)
          (λ ne.
          let below : k < length before = omega (arith, lt, more, ne) in
          step_moved atoms sides (take k before) (take k all) (get_or before k no_step) (get_or all k no_step)
          (get_or old k no_logged) (get_or new k no_logged)
          (sym (take-append-le k before (step ∷ []) (omega arith)))
          (sym (get_or_append_left before (step ∷ []) no_step k below))
          (sym (get_or_append_left old (logged ∷ []) no_logged k (omega (arith, long, below))))
          (step_grown old_atoms atoms sides (take k before) (get_or before k no_step) (get_or old k no_logged) grown
          (h.each k below)))
          (cases_eq k (length before));
    }

pub none_logged : (sides : List (List AtomLit)) (table : Table) (writer : Writer) → table.atoms ≡ []
    → table.clauses ≡ [] → table.trail.lits ≡ [] → IsWriterOf [] writer → IsLogged sides [] table writer
none_logged sides table writer none empty idle written = record {
  logged = [];
  log = record { appearance = none; long = refl; each = λ k lt. absurd (omega arith) };
  proof = record { each = λ k lt. absurd (omega arith) };
  clauses = empty;
  written = written;
  idle = idle;
}

logged_more : (sides : List (List AtomLit)) (before : List Step) (step : Step) (old new : Table) (was is : Writer)
    → IsLogged sides before old was → AddsStepFor sides step old new was is
    → IsLogged sides (before ++ step ∷ []) new is
logged_more sides before step old new was is h a =
    let standing = subst (λ x. AreStanding old.atoms (step_clauses sides before) x) (sym h.clauses)
    (log_standing sides before old.atoms h.logged h.log) in record {
      logged = h.logged ++ a.logged ∷ [];
      log = log_more sides before step old.atoms new.atoms h.logged a.logged h.log a.appearance
          (record { kind = a.kind; clause = a.clause; hints = a.hints (step_clauses sides before) standing });
      proof = IsProof-push h.logged a.logged h.proof (a.proof h.logged (sym h.clauses));
      clauses = a.added ∙ ap (λ xs. xs ++ a.logged.clause ∷ []) h.clauses
          ∙ sym (map-append (λ (s : LogStep). s.clause) h.logged (a.logged ∷ []));
      written = a.written h.logged h.written;
      idle = a.idle;
    }

pub logged_next : (sides : List (List AtomLit)) (steps : List Step) (index : ℕ) (step : Step) (old new : Table)
    (was is : Writer) → index < length steps → step ≡ get_or steps index step
    → IsLogged sides (take index steps) old was → AddsStepFor sides step old new was is
    → IsLogged sides (take (index + 1) steps) new is
logged_next sides steps index step old new was is lt same h a =
    subst (λ xs. IsLogged sides xs new is)
    (ap (λ x. take index steps ++ x ∷ []) same ∙ sym (take_more steps index step lt))
    (logged_more sides (take index steps) step old new was is h a)

pub rows_long : (sides : List (List AtomLit)) (steps : List Step) (table : Table) (writer : Writer)
    → IsLogged sides steps table writer → length table.clauses ≡ length steps
rows_long sides steps table writer h =
    ap length h.clauses ∙ (length-map h.logged (λ (s : LogStep). s.clause) ∙ h.log.long)

-- so few steps are written
pub few_written : (sides : List (List AtomLit)) (steps : List Step) (table : Table) (writer : Writer)
    → IsLogged sides steps table writer → length steps ≤ MAX_STEPS → writer.given + writer.lines < 4294967296
few_written sides steps table writer h few =
    let all = h.written.all in
    let long = h.log.long in
    omega (arith, all, long, few)

pub few_next : (sides : List (List AtomLit)) (steps : List Step) (index : ℕ) (table : Table) (writer : Writer)
    → index < length steps → length steps ≤ MAX_STEPS → IsLogged sides (take index steps) table writer
    → writer.given + writer.lines < 4294967296
few_next sides steps index table writer lt few h =
    let first = length-take-le index steps (omega arith) in
    few_written sides (take index steps) table writer h (omega (arith, first, lt, few))

can_add : (f : Framework) (kind : SideKind) (sets : List (List ℕ)) (before : List Step) (step : Step)
    (atoms : List Atom) (logged : List LogStep) → StepHolds f (sides_of f kind sets) before step
    → IsLogFor (sides_of f kind sets) before atoms logged
    → CanBeAdded f (length sets) atoms (clauses_of logged) step
can_add f kind sets before (Axiom name) atoms logged h log = h
can_add f kind sets before (Side n) atoms logged h log =
    (h.0, subst (λ m. n ≤ m) (length-map sets (side_of f kind)) h.1)
can_add f kind sets before (Derived literals hints) atoms logged h log = record {
  clauses = step_clauses (sides_of f kind sets) before;
  standing = log_standing (sides_of f kind sets) before atoms logged log;
  count = h.0;
  taken = h.1;
}

pub next_can : (f : Framework) (kind : SideKind) (sets : List (List ℕ)) (steps : List Step) (index : ℕ) (step : Step)
    (table : Table) (writer : Writer) → index < length steps → step ≡ get_or steps index step
    → AllHold f (sides_of f kind sets) steps → IsLogged (sides_of f kind sets) (take index steps) table writer
    → CanBeAdded f (length sets) table.atoms table.clauses step
next_can f kind sets steps index step table writer lt same holds h =
    let at : get_or steps index no_step ≡ step = sym (same ∙ get_or_default steps index step no_step lt) in
    subst (λ cs. CanBeAdded f (length sets) table.atoms cs step) (sym h.clauses)
    (can_add f kind sets (take index steps) step table.atoms h.logged
    (subst (λ s. StepHolds f (sides_of f kind sets) (take index steps) s) at (holds.each index lt)) h.log)

-- the last step is there
there_from : (f : Framework) (kind : SideKind) (sets : List (List ℕ)) (before : List Step) (step : Step)
    → StepHolds f (sides_of f kind sets) before step → IsThere f (length sets) step
there_from f kind sets before (Axiom name) h = h
there_from f kind sets before (Side n) h = (h.0, subst (λ m. n ≤ m) (length-map sets (side_of f kind)) h.1)
there_from f kind sets before (Derived literals hints) h = tt

pub step_there : (f : Framework) (kind : SideKind) (sets : List (List ℕ)) (steps : List Step) (index : ℕ) (step : Step)
    → index < length steps → step ≡ get_or steps index step → AllHold f (sides_of f kind sets) steps
    → IsThere f (length sets) step
step_there f kind sets steps index step lt same holds =
    let at : get_or steps index no_step ≡ step = sym (same ∙ get_or_default steps index step no_step lt) in
    there_from f kind sets (take index steps) step
    (subst (λ s. StepHolds f (sides_of f kind sets) (take index steps) s) at (holds.each index lt))

-- ---- what the texts of the log want

-- each variable of the log has an atom
pub log_room : (sides : List (List AtomLit)) (steps : List Step) (atoms : List Atom) (logged : List LogStep)
    → IsLogFor sides steps atoms logged → HaveRoomFor (length atoms) (clauses_of logged)
log_room sides steps atoms logged h =
    clauses_room atoms (step_clauses sides steps) (clauses_of logged) (length atoms)
    (log_standing sides steps atoms logged h) (omega arith)

-- the literals of the last clause are in order
pub log_rises : (sides : List (List AtomLit)) (steps : List Step) (atoms : List Atom) (logged : List LogStep)
    → 0 < length steps → IsLogFor sides steps atoms logged → LitsRise (last_clause logged)
log_rises sides steps atoms logged some h =
    let last = h.each (length steps - 1) (omega arith) in
    subst (λ n. LitsRise (get_or logged (n - 1) no_logged).clause) (sym h.long) last.clause.rises

pub log_some : (sides : List (List AtomLit)) (steps : List Step) (atoms : List Atom) (logged : List LogStep)
    → 0 < length steps → IsLogFor sides steps atoms logged → 0 < length logged
log_some sides steps atoms logged some h = let long = h.long in omega (arith, some, long)

-- the clause of the last step
pub last_row : (logged : List LogStep) (clauses : List (List Lit)) (index : ℕ) → clauses ≡ clauses_of logged
    → index + 1 ≡ length logged → get_or clauses index [] ≡ last_clause logged
last_row logged clauses index e is =
    let there : length logged - 1 ≡ index = omega (arith, is) in
    ap (λ cs. get_or cs index []) e
    ∙ get_or-map (λ (s : LogStep). s.clause) logged index no_logged [] (omega (arith, is))
    ∙ ap (λ n. (get_or logged n no_logged).clause) (sym there)

-- the texts of the log
pub text_of : (sides : List (List AtomLit)) (steps : List Step) (table : Table) (writer : Writer) (e : Exported)
    (h : IsLogged sides steps table writer) → 0 < length steps → length steps ≤ MAX_STEPS
    → e.vars ≡ length table.atoms → e.vars ≤ MAX_VARIABLE → AreTextsOf e.vars h.logged e.written
    → IsTextOf table.atoms h.logged e
text_of sides steps table writer e h some few vars small texts =
    let log = log_of (length h.logged) h.logged in
    let long = h.log.long in
    let form : IsLog log = record { proof = h.proof; within = omega arith; small = omega (arith, long, few) } in
    let there = log_some sides steps table.atoms h.logged some h.log in
    let room = log_room sides steps table.atoms h.logged h.log in
    let rise = log_rises sides steps table.atoms h.logged some h.log in
    let at = subst (λ n. AreTextsOf n h.logged e.written) vars texts in
    let within = subst (λ n. n ≤ MAX_VARIABLE) vars small in record {
      vars = vars;
      clauses = at.clauses;
      lines = at.lines;
      cnf = at.cnf;
      lrat = at.lrat;
      reads = texts_read (length table.atoms) h.logged e.written at there room within;
      verified = texts_check (length table.atoms) log e.written at form there room within rise;
    }
