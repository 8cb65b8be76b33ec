-- What a search derives is derived in the log that is stood for.
use Rattle.std.proofs.Common.{◌≡◌, ℕ, zero, suc, ◌+◌, ◌-◌, ◌<◌, ◌≤◌, List, [], ◌∷◌, ◌++◌, length, take, get_or, ap, sym, subst, ◌∙◌, refl, arith, inl, inr, ⊎_elim, not, Ok}
use Rattle.std.specs.Prelude.{Contains, None, slice_index_or}
use Rattle.std.proofs.lemmas.Bool.{cases_lt}
use Rattle.std.proofs.lemmas.List.{
  get_or_append_left,
  get_or-take,
  length-append,
  length-take-le,
  length-map,
  append-nil,
  get_or_default,
}
use Rattle.std.proofs.Math.ListN.{get_or-eq_default}
use Rattle.std.proofs.lemmas.List.Elements.{Contains-append_left}
use Rattle.plain_lits.specs.declared.lit.Lit.{Lit}
use Rattle.plain_lits.specs.Literals.{negation}
use Rattle.plain_lits.specs.Checking.{HasRoomFor, HaveRoomFor}
use Rattle.semantics.specs.Frameworks.{Framework}
use Rattle.hinted_log.specs.Logs.{Step, IsLog, clauses_of, no_step}
use Rattle.sat_core.specs.Solving.{SolverState, IsShown, IsShownAt, front, clause_of, Keeps, Derives}
use Rattle.atom_table.specs.Numbering.{AreDifferent}
use Rattle.meaning_atoms.specs.declared.atom.Atom.{Atom}
use Rattle.meaning_atoms.specs.declared.atom.AtomLit.{AtomLit}
use Rattle.meaning_atoms.specs.Literals.{negated}
use Rattle.oracle_face.specs.Logs as face
use Rattle.oracle_face.specs.Logs.{LogStep, SideClause, OracleLog}
use Rattle.oracle_face.specs.Growing.{Grows, NoSide}
use Rattle.session_log.specs.Steps as session
use Rattle.session_log.specs.Steps.{FollowsByHints, StandsInHint, derived_step}
use Rattle.session_log.proofs.Staying.{derived_stays}
use Rattle.oracle_face.specs.declared.step_source.StepSource.{StepSource}
use Rattle.oracle_face.specs.declared.step_source.StepSource.TheVariants.{Hints}
use Rattle.atom_solver.specs.States.{IsGuardedLog}
use Rattle.atom_solver.specs.Lifted.{lit_of, atoms_of, in_use, lifted_step, lifted_at, listed, log_upto, log_over}
use Rattle.atom_solver.proofs.Listing.{length-listed, listed_same, listed_more}
use Rattle.atom_solver.proofs.Lifting.{in_use_yes, in_use_same, checks_lifted, step_lifted, room_at}
use Rattle.lists.proofs.Images.{image_there, image_from}
use Rattle.sat_core.proofs.Mirroring.{hints_named}

-- a step's clause among the first steps
front_clause : (steps : List Step) (k n : ℕ) → 0 < n → n ≤ k
    → clause_of (take k steps) n ≡ (get_or steps (n - 1) no_step).clause
front_clause steps k n low high =
    ap (λ (x : Step). x.clause) (get_or-take k steps (n - 1) no_step (omega arith))

module _ (atoms : List Atom) (s : SolverState) (origins : List StepSource) (different : AreDifferent atoms)
    (room : HaveRoomFor (length atoms) (clauses_of s.log.steps)) where
  abbrev pub lifted_upto : ℕ → List LogStep
  lifted_upto k = listed (lifted_at atoms s origins) k

  -- a literal of a hint's clause, and its atom's
  stands_there : (k hint : ℕ) (hints : List ℕ) (x : Lit) → 0 < hint → hint ≤ k → Contains hints hint
      → Contains (clause_of (take k s.log.steps) hint) x → StandsInHint (lifted_upto k) hints (lit_of atoms x)
  stands_there k hint hints x low high c there = record {
    hint = hint;
    listed = c;
    there = subst (λ (t : LogStep). Contains t.clause (lit_of atoms x))
        (sym (step_lifted atoms s origins k hint low high))
        (image_there (lit_of atoms) (get_or s.log.steps (hint - 1) no_step).clause x
        (subst (λ clause. Contains clause x) (front_clause s.log.steps k hint low high) there));
  }

  stands_back : (k hint : ℕ) (l : AtomLit) → 0 < hint → hint ≤ k
      → Contains (face.step_at (lifted_upto k) hint).clause l
      → (x : Lit) × Contains (clause_of (take k s.log.steps) hint) x × (lit_of atoms x ≡ l)
  stands_back k hint l low high there =
      let w = image_from (lit_of atoms) (get_or s.log.steps (hint - 1) no_step).clause l
      (subst (λ (t : LogStep). Contains t.clause l) (step_lifted atoms s origins k hint low high) there) in
      (w.0, subst (λ clause. Contains clause w.0) (sym (front_clause s.log.steps k hint low high)) w.1, w.2)

  -- a clause that steps in use show follows by its hints
  pub shown_follows : (k : ℕ) (clause : List Lit) (hints : List ℕ) → k ≤ length s.log.steps
      → HasRoomFor (length atoms) clause → IsShown (front s k) clause hints
      → FollowsByHints (lifted_upto k) (atoms_of atoms clause) hints
  shown_follows k clause hints within clause_room h =
      let named : (hint : ℕ) → Contains hints hint → (0 < hint) × (hint ≤ k) =
      λ hint c.
      let n = hints_named (clauses_of (take k s.log.steps)) clause hints hint h.taken c in
      let low = n.from_one in
      let high = n.within in
      let long : length (clauses_of (take k s.log.steps)) ≡ k = omega
      (arith, length-map (take k s.log.steps) (λ (x : Step). x.clause), length-take-le k s.log.steps within) in
      (low, omega arith) in
      record {
        checks = checks_lifted atoms s origins k clause hints (Ok (length hints)) different room within clause_room
            h.taken;
        kept = λ hint c.
            let low = (named hint c).0 in
            let high = (named hint c).1 in
            let next : hint - 1 + 1 ≡ hint = omega arith in
            ap (λ (t : LogStep). t.closing) (step_lifted atoms s origins k hint low high)
            ∙ ap not (ap (in_use s.active) next ∙ in_use_yes s.active hint (h.in_use hint c));
        used = λ l stands.
            let low = (named stands.hint stands.listed).0 in
            let high = (named stands.hint stands.listed).1 in
            let x = stands_back k stands.hint l low high stands.there in
            ⊎_elim
            (λ here. inl (subst (λ m. Contains (atoms_of atoms clause) m) x.2
            (image_there (lit_of atoms) clause x.0 here)))
            (λ other. inr
            (subst (λ m. StandsInHint (lifted_upto k) hints (negated m)) x.2
            (stands_there k other.0 hints (negation x.0) (named other.0 other.1).0 (named other.0 other.1).1 other.1
            other.2)))
            (h.used stands.hint x.0 stands.listed x.1);
        come = λ l c.
            let x = image_from (lit_of atoms) clause l c in
            let from = h.from_hints x.0 x.1 in
            subst (λ m. StandsInHint (lifted_upto k) hints m) x.2
            (stands_there k from.0 hints x.0 (named from.0 from.1).0 (named from.0 from.1).1 from.1 from.2);
      }

  -- a step without an origin of its own follows from its hints
  pub derived_at : (k : ℕ) → length origins ≤ k
      → lifted_at atoms s origins k
      ≡ derived_step (atoms_of atoms (get_or s.log.steps k no_step).clause) (get_or s.log.steps k no_step).hints None
      (not (in_use s.active (k + 1)))
  derived_at k le =
      ap (λ origin. lifted_step atoms (get_or s.log.steps k no_step) origin (in_use s.active (k + 1)))
      (get_or-eq_default origins Hints le)

  pub shown_derives : (sides : List SideClause) (k : ℕ) → length origins ≤ k → k < length s.log.steps
      → length s.log.steps ≤ s.log.limit → IsShownAt s k
      → session.Derives (atoms_of atoms (get_or s.log.steps k no_step).clause) (get_or s.log.steps k no_step).hints None
      (not (in_use s.active (k + 1))) (log_upto atoms s origins sides k) (log_upto atoms s origins sides (suc k))
  shown_derives sides k le lt within h = record {
    follows = shown_follows k (get_or s.log.steps k no_step).clause (get_or s.log.steps k no_step).hints (omega arith)
        (room_at (length atoms) s.log.steps k room lt) h.shown;
    gains = record {
      room = omega (arith, length-listed (lifted_at atoms s origins) k);
      limit = refl;
      steps = ap (λ x. lifted_upto k ++ x ∷ []) (derived_at k le);
      sides_now = refl;
    };
  }

  -- step by step
  pub guarded_upto : (f : Framework) (sides : List SideClause) (m n : ℕ) → m ≤ n → n ≤ length s.log.steps
      → length origins ≤ m → length s.log.steps ≤ s.log.limit
      → ((k : ℕ) → m ≤ k → k < n → IsShownAt s k) → IsGuardedLog f (log_upto atoms s origins sides m)
      → IsGuardedLog f (log_upto atoms s origins sides n)
  guarded_upto f sides m zero le within marked small each h =
      let is : m ≡ 0 = omega arith in
      subst (λ n. IsGuardedLog f (log_upto atoms s origins sides n)) is h
  guarded_upto f sides m (suc n) le within marked small each h =
      ⊎_elim
      (λ early.
      let before = guarded_upto f sides m n (omega arith) (omega arith) marked small
      (λ k low high. each k low (omega arith)) h in
      let stays = derived_stays f _ _ None _ (log_upto atoms s origins sides n) (log_upto atoms s origins sides (suc n))
      before.form before.guards
      (shown_derives sides n (omega arith) (omega arith) small (each n (omega arith) (omega arith))) in
      record { form = stays.form; guards = stays.guards })
      (λ late.
      let is : m ≡ suc n = omega arith in
      subst (λ i. IsGuardedLog f (log_upto atoms s origins sides i)) is h)
      (cases_lt m (suc n))

-- ---- a whole search

-- the steps that were there stand for the same
pub front_same : (atoms : List Atom) (old new : SolverState) (origins : List StepSource) (sides : List SideClause)
    → Keeps old new → log_upto atoms new origins sides (length old.log.steps) ≡ log_over atoms old origins sides
front_same atoms old new origins sides keeps =
    let steps = keeps.more_steps in
    let active = keeps.more_active in
    ap (λ limit. record {
      limit = limit;
      steps = listed (lifted_at atoms new origins) (length old.log.steps);
      sides = sides;
    }) keeps.limit
    ∙ ap (λ lifted. record { limit = old.log.limit; steps = lifted; sides = sides })
    (listed_same (lifted_at atoms new origins) (lifted_at atoms old origins) (length old.log.steps)
    (λ k lt.
    let step : get_or new.log.steps k no_step ≡ get_or old.log.steps k no_step =
    ap (λ xs. get_or xs k no_step) steps.1 ∙ get_or_append_left old.log.steps steps.0 no_step k lt in
    let used : in_use new.active (k + 1) ≡ in_use old.active (k + 1) =
    in_use_same new.active old.active (k + 1)
    (λ c. ⊎_elim (λ there. there) (λ late. absurd (omega arith)) (keeps.later (k + 1) c))
    (λ c. subst (λ xs. Contains xs (k + 1)) (sym active.1) (Contains-append_left old.active active.0 (k + 1) c)) in
    ap (λ x. lifted_step atoms x (slice_index_or origins k Hints) (in_use new.active (k + 1))) step
    ∙ ap (λ used. lifted_step atoms (get_or old.log.steps k no_step) (slice_index_or origins k Hints) used) used))

pub search_grows : (atoms : List Atom) (old new : SolverState) (origins : List StepSource) (sides : List SideClause)
    → Keeps old new → Grows NoSide (log_over atoms old origins sides) (log_over atoms new origins sides)
search_grows atoms old new origins sides keeps =
    let same = ap (λ (g : OracleLog). g.steps) (front_same atoms old new origins sides keeps) in
    let steps = keeps.more_steps in
    let more = listed_more (lifted_at atoms new origins) (length old.log.steps) (length new.log.steps)
    (omega (arith, ap length steps.1, length-append old.log.steps steps.0)) in
    record {
      limit = keeps.limit;
      more_steps = (more.0, more.1 ∙ ap (λ xs. xs ++ more.0) same);
      more_sides = ([], sym (append-nil sides));
      made = λ k low high. absurd (omega arith);
    }

pub search_stays : (atoms : List Atom) (old new : SolverState) (origins : List StepSource) (sides : List SideClause)
    → AreDifferent atoms → HaveRoomFor (length atoms) (clauses_of new.log.steps) → IsLog new.log
    → length origins ≤ length old.log.steps → Derives old new → (f : Framework)
    → IsGuardedLog f (log_over atoms old origins sides) → IsGuardedLog f (log_over atoms new origins sides)
search_stays atoms old new origins sides different room form marked derives f h =
    let steps = derives.keeps.more_steps in
    let le : length old.log.steps ≤ length new.log.steps =
    omega (arith, ap length steps.1, length-append old.log.steps steps.0) in
    guarded_upto atoms new origins different room f sides (length old.log.steps) (length new.log.steps) le (omega arith)
    marked form.within derives.each
    (subst (λ (g : OracleLog). IsGuardedLog f g) (sym (front_same atoms old new origins sides derives.keeps)) h)

-- the literals of derived clauses were there before
room_upto : (vars : ℕ) (old new : SolverState) → HaveRoomFor vars (clauses_of old.log.steps) → Derives old new
    → (n : ℕ) → n ≤ length new.log.steps → (k : ℕ) → k < n → HasRoomFor vars (get_or new.log.steps k no_step).clause
room_upto vars old new room derives zero le k lt = absurd (omega arith)
room_upto vars old new room derives (suc n) le k lt =
    let before = room_upto vars old new room derives n (omega arith) in
    let steps = derives.keeps.more_steps in
    ⊎_elim (λ early. before k early)
    (λ late.
    let is : n ≡ k = omega arith in
    subst (λ i. HasRoomFor vars (get_or new.log.steps i no_step).clause) is
    (⊎_elim
    (λ there.
    subst (λ (x : Step). HasRoomFor vars x.clause)
    (sym (ap (λ xs. get_or xs n no_step) steps.1 ∙ get_or_append_left old.log.steps steps.0 no_step n there))
    (room_at vars old.log.steps n room there))
    (λ new_one l c.
    let h = (derives.each n new_one (omega arith)).shown in
    let from = h.from_hints l c in
    let named = hints_named (clauses_of (take n new.log.steps)) (get_or new.log.steps n no_step).clause
    (get_or new.log.steps n no_step).hints from.0 h.taken from.1 in
    let low = named.from_one in
    let high = named.within in
    let long : length (clauses_of (take n new.log.steps)) ≡ n = omega (
      arith,
      length-map (take n new.log.steps) (λ (x : Step). x.clause),
      length-take-le n new.log.steps (omega arith),
    ) in
    let lower : from.0 - 1 < n = omega arith in
    before (from.0 - 1) lower l
    (subst (λ clause. Contains clause l) (front_clause new.log.steps n from.0 low (omega arith)) from.2))
    (cases_lt n (length old.log.steps))))
    (cases_lt k n)

pub room_stays : (vars : ℕ) (old new : SolverState) → HaveRoomFor vars (clauses_of old.log.steps) → Derives old new
    → HaveRoomFor vars (clauses_of new.log.steps)
room_stays vars old new room derives clause c =
    let w = image_from (λ (x : Step). x.clause) new.log.steps clause c in
    let at = w.1.0 in
    let here = room_upto vars old new room derives (length new.log.steps) (omega arith) at w.1.1 in
    let same : get_or new.log.steps at no_step ≡ w.0 =
    get_or_default new.log.steps at no_step w.0 w.1.1 ∙ w.1.2 in
    subst (HasRoomFor vars) (ap (λ (x : Step). x.clause) same ∙ w.2) here
