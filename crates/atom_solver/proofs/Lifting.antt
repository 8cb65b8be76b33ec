-- The log that a solver's log stands for, as the table of atoms and the log grow.
use Rattle.std.proofs.Common.{◌≡◌, ℕ, ◌-◌, ◌<◌, ◌≤◌, List, [], ◌∷◌, ◌++◌, length, take, get_or, ap, sym, subst, ◌∙◌, refl, arith, ⊎_elim, true, false, Result}
use Rattle.std.specs.Prelude.{◌==◌, Contains}
use Rattle.std.proofs.lemmas.Bool.{cases_lt, cases_Bool, eq-eqb, eqb-true, false≢true}
use Rattle.std.proofs.lemmas.List.{get_or_append_left, get_or-map, get_or-take, length-map, length-take-le, map-id}
use Rattle.std.proofs.lemmas.List.Elements.{Contains-get_or}
use Rattle.lists.proofs.ListTests.{any_gives, any_from}
use Rattle.lists.proofs.Membership.{Contains-head, Contains-tail}
use Rattle.plain_lits.specs.declared.lit.Lit.{Lit}
use Rattle.plain_lits.specs.Literals.{negation}
use Rattle.plain_lits.specs.HintCheck.{Checks, IsTautology, clause_at}
use Rattle.plain_lits.specs.CheckLaws.{Renames, IsImage}
use Rattle.plain_lits.specs.Checking.{HasRoomFor, HaveRoomFor}
use Rattle.plain_lits.proofs.Renaming.{checks_moved}
use Rattle.hinted_log.specs.Logs.{Step, clauses_of, no_step}
use Rattle.sat_core.specs.Solving.{SolverState}
use Rattle.atom_table.specs.Numbering.{AreDifferent}
use Rattle.meaning_atoms.specs.declared.atom.Atom.{Atom}
use Rattle.meaning_atoms.specs.declared.atom.Atom.TheVariants.{Cf}
use Rattle.meaning_atoms.specs.declared.atom.AtomLit.{AtomLit}
use Rattle.meaning_atoms.specs.Literals.{negated}
use Rattle.oracle_face.specs.Logs as face
use Rattle.oracle_face.specs.Logs.{LogStep, SideClause}
use Rattle.oracle_face.specs.declared.step_source.StepSource.{StepSource}
use Rattle.atom_solver.specs.Lifted.{atom_at, lit_of, atoms_of, in_use, lifted_at, listed, log_upto}
use Rattle.atom_solver.proofs.Listing.{length-listed, get_or-listed, listed_same}
use Rattle.lists.proofs.Images.{image_there, image_from}
use Rattle.plain_lits.proofs.LitOrder.{lit_same}

-- ---- steps in use

pub in_use_yes : (active : List ℕ) (number : ℕ) → Contains active number → in_use active number ≡ true
in_use_yes active number c = any_from (λ n. n == number) active number c (eq-eqb number number refl)

pub in_use_gives : (active : List ℕ) (number : ℕ) → in_use active number ≡ true → Contains active number
in_use_gives active number e =
    let w = any_gives (λ n. n == number) active e in
    subst (λ n. Contains active n) (eqb-true w.0 number w.2) w.1

pub in_use_no : (active : List ℕ) (number : ℕ) → (Contains active number → ⊥) → in_use active number ≡ false
in_use_no active number none = ⊎_elim (λ yes. absurd (none (in_use_gives active number yes))) (λ no. no)
    (cases_Bool (in_use active number))

pub in_use_same : (active other : List ℕ) (number : ℕ) → (Contains active number → Contains other number)
    → (Contains other number → Contains active number) → in_use active number ≡ in_use other number
in_use_same active other number there back = ⊎_elim
    (λ yes. yes ∙ sym (in_use_yes other number (there (in_use_gives active number yes))))
    (λ no. no ∙ sym (in_use_no other number (λ c. false≢true (sym no ∙ in_use_yes active number (back c)))))
    (cases_Bool (in_use active number))

-- ---- literals and their atoms

abbrev pub IsKnown : List Atom → Lit → Type 0
IsKnown atoms l = l.var < length atoms

pub same_var : (atoms : List Atom) (v w : ℕ) → AreDifferent atoms → v < length atoms → w < length atoms
    → atom_at atoms v ≡ atom_at atoms w → v ≡ w
same_var atoms v w different v_lt w_lt e =
    ⊎_elim (λ lt. absurd (different v w Cf lt w_lt e))
    (λ ge. ⊎_elim (λ lt. absurd (different w v Cf lt v_lt (sym e))) (λ le. omega arith) (cases_lt w v))
    (cases_lt v w)

pub same_lits : (atoms : List Atom) (a b : Lit) → AreDifferent atoms → IsKnown atoms a → IsKnown atoms b
    → lit_of atoms a ≡ lit_of atoms b → a ≡ b
same_lits atoms a b different a_lt b_lt e = lit_same a b
    (same_var atoms a.var b.var different a_lt b_lt (ap (λ (l : AtomLit). l.atom) e))
    (ap (λ (l : AtomLit). l.positive) e)

pub renames : (atoms : List Atom) → AreDifferent atoms → Renames negation negated (lit_of atoms) (IsKnown atoms)
renames atoms different = record {
  closed = λ l h. h;
  negates = λ l h. refl;
  apart = λ a b at_a at_b e. same_lits atoms a b different at_a at_b e;
}

pub image : (atoms : List Atom) (clause : List Lit) → HasRoomFor (length atoms) clause
    → IsImage (lit_of atoms) (IsKnown atoms) clause (atoms_of atoms clause)
image atoms clause room = record {
  within = room;
  there = λ l c. image_there (lit_of atoms) clause l c;
  back = λ m c. image_from (lit_of atoms) clause m c;
}

-- a literal among those of a clause
pub lit_back : (atoms : List Atom) (clause : List Lit) (l : Lit) → AreDifferent atoms
    → HasRoomFor (length atoms) clause → IsKnown atoms l → Contains (atoms_of atoms clause) (lit_of atoms l)
    → Contains clause l
lit_back atoms clause l different room known c =
    let w = image_from (lit_of atoms) clause (lit_of atoms l) c in
    subst (λ x. Contains clause x) (same_lits atoms w.0 l different (room w.0 w.1) known w.2) w.1

pub tautology_back : (atoms : List Atom) (clause : List Lit) → AreDifferent atoms → HasRoomFor (length atoms) clause
    → IsTautology negated (atoms_of atoms clause) → IsTautology negation clause
tautology_back atoms clause different room t =
    let w = image_from (lit_of atoms) clause t.0 t.1 in (
      w.0,
      w.1,
      lit_back atoms clause (negation w.0) different room (room w.0 w.1)
          (subst (λ l. Contains (atoms_of atoms clause) (negated l)) (sym w.2) t.2),
    )

-- more atoms change nothing of what was
pub lit_grow : (atoms more : List Atom) (l : Lit) → IsKnown atoms l → lit_of (atoms ++ more) l ≡ lit_of atoms l
lit_grow atoms more l known = ap (λ a. record { atom = a; positive = l.positive })
    (get_or_append_left atoms more Cf l.var known)

pub atoms_grow : (atoms more : List Atom) (clause : List Lit) → HasRoomFor (length atoms) clause
    → atoms_of (atoms ++ more) clause ≡ atoms_of atoms clause
atoms_grow atoms more [] room = refl
atoms_grow atoms more (l ∷ clause) room =
    ap (λ x. x ∷ atoms_of (atoms ++ more) clause) (lit_grow atoms more l (room l (Contains-head l clause l refl)))
    ∙ ap (λ xs. lit_of atoms l ∷ xs) (atoms_grow atoms more clause (λ x c. room x (Contains-tail l clause x c)))

pub room_at : (vars : ℕ) (steps : List Step) (k : ℕ) → HaveRoomFor vars (clauses_of steps) → k < length steps
    → HasRoomFor vars (get_or steps k no_step).clause
room_at vars steps k room lt = room (get_or steps k no_step).clause
    (image_there (λ (s : Step). s.clause) steps (get_or steps k no_step) (Contains-get_or steps k no_step lt))

pub log_grow : (atoms more : List Atom) (s : SolverState) (origins : List StepSource) (sides : List SideClause) (n : ℕ)
    → HaveRoomFor (length atoms) (clauses_of s.log.steps) → n ≤ length s.log.steps
    → log_upto (atoms ++ more) s origins sides n ≡ log_upto atoms s origins sides n
log_grow atoms more s origins sides n room le =
    ap (λ steps. record { limit = s.log.limit; steps = steps; sides = sides })
    (listed_same (lifted_at (atoms ++ more) s origins) (lifted_at atoms s origins) n
    (λ k lt. ap (λ clause. record (lifted_at atoms s origins k) { clause = clause })
    (atoms_grow atoms more (get_or s.log.steps k no_step).clause (room_at (length atoms) s.log.steps k room
    (omega arith)))))

-- ---- steps by their numbers

pub step_lifted : (atoms : List Atom) (s : SolverState) (origins : List StepSource) (k n : ℕ) → 0 < n → n ≤ k
    → face.step_at (listed (lifted_at atoms s origins) k) n ≡ lifted_at atoms s origins (n - 1)
step_lifted atoms s origins k n low high =
    get_or-listed (lifted_at atoms s origins) k (n - 1) face.no_step (omega arith)

clause_lifted : (atoms : List Atom) (s : SolverState) (origins : List StepSource) (k n : ℕ) → 0 < n → n ≤ k
    → k ≤ length s.log.steps
    → clause_at (face.clauses_of (listed (lifted_at atoms s origins) k)) n
    ≡ atoms_of atoms (clause_at (clauses_of (take k s.log.steps)) n)
clause_lifted atoms s origins k n low high within =
    let at = lifted_at atoms s origins in
    get_or-map (λ (x : LogStep). x.clause) (listed at k) (n - 1) face.no_step [] (omega (arith, length-listed at k))
    ∙ ap (λ (x : LogStep). x.clause) (step_lifted atoms s origins k n low high)
    ∙ sym (ap (atoms_of atoms)
    (get_or-map (λ (x : Step). x.clause) (take k s.log.steps) (n - 1) no_step []
    (omega (arith, length-take-le k s.log.steps within))
    ∙ ap (λ (x : Step). x.clause) (get_or-take k s.log.steps (n - 1) no_step (omega arith))))

-- ---- checks

pub checks_lifted : (atoms : List Atom) (s : SolverState) (origins : List StepSource) (k : ℕ) (clause : List Lit)
    (hints : List ℕ) (outcome : Result ℕ ℕ) → AreDifferent atoms
    → HaveRoomFor (length atoms) (clauses_of s.log.steps) → k ≤ length s.log.steps → HasRoomFor (length atoms) clause
    → Checks negation (clauses_of (take k s.log.steps)) clause hints outcome
    → Checks negated (face.clauses_of (listed (lifted_at atoms s origins) k)) (atoms_of atoms clause) hints outcome
checks_lifted atoms s origins k clause hints outcome different room within clause_room w =
    let at = lifted_at atoms s origins in
    let olds = clauses_of (take k s.log.steps) in
    let news = face.clauses_of (listed at k) in
    let old_long : length olds ≡ k = length-map (take k s.log.steps) (λ (x : Step). x.clause)
    ∙ length-take-le k s.log.steps within in
    let new_long : length news ≡ k = length-map (listed at k) (λ (x : LogStep). x.clause) ∙ length-listed at k in
    let moved = checks_moved negation negated (lit_of atoms) (IsKnown atoms) (renames atoms different) (λ n. n) olds news
    clause (atoms_of atoms clause) hints
    (record {
      clause_image = image atoms clause clause_room;
      each = λ hint c. record {
        named = (
          λ named. let high = named.within in record { from_one = named.from_one; within = omega arith },
          λ named. let high = named.within in record { from_one = named.from_one; within = omega arith },
        );
        image = λ named.
            let low = named.from_one in
            let high = named.within in
            let e = clause_lifted atoms s origins k hint low (omega arith) within in
            let clause_there : clause_at olds hint ≡ (get_or s.log.steps (hint - 1) no_step).clause =
            get_or-map (λ (x : Step). x.clause) (take k s.log.steps) (hint - 1) no_step [] (omega
            (arith, length-take-le k s.log.steps within))
            ∙ ap (λ (x : Step). x.clause) (get_or-take k s.log.steps (hint - 1) no_step (omega arith)) in
            subst (λ new_clause. IsImage (lit_of atoms) (IsKnown atoms) (clause_at olds hint) new_clause) (sym e)
            (image atoms (clause_at olds hint)
            (subst (λ xs. HasRoomFor (length atoms) xs) (sym clause_there)
            (room_at (length atoms) s.log.steps (hint - 1) room (omega arith))));
      };
    }) outcome w in
    subst (λ hs. Checks negated news (atoms_of atoms clause) hs outcome) (map-id hints) moved
