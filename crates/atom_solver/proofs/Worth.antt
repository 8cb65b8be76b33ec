-- What a search learns goes on from the log before, clause by clause, each of which is worth it.
use Rattle.std.proofs.Common.{◌≡◌, ◌≢◌, ℕ, zero, suc, ◌+◌, ◌-◌, ◌<◌, ◌≤◌, List, [], ◌∷◌, ◌++◌, length, get_or, ap, sym, subst, ◌∙◌, arith, inl, inr, ⊎_elim, false, not}
use Rattle.std.specs.Prelude.{Contains, Some}
use Rattle.std.proofs.lemmas.Bool.{cases_lt}
use Rattle.std.proofs.lemmas.List.{get_or_push, get_or_append_left, length-append, length_push}
use Rattle.plain_lits.specs.declared.lit.Lit.{Lit}
use Rattle.plain_lits.specs.declared.halt.Halt.{Halt}
use Rattle.plain_lits.specs.declared.halt.Halt.TheVariants.{Spent, LogFull, Memory}
use Rattle.plain_lits.specs.Units.{Units}
use Rattle.plain_lits.specs.Checking.{HasRoomFor, HaveRoomFor}
use Rattle.hinted_log.specs.Logs.{LogState, Step, IsLog, clauses_of, no_step, derived_step}
use Rattle.sat_core.specs.declared.answer.Solved.{Solved}
use Rattle.sat_core.specs.declared.answer.Solved.TheVariants.{Model as Satisfied, Core}
use Rattle.sat_core.specs.Solving.{SolverState, HasSearched, Learns, Closes, Derives, Holds, IsShownAt, clause_of, begun}
use Rattle.atom_table.specs.Numbering.{AreDifferent}
use Rattle.meaning_atoms.specs.declared.atom.Atom.{Atom}
use Rattle.oracle_face.specs.Logs as face
use Rattle.oracle_face.specs.Logs.{LogStep, SideClause, OracleLog, HasPart}
use Rattle.oracle_face.specs.Growing.{UnlessMemory}
use Rattle.session_log.specs.Steps.{IsWorthIt, LearnsClauses, nothing, one_more}
use Rattle.oracle_face.specs.declared.step_source.StepSource.{StepSource}
use Rattle.atom_solver.specs.Lifted.{lit_of, atoms_of, in_use, lifted_at, listed, log_upto, log_over}
use Rattle.atom_solver.proofs.Listing.{Contains-listed}
use Rattle.atom_solver.proofs.Lifting.{in_use_yes, lit_back, room_at}
use Rattle.atom_solver.proofs.Deriving.{front_same, shown_derives}
use Rattle.atom_solver.proofs.Learning.{IsLearnedAt, AreNamed, has_learned}
use Rattle.atom_solver.proofs.Searching.{LeavesAs, new_there, gained_of}
use Rattle.atom_solver.proofs.Running.{answered, halted, spent_not_memory, full_not_memory}
use Rattle.lists.proofs.Images.{image_there, image_from}

-- the clause of the step at an index holds that of no step before it
abbrev pub HoldsNoneAt : SolverState → ℕ → Type 0
HoldsNoneAt s k = (number : ℕ) → 0 < number → number ≤ k
    → Holds (get_or s.log.steps k no_step).clause (clause_of s.log.steps number) → ⊥

module _ (atoms : List Atom) (s : SolverState) (origins : List StepSource) (different : AreDifferent atoms)
    (room : HaveRoomFor (length atoms) (clauses_of s.log.steps)) where
  abbrev lifted_of : ℕ → List LogStep
  lifted_of k = listed (lifted_at atoms s origins) k

  abbrev clause_at : ℕ → List Lit
  clause_at k = (get_or s.log.steps k no_step).clause

  abbrev pub IsWorthAt : ℕ → Type 0
  IsWorthAt k = IsWorthIt (lifted_of k) (atoms_of atoms (clause_at k)) (not (in_use s.active (k + 1)))

  -- no step's clause is a part of a clause that holds that of none
  part_of_none : (k : ℕ) (clause : List Lit) → k ≤ length s.log.steps → HasRoomFor (length atoms) clause
      → ((number : ℕ) → 0 < number → number ≤ k → Holds clause (clause_of s.log.steps number) → ⊥)
      → HasPart (face.clauses_of (lifted_of k)) (atoms_of atoms clause) → ⊥
  part_of_none k clause within clause_room none part =
      let w = image_from (λ (x : LogStep). x.clause) (lifted_of k) part.part part.listed in
      let at = Contains-listed (lifted_at atoms s origins) k w.0 w.1 in
      let j = at.0 in
      let lt = at.1 in
      let here : j + 1 - 1 ≡ j = omega arith in
      let is : atoms_of atoms (clause_at j) ≡ part.part = ap (λ (x : LogStep). x.clause) at.2 ∙ w.2 in
      none (j + 1) (omega arith) (omega arith) (record {
        each = λ l c.
            let there : Contains (clause_at j) l = subst (λ i. Contains (clause_at i) l) here c in
            let known = room_at (length atoms) s.log.steps j room (omega arith) l there in
            lit_back atoms clause l different clause_room known
            (part.inside (lit_of atoms l)
            (subst (λ xs. Contains xs (lit_of atoms l)) is (image_there (lit_of atoms) (clause_at j) l there)));
      })

  -- a clause that was learned is worth it, and so is one that closes a search
  learned_worth : (assumed : List Lit) (k : ℕ) → k < length s.log.steps → IsLearnedAt assumed s k → IsWorthAt k
  learned_worth assumed k lt h =
      subst (IsWorthIt (lifted_of k) (atoms_of atoms (clause_at k))) (sym (ap not (in_use_yes s.active (k + 1) h.used)))
      (new_there atoms s origins different room k (clause_at k) (omega arith)
      (room_at (length atoms) s.log.steps k room lt) h.plain h.holds_none)

  closing_worth : (k : ℕ) → k < length s.log.steps → in_use s.active (k + 1) ≡ false → HoldsNoneAt s k → IsWorthAt k
  closing_worth k lt unused none =
      subst (IsWorthIt (lifted_of k) (atoms_of atoms (clause_at k))) (sym (ap not unused))
      (part_of_none k (clause_at k) (omega arith) (room_at (length atoms) s.log.steps k room lt) none)

  -- step by step
  learns_upto : (sides : List SideClause) (m n : ℕ) → m ≤ n → n ≤ length s.log.steps → length origins ≤ m
      → length s.log.steps ≤ s.log.limit → ((k : ℕ) → m ≤ k → k < n → IsShownAt s k)
      → ((k : ℕ) → m ≤ k → k < n → IsWorthAt k)
      → LearnsClauses (log_upto atoms s origins sides m) (log_upto atoms s origins sides n)
  learns_upto sides m zero le within marked small shown worth =
      let is : 0 ≡ m = omega arith in
      subst (λ i. LearnsClauses (log_upto atoms s origins sides i) (log_upto atoms s origins sides 0)) is
      (nothing (log_upto atoms s origins sides 0))
  learns_upto sides m (suc n) le within marked small shown worth =
      ⊎_elim
      (λ early.
      one_more (log_upto atoms s origins sides m) (log_upto atoms s origins sides n)
      (log_upto atoms s origins sides (suc n)) (atoms_of atoms (clause_at n)) (get_or s.log.steps n no_step).hints
      (not (in_use s.active (n + 1)))
      (learns_upto sides m n (omega arith) (omega arith) marked small (λ k low high. shown k low (omega arith))
      (λ k low high. worth k low (omega arith)))
      (record {
        worth = worth n (omega arith) (omega arith);
        derives = shown_derives atoms s origins different room sides n (omega arith) (omega arith) small
            (shown n (omega arith) (omega arith));
      }))
      (λ late.
      let is : suc n ≡ m = omega arith in
      subst (λ i. LearnsClauses (log_upto atoms s origins sides i) (log_upto atoms s origins sides (suc n))) is
      (nothing (log_upto atoms s origins sides (suc n))))
      (cases_lt m (suc n))

-- the step that closes a search holds the clause of no step before it
closed_none : (learned new : SolverState) (number k : ℕ) → Closes learned new number → k ≡ length learned.log.steps
    → HoldsNoneAt new k
closed_none learned new number k closes is = λ other low high holds.
    let step = derived_step closes.clause closes.hints in
    let steps : new.log.steps ≡ learned.log.steps ++ step ∷ [] = ap (λ (g : LogState). g.steps) closes.log_is in
    let here : get_or new.log.steps k no_step ≡ step =
    ap (λ xs. get_or xs k no_step) steps ∙ get_or_push learned.log.steps step no_step k (sym is) in
    let there : get_or new.log.steps (other - 1) no_step ≡ get_or learned.log.steps (other - 1) no_step =
    ap (λ xs. get_or xs (other - 1) no_step) steps
    ∙ get_or_append_left learned.log.steps (step ∷ []) no_step (other - 1) (omega arith) in
    closes.holds_none other (record { from_one = low; within = omega arith })
    (subst (λ (x : Step). Holds x.clause (clause_of learned.log.steps other)) here
    (subst (λ (x : Step). Holds (get_or new.log.steps k no_step).clause x.clause) there holds))

left_none : (learned new : SolverState) (k : ℕ) → LeavesAs learned new → length learned.log.steps ≤ k
    → k < length new.log.steps → HoldsNoneAt new k
left_none learned new k left low high =
    ⊎_elim
    (λ same.
    let e : length new.log.steps ≡ length learned.log.steps = ap (λ (g : LogState). length g.steps) same.0 in
    absurd (omega arith))
    (λ (w : (number : ℕ) × Closes learned new number).
    let step = derived_step w.1.clause w.1.hints in
    let e : length new.log.steps ≡ length (learned.log.steps ++ step ∷ []) =
    ap (λ (g : LogState). length g.steps) w.1.log_is in
    closed_none learned new w.0 k w.1 (omega (arith, e, length_push learned.log.steps step)))
    left

-- ---- a whole search

module _ (atoms : List Atom) (old new : SolverState) (origins : List StepSource) (sides : List SideClause)
    (different : AreDifferent atoms) (room : HaveRoomFor (length atoms) (clauses_of new.log.steps))
    (form : IsLog new.log) (marked : length origins ≤ length old.log.steps) (derives : Derives old new)
    (named : AreNamed old) (assumed : List Lit) where
  search_learns : (learned : SolverState) (count : ℕ) → Learns assumed (begun old) learned count
      → LeavesAs learned new → LearnsClauses (log_over atoms old origins sides) (log_over atoms new origins sides)
  search_learns learned count learns left =
      let gained = gained_of atoms old learned new origins different room assumed count learns named marked left in
      let long = (has_learned assumed (begun old) learned count learns named).long in
      let steps = derives.keeps.more_steps in
      let le : length old.log.steps ≤ length new.log.steps =
      omega (arith, ap length steps.1, length-append old.log.steps steps.0) in
      subst (λ (g : OracleLog). LearnsClauses g (log_over atoms new origins sides))
      (front_same atoms old new origins sides derives.keeps)
      (learns_upto atoms new origins different room sides (length old.log.steps) (length new.log.steps) le (omega arith)
      marked form.within derives.each
      (λ k low high. ⊎_elim
      (λ early. learned_worth atoms new origins different room assumed k high (gained.each k low early))
      (λ late. closing_worth atoms new origins different room k high (gained.unused k late high)
      (left_none learned new k left (omega arith) high))
      (cases_lt k (length old.log.steps + count))))

  module _ (before after : Units) where
    pub found_learns : (solved : Solved) → HasSearched old new assumed before after (answered solved)
        → LearnsClauses (log_over atoms old origins sides) (log_over atoms new origins sides)
    found_learns (Satisfied lits) h =
        search_learns h.learned h.count h.learns
        (inl (ap (λ (x : SolverState). x.log) h.ends.0, ap (λ (x : SolverState). x.active) h.ends.0))
    found_learns (Core step) h =
        search_learns h.learned h.count h.learns
        (⊎_elim (λ e. inl (ap (λ (x : SolverState). x.log) e, ap (λ (x : SolverState). x.active) e))
        (λ closes. inr (step, closes)) h.ends.closed)

    pub halted_learns : (halt : Halt)
        → (halted halt ≢ halted Memory → HasSearched old new assumed before after (halted halt))
        → UnlessMemory (Some halt)
        (LearnsClauses (log_over atoms old origins sides) (log_over atoms new origins sides))
    halted_learns (Spent count) searched =
        let h = searched (λ e. spent_not_memory count e) in
        search_learns h.learned h.count h.learns (inl (h.ends.0, h.ends.1))
    halted_learns LogFull searched =
        let h = searched (λ e. full_not_memory e) in
        search_learns h.learned h.count h.learns
        (inl (ap (λ (x : SolverState). x.log) h.ends.0, ap (λ (x : SolverState). x.active) h.ends.0))
    halted_learns Memory searched = tt
