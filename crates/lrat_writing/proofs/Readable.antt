-- Texts of a log that are short enough are read back, and verified.
use Rattle.std.proofs.Common.{◌≡◌, ℕ, zero, suc, ◌+◌, ◌-◌, ◌<◌, ◌≤◌, ◌^◌, List, [], ◌∷◌, ◌++◌, length, length-append, get_or, map, take, refl, sym, ap, subst, ◌∙◌, arith, codes, append_assoc, ⊎_elim}
use Rattle.std.specs.Prelude.{Contains, Ok}
use Rattle.std.specs.List.{flat_map, range_with_len}
use Rattle.std.proofs.Math.Seq.{take-length}
use Rattle.std.proofs.lemmas.List.{length-map}
use Rattle.std.proofs.lemmas.List.FromFn.{length-range_with_len, get_or-range_with_len}
use Rattle.std.proofs.lemmas.List.Sums.{fold_more}
use Rattle.std.proofs.lemmas.List.Elements.{Contains-append_cases, Contains-get_or}
use Rattle.lists.proofs.Membership.{Contains-nil, Contains-head, Contains-tail, Contains-cons_cases}
use Rattle.num_text.specs.declared.limit.TheConstants.{MAX_INPUT}
use Rattle.plain_lits.specs.declared.lit.Lit.{Lit}
use Rattle.plain_lits.specs.Literals.{negation, LitsRise}
use Rattle.plain_lits.specs.HintCheck.{Checks}
use Rattle.plain_lits.specs.Checking.{HaveRoomFor, HasRoomFor}
use Rattle.plain_lits.proofs.HintCheckLemmas.{Contains-mapped, Contains-from_mapped}
use Rattle.hinted_log.specs.Logs.{Step, LogState, IsLog, clauses_of, no_step, step_at, IsGiven, IsProof}
use Rattle.hinted_log.specs.declared.log.TheConstants.{MAX_STEPS}
use Rattle.hinted_log.specs.declared.step_kind.StepKind.{StepKind}
use Rattle.hinted_log.specs.declared.step_kind.StepKind.TheVariants.{Axiom, Side, Derived}
use Rattle.lrat_text.specs.declared.cnf.TheConstants.{MAX_VARIABLE}
use Rattle.lrat_text.specs.declared.verdict.Verdict.TheVariants.{Verified}
use Rattle.lrat_text.specs.Checking.{StepLine, step_line}
use Rattle.lrat_text.specs.CnfText.{Formula, IsFormula, IsWithin, AreWithin, IsCnfText}
use Rattle.lrat_text.specs.LratText.{IsChecked}
use Rattle.lrat_writing.specs.Texts.{lit_text, spaced, clause_line, cnf_text, lrat_text, header_line, IsWritable, AreWritable}
use Rattle.lrat_writing.specs.Walks.{shifted, shifted_clause, given_by, given_of, given_clauses, last_clause, unit_of, cnf_clauses, formula_of, Walk, start, id_in, next_id, with_given, with_derived, walk_on, walk_step, walk, final_line, lines_of, step_lines}
use Rattle.lrat_writing.proofs.CnfBack.{cnf_back}
use Rattle.lrat_writing.proofs.LratBack.{steps_back}
use Rattle.lrat_writing.proofs.PieceLemmas.{cnf_long}
use Rattle.lrat_writing.proofs.Verifies.{Kept, kept_all, walk_to, all_clauses, all_long, hint_named, log_verified}

-- ---- the clauses are a formula

lines_few : (clauses : List (List Lit)) → length clauses ≤ length (flat_map clause_line clauses)
lines_few [] = omega arith
lines_few (c ∷ cs) =
    let more = lines_few cs in
    let long = length-append (clause_line c) (flat_map clause_line cs) in
    let line = length-append (spaced (map lit_text c)) (codes "0\n") in
    omega (arith, more, long, line)

clauses_few : (f : Formula) → length f.clauses ≤ length (cnf_text f)
clauses_few f =
    let few = lines_few f.clauses in
    let long = length-append (header_line f.vars (length f.clauses)) (flat_map clause_line f.clauses) in
    omega (arith, few, long)

one_given : (kind : StepKind) (clause one : List Lit) → Contains (given_by kind clause) one → clause ≡ one
one_given Axiom clause one c = ⊎_elim (λ e. e) (λ m. absurd (Contains-nil one m)) (Contains-cons_cases clause [] one c)
one_given Side clause one c = ⊎_elim (λ e. e) (λ m. absurd (Contains-nil one m)) (Contains-cons_cases clause [] one c)
one_given Derived clause one c = absurd (Contains-nil one c)

given_in : (steps : List Step) (clause : List Lit) → Contains (given_clauses steps) clause
    → Contains (clauses_of steps) clause
given_in [] clause c = absurd (Contains-nil clause c)
given_in (s ∷ ss) clause c = ⊎_elim
    (λ here. Contains-head s.clause (clauses_of ss) clause (one_given s.kind s.clause clause here))
    (λ more. Contains-tail s.clause (clauses_of ss) clause (given_in ss clause more))
    (Contains-append_cases (given_of s) (given_clauses ss) clause c)

step_in : (steps : List Step) (k : ℕ) → k < length steps → Contains (clauses_of steps) (get_or steps k no_step).clause
step_in steps k lt =
    Contains-mapped (λ (s : Step). s.clause) steps (get_or steps k no_step) (Contains-get_or steps k no_step lt)

shifted_within : (vars : ℕ) (clause : List Lit) → HasRoomFor vars clause → (l : Lit)
    → Contains (shifted_clause clause) l → IsWithin vars l
shifted_within vars clause room l c =
    let w = Contains-from_mapped shifted clause l c in
    let lt = room w.0 w.1 in
    subst (λ x. IsWithin vars x) w.2 (record { from_one = omega arith; within = omega arith })

unit_room : (vars : ℕ) (last : List Lit) (clause : List Lit) → HasRoomFor vars last
    → Contains (map unit_of last) clause → HasRoomFor vars clause
unit_room vars last clause room c l m =
    let w = Contains-from_mapped unit_of last clause c in
    let lt = room w.0 w.1 in
    ⊎_elim (λ (e : negation w.0 ≡ l). subst (λ x. x.var < vars) e lt) (λ none. absurd (Contains-nil l none))
    (Contains-cons_cases (negation w.0) [] l (subst (λ x. Contains x l) (sym w.2) m))

cnf_within : (vars : ℕ) (steps : List Step) → 0 < length steps → HaveRoomFor vars (clauses_of steps)
    → AreWithin vars (cnf_clauses steps)
cnf_within vars steps some room clause l c m =
    let w = Contains-from_mapped shifted_clause (given_clauses steps ++ map unit_of (last_clause steps)) clause c in
    let last : HasRoomFor vars (last_clause steps)
    = room (last_clause steps) (step_in steps (length steps - 1) (omega arith)) in
    let fits : HasRoomFor vars w.0 = ⊎_elim (λ given. room w.0 (given_in steps w.0 given))
    (λ unit. unit_room vars (last_clause steps) w.0 last unit)
    (Contains-append_cases (given_clauses steps) (map unit_of (last_clause steps)) w.0 w.1) in
    shifted_within vars w.0 fits l (subst (λ x. Contains x l) (sym w.2) m)

pub log_formula : (vars : ℕ) (steps : List Step) → 0 < length steps → HaveRoomFor vars (clauses_of steps)
    → vars ≤ MAX_VARIABLE → length (cnf_text (formula_of vars steps)) ≤ MAX_INPUT → IsFormula (formula_of vars steps)
log_formula vars steps some room few short =
    let count = clauses_few (formula_of vars steps) in
    record { few = few; few_clauses = omega arith; clauses = cnf_within vars steps some room }

-- ---- the lines are writable

-- what stands behind the lines of a walk can be written where the lines and it can
record Writes (vars count k : ℕ) (w : Walk) : Type 0 where
  few : length w.lines ≤ k
  writes : (more : List StepLine) → AreWritable vars (count + length w.lines) more
      → AreWritable vars count (w.lines ++ more)

writes_start : (vars count : ℕ) → Writes vars count 0 start
writes_start vars count = record {
  few = omega arith;
  writes = λ more h. let e : count + 0 ≡ count = omega arith in subst (λ n. AreWritable vars n more) e h;
}

id_above : (cnf : List (List Lit)) (steps : List Step) (k : ℕ) (w : Walk) (number : ℕ) → Kept cnf steps k w → 0 < number
    → number ≤ k → (0 < id_in w.ids number) × (id_in w.ids number ≤ length cnf + length w.lines)
id_above cnf steps k w number h above le =
    let at = h.named number above le in
    let high = at.within in
    let long = all_long cnf w.lines in
    (at.from_one, omega (arith, long))

writes_derived : (vars : ℕ) (steps : List Step) (k : ℕ) (w : Walk) → k < length steps
    → HaveRoomFor vars (clauses_of steps) → length (cnf_clauses steps) + length steps + 1 < 2 ^ 32
    → Checks negation (clauses_of (take k steps)) (get_or steps k no_step).clause (get_or steps k no_step).hints
    (Ok (length (get_or steps k no_step).hints))
    → Kept (cnf_clauses steps) steps k w → Writes vars (length (cnf_clauses steps)) k w
    → Writes vars (length (cnf_clauses steps)) (k + 1)
    (with_derived (length (cnf_clauses steps)) w (get_or steps k no_step).clause (get_or steps k no_step).hints)
writes_derived vars steps k w lt room fits check kept h =
    let cnf = cnf_clauses steps in
    let count = length cnf in
    let s = get_or steps k no_step in
    let id = next_id count w in
    let line = step_line id (shifted_clause s.clause) (map (id_in w.ids) s.hints) in
    let few = h.few in
    let long = length-append w.lines (line ∷ []) in
    let hint : (x : ℕ) → Contains (map (id_in w.ids) s.hints) x → (0 < x) × (x ≤ count + length w.lines)
    = λ x c.
    let v = Contains-from_mapped (id_in w.ids) s.hints x c in
    let named = hint_named steps k s.clause s.hints (omega arith) check v.0 v.1 in
    let b = id_above cnf steps k w v.0 kept named.0 named.1 in
    let low = b.0 in let high = b.1 in let e = v.2 in (omega (arith, low, e), omega (arith, high, e)) in
    let is : IsWritable vars (count + length w.lines) line = record {
      above = omega arith;
      fits = omega arith;
      literals = shifted_within vars s.clause (room s.clause (step_in steps k lt));
      hints_above = λ x c. (hint x c).0;
      hints_fit = λ x c. let le = (hint x c).1 in omega arith;
    } in
    record {
      few = omega (arith, long);
      writes = λ more r.
          let e : count + length (w.lines ++ line ∷ []) ≡ id = omega (arith, long) in
          subst (λ ls. AreWritable vars count ls) (sym (append_assoc w.lines (line ∷ []) more))
          (h.writes (line ∷ more) (is, subst (λ n. AreWritable vars n more) e r));
    }

writes_next : (vars : ℕ) (steps : List Step) (k : ℕ) (w : Walk) (kind : StepKind) → k < length steps
    → HaveRoomFor vars (clauses_of steps) → length (cnf_clauses steps) + length steps + 1 < 2 ^ 32
    → IsGiven (take k steps) (get_or steps k no_step) kind
    → Kept (cnf_clauses steps) steps k w → Writes vars (length (cnf_clauses steps)) k w
    → Writes vars (length (cnf_clauses steps)) (k + 1)
    (walk_on (length (cnf_clauses steps)) w kind (get_or steps k no_step).clause (get_or steps k no_step).hints)
writes_next vars steps k w Axiom lt room fits meets kept h =
    let few = h.few in record { few = omega arith; writes = h.writes }
writes_next vars steps k w Side lt room fits meets kept h =
    let few = h.few in record { few = omega arith; writes = h.writes }
writes_next vars steps k w Derived lt room fits meets kept h = writes_derived vars steps k w lt room fits meets kept h

writes_all : (vars : ℕ) (steps : List Step) (k : ℕ) → IsProof steps → HaveRoomFor vars (clauses_of steps)
    → length (cnf_clauses steps) + length steps + 1 < 2 ^ 32 → k ≤ length steps
    → Writes vars (length (cnf_clauses steps)) k (walk_to steps k)
writes_all vars steps zero proof room fits le = writes_start vars (length (cnf_clauses steps))
writes_all vars steps (suc k) proof room fits le =
    let s = get_or steps k no_step in
    let count = length (cnf_clauses steps) in
    let lt : k < length steps = omega arith in
    let next = writes_next vars steps k (walk_to steps k) s.kind lt room fits (proof.each k lt)
    (kept_all steps k proof (omega arith)) (writes_all vars steps k proof room fits (omega arith)) in
    let at : k + 1 ≡ suc k = omega arith in
    subst (λ j. Writes vars count j (walk_to steps j)) at
    (subst (λ w. Writes vars count (k + 1) w) (sym (fold_more (walk_step count) start steps k no_step lt)) next)

row_bounds : (first len x : ℕ) → Contains (range_with_len first len) x → (first ≤ x) × (x < first + len)
row_bounds first len x c =
    let long = length-range_with_len first len in
    let lt = c.1 in
    let at = get_or-range_with_len first len c.0 x (omega (arith, long, lt)) in
    let is = c.2 in
    (omega (arith, at, is), omega (arith, at, is, long, lt))

final_writable : (vars : ℕ) (steps : List Step) (w : Walk) → 0 < length steps
    → length (cnf_clauses steps) + length steps + 1 < 2 ^ 32 → length w.lines ≤ length steps
    → Kept (cnf_clauses steps) steps (length steps) w
    → IsWritable vars (length (cnf_clauses steps) + length w.lines) (final_line (length (cnf_clauses steps)) steps w)
final_writable vars steps w some fits few kept =
    let cnf = cnf_clauses steps in
    let long = cnf_long steps in
    let first = length (given_clauses steps) + 1 in
    let last = id_in w.ids (length steps) in
    let b = id_above cnf steps (length steps) w (length steps) kept some (omega arith) in
    let low = b.0 in
    let high = b.1 in
    let hint : (x : ℕ) → Contains (range_with_len first (length (last_clause steps)) ++ last ∷ []) x
    → (0 < x) × (x ≤ length cnf + length w.lines)
    = λ x c. ⊎_elim
    (λ row. let r = row_bounds first (length (last_clause steps)) x row in let a = r.0 in let d = r.1 in
    (omega (arith, a), omega (arith, d, long)))
    (λ one. ⊎_elim (λ (e : last ≡ x). (omega (arith, low, e), omega (arith, high, e)))
    (λ none. absurd (Contains-nil x none)) (Contains-cons_cases last [] x one))
    (Contains-append_cases (range_with_len first (length (last_clause steps))) (last ∷ []) x c) in
    record {
      above = omega arith;
      fits = omega arith;
      literals = λ l c. absurd (Contains-nil l c);
      hints_above = λ x c. (hint x c).0;
      hints_fit = λ x c. let le = (hint x c).1 in omega arith;
    }

lines_writable : (vars : ℕ) (steps : List Step) → IsProof steps → 0 < length steps
    → HaveRoomFor vars (clauses_of steps) → length (cnf_clauses steps) + length steps + 1 < 2 ^ 32
    → AreWritable vars (length (cnf_clauses steps)) (step_lines steps)
lines_writable vars steps proof some room fits =
    let count = length (cnf_clauses steps) in
    let w = walk count steps in
    let whole = take-length steps in
    let kept : Kept (cnf_clauses steps) steps (length steps) w
    = subst (λ ss. Kept (cnf_clauses steps) steps (length steps) (walk count ss)) whole
    (kept_all steps (length steps) proof (omega arith)) in
    let all : Writes vars count (length steps) w
    = subst (λ ss. Writes vars count (length steps) (walk count ss)) whole
    (writes_all vars steps (length steps) proof room fits (omega arith)) in
    all.writes (final_line count steps w ∷ []) (final_writable vars steps w some fits all.few kept, tt)

-- ---- the whole

pub log_reads : (vars : ℕ) (steps : List Step) → 0 < length steps → HaveRoomFor vars (clauses_of steps)
    → vars ≤ MAX_VARIABLE → length (cnf_text (formula_of vars steps)) ≤ MAX_INPUT
    → IsCnfText (cnf_text (formula_of vars steps)) (formula_of vars steps)
log_reads vars steps some room few short = cnf_back (formula_of vars steps) (log_formula vars steps some room few short)

pub log_checks : (vars : ℕ) (log : LogState) → IsLog log → 0 < length log.steps
    → HaveRoomFor vars (clauses_of log.steps) → vars ≤ MAX_VARIABLE → LitsRise (last_clause log.steps)
    → length (cnf_text (formula_of vars log.steps)) ≤ MAX_INPUT
    → IsChecked (formula_of vars log.steps) (lrat_text (step_lines log.steps)) (Ok Verified)
log_checks vars log is some room few rise short =
    let count = clauses_few (formula_of vars log.steps) in
    let within = is.within in
    let small = is.small in (
      step_lines log.steps,
      steps_back (formula_of vars log.steps) (step_lines log.steps) few
          (lines_writable vars log.steps is.proof some room (omega arith)),
      log_verified log.steps is.proof some rise,
    )
