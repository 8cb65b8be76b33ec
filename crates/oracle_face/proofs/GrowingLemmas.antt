-- What two calls leave, one after the other.
use Rattle.std.proofs.Common.{◌≡◌, ⊎_elim, ℕ, ◌+◌, ◌<◌, ◌≤◌, true, List, [], ◌++◌, length, take, refl, ap, sym, subst, ◌∙◌, arith}
use Rattle.std.specs.Prelude.{slice_index_or, Option, None, Some}
use Rattle.std.proofs.lemmas.Bool.{cases_lt}
use Rattle.std.proofs.lemmas.List.{get_or_append_left, length-append, append-nil, append_assoc, take-append-le}
use Rattle.plain_lits.specs.declared.halt.Halt.{Halt}
use Rattle.plain_lits.specs.declared.halt.Halt.TheVariants.{Spent, LogFull, Memory}
use Rattle.plain_lits.specs.Units.{Units}
use Rattle.certificate_claims.specs.semantics.specs.Frameworks.{Framework}
use Rattle.certificate_claims.specs.meaning_atoms.specs.declared.atom.AtomLit.{AtomLit}
use Rattle.oracle_face.specs.declared.face.Pending.{Pending}
use Rattle.oracle_face.specs.declared.face.Pending.TheVariants.{Side, Learned, Loop}
use Rattle.oracle_face.specs.Logs.{LogStep, SideClause, OracleLog, IsNew, FactsAreFalse, working, is_unit, closings_of, no_side, no_step}
use Rattle.oracle_face.specs.Growing.{Making, Grows, Works, UnlessMemory, IsFurther, IsStop, HasRun}

-- each side clause that the one makes, the other makes too
abbrev pub Makes : Making → Making → Type 0
Makes P Q = (literals : List AtomLit) (set : List ℕ) → P literals set → Q literals set

longer : {X : Type 0} (old more new : List X) → new ≡ old ++ more → length old ≤ length new
longer old more new e = omega (arith, ap length e, length-append old more)

-- ---- growing

pub grows_same : (P : Making) (log : OracleLog) → Grows P log log
grows_same P log = record {
  limit = refl;
  more_steps = ([], sym (append-nil log.steps));
  more_sides = ([], sym (append-nil log.sides));
  made = λ k low high. absurd (omega arith);
}

pub grows_joined : (P Q R : Making) (a b c : OracleLog) → Makes P R → Makes Q R → Grows P a b → Grows Q b c
    → Grows R a c
grows_joined P Q R a b c first second h k =
    let s = h.more_steps in
    let t = k.more_steps in
    let n = h.more_sides in
    let m = k.more_sides in
    record {
      limit = k.limit ∙ h.limit;
      more_steps = (s.0 ++ t.0, t.1 ∙ (ap (λ xs. xs ++ t.0) s.1 ∙ append_assoc a.steps s.0 t.0));
      more_sides = (n.0 ++ m.0, m.1 ∙ (ap (λ xs. xs ++ m.0) n.1 ∙ append_assoc a.sides n.0 m.0));
      made = λ i low high. ⊎_elim
          (λ early.
          let same : slice_index_or c.sides i no_side ≡ slice_index_or b.sides i no_side =
          ap (λ xs. slice_index_or xs i no_side) m.1 ∙ get_or_append_left b.sides m.0 no_side i early in
          subst (λ (side : SideClause). R side.literals side.set) (sym same)
          (first (slice_index_or b.sides i no_side).literals (slice_index_or b.sides i no_side).set
          (h.made i low early)))
          (λ late. second (slice_index_or c.sides i no_side).literals (slice_index_or c.sides i no_side).set
          (k.made i late high))
          (cases_lt i (length b.sides));
    }

pub grows_as : (P Q : Making) (a b : OracleLog) → Makes P Q → Grows P a b → Grows Q a b
grows_as P Q a b all h = record {
  limit = h.limit;
  more_steps = h.more_steps;
  more_sides = h.more_sides;
  made = λ i low high. all (slice_index_or b.sides i no_side).literals (slice_index_or b.sides i no_side).set
      (h.made i low high);
}

-- ---- units

pub works_same : (f : Framework) (log : OracleLog) (budget : Units) → Works f log log budget budget
works_same f log budget = record {
  fresh = λ k low high unit. absurd (omega arith);
  facts = λ k low high unit. absurd (omega arith);
  counted = refl;
}

pub works_joined : (f : Framework) (P Q : Making) (a b c : OracleLog) (u v w : Units) → Grows P a b → Grows Q b c
    → Works f a b u v → Works f b c v w → Works f a c u w
works_joined f P Q a b c u v w grows more h k =
    let t = more.more_steps in
    let same : (i : ℕ) → i < length b.steps → slice_index_or c.steps i no_step ≡ slice_index_or b.steps i no_step =
    λ i early. ap (λ xs. slice_index_or xs i no_step) t.1 ∙ get_or_append_left b.steps t.0 no_step i early in
    let front : (i : ℕ) → i < length b.steps → take i c.steps ≡ take i b.steps =
    λ i early. ap (λ xs. take i xs) t.1 ∙ take-append-le i b.steps t.0 (omega arith) in
    let left = h.counted in
    let right = k.counted in
    record {
      fresh = λ i low high unit. ⊎_elim
          (λ early.
          let e = same i early in
          let was = h.fresh i low early (subst (λ (step : LogStep). is_unit step ≡ true) e unit) in
          subst (λ (steps : List LogStep). IsNew (working steps) (slice_index_or c.steps i no_step).clause)
          (sym (front i early))
          (subst (λ (step : LogStep). IsNew (working (take i b.steps)) step.clause) (sym e) was))
          (λ late. k.fresh i late high unit)
          (cases_lt i (length b.steps));
      facts = λ i low high unit. ⊎_elim
          (λ early.
          let e = same i early in
          subst (λ (step : LogStep). FactsAreFalse f step.clause) (sym e)
          (h.facts i low early (subst (λ (step : LogStep). is_unit step ≡ true) e unit)))
          (λ late. k.facts i late high unit)
          (cases_lt i (length b.steps));
      counted = omega arith;
    }

-- ---- calls

pub further_as : (P Q : Making) (f : Framework) (log : OracleLog) → Makes P Q → (pending : Pending)
    → IsFurther P f log pending → IsFurther Q f log pending
further_as P Q f log all (Side literals set) h = (all literals set h.0, h.1)
further_as P Q f log all (Learned clause hints) h = h
further_as P Q f log all (Loop name) h = h

pub stop_as : (P Q : Making) (f : Framework) (log : OracleLog) (pending : Option Pending) (budget : Units)
    → Makes P Q → (halt : Option Halt) → IsStop P f log pending budget halt → IsStop Q f log pending budget halt
stop_as P Q f log pending budget all None h = h
stop_as P Q f log pending budget all (Some (Spent count)) h = record {
  is_limit = h.is_limit;
  is_used = h.is_used;
  in_hand = h.in_hand;
  kept = h.kept;
  further = further_as P Q f log all h.in_hand h.further;
}
stop_as P Q f log pending budget all (Some LogFull) h = h
stop_as P Q f log pending budget all (Some Memory) h = h

pub unless_then : (P Q : Type 0) → (P → Q) → (halt : Option Halt) → UnlessMemory halt P → UnlessMemory halt Q
unless_then P Q to None h = to h
unless_then P Q to (Some (Spent count)) h = to h
unless_then P Q to (Some LogFull) h = to h
unless_then P Q to (Some Memory) h = h

-- nothing was called
pub run_none : (P : Making) (most : ℕ) (f : Framework) (log : OracleLog) (pending : Option Pending) (budget : Units)
    → HasRun P most f log log pending budget budget None
run_none P most f log pending budget = record {
  grows = grows_same P log;
  limit = refl;
  works = works_same f log budget;
  closing = omega arith;
  stop = tt;
}

-- memory was refused before anything was called
pub run_refused : (P : Making) (most : ℕ) (f : Framework) (log : OracleLog) (pending : Option Pending)
    (budget : Units) → HasRun P most f log log pending budget budget (Some Memory)
run_refused P most f log pending budget = record {
  grows = grows_same P log;
  limit = refl;
  works = tt;
  closing = tt;
  stop = tt;
}

-- a call that was answered, and then another
pub run_joined : (P Q R : Making) (m n most : ℕ) (f : Framework) (a b c : OracleLog) (p q : Option Pending)
    (u v w : Units) (halt : Option Halt) → Makes P R → Makes Q R → m + n ≤ most → HasRun P m f a b p u v None
    → HasRun Q n f b c q v w halt → HasRun R most f a c q u w halt
run_joined P Q R m n most f a b c p q u v w halt first second few h k =
    let closed = h.closing in
    record {
      grows = grows_joined P Q R a b c first second h.grows k.grows;
      limit = k.limit ∙ h.limit;
      works = unless_then (Works f b c v w) (Works f a c u w)
          (λ more. works_joined f P Q a b c u v w h.grows k.grows h.works more) halt k.works;
      closing = unless_then (closings_of c ≤ closings_of b + n) (closings_of c ≤ closings_of a + most)
          (λ more. omega arith) halt k.closing;
      stop = stop_as Q R f c q w second halt k.stop;
    }

-- the same call, with a wider account of it
pub run_as : (P Q : Making) (m most : ℕ) (f : Framework) (a b : OracleLog) (p : Option Pending) (u v : Units)
    (halt : Option Halt) → Makes P Q → m ≤ most → HasRun P m f a b p u v halt → HasRun Q most f a b p u v halt
run_as P Q m most f a b p u v halt all few h = record {
  grows = grows_as P Q a b all h.grows;
  limit = h.limit;
  works = h.works;
  closing = unless_then (closings_of b ≤ closings_of a + m) (closings_of b ≤ closings_of a + most)
      (λ more. omega arith) halt h.closing;
  stop = stop_as P Q f b p v all halt h.stop;
}
