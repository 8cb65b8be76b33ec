-- What a refuting step excludes, and how it stays one while the log grows.
use Rattle.std.proofs.Common.{◌≡◌, inl, inr, ⊎_elim, ℕ, ◌-◌, ◌<◌, Bool, true, false, not, List, ◌++◌, length, take, refl, ap, sym, subst, ◌∙◌, arith}
use Rattle.std.specs.Prelude.{Contains}
use Rattle.std.proofs.lemmas.List.{get_or_append_left, length-append, length-map, length-take-le, take_all}
use Rattle.plain_lits.proofs.HintCheckLemmas.{taken_sound}
use Rattle.certificate_claims.specs.semantics.specs.Frameworks.{Framework}
use Rattle.certificate_claims.specs.meaning_atoms.specs.declared.atom.Atom.{Atom}
use Rattle.certificate_claims.specs.meaning_atoms.specs.declared.atom.Atom.TheVariants.{Ask}
use Rattle.certificate_claims.specs.meaning_atoms.specs.declared.atom.AtomLit.{AtomLit}
use Rattle.certificate_claims.specs.meaning_atoms.specs.Literals.{affirmed, negated, AsksNothing}
use Rattle.certificate_claims.specs.meaning_atoms.specs.Worlds.{world_of, IsWorldOf, Holds, HoldsOf, Says, IsTrueAlone}
use Rattle.certificate_claims.specs.meaning_atoms.proofs.Clauses.{alone_holds, holds_alone, says_moved}
use Rattle.certificate_claims.specs.af_axioms.specs.Facts.{IsFactValue}
use Rattle.certificate_claims.specs.Refutations.{Claim, IsPlain, IsExcluded, MeetsSides}
use Rattle.oracle_face.specs.Logs.{LogStep, SideClause, OracleLog, Source, by_axiom, by_side, by_hints, IsGiven, IsLog, IsNumberOf, IsSameClause, Reaches, itself, by_hint, hints_of, literals_of, clauses_of, step_at, side_at, no_side, no_step}
use Rattle.oracle_face.specs.Goals.{MakesTrue, RefutesGoals, IsClaimSide, DeniesSide, IsWithinClaim, Refutes}
use Rattle.oracle_face.specs.Growing.{Making, Grows}
use Rattle.oracle_face.proofs.StepTruth.{steps_true, side_literals}

-- ---- literals that are false

says_clash : (positive : Bool) (P : Type 0) → Says positive P → Says (not positive) P → ⊥
says_clash true P h k = k h
says_clash false P h k = h k

no_truth : false ≡ true → ⊥
no_truth e = absurd (cc)

-- a fact's literal that is false is not true in any world of the framework
fact_clash : (f : Framework) (s : List ℕ) (sides : List (List AtomLit)) (atom : Atom) (positive : Bool)
    → IsFactValue f atom (not positive) → Says positive (Holds (world_of f s) sides atom) → ⊥
fact_clash f s sides atom true fact h = no_truth ((fact.reading s sides).1 h)
fact_clash f s sides atom false fact h = h ((fact.reading s sides).0 refl)

-- ---- goals

-- where a step refutes goals, no set makes them true
pub goals_excluded : (f : Framework) (log : OracleLog) (goals : List AtomLit) (n : ℕ) → IsLog f log
    → RefutesGoals f log goals n → (s : List ℕ) → IsWorldOf f s → MakesTrue f log goals s → ⊥
goals_excluded f log goals n form refuted s world makes =
    let low = refuted.step.from_one in
    let high = refuted.step.within in
    let sides = literals_of log.sides in
    let t = steps_true f (world_of f s) log world form (n - 1) (omega arith) in
    let l = t.literal in
    ⊎_elim (λ fact. fact_clash f s sides l.atom l.positive fact t.says)
    (λ c. says_clash l.positive (Holds (world_of f s) sides l.atom) t.says (makes (negated l) c))
    (refuted.closed l t.member)

-- ---- claims

twice : (b : Bool) → not (not b) ≡ b
twice true = refl
twice false = refl

-- a step that refutes goals refutes a claim that has each goal, or of whose side clauses the goal affirms one
pub refutes_claim : (f : Framework) (log : OracleLog) (claim : Claim) (goals : List AtomLit) (n : ℕ)
    → AsksNothing claim.goals → IsWithinClaim log.sides claim goals → RefutesGoals f log goals n
    → Refutes f log claim n
refutes_claim f log claim goals n plain inside refuted = record {
  step = refuted.step;
  closed = λ l c. ⊎_elim (λ fact. inl fact)
      (λ goal. ⊎_elim (λ here. inr (inl here))
      (λ asks. inr (inr (subst (λ b. DeniesSide log.sides claim l.atom b) (twice l.positive) asks)))
      (inside.each (negated l) goal))
      (refuted.closed l c);
  own_sides = λ k m reach is. ⊎_elim (λ here. absurd (plain (affirmed (Ask m)) here tt)) (λ asks. asks)
      (inside.each (affirmed (Ask m)) (refuted.own_sides k m reach is));
}

-- a side clause of the claim is not false where the set meets all of them
side_clash : (f : Framework) (s : List ℕ) (log : OracleLog) (claim : Claim) → IsLog f log → MeetsSides f s claim.sides
    → (atom : Atom) (positive : Bool) → DeniesSide log.sides claim atom positive
    → Says positive (Holds (world_of f s) (literals_of log.sides) atom) → ⊥
side_clash f s log claim form meets (Ask n) false denies h =
    let t = meets denies.side denies.there in
    h (record {
      low = denies.number.from_one;
      high = omega (arith, denies.number.within, length-map log.sides (λ (side : SideClause). side.literals));
      true_there = subst (λ (clause : List AtomLit). IsTrueAlone (world_of f s) clause)
          (sym (side_literals log.sides n denies.number))
          (record { literal = t.literal; member = denies.same.back t.literal t.member; says = t.says });
    })
side_clash f s log claim form meets _ _ denies h = denies

-- where a step refutes a claim, no set of the framework meets it
pub claim_excluded : (f : Framework) (log : OracleLog) (claim : Claim) (n : ℕ) → IsLog f log → IsPlain claim
    → Refutes f log claim n → IsExcluded f claim
claim_excluded f log claim n form plain refuted s world goals meets =
    let low = refuted.step.from_one in
    let high = refuted.step.within in
    let w = world_of f s in
    let sides = literals_of log.sides in
    let t = steps_true f (world_of f s) log world form (n - 1) (omega arith) in
    let l = t.literal in
    ⊎_elim (λ fact. fact_clash f s sides l.atom l.positive fact t.says)
    (λ more. ⊎_elim
    (λ c. let none = plain.goals (negated l) c in
    says_clash l.positive (Holds w sides l.atom) t.says
    (says_moved (not l.positive) (HoldsOf f s l.atom) (Holds w sides l.atom) (alone_holds w sides l.atom none)
    (holds_alone w sides l.atom none) (goals (negated l) c)))
    (λ denies. side_clash f s log claim form meets l.atom l.positive denies t.says) more)
    (refuted.closed l t.member)

-- ---- while the log grows

pub grown_step : (P : Making) (old new : OracleLog) → Grows P old new → (n : ℕ) → IsNumberOf old.steps n
    → step_at new.steps n ≡ step_at old.steps n
grown_step P old new grows n is =
    let low = is.from_one in
    let high = is.within in
    ap (λ steps. step_at steps n) grows.more_steps.1
    ∙ get_or_append_left old.steps grows.more_steps.0 no_step (n - 1) (omega arith)

pub grown_side : (P : Making) (old new : OracleLog) → Grows P old new → (n : ℕ) → IsNumberOf old.sides n
    → side_at new.sides n ≡ side_at old.sides n
grown_side P old new grows n is =
    let low = is.from_one in
    let high = is.within in
    ap (λ sides. side_at sides n) grows.more_sides.1
    ∙ get_or_append_left old.sides grows.more_sides.0 no_side (n - 1) (omega arith)

pub number_grown : {X : Type 0} (old new more : List X) (n : ℕ) → new ≡ old ++ more → IsNumberOf old n
    → IsNumberOf new n
number_grown old new more n e is = record {
  from_one = is.from_one;
  within = omega (arith, is.within, ap length e, length-append old more);
}

-- the hints of a step name steps before it
hints_before : (f : Framework) (sides : List SideClause) (steps : List LogStep) (k hint : ℕ) → k < length steps
    → (clause : List AtomLit) (source : Source) → IsGiven f sides (take k steps) clause source
    → Contains (hints_of source) hint → IsNumberOf steps hint
hints_before f sides steps k hint lt clause (by_axiom name) given c = absurd (let lt = c.1 in omega arith)
hints_before f sides steps k hint lt clause (by_side n) given c = absurd (let lt = c.1 in omega arith)
hints_before f sides steps k hint lt clause (by_hints hints) given c =
    let all : Contains (take (length hints) hints) hint = subst (λ (xs : List ℕ). Contains xs hint)
    (sym (take_all (length hints) hints (omega arith))) c in
    let named = (taken_sound negated (clauses_of (take k steps)) clause hints (length hints) given.0).named hint all in
    record {
      from_one = named.from_one;
      within = omega (
        arith,
        named.within,
        length-map (take k steps) (λ (s : LogStep). s.clause),
        length-take-le k steps (omega arith),
      );
    }

-- what a step reaches in the log as it has grown, it reached before
reaches_back : (f : Framework) (P : Making) (old new : OracleLog) → IsLog f old → Grows P old new → (n k : ℕ)
    → IsNumberOf old.steps n → Reaches new.steps n k → Reaches old.steps n k × IsNumberOf old.steps k
reaches_back f P old new form grows n k is (itself number) = (itself n, is)
reaches_back f P old new form grows n k is (by_hint number hint reached c more) =
    let low = is.from_one in
    let high = is.within in
    let there : Contains (hints_of (step_at old.steps n).source) hint = subst
    (λ (step : LogStep). Contains (hints_of step.source) hint) (grown_step P old new grows n is) c in
    let named = hints_before f old.sides old.steps (n - 1) hint (omega arith) (step_at old.steps n).clause
    (step_at old.steps n).source (form.each (n - 1) (omega arith)) there in
    let r = reaches_back f P old new form grows hint k named more in
    (by_hint n hint k there r.0, r.1)

claim_side_grown : (P : Making) (old new : OracleLog) → Grows P old new → (claim : Claim) (n : ℕ)
    → IsClaimSide old.sides claim n → IsClaimSide new.sides claim n
claim_side_grown P old new grows claim n is = record {
  number = number_grown old.sides new.sides grows.more_sides.0 n grows.more_sides.1 is.number;
  side = is.side;
  there = is.there;
  same = subst (λ (side : SideClause). IsSameClause side.literals is.side)
      (sym (grown_side P old new grows n is.number)) is.same;
}

denies_grown : (P : Making) (old new : OracleLog) → Grows P old new → (claim : Claim) (atom : Atom) (positive : Bool)
    → DeniesSide old.sides claim atom positive → DeniesSide new.sides claim atom positive
denies_grown P old new grows claim (Ask n) false h = claim_side_grown P old new grows claim n h
denies_grown P old new grows claim _ _ h = absurd h

-- a step that refutes a claim refutes it while the log grows
pub refutes_grown : (f : Framework) (P : Making) (old new : OracleLog) (claim : Claim) (n : ℕ) → IsLog f old
    → Grows P old new → Refutes f old claim n → Refutes f new claim n
refutes_grown f P old new claim n form grows refuted =
    let same = grown_step P old new grows n refuted.step in
    record {
      step = number_grown old.steps new.steps grows.more_steps.0 n grows.more_steps.1 refuted.step;
      closed = λ l c.
          ⊎_elim (λ fact. inl fact)
          (λ more. inr (⊎_elim (λ goal. inl goal)
          (λ denies. inr (denies_grown P old new grows claim l.atom l.positive denies)) more))
          (refuted.closed l (subst (λ (step : LogStep). Contains step.clause l) same c));
      own_sides = λ k m reach is.
          let back = reaches_back f P old new form grows n k refuted.step reach in
          claim_side_grown P old new grows claim m
          (refuted.own_sides k m back.0
          (subst (λ (step : LogStep). step.source ≡ by_side m) (grown_step P old new grows k back.1) is));
    }
