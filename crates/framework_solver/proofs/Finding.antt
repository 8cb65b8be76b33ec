-- A model of the needed axioms and the goals is read as a set that makes the goals true.
use Rattle.std.proofs.Common.{◌≡◌, ◌∙◌, ⊎_elim, ℕ, ◌-◌, ◌<◌, ◌≤◌, Bool, true, false, true≢false, not, List, [], ◌∷◌}
use Rattle.std.proofs.Common.{length, take, refl, sym, ap, subst, arith, inl, inr}
use Rattle.std.specs.Prelude.{Contains, filter}
use Rattle.std.proofs.lemmas.List.{get_or-map, length-map, take_all}
use Rattle.std.proofs.lemmas.List.Elements.{Contains-get_or}
use Rattle.lists.proofs.Membership.{Contains-nil, Contains-cons_cases}
use Rattle.lists.proofs.Filters.{Contains-filter}
use Rattle.plain_lits.specs.HintCheck.{IsNamed, IsTautology, IsTrueClause, IsValuation, clause_at}
use Rattle.plain_lits.proofs.HintCheckLemmas.{Contains-mapped, taken_sound}
use Rattle.semantics.proofs.Decided.{Decided, decide_contains}
use Rattle.semantics.specs.Frameworks.{Framework, af, aba}
use Rattle.meaning_atoms.specs.declared.atom.Atom.{Atom}
use Rattle.meaning_atoms.specs.declared.atom.Atom.TheVariants.{Member, Tail, Range, Cf, Ad, Co, St, Der, Hit, Ask}
use Rattle.meaning_atoms.specs.declared.atom.AtomLit.{AtomLit}
use Rattle.meaning_atoms.specs.declared.atom.Closure.{Closure}
use Rattle.meaning_atoms.specs.declared.atom.Closure.TheVariants.{Own, Rest}
use Rattle.meaning_atoms.specs.declared.axiom.AxiomName.{AxiomName}
use Rattle.meaning_atoms.specs.Literals.{affirmed, denied, lit_value, negated}
use Rattle.meaning_atoms.proofs.SameAtoms.{same_literal}
use Rattle.meaning_atoms.specs.Worlds.{world_of, IsTrueAlone, HoldsLit, HoldsOf, Says}
use Rattle.meaning_atoms.specs.Notions.{notion_clause}
use Rattle.certificate_claims.specs.Refutations.{axiom_clause}
use Rattle.certificate_claims.specs.SetLiterals.{members}
use Rattle.oracle_face.specs.Decoding.{IsModelOf, IsNewLoop, IsReadBack, ReadsBack, TellsMembers}
use Rattle.oracle_face.specs.Goals.{AreGoals, AsksAtom, IsGoal, IsMode, MakesTrue, SpeaksOf, Tells}
use Rattle.oracle_face.specs.Logs.{OracleLog, LogStep, SideClause, FactsAreFalse, IsGiven, IsLog, IsNew, IsNumberOf}
use Rattle.oracle_face.specs.Logs.{IsSameClause, Source, by_axiom, by_side, by_hints, clauses_of, guarded, literals_of}
use Rattle.oracle_face.specs.Logs.{no_step, side_at, step_at, working}
use Rattle.oracle_face.proofs.StepTruth.{side_literals}
use Rattle.session_log.specs.Ends.{IsTakenByNone}
use Rattle.atom_solver.specs.States.{IsGuardedLog, UsesAxioms}
use Rattle.atom_solver.specs.Searches.{AreUnfixed, Satisfies}
use Rattle.framework_solver.specs.Solvers.{AreInForce}
use Rattle.framework_solver.proofs.Forcing.{step_used}
use Rattle.framework_solver.proofs.KindLemmas.{member_axiom, member_needed, member_spoken, notion_axiom, notion_is}
use Rattle.framework_solver.proofs.KindLemmas.{notion_needed, unfixed_goal}

twice : (b : Bool) → not (not b) ≡ b
twice true = refl
twice false = refl

abbrev is_decided : {P : Type 0} → Decided P → Bool
is_decided d = ⊎_elim (λ yes_. true) (λ no_. false) d

decided_so : {P : Type 0} (d : Decided P) → P → is_decided d ≡ true
decided_so (inl p) so = refl
decided_so (inr n) so = absurd (n so)

decided_not : {P : Type 0} (d : Decided P) → (P → ⊥) → is_decided d ≡ false
decided_not (inl p) not_so = absurd (not_so p)
decided_not (inr n) not_so = refl

-- ---- goals

-- no goal is a fact
pub unfixed_goals : (f : Framework) (sides : List SideClause) (goals : List AtomLit) → AreGoals f sides goals
    → AreUnfixed f goals
unfixed_goals f sides goals are =
    record { each = λ l there. unfixed_goal f sides l.atom l.positive (are.each l there) }

-- ---- models

-- literals that satisfy the log and the goals are a model of the axioms in force
pub model_of : (f : Framework) (log : OracleLog) (goals values : List AtomLit) → AreInForce f log
    → Satisfies f log goals values → IsModelOf f values
model_of f log goals values force ok = record {
  plain = ok.plain;
  axioms = λ name needed.
      let has = force name needed in
      let true_there = ok.clauses has.clause has.there in
      (true_there.0, has.same.there true_there.0 true_there.1, true_there.2);
  facts = ok.facts;
  told = λ name l needed there fact.
      let has = force name needed in
      ok.told has.clause l has.there (has.same.back l there);
}

module _ (f : Framework) (log : OracleLog) (goals values : List AtomLit) (force : AreInForce f log)
    (are : AreGoals f log.sides goals) (ok : Satisfies f log goals values) where
  -- a notion that is affirmed implies the weaker one
  weaker : (part : ℕ) (notion other : Atom) → 1 ≤ part → part ≤ 3
      → notion_clause part ≡ denied notion ∷ affirmed other ∷ [] → Contains values (affirmed notion)
      → Contains values (affirmed other)
  weaker part notion other low high is told =
      let has = force (notion_axiom f part) (notion_needed f part low high) in
      let found = ok.clauses has.clause has.there in
      let there = subst (λ clause. Contains clause found.0) (notion_is f part ∙ is)
      (has.same.there found.0 found.1) in
      ⊎_elim
      (λ (e : denied notion ≡ found.0).
      absurd (ok.plain (affirmed notion, told, subst (λ l. Contains values l) (sym e) found.2)))
      (λ later. ⊎_elim (λ (e : affirmed other ≡ found.0). subst (λ l. Contains values l) (sym e) found.2)
      (λ none. absurd (Contains-nil found.0 none))
      (Contains-cons_cases (affirmed other) [] found.0 later))
      (Contains-cons_cases (denied notion) (affirmed other ∷ []) found.0 there)

  -- each mode implies freedom from conflict
  free_by : (mode : Atom) → IsMode mode → Contains values (affirmed mode) → Contains values (affirmed Cf)
  free_by Cf is told = told
  free_by Ad is told = weaker 1 Ad Cf (omega arith) (omega arith) refl told
  free_by Co is told = free_by_ad (weaker 2 Co Ad (omega arith) (omega arith) refl told)
    where
      free_by_ad : Contains values (affirmed Ad) → Contains values (affirmed Cf)
      free_by_ad h = weaker 1 Ad Cf (omega arith) (omega arith) refl h
  free_by St is told =
      let complete = weaker 3 St Co (omega arith) (omega arith) refl told in
      let admissible = weaker 2 Co Ad (omega arith) (omega arith) refl complete in
      weaker 1 Ad Cf (omega arith) (omega arith) refl admissible
  free_by _ is told = absurd is

  -- the model affirms freedom from conflict, and says of each member whether it is in the set
  pub tells_members : TellsMembers f values
  tells_members = record {
    free = let mode = are.moded in free_by mode.0 mode.1 (ok.met (affirmed mode.0) mode.2);
    members_told = λ a there.
        let has = force (member_axiom f a) (member_needed f a there) in
        ⊎_elim (λ out. inr out) (λ member. inl member)
        (ok.told has.clause (denied (Member a)) has.there
        (has.same.back (denied (Member a)) (member_spoken f a)));
  }

-- a step that didn't only end a search is one of those that searches use
in_working : (steps : List LogStep) (step : LogStep) → Contains steps step → step.closing ≡ false
    → Contains (working steps) step.clause
in_working steps step there kept =
    Contains-mapped (λ (s : LogStep). s.clause) (filter (λ (s : LogStep). not s.closing) steps) step
    ((Contains-filter (λ (s : LogStep). not s.closing) steps step).1 (there, ap not kept))

-- ---- loop clauses

-- an axiom that is false under the values is new to what searches use
module _ (f : Framework) (log : OracleLog) (goals values : List AtomLit) (name : AxiomName)
    (ok : Satisfies f log goals values) (lacks : IsNewLoop f values name) where
  pub loop_fresh : IsNew (working log.steps) (axiom_clause name)
  loop_fresh = record {
    plain = λ t. ok.plain (negated t.0, lacks.false_there t.0 t.1, lacks.false_there (negated t.0) t.2);
    no_part = λ part.
        let found = ok.clauses part.part part.listed in
        ok.plain (found.0, found.2, lacks.false_there found.0 (part.inside found.0 found.1));
  }

  pub loop_facts : FactsAreFalse f (axiom_clause name)
  loop_facts = record {
    false_there = λ l there fact. ok.facts (negated l) (lacks.false_there l there) fact;
  }

-- whether the values affirm an atom, and then a literal
module _ (values : List AtomLit) (plain : IsTautology negated values → ⊥) where
  abbrev affirms : Atom → Bool
  affirms atom = is_decided (decide_contains same_literal values (affirmed atom))

  said_of : (atom : Atom) (positive : Bool) → Contains values (record { atom = atom; positive = positive })
      → lit_value affirms (record { atom = atom; positive = positive }) ≡ true
  said_of atom true there = decided_so (decide_contains same_literal values (affirmed atom)) there
  said_of atom false there =
      ap not (decided_not (decide_contains same_literal values (affirmed atom))
      (λ also. plain (affirmed atom, also, there)))

  said : (l : AtomLit) → Contains values l → lit_value affirms l ≡ true
  said l there = said_of l.atom l.positive there

  opposite_of : (atom : Atom) (positive : Bool)
      → lit_value affirms (negated (record { atom = atom; positive = positive })) ≡ not
      (lit_value affirms (record { atom = atom; positive = positive }))
  opposite_of atom true = refl
  opposite_of atom false = sym (twice (affirms atom))

  opposite : IsValuation negated (lit_value affirms)
  opposite l = opposite_of l.atom l.positive

-- a clause that is false under the values is taken by no hints that searches use, since the values make each of these
-- true
module _ (f : Framework) (log : OracleLog) (goals values : List AtomLit) (name : AxiomName)
    (ok : Satisfies f log goals values) (lacks : IsNewLoop f values name) where
  hint_true : (hint : ℕ) → IsNamed (clauses_of log.steps) hint → (step_at log.steps hint).closing ≡ false
      → IsTrueClause (lit_value (affirms values ok.plain)) (clause_at (clauses_of log.steps) hint)
  hint_true hint named kept =
      let low = named.from_one in
      let high = named.within in
      let lt : hint - 1 < length log.steps = omega (arith, length-map log.steps (λ (s : LogStep). s.clause)) in
      let step = step_at log.steps hint in
      let found = ok.clauses step.clause
      (in_working log.steps step (Contains-get_or log.steps (hint - 1) no_step lt) kept) in
      let same : clause_at (clauses_of log.steps) hint ≡ step.clause =
      get_or-map (λ (s : LogStep). s.clause) log.steps (hint - 1) no_step [] lt in
      subst (λ clause. IsTrueClause (lit_value (affirms values ok.plain)) clause) (sym same)
      (found.0, found.1, said values ok.plain found.0 found.2)

  pub loop_by_none : IsTakenByNone log.steps (axiom_clause name)
  loop_by_none = record {
    none = λ hints kept checks.
        let clauses = clauses_of log.steps in
        let sound = taken_sound negated clauses (axiom_clause name) hints (length hints) checks in
        let all : take (length hints) hints ≡ hints = take_all (length hints) hints (omega arith) in
        let found = sound.follows (lit_value (affirms values ok.plain)) (opposite values ok.plain)
        (λ hint there. hint_true hint (sound.named hint there) (kept hint (subst (λ xs. Contains xs hint) all there)))
        in
        let l = found.0 in
        let denies = said values ok.plain (negated l) (lacks.false_there l found.1) in
        true≢false (sym denies ∙ (opposite values ok.plain l ∙ ap not found.2));
  }

-- a clause that is new to what searches use is no step's that they use
pub fresh_is_no_step : (f : Framework) (log : OracleLog) (name : AxiomName) → IsLog f log → UsesAxioms log
    → IsNew (working log.steps) (axiom_clause name) → (number : ℕ) → IsNumberOf log.steps number
    → (step_at log.steps number).source ≡ by_axiom name → ⊥
fresh_is_no_step f log name form uses fresh number named source =
    let used = step_used f name log form (record {
      number = number;
      named = named;
      source = source;
      kept = uses.kept number name named source;
    }) in
    fresh.no_part (record { part = used.clause; listed = used.there; inside = used.same.there })

-- ---- side clauses

side_given : (f : Framework) (sides : List SideClause) (before : List LogStep) (clause : List AtomLit) (source : Source)
    (n : ℕ) → IsGiven f sides before clause source → source ≡ by_side n
    → IsSameClause clause (guarded n (side_at sides n).literals)
side_given f sides before clause (by_axiom name) n given is = cc
side_given f sides before clause (by_side m) n given is =
    let e : m ≡ n = cc in
    subst (λ k. IsSameClause clause (guarded k (side_at sides k).literals)) e given.1
side_given f sides before clause (by_hints hints) n given is = cc

-- searches use the clause of each side clause's step
side_used : (f : Framework) (log : OracleLog) (n : ℕ) → IsGuardedLog f log → IsNumberOf log.sides n
    → (clause : List AtomLit) × Contains (working log.steps) clause
    × IsSameClause clause (guarded n (side_at log.sides n).literals)
side_used f log n guarded_log named =
    let has = guarded_log.guards.stepped n named in
    let low = has.named.from_one in
    let high = has.named.within in
    let step = step_at log.steps has.number in
    let given = guarded_log.form.each (has.number - 1) (omega arith) in (
      step.clause,
      in_working log.steps step (Contains-get_or log.steps (has.number - 1) no_step (omega arith)) has.kept,
      side_given f log.sides (take (has.number - 1) log.steps) step.clause step.source n given has.source,
    )

-- ---- what is read back

-- what may be said of members is read back
tells_read : (f : Framework) (atom : Atom) (positive : Bool) → Tells (Contains (members f)) atom positive
    → IsReadBack f atom positive
tells_read (af f) (Member a) positive tells = tells
tells_read (af f) (Range a) true tells = tells
tells_read (af f) (Range a) false tells = absurd tells
tells_read (af f) (Tail a i) true tells = tells
tells_read (af f) (Tail a i) false tells = absurd tells
tells_read (af f) (Hit Own a i) true tells = tt
tells_read (af f) _ positive tells = absurd tells
tells_read (aba f) (Member a) positive tells = tells
tells_read (aba f) (Range a) true tells = tt
tells_read (aba f) (Range a) false tells = absurd tells
tells_read (aba f) (Tail a i) true tells = tt
tells_read (aba f) (Tail a i) false tells = absurd tells
tells_read (aba f) (Hit Own a i) true tells = tells
tells_read (aba f) _ positive tells = absurd tells

mode_read : (f : Framework) (mode : Atom) → IsMode mode → IsReadBack f mode true
mode_read (af f) Cf is = tt
mode_read (af f) Ad is = tt
mode_read (af f) Co is = tt
mode_read (af f) St is = tt
mode_read (af f) _ is = absurd is
mode_read (aba f) Cf is = tt
mode_read (aba f) Ad is = tt
mode_read (aba f) Co is = tt
mode_read (aba f) St is = tt
mode_read (aba f) _ is = absurd is

-- what queries on assumption-based frameworks ask is read back
atom_read : (f : Framework) (k : Closure) (x : ℕ) (positive : Bool) → AsksAtom f k x
    → IsReadBack f (Der k x) positive
atom_read (af f) k x positive asks = absurd asks
atom_read (aba f) Own x positive asks = asks
atom_read (aba f) Rest x positive asks = absurd asks

module _ (f : Framework) (log : OracleLog) (goals values : List AtomLit) (set : List ℕ)
    (guarded_log : IsGuardedLog f log) (are : AreGoals f log.sides goals)
    (ok : Satisfies f log goals values) (back : ReadsBack f values set) where
  -- what may be said of members is so of the set
  tells_holds : (l : AtomLit) → Tells (Contains (members f)) l.atom l.positive → Contains values l
      → Says l.positive (HoldsOf f set l.atom)
  tells_holds l tells there = back.says l there (tells_read f l.atom l.positive tells)

  -- a side clause that is affirmed is true of the set
  side_true : (n : ℕ) → IsNumberOf log.sides n → SpeaksOf f (side_at log.sides n).literals
      → Contains values (affirmed (Ask n)) → HoldsLit (world_of f set) (literals_of log.sides) (affirmed (Ask n))
  side_true n named speaks there =
      let used = side_used f log n guarded_log named in
      let found = ok.clauses used.0 used.1 in
      let low = named.from_one in
      let high = named.within in
      let sides = literals_of log.sides in
      ⊎_elim
      (λ denies. absurd (ok.plain (affirmed (Ask n), there, subst (λ l. Contains values l) (sym denies) found.2)))
      (λ member.
      record {
        low = omega arith;
        high = omega (arith, length-map log.sides (λ (side : SideClause). side.literals));
        true_there = subst (λ clause. IsTrueAlone (world_of f set) clause) (sym (side_literals log.sides n named))
            (record {
              literal = found.0;
              member = member;
              says = tells_holds found.0 (speaks found.0 member) found.2;
            });
      })
      (Contains-cons_cases (denied (Ask n)) (side_at log.sides n).literals found.0 (used.2.there found.0 found.1))

  goal_holds : (atom : Atom) (positive : Bool) → IsGoal f log.sides atom positive
      → Contains values (record { atom = atom; positive = positive })
      → HoldsLit (world_of f set) (literals_of log.sides) (record { atom = atom; positive = positive })
  goal_holds (Ask n) true goal there = side_true n goal.0 goal.1 there
  goal_holds (Ask n) false goal there = absurd goal
  goal_holds Cf true goal there = back.says (affirmed Cf) there (mode_read f Cf tt)
  goal_holds Cf false goal there = absurd goal
  goal_holds Ad true goal there = back.says (affirmed Ad) there (mode_read f Ad tt)
  goal_holds Ad false goal there = absurd goal
  goal_holds Co true goal there = back.says (affirmed Co) there (mode_read f Co tt)
  goal_holds Co false goal there = absurd goal
  goal_holds St true goal there = back.says (affirmed St) there (mode_read f St tt)
  goal_holds St false goal there = absurd goal
  goal_holds (Member a) positive goal there =
      tells_holds (record { atom = Member a; positive = positive }) goal there
  goal_holds (Range a) positive goal there =
      tells_holds (record { atom = Range a; positive = positive }) goal there
  goal_holds (Tail a i) positive goal there =
      tells_holds (record { atom = Tail a i; positive = positive }) goal there
  goal_holds (Hit k a i) positive goal there =
      tells_holds (record { atom = Hit k a i; positive = positive }) goal there
  goal_holds (Der k x) positive goal there =
      back.says (record { atom = Der k x; positive = positive }) there (atom_read f k x positive goal)
  goal_holds _ positive goal there = absurd goal

  -- the set makes each goal true
  pub makes_true : MakesTrue f log goals set
  makes_true = λ l there. goal_holds l.atom l.positive (are.each l there) (ok.met l there)
