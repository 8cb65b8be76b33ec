-- What a descent finds.
use Rattle.std.proofs.Common.{◌≡◌, ◌≢◌, ℕ, ◌<◌, ◌≤◌, ◌+◌, List, [], ◌∷◌, length, Bool, true, false, not, arith, ap, sym}
use Rattle.std.proofs.Common.{subst, ◌∙◌, refl, inl, inr, ⊎_elim}
use Rattle.std.specs.Prelude.{Contains, ◌⊎◌}
use Rattle.std.proofs.lemmas.Bool.{cases_lt}
use Rattle.std.proofs.lemmas.List.{length_push}
use Rattle.lists.proofs.Membership.{Contains-nil, Contains-head, Contains-tail, Contains-cons_cases}
use Rattle.plain_lits.specs.declared.lit.Lit.{Lit}
use Rattle.plain_lits.specs.declared.value.Value.{Value}
use Rattle.plain_lits.specs.declared.value.Value.TheVariants.{True, False, Unset}
use Rattle.plain_lits.specs.Literals.{negation}
use Rattle.plain_lits.specs.Values.{IsValueIn}
use Rattle.plain_lits.specs.HintCheck.{clause_at, IsNamed, IsFalsified}
use Rattle.plain_lits.specs.Trails.{VarsDiffer}
use Rattle.plain_lits.proofs.OneOutcome.{cases_lit}
use Rattle.hinted_log.specs.Logs.{Step, IsLog, IsProof, IsStepOf, step_at, valuation_of}
use Rattle.hinted_log.specs.declared.step_kind.StepKind.TheVariants.{Derived}
use Rattle.hinted_log.proofs.Following.{all_follow}
use Rattle.lists.proofs.TruthValues.{is_denied, not_itself}
use Rattle.unit_propagate.specs.Search.{Search, IsSearch, IsQuiet, HasGrown, Decides, GoesBack}
use Rattle.clause_watches.proofs.Fronts.{consistent}
use Rattle.sat_core.specs.Runs.{HasValue, HaveValues, IsUnsetIn, IsUnsetVar, GoesOn, IsRun}
use Rattle.sleeping_clauses.specs.Steps.{HasRoom, IsMirror}
use Rattle.sat_core.specs.Solving.{SolverState, clause_of, IsModel}
use Rattle.sat_core.specs.Mirrors.{IsHeld}
use Rattle.sleeping_clauses.specs.declared.sleepers.Sleeper.{Sleeper}
use Rattle.sat_core.proofs.Running.{grown, decided, back}
use Rattle.sat_core.proofs.Mirroring.{id_of}
use Rattle.sat_core.proofs.Holding.{active_step}
use Rattle.conflict_learn.proofs.Literally.{stands_contains}

-- a value that isn't Unset is the value of a variable
pub value_there : (lits : List Lit) (v : ℕ) (value : Value) → IsValueIn lits (record { var = v; positive = false })
    value
    → value ≢ Unset → HasValue lits v
value_there lits v True h ne = inl h.0
value_there lits v False h ne = inr h.0
value_there lits v Unset h ne = absurd (ne refl)

pub values_more : (lits : List Lit) (from v : ℕ) (value : Value)
    → ((w : ℕ) → from ≤ w → w < v → HasValue lits w)
    → IsValueIn lits (record { var = v; positive = false }) value → value ≢ Unset
    → (w : ℕ) → from ≤ w → w < v + 1 → HasValue lits w
values_more lits from v value before h ne w le lt =
    ⊎_elim (λ low. before w le low)
    (λ high. let e : v ≡ w = omega arith in subst (HasValue lits) e (value_there lits v value h ne))
    (cases_lt w v)

pub unset_both : (s : Search) (v : ℕ) → v < s.vars → IsValueIn s.lits (record { var = v; positive = false }) Unset
    → IsUnsetVar s v
unset_both s v lt h = record {
  either = λ positive. elim positive as (λ p. IsUnsetIn s (record { var = v; positive = p })) [
    | true ↦ record { known = lt; unset = (h.1, h.0) }
    | false ↦ record { known = lt; unset = (h.0, h.1) }
  ];
}

-- a clause of literals with values is false, or one of them is true
some_true : (lits clause : List Lit) → ((l : Lit) → Contains clause l → Contains lits l ⊎ Contains lits (negation l))
    → IsFalsified negation lits clause ⊎ ((l : Lit) × Contains clause l × Contains lits l)
some_true lits [] h = inl (record { each = λ l c. absurd (Contains-nil l c) })
some_true lits (x ∷ xs) h =
    ⊎_elim
    (λ yes_. inr (x, Contains-head x xs x refl, yes_))
    (λ no_. ⊎_elim
    (λ f. inl (record {
      each = λ l c. ⊎_elim (λ (e : x ≡ l). subst (λ y. Contains lits (negation y)) e no_) (λ t. f.each l t)
          (Contains-cons_cases x xs l c);
    }))
    (λ w. inr (w.0, Contains-tail x xs w.0 w.1, w.2))
    (some_true lits xs (λ l c. h l (Contains-tail x xs l c))))
    (h x (Contains-head x xs x refl))

value_of : (lits : List Lit) (v : ℕ) (positive : Bool) → HasValue lits v
    → Contains lits (record { var = v; positive = positive })
    ⊎ Contains lits (negation (record { var = v; positive = positive }))
value_of lits v true h = ⊎_elim (λ no_. inr no_) (λ yes_. inl yes_) h
value_of lits v false h = ⊎_elim (λ no_. inl no_) (λ yes_. inr yes_) h

-- where all variables have values, each literal of a clause has one
pub quiet_total : (s : Search) (id : ℕ) → HasRoom s → HaveValues s → IsNamed s.clauses id
    → (l : Lit) → Contains (clause_at s.clauses id) l → Contains s.lits l ⊎ Contains s.lits (negation l)
quiet_total s id room values named l c =
    value_of s.lits l.var l.positive (values.each l.var (omega arith) (room.known id l named c))

-- where nothing is left to do and all variables have values, each clause is true
pub quiet_true : (s : Search) (id : ℕ) → HasRoom s → IsQuiet s.clauses s.lits → HaveValues s → IsNamed s.clauses id
    → (l : Lit) × Contains (clause_at s.clauses id) l × Contains s.lits l
quiet_true s id room quiet values named =
    ⊎_elim
    (λ f. absurd (quiet.not_false id named f))
    (λ w. w)
    (some_true s.lits (clause_at s.clauses id) (quiet_total s id room values named))

-- a literal is true or not
decide : (lits : List Lit) (l : Lit) → Contains lits l ⊎ (Contains lits l → ⊥)
decide [] l = inr (λ c. Contains-nil l c)
decide (x ∷ xs) l = ⊎_elim
    (λ (e : x ≡ l). inl (Contains-head x xs l e))
    (λ ne. ⊎_elim (λ c. inl (Contains-tail x xs l c))
    (λ none. inr (λ c. ⊎_elim (λ e. ne e) (λ t. none t) (Contains-cons_cases x xs l c)))
    (decide xs l))
    (cases_lit x l)

said : {P : Type 0} → P ⊎ (P → ⊥) → Bool
said (inl p) = true
said (inr n) = false

said_true : {P : Type 0} (d : P ⊎ (P → ⊥)) → said d ≡ true → P
unfolding said
said_true (inl p) e = p
said_true (inr n) e = let bad : true ≡ false = sym e in absurd (not_itself true bad)

said_of : {P : Type 0} (d : P ⊎ (P → ⊥)) → P → said d ≡ true
unfolding said
said_of (inl p) q = refl
said_of (inr n) q = absurd (n q)

said_false : {P : Type 0} (d : P ⊎ (P → ⊥)) → (P → ⊥) → said d ≡ false
unfolding said
said_false (inl p) n = absurd (n p)
said_false (inr m) n = refl

-- the true literals as a reading of the variables
abbrev truth_of : List Lit → ℕ → Bool
truth_of lits v = said (decide lits (record { var = v; positive = true }))

reads_true : (lits : List Lit) (v : ℕ) (positive : Bool) → VarsDiffer lits
    → Contains lits (record { var = v; positive = positive })
    → valuation_of (truth_of lits) (record { var = v; positive = positive }) ≡ true
reads_true lits v true apart c = said_of (decide lits (record { var = v; positive = true })) c
reads_true lits v false apart c =
    ap not (said_false (decide lits (record { var = v; positive = true }))
    (λ bad. consistent lits (record { var = v; positive = true }) apart bad c))

true_of_read : (lits : List Lit) (v : ℕ) (positive : Bool) → HasValue lits v
    → valuation_of (truth_of lits) (record { var = v; positive = positive }) ≡ true
    → Contains lits (record { var = v; positive = positive })
true_of_read lits v true h e = said_true (decide lits (record { var = v; positive = true })) e
true_of_read lits v false h e = ⊎_elim (λ no_. no_)
    (λ yes_.
    let t = said_of (decide lits (record { var = v; positive = true })) yes_ in
    let f = is_denied (said (decide lits (record { var = v; positive = true }))) e in
    let bad : true ≡ false = sym t ∙ f in
    absurd (not_itself true bad))
    h

-- where nothing is left to do and all variables have values, each step in use is true
awake_true : (steps : List Step) (awake : List ℕ) (s : Search) (number : ℕ) → IsMirror s.clauses awake steps → HasRoom s
    → IsQuiet s.clauses s.lits → HaveValues s → Contains awake number
    → (l : Lit) × Contains (clause_of steps number) l × Contains s.lits l
awake_true steps awake s number m room quiet values c =
    let id = id_of s.clauses awake steps number m c in
    let w = quiet_true s id.0 room quiet values id.1 in (
      w.0,
      subst (λ n. Contains (clause_of steps n) w.0) id.2
          (subst (λ xs. Contains xs w.0) (sym (m.same id.0 id.1)) w.1),
      w.2,
    )

given_awake : (s : Search) (awake : List ℕ) (asleep : List Sleeper) (active : List ℕ) (steps : List Step) (number : ℕ)
    → IsHeld s awake asleep active steps → IsStepOf steps number → (step_at steps number).kind ≢ Derived
    → Contains awake number
given_awake s awake asleep active steps number h step ne = ⊎_elim
    (λ there. there)
    (λ w. absurd (ne (ap (λ n. (step_at steps n).kind) (sym w.same) ∙ (h.shared.sleepers w.sleeper w.there).derived)))
    (h.shared.covered number (h.given number step ne))

each_true : (s : Search) (awake : List ℕ) (asleep : List Sleeper) (active : List ℕ) (steps : List Step)
    → IsHeld s awake asleep active steps → IsProof steps → HasRoom s
    → IsSearch s → IsQuiet s.clauses s.lits → HaveValues s → (number : ℕ) → IsStepOf steps number
    → (l : Lit) × Contains (clause_of steps number) l × Contains s.lits l
each_true s awake asleep active steps h proof room form quiet values number step =
    let w = (all_follow steps proof).from_given (truth_of s.lits) (λ given is ne.
    let a = awake_true steps awake s given h.shared.mirror room quiet values
    (given_awake s awake asleep active steps given h is ne) in
    (a.0, a.1, reads_true s.lits a.0.var a.0.positive form.apart a.2)) number step in (
      w.0,
      w.1,
      true_of_read s.lits w.0.var w.0.positive
          (values.each w.0.var (omega arith) (h.known number w.0 step w.1)) w.2,
    )

pub model_of : (state : SolverState) (awake : List ℕ) (asleep : List Sleeper) (front : List Lit) (s : Search)
    (assumptions : List Lit)
    → IsHeld s awake asleep state.active state.log.steps → IsLog state.log
    → IsSearch s → IsRun front assumptions s → IsQuiet s.clauses s.lits → HaveValues s
    → IsModel state assumptions s.lits
model_of state awake asleep front s assumptions h log form run quiet values = record {
  plain = λ t. consistent s.lits t.0 form.apart t.1 t.2;
  assumed = λ l c. let w = run.there l c in stands_contains s.lits w.index l w.stands;
  satisfied = λ number c. each_true s awake asleep state.active state.log.steps h log.proof run.fronted.room form quiet
      values number (active_step s.clauses awake asleep state.active state.log.steps number h.shared c);
  total = λ number c l there. value_of s.lits l.var l.positive (values.each l.var (omega arith)
      (h.known number l (active_step s.clauses awake asleep state.active state.log.steps number h.shared c) there));
}

-- a search goes on
pub on_same : (s : Search) → GoesOn s s
on_same s = record { clauses = refl; vars = refl; run = λ front assumptions r. r }

pub on_trans : (a b c : Search) → GoesOn a b → GoesOn b c → GoesOn a c
on_trans a b c f g = record {
  clauses = g.clauses ∙ f.clauses;
  vars = g.vars ∙ f.vars;
  run = λ front assumptions r. g.run front assumptions (f.run front assumptions r);
}

pub on_equal : (a b : Search) → b ≡ a → GoesOn a b
on_equal a b e = subst (GoesOn a) (sym e) (on_same a)

pub on_grown : (old new : Search) → IsSearch old → HasGrown old new → GoesOn old new
on_grown old new form g = record {
  clauses = g.clauses;
  vars = g.vars;
  run = λ front assumptions r. grown front old new assumptions form g r;
}

pub on_decided : (old new : Search) (l : Lit) → IsSearch old → IsQuiet old.clauses old.lits → Decides old new l
    → GoesOn old new
on_decided old new l form quiet d = record {
  clauses = d.clauses;
  vars = d.vars;
  run = λ front assumptions r. decided front old new l assumptions form quiet d r;
}

pub on_back : (old new : Search) (level : ℕ) → IsSearch old → 1 < level → level < length old.starts
    → GoesBack old new level → GoesOn old new
on_back old new level form pos lt g = record {
  clauses = g.clauses;
  vars = g.vars;
  run = λ front assumptions r. back front old new level assumptions form pos lt g r;
}

-- a decision after a look that changed nothing of the search
pub on_decided_after : (old same new : Search) (l : Lit) → same ≡ old → IsSearch old → IsQuiet old.clauses old.lits
    → Decides same new l → GoesOn old new
on_decided_after old same new l e form quiet d =
    on_decided old new l form quiet (subst (λ s. Decides s new l) e d)

pub decided_long : (old same new : Search) (l : Lit) → same ≡ old → Decides same new l
    → (length new.lits ≡ length old.lits + 1) × (new.vars ≡ old.vars)
decided_long old same new l e d =
    let f : Decides old new l = subst (λ s. Decides s new l) e d in
    (ap length f.lits ∙ length_push old.lits l, f.vars)
