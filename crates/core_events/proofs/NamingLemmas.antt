-- What the looks for named steps come to.
use Rattle.std.proofs.Common.{◌≡◌, ◌≢◌, ⊎_elim, ℕ, ◌+◌, ◌<◌, ◌≤◌, Bool, true, false, not, List, [], ◌∷◌, ◌++◌, length, take, get_or, refl, ap, sym, subst, ◌∙◌, arith}
use Rattle.std.specs.Prelude.{◌↔◌, IsTrue, slice_index_or, Option, Some, Ok}
use Rattle.std.proofs.lemmas.Bool.{cases_lt, false≢true}
use Rattle.std.proofs.lemmas.List.{get_or_append_left, get_or_default, get_or_push, length-append, length-take-le}
use Rattle.std.proofs.lemmas.Grind.{same_number_lists}
use Rattle.plain_lits.specs.HintCheck.{Checks}
use Rattle.plain_lits.proofs.HintCheckLemmas.{taken_sound}
use Rattle.semantics.specs.Frameworks.{Framework}
use Rattle.meaning_atoms.specs.declared.axiom.AxiomName.{AxiomName}
use Rattle.meaning_atoms.specs.declared.atom.AtomLit.{AtomLit}
use Rattle.meaning_atoms.specs.Literals.{AsksNothing, negated}
use Rattle.certificate_claims.specs.Refutations.{IsAxiomOf}
use Rattle.oracle_face.specs.declared.entry.Entry.{Entry}
use Rattle.oracle_face.specs.declared.entry.EntryName.{EntryName}
use Rattle.oracle_face.specs.declared.entry.EntryOrigin.TheVariants.{Axiom as OfAxiom, Hints}
use Rattle.oracle_face.specs.declared.entry.HintName.{HintName}
use Rattle.oracle_face.specs.declared.entry.HintName.TheVariants.{Entry as OfEntry}
use Rattle.oracle_face.specs.Logs.{LogStep, OracleLog, IsNumberOf, clauses_of, is_loop, step_at}
use Rattle.session_log.specs.Steps.{GainsStep, axiom_step, derived_step}
use Rattle.session_log.specs.Imports.{AreHintsOf, FollowsByNames, IsShownHere, MayImport, StandsFor, StandForSteps}
use Rattle.session_log.specs.Imports.{TakesEntry}
use Rattle.session_log.proofs.Naming.{front_stands, names_single}
use Rattle.certificate_check.proofs.AxiomKinds.{axiom_fits}
use Rattle.core_logs.specs.Tests.{HasAxiom, IsClauseOf, IsTakenAt}
use Rattle.core_machine.specs.Steps.{TakesAxiomEntry, TakesByOrigin}
use Rattle.core_events.specs.Naming.{Imports, IsCalledAt, IsFirstCalled, MayCome}

-- ---- one name

pub called_first : (own : ℕ) (steps : List LogStep) (name : HintName) (before number : ℕ) → number ≡ before + 1
    → ((n : ℕ) → n ≤ before → IsCalledAt own steps name n → ⊥) → IsCalledAt own steps name number
    → IsFirstCalled own steps name number
called_first own steps name before number e none at = record {
  at = at;
  first = λ other is. ⊎_elim (λ early. absurd (none other (omega arith) is)) (λ late. omega (arith, e, late))
      (cases_lt other number);
}

-- a step that stands for the name is the first that it calls
stands_first : (own : ℕ) (steps : List LogStep) (name : HintName) (number other : ℕ)
    → IsFirstCalled own steps name number → StandsFor own steps name other → other ≡ number
stands_first own steps name number other is stands =
    let low = is.first other (record { named = stands.named; called = stands.called }) in
    let high = stands.first number is.at.named is.at.called in
    omega (arith, low, high)

pub stands_by : (own : ℕ) (steps : List LogStep) (name : HintName) (number : ℕ) → IsFirstCalled own steps name number
    → (step_at steps number).closing ≡ false → AsksNothing (step_at steps number).clause
    → StandsFor own steps name number
stands_by own steps name number is kept plain = record {
  named = is.at.named;
  called = is.at.called;
  first = λ other named called. is.first other (record { named = named; called = called });
  kept = kept;
  plain = plain;
}

pub none_called : (own : ℕ) (steps : List LogStep) (name : HintName)
    → ((number : ℕ) → IsCalledAt own steps name number → ⊥) → (number : ℕ) → StandsFor own steps name number → ⊥
none_called own steps name none number stands =
    none number (record { named = stands.named; called = stands.called })

pub none_closing : (own : ℕ) (steps : List LogStep) (name : HintName) (number : ℕ)
    → IsFirstCalled own steps name number → (step_at steps number).closing ≡ true
    → (other : ℕ) → StandsFor own steps name other → ⊥
none_closing own steps name number is e other stands =
    false≢true (sym stands.kept
    ∙ (ap (λ n. (step_at steps n).closing) (stands_first own steps name number other is stands) ∙ e))

pub none_asking : (own : ℕ) (steps : List LogStep) (name : HintName) (number : ℕ)
    → IsFirstCalled own steps name number → (AsksNothing (step_at steps number).clause → ⊥)
    → (other : ℕ) → StandsFor own steps name other → ⊥
none_asking own steps name number is asks other stands =
    asks (subst (λ n. AsksNothing (step_at steps n).clause) (stands_first own steps name number other is stands)
    stands.plain)

-- ---- names in turn

-- the steps of the first names
pub record StandSoFar (own : ℕ) (steps : List LogStep) (names : List HintName) (i : ℕ) (found : List ℕ) : Type 0 where
  pub long : length found ≡ i
  pub each : (k : ℕ) (d : HintName) → k < i → StandsFor own steps (slice_index_or names k d) (slice_index_or found k 0)

pub so_far_none : (own : ℕ) (steps : List LogStep) (names : List HintName) (found : List ℕ) → found ≡ []
    → StandSoFar own steps names 0 found
so_far_none own steps names found e = record {
  long = ap length e;
  each = λ k d lt. absurd (omega (arith, lt));
}

pub so_far_more : (own : ℕ) (steps : List LogStep) (names : List HintName) (i : ℕ) (found new : List ℕ)
    (name : HintName) (step : ℕ) → i < length names → name ≡ get_or names i name → StandsFor own steps name step
    → new ≡ found ++ step ∷ [] → StandSoFar own steps names i found → StandSoFar own steps names (i + 1) new
so_far_more own steps names i found new name step lt read stands e so_far = record {
  long = ap length e ∙ (length-append found (step ∷ []) ∙ ap (λ n. n + 1) so_far.long);
  each = λ k d less. ⊎_elim
      (λ early. subst (λ n. StandsFor own steps (slice_index_or names k d) n)
      (sym (ap (λ xs. slice_index_or xs k 0) e ∙ get_or_append_left found (step ∷ []) 0 k
      (subst (λ n. k < n) (sym so_far.long) early)))
      (so_far.each k d early))
      (λ late. let same : k ≡ i = omega (arith, less, late) in
      subst (λ n. StandsFor own steps (slice_index_or names k d) n)
      (sym (ap (λ xs. slice_index_or xs k 0) e ∙ get_or_push found step 0 k (so_far.long ∙ sym same)))
      (subst (λ (x : HintName). StandsFor own steps x step)
      (read ∙ (get_or_default names i name d lt ∙ ap (λ n. get_or names n d) (sym same))) stands))
      (cases_lt k i);
}

pub so_far_all : (own : ℕ) (steps : List LogStep) (names : List HintName) (i : ℕ) (found : List ℕ)
    → i ≡ length names → StandSoFar own steps names i found → StandForSteps own steps names found
so_far_all own steps names i found e so_far = record {
  long = so_far.long ∙ e;
  each = λ k d lt. so_far.each k d (subst (λ n. k < n) (sym e) lt);
}

pub so_far_stops : (own : ℕ) (steps : List LogStep) (names : List HintName) (i : ℕ) (name : HintName)
    → i < length names → name ≡ get_or names i name → ((number : ℕ) → StandsFor own steps name number → ⊥)
    → (hints : List ℕ) → StandForSteps own steps names hints → ⊥
so_far_stops own steps names i name lt read none hints stand =
    none (slice_index_or hints i 0)
    (subst (λ (x : HintName). StandsFor own steps x (slice_index_or hints i 0)) (sym read) (stand.each i name lt))

-- ---- entries

pub come_from : (f : Framework) (steps : List LogStep) (name : AxiomName) (has : Bool)
    → IsTrue has ↔ HasAxiom steps name → IsAxiomOf f name → is_loop name ≡ false
    → IsTrue (not has) ↔ MayCome f steps name
come_from f steps name true h kind no_loop = (
  λ t. absurd (false≢true t),
  λ come. let at = h.0 refl in absurd (come.once at.number at.named at.is),
)
come_from f steps name false h kind no_loop = (
  λ t. record {
    of_kind = kind;
    no_loop = no_loop;
    once = λ number named is. false≢true (h.1 (record { number = number; named = named; is = is }));
  },
  λ come. refl,
)

-- an entry of an axiom
module _ (f : Framework) (own : ℕ) (entry : Entry) (name : AxiomName) (old : OracleLog)
    (e : entry.origin ≡ OfAxiom name) where
  axiom_here : MayImport f own old entry → IsShownHere f own old.steps entry.clause (OfAxiom name)
  axiom_here may = subst (λ o. IsShownHere f own old.steps entry.clause o) e may.shown

  pub not_come : (MayCome f old.steps name → ⊥) → (new : OracleLog) → Imports f own entry old new → ⊥
  not_come none new is =
      let h = axiom_here is.may in
      none (record { of_kind = h.0; no_loop = h.1; once = h.3 })

  pub not_its_clause : (IsClauseOf name entry.clause → ⊥) → (new : OracleLog) → Imports f own entry old new → ⊥
  not_its_clause none new is =
      let h = axiom_here is.may in
      none (record { is_name = axiom_fits f name h.0; same = h.2 })

  pub imports_axiom : (new : OracleLog) → length old.steps < old.limit → entry.name.session ≢ own
      → ((number : ℕ) → IsNumberOf old.steps number → (step_at old.steps number).imported ≢ Some entry.name)
      → MayCome f old.steps name → IsClauseOf name entry.clause
      → GainsStep (axiom_step name entry.clause (Some entry.name)) old.sides old new → Imports f own entry old new
  imports_axiom new room other absent come clause gains =
      let taken : TakesAxiomEntry name entry old new = record {
        clause = entry.clause;
        same = record { there = λ l c. c; back = λ l c. c };
        gains = gains;
      } in
      record {
        may = record {
          room = room;
          other = other;
          absent = absent;
          shown = subst (λ o. IsShownHere f own old.steps entry.clause o) (sym e)
              (come.of_kind, come.no_loop, clause.same, come.once);
        };
        takes = subst (λ o. TakesByOrigin own entry o old new) (sym e) taken;
      }

abbrev blank : HintName
blank = OfEntry (record { session = 0; step = 0 })

-- the same of an entry that follows by names
module _ (f : Framework) (own : ℕ) (entry : Entry) (names : List HintName) (old : OracleLog)
    (e : entry.origin ≡ Hints names) where
  follows_here : MayImport f own old entry → FollowsByNames own old.steps entry.clause names
  follows_here may =
      let h : IsShownHere f own old.steps entry.clause (Hints names) =
      subst (λ o. IsShownHere f own old.steps entry.clause o) e may.shown in h

  pub none_stand : ((hints : List ℕ) → StandForSteps own old.steps names hints → ⊥) → (new : OracleLog)
      → Imports f own entry old new → ⊥
  none_stand none new is = let h = follows_here is.may in none h.hints h.stand

  -- names stand for one list of steps
  pub same_hints : (hints others : List ℕ) → StandForSteps own old.steps names hints
      → StandForSteps own old.steps names others → others ≡ hints
  same_hints hints others here there = same_number_lists others hints (there.long ∙ sym here.long)
      (λ k lt. let within = subst (λ n. k < n) there.long lt in
      names_single own old.steps (slice_index_or names k blank) (slice_index_or others k 0) (slice_index_or hints k 0)
      (there.each k blank within) (here.each k blank within))

  pub not_taken : (hints : List ℕ) → StandForSteps own old.steps names hints
      → ((used : ℕ) → Checks negated (clauses_of old.steps) entry.clause hints (Ok used) → ⊥) → (new : OracleLog)
      → Imports f own entry old new → ⊥
  not_taken hints stand none new is =
      let h = follows_here is.may in
      none h.used (subst (λ (hs : List ℕ). Checks negated (clauses_of old.steps) entry.clause hs (Ok h.used))
      (same_hints hints h.hints stand h.stand) h.checks)

  pub imports_by : (hints : List ℕ) (used : ℕ) (new : OracleLog) → length old.steps < old.limit
      → entry.name.session ≢ own
      → ((number : ℕ) → IsNumberOf old.steps number → (step_at old.steps number).imported ≢ Some entry.name)
      → StandForSteps own old.steps names hints
      → Checks negated (clauses_of old.steps) entry.clause hints (Ok used)
      → GainsStep (derived_step entry.clause (take used hints) (Some entry.name) false) old.sides old new
      → Imports f own entry old new
  imports_by hints used new room other absent stand checks gains =
      let sound = taken_sound negated (clauses_of old.steps) entry.clause hints used checks in
      let long : length (take used hints) ≡ used = length-take-le used hints sound.within in
      let taken : TakesEntry own entry old new = record {
        clause = entry.clause;
        hints = take used hints;
        same = record { there = λ l c. c; back = λ l c. c };
        checks = subst (λ n. Checks negated (clauses_of old.steps) entry.clause (take used hints) (Ok n)) (sym long)
            sound.alone;
        named = subst (λ o. AreHintsOf own old.steps o (take used hints)) (sym e)
            (front_stands own old.steps names hints used stand);
        gains = gains;
      } in
      record {
        may = record {
          room = room;
          other = other;
          absent = absent;
          shown = subst (λ o. IsShownHere f own old.steps entry.clause o) (sym e)
              (record { hints = hints; stand = stand; used = used; checks = checks });
        };
        takes = subst (λ o. TakesByOrigin own entry o old new) (sym e) taken;
      }

-- what the check says of slices, it says of what they lend
pub lent_taken : (r : Option ℕ) (steps behind : List LogStep) (clause given : List AtomLit) (hints named : List ℕ)
    → behind ≡ steps → given ≡ clause → named ≡ hints → IsTakenAt (clauses_of behind) given named r
    → IsTakenAt (clauses_of steps) clause hints r
lent_taken r steps behind clause given hints named e1 e2 e3 h =
    subst (λ (s : List LogStep). IsTakenAt (clauses_of s) clause hints r) e1
    (subst (λ (c : List AtomLit). IsTakenAt (clauses_of behind) c hints r) e2
    (subst (λ (n : List ℕ). IsTakenAt (clauses_of behind) given n r) e3 h))

pub lent_gains : (old new : OracleLog) (clause given : List AtomLit) (hints named : List ℕ) (name : EntryName)
    → given ≡ clause → named ≡ hints → GainsStep (derived_step given named (Some name) false) old.sides old new
    → GainsStep (derived_step clause hints (Some name) false) old.sides old new
lent_gains old new clause given hints named name e2 e3 h =
    subst (λ (c : List AtomLit). GainsStep (derived_step c hints (Some name) false) old.sides old new) e2
    (subst (λ (n : List ℕ). GainsStep (derived_step given n (Some name) false) old.sides old new) e3 h)

-- what was gained by an axiom's clause, as it is lent
pub lent_axiom : (old new : OracleLog) (clause given : List AtomLit) (rule : AxiomName) (name : EntryName)
    → given ≡ clause → GainsStep (axiom_step rule given (Some name)) old.sides old new
    → GainsStep (axiom_step rule clause (Some name)) old.sides old new
lent_axiom old new clause given rule name e h =
    subst (λ (c : List AtomLit). GainsStep (axiom_step rule c (Some name)) old.sides old new) e h
