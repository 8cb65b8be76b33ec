-- Each step of a log is true in every world beside the log's side clauses.
use Rattle.std.proofs.Common.{◌≡◌, ⊎_elim, ℕ, zero, suc, ◌-◌, ◌<◌, ◌≤◌, Bool, true, false, not, List, [], length, take, refl, ap, sym, subst, ◌∙◌, arith}
use Rattle.std.specs.Prelude.{slice_index_or, Ok}
use Rattle.std.proofs.lemmas.Bool.{cases_lt}
use Rattle.std.proofs.lemmas.List.{get_or-map, get_or-take, length-map, length-take-le}
use Rattle.std.proofs.lemmas.List.Elements.{Contains-get_or}
use Rattle.lists.proofs.Membership.{Contains-head, Contains-tail}
use Rattle.plain_lits.specs.HintCheck.{Checks, IsTrueClause, IsValuation, clause_at}
use Rattle.plain_lits.proofs.HintCheckLemmas.{taken_sound}
use Rattle.certificate_claims.specs.semantics.specs.Frameworks.{Framework, af, aba}
use Rattle.certificate_claims.specs.meaning_atoms.specs.declared.atom.Atom.{Atom}
use Rattle.certificate_claims.specs.meaning_atoms.specs.declared.atom.Atom.TheVariants.{Ask}
use Rattle.certificate_claims.specs.meaning_atoms.specs.declared.atom.AtomLit.{AtomLit}
use Rattle.certificate_claims.specs.meaning_atoms.specs.declared.axiom.AxiomName.TheVariants.{Af as OfAf, Aba as OfAba}
use Rattle.certificate_claims.specs.meaning_atoms.specs.Literals.{denied, negated, lit_value}
use Rattle.certificate_claims.specs.meaning_atoms.specs.Valuations.{IsValuation as IsWorldValuation}
use Rattle.certificate_claims.specs.meaning_atoms.specs.Worlds.{World, IsWorld, IsTrueAlone, IsTrueBeside}
use Rattle.certificate_claims.specs.meaning_atoms.proofs.Valuations.{decide_atom, world_valuation}
use Rattle.certificate_claims.specs.meaning_atoms.proofs.Clauses.{from_alone, under, beside}
use Rattle.certificate_claims.specs.af_axioms.proofs.Rows.{rows_are_valid}
use Rattle.certificate_claims.specs.aba_axioms.proofs.Validity.{clauses_are_valid}
use Rattle.certificate_claims.specs.Refutations.{axiom_clause}
use Rattle.oracle_face.specs.Logs.{LogStep, SideClause, OracleLog, Source, by_axiom, by_side, by_hints, IsGiven, IsLog, IsNumberOf, IsSameClause, guarded, literals_of, clauses_of, side_at, no_side, no_step}

-- ---- a literal and its negation have opposite values

twice : (b : Bool) → b ≡ not (not b)
twice true = refl
twice false = refl

opposite_of : (value : Atom → Bool) (atom : Atom) (positive : Bool)
    → lit_value value (negated (record { atom = atom; positive = positive })) ≡ not
    (lit_value value (record { atom = atom; positive = positive }))
opposite_of value atom true = refl
opposite_of value atom false = twice (value atom)

opposite : (value : Atom → Bool) → IsValuation negated (lit_value value)
opposite value l = opposite_of value l.atom l.positive

-- ---- a step that is given is true

-- a world, beside a log's side clauses, and what each literal's value is there
pub record IsRead (f : Framework) (w : World) (log : OracleLog) (value : Atom → Bool) : Type 0 where
  pub world : IsWorld w
  pub form : IsLog f log
  pub reads : IsWorldValuation w (literals_of log.sides) value

same_beside : (w : World) (sides : List (List AtomLit)) (clause other : List AtomLit)
    → IsSameClause clause other → IsTrueBeside w sides other → IsTrueBeside w sides clause
same_beside w sides clause other same h =
    record { literal = h.literal; member = same.back h.literal h.member; says = h.says }

pub side_literals : (sides : List SideClause) (n : ℕ) → IsNumberOf sides n
    → slice_index_or (literals_of sides) (n - 1) [] ≡ (side_at sides n).literals
side_literals sides n is =
    let low = is.from_one in
    let high = is.within in
    get_or-map (λ (side : SideClause). side.literals) sides (n - 1) no_side [] (omega arith)

side_beside : (f : Framework) (w : World) (log : OracleLog) (n : ℕ) → IsLog f log → IsNumberOf log.sides n
    → IsTrueBeside w (literals_of log.sides) (guarded n (side_at log.sides n).literals)
side_beside f w log n form is =
    let sides = literals_of log.sides in
    let side = (side_at log.sides n).literals in
    let low = is.from_one in
    let high = is.within in
    let one = Contains-get_or log.sides (n - 1) no_side (omega arith) in
    ⊎_elim
    (λ t. let there : IsTrueAlone w side = subst (λ clause. IsTrueAlone w clause) (side_literals log.sides n is)
    t.true_there in
    let h = from_alone w sides side (form.plain (side_at log.sides n) one) there in
    record {
      literal = h.literal;
      member = Contains-tail (denied (Ask n)) side h.literal h.member;
      says = h.says;
    })
    (λ no_side. record {
      literal = denied (Ask n);
      member = Contains-head (denied (Ask n)) side (denied (Ask n)) refl;
      says = no_side;
    })
    (decide_atom w sides (Ask n))

-- the value of the clause of the step at an index
abbrev IsTrueStep : OracleLog → (Atom → Bool) → ℕ → Type 0
IsTrueStep log value k = IsTrueClause (lit_value value) (slice_index_or log.steps k no_step).clause

named_clause : (steps : List LogStep) (k n : ℕ) → k ≤ length steps → 0 < n → n ≤ k
    → clause_at (clauses_of (take k steps)) n ≡ (slice_index_or steps (n - 1) no_step).clause
named_clause steps k n within low high =
    get_or-map (λ (s : LogStep). s.clause) (take k steps) (n - 1) no_step []
    (omega (arith, length-take-le k steps within))
    ∙ ap (λ (s : LogStep). s.clause) (get_or-take k steps (n - 1) no_step (omega arith))

hinted_true : (log : OracleLog) (value : Atom → Bool) (k : ℕ) → k ≤ length log.steps
    → ((j : ℕ) → j < k → IsTrueStep log value j) → (clause : List AtomLit) (hints : List ℕ)
    → Checks negated (clauses_of (take k log.steps)) clause hints (Ok (length hints))
    → IsTrueClause (lit_value value) clause
hinted_true log value k within before clause hints checks =
    let sound = taken_sound negated (clauses_of (take k log.steps)) clause hints (length hints) checks in
    sound.follows (lit_value value) (opposite value) (λ hint c.
    let named = sound.named hint c in
    let low = named.from_one in
    let inside = named.within in
    let high : hint ≤ k = omega (
      arith,
      inside,
      length-map (take k log.steps)
          (λ (s : LogStep). s.clause),
      length-take-le k log.steps within,
    ) in
    subst (λ named. IsTrueClause (lit_value value) named)
    (sym (named_clause log.steps k hint within low high))
    (before (hint - 1) (omega arith)))

given_true : (f : Framework) (w : World) (log : OracleLog) (value : Atom → Bool) → IsRead f w log value → (k : ℕ)
    → k ≤ length log.steps → ((j : ℕ) → j < k → IsTrueStep log value j) → (clause : List AtomLit) (source : Source)
    → IsGiven f log.sides (take k log.steps) clause source → IsTrueClause (lit_value value) clause
given_true f w log value met k within before clause (by_axiom (OfAf name)) h =
    let sides = literals_of log.sides in
    under w sides value met.reads clause
    (same_beside w sides clause (axiom_clause (OfAf name)) h.1 (rows_are_valid name w met.world sides))
given_true (af f) w log value met k within before clause (by_axiom (OfAba name)) h = absurd h.0
given_true (aba f) w log value met k within before clause (by_axiom (OfAba name)) h =
    let sides = literals_of log.sides in
    under w sides value met.reads clause
    (same_beside w sides clause (axiom_clause (OfAba name)) h.1 (clauses_are_valid name h.0 w met.world sides))
given_true f w log value met k within before clause (by_side n) h =
    let sides = literals_of log.sides in
    under w sides value met.reads clause
    (same_beside w sides clause (guarded n (side_at log.sides n).literals) h.1 (side_beside f w log n met.form h.0))
given_true f w log value met k within before clause (by_hints hints) h =
    hinted_true log value k within before clause hints h.0

before_true : (f : Framework) (w : World) (log : OracleLog) (value : Atom → Bool) → IsRead f w log value → (k : ℕ)
    → k ≤ length log.steps → (j : ℕ) → j < k → IsTrueStep log value j
before_true f w log value met zero within j lt = absurd (omega arith)
before_true f w log value met (suc k) within j lt =
    let before = before_true f w log value met k (omega arith) in
    ⊎_elim (λ less. before j less)
    (λ ge. let here : k ≡ j = omega arith in
    subst (λ i. IsTrueStep log value i) here
    (given_true f w log value met k (omega arith) before (slice_index_or log.steps k no_step).clause
    (slice_index_or log.steps k no_step).source (met.form.each k (omega arith))))
    (cases_lt j k)

-- each step of a log is true in every world beside the log's side clauses
pub steps_true : (f : Framework) (w : World) (log : OracleLog) → IsWorld w → IsLog f log → (k : ℕ)
    → k < length log.steps → IsTrueBeside w (literals_of log.sides) (slice_index_or log.steps k no_step).clause
steps_true f w log world form k lt =
    let sides = literals_of log.sides in
    let r = world_valuation w sides in
    beside w sides r.0 r.1 (slice_index_or log.steps k no_step).clause
    (before_true f w log r.0 (record { world = world; form = form; reads = r.1 }) (length log.steps) (omega arith) k
    lt)
