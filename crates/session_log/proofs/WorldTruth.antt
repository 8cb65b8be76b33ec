-- The clauses of a log are true in every world beside its side clauses.
use Rattle.std.proofs.Common.{◌≡◌, ◌≢◌, inl, inr, ⊎_elim, ℕ, ◌-◌, Bool, true, List, [], ◌∷◌, map, refl, ap, sym}
use Rattle.std.proofs.Common.{subst, arith}
use Rattle.std.specs.Prelude.{Contains, slice_index_or}
use Rattle.std.proofs.lemmas.List.Elements.{Contains-get_or}
use Rattle.lists.proofs.Membership.{Contains-nil, Contains-head, Contains-tail, Contains-cons_cases}
use Rattle.plain_lits.specs.declared.lit.Lit.{Lit}
use Rattle.hinted_log.specs.declared.step_kind.StepKind.{StepKind}
use Rattle.hinted_log.specs.declared.step_kind.StepKind.TheVariants.{Axiom, Side, Derived}
use Rattle.hinted_log.specs.Logs.{Step, IsStepOf, IsTrueUnder, step_at}
use Rattle.hinted_log.proofs.Following.{all_follow}
use Rattle.meaning_atoms.specs.declared.atom.Atom.{Atom}
use Rattle.meaning_atoms.specs.declared.atom.Atom.TheVariants.{Ask}
use Rattle.meaning_atoms.specs.declared.atom.AtomLit.{AtomLit}
use Rattle.meaning_atoms.specs.Literals.{denied, lit_value, AsksNothing}
use Rattle.meaning_atoms.specs.Valuations.{IsValuation}
use Rattle.meaning_atoms.specs.Worlds.{World, IsWorld, IsTrueBeside}
use Rattle.meaning_atoms.proofs.Valuations.{decide_atom, world_valuation}
use Rattle.meaning_atoms.proofs.Clauses.{from_alone, elsewhere, under, beside}
use Rattle.session_log.specs.WorldLogs.{lit_of, atoms_of, step_clause, IsSideStep, IsGivenOf, IsLogOf, IsTrueOfWorlds}

-- ---- clauses of variables and of atoms

there : (f : Lit → AtomLit) (clause : List Lit) (l : Lit) → Contains clause l → Contains (map f clause) (f l)
there f [] l c = absurd (Contains-nil l c)
there f (x ∷ xs) l c =
    ⊎_elim (λ e. Contains-head (f x) (map f xs) (f l) (ap f e)) (λ h. Contains-tail (f x) (map f xs) (f l)
    (there f xs l h))
    (Contains-cons_cases x xs l c)

back : (f : Lit → AtomLit) (clause : List Lit) (a : AtomLit) → Contains (map f clause) a → (l : Lit) × Contains clause l
    × (f l ≡ a)
back f [] a c = absurd (Contains-nil a c)
back f (x ∷ xs) a c =
    ⊎_elim (λ e. (x, Contains-head x xs x refl, e)) (λ h. let w = back f xs a h in
    (w.0, Contains-tail x xs w.0 w.1, w.2))
    (Contains-cons_cases (f x) (map f xs) a c)

-- ---- valuations

values_under : (atom_of : ℕ → Atom) (w : World) (sides : List (List AtomLit)) (value : Atom → Bool)
    → IsValuation w sides value → (clause : List Lit)
    → IsTrueBeside w sides (atoms_of atom_of clause) → IsTrueUnder (λ v. value (atom_of v)) clause
values_under atom_of w sides value reads clause h =
    let t = under w sides value reads (atoms_of atom_of clause) h in
    let p = back (lit_of atom_of) clause t.0 t.1 in
    (p.0, p.1, subst (λ l. lit_value value l ≡ true) (sym p.2) t.2)

true_beside : (atom_of : ℕ → Atom) (w : World) (sides : List (List AtomLit)) (value : Atom → Bool)
    → IsValuation w sides value → (clause : List Lit)
    → IsTrueUnder (λ v. value (atom_of v)) clause → IsTrueBeside w sides (atoms_of atom_of clause)
true_beside atom_of w sides value reads clause h =
    beside w sides value reads (atoms_of atom_of clause) (
      lit_of atom_of h.0,
      there (lit_of atom_of) clause h.0 h.1,
      h.2,
    )

-- ---- side clauses

side_true : (w : World) (sides : List (List AtomLit)) (clause : List AtomLit)
    → ((side : List AtomLit) → Contains sides side → AsksNothing side)
    → IsSideStep sides clause → IsTrueBeside w sides clause
side_true w sides clause plain step =
    let low = step.low in
    let high = step.high in
    let one = Contains-get_or sides (step.number - 1) [] (omega arith) in
    ⊎_elim
    (λ t. let side = slice_index_or sides (step.number - 1) [] in
    let h = from_alone w sides side (plain side one) t.true_there in
    record { literal = h.literal; member = (step.literals h.literal).1 (inr h.member); says = h.says })
    (λ no_side. record {
      literal = denied (Ask step.number);
      member = (step.literals (denied (Ask step.number))).1 (inl refl);
      says = no_side;
    })
    (decide_atom w sides (Ask step.number))

given_true : (atom_of : ℕ → Atom) (w : World) → IsWorld w → (sides : List (List AtomLit))
    → ((side : List AtomLit) → Contains sides side → AsksNothing side)
    → (step : Step) (kind : StepKind) → IsGivenOf atom_of sides step kind → kind ≢ Derived
    → IsTrueBeside w sides (step_clause atom_of step)
given_true atom_of w world sides plain step Axiom given other = given w world sides
given_true atom_of w world sides plain step Side given other = side_true w sides (step_clause atom_of step) plain given
given_true atom_of w world sides plain step Derived given other = absurd (other refl)

-- ---- logs

log_beside : (atom_of : ℕ → Atom) (sides : List (List AtomLit)) (steps : List Step) → IsLogOf atom_of sides steps
    → (number : ℕ) → IsStepOf steps number → (w : World) → IsWorld w
    → IsTrueBeside w sides (step_clause atom_of (step_at steps number))
log_beside atom_of sides steps log number is w world =
    let r = world_valuation w sides in
    true_beside atom_of w sides r.0 r.1 (step_at steps number).clause
    ((all_follow steps log.proof).from_given (λ v. r.0 (atom_of v))
    (λ given there_is other. values_under atom_of w sides r.0 r.1 (step_at steps given).clause
    (given_true atom_of w world sides log.plain (step_at steps given) (step_at steps given).kind
    (log.given given there_is) other))
    number is)

pub log_true : (atom_of : ℕ → Atom) (sides : List (List AtomLit)) (steps : List Step) → IsLogOf atom_of sides steps
    → IsTrueOfWorlds atom_of sides steps
log_true atom_of sides steps log = record {
  beside = λ number is w world. log_beside atom_of sides steps log number is w world;
  valid = λ number is plain w world others. elsewhere w sides others (step_clause atom_of (step_at steps number)) plain
      (log_beside atom_of sides steps log number is w world);
}
