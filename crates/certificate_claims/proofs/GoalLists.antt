-- Goals and side clauses of a claim, one by one.
use Rattle.std.proofs.Common.{⊎_elim, ℕ, ◌<◌, List, [], ◌∷◌, ◌++◌, length, map, sym, subst, ◌∙◌}
use Rattle.std.specs.Prelude.{◌≡◌, Contains, slice_index_or}
use Rattle.std.proofs.lemmas.List.{get_or_default}
use Rattle.std.proofs.lemmas.List.Elements.{Contains-append_cases}
use Rattle.lists.proofs.Membership.{Contains-nil, Contains-cons_cases}
use Rattle.iccma_tasks.specs.semantics.specs.Frameworks.{Framework}
use Rattle.iccma_tasks.specs.semantics.proofs.Decided.{search_list, found_in, decide_not}
use Rattle.aba_axioms.specs.meaning_atoms.specs.declared.atom.Atom.TheVariants.{Ad}
use Rattle.aba_axioms.specs.meaning_atoms.specs.declared.atom.AtomLit.{AtomLit}
use Rattle.aba_axioms.specs.meaning_atoms.specs.Literals.{affirmed, AsksNothing}
use Rattle.aba_axioms.specs.meaning_atoms.specs.Worlds.{world_of, IsWorldOf, HoldsOf, Says, IsAsk, IsTrueAlone}
use Rattle.aba_axioms.specs.meaning_atoms.proofs.Valuations.{decide_true_alone}
use Rattle.certificate_claims.specs.Acceptance.{no_claim}
use Rattle.certificate_claims.specs.Claims.{claim_of}
use Rattle.certificate_claims.specs.Refutations.{Claim, IsExcluded, IsPlain, MeetsGoals}
use Rattle.certificate_claims.specs.Laws.{AreExcluded}
use Rattle.lists.proofs.Images.{image_from}

-- ---- goals that a set meets

pub meets_nil : (f : Framework) (s : List ℕ) → MeetsGoals f s []
meets_nil f s l c = absurd (Contains-nil l c)

pub meets_cons : (f : Framework) (s : List ℕ) (l : AtomLit) (rest : List AtomLit) → Says l.positive (HoldsOf f s l.atom)
    → MeetsGoals f s rest
    → MeetsGoals f s (l ∷ rest)
meets_cons f s l rest h more k c =
    ⊎_elim (λ e. subst (λ (m : AtomLit). Says m.positive (HoldsOf f s m.atom)) e h) (λ later. more k later)
    (Contains-cons_cases l rest k c)

pub meets_append : (f : Framework) (s : List ℕ) (left right : List AtomLit) → MeetsGoals f s left
    → MeetsGoals f s right
    → MeetsGoals f s (left ++ right)
meets_append f s left right l r k c =
    ⊎_elim (λ here. l k here) (λ there. r k there) (Contains-append_cases left right k c)

pub meets_mapped : (f : Framework) (s : List ℕ) (lit : ℕ → AtomLit) (numbers : List ℕ)
    → ((a : ℕ) → Contains numbers a → Says (lit a).positive (HoldsOf f s (lit a).atom))
    → MeetsGoals f s (map lit numbers)
meets_mapped f s lit numbers h k c =
    let m = image_from lit numbers k c in
    subst (λ (l : AtomLit). Says l.positive (HoldsOf f s l.atom)) m.2 (h m.0 m.1)

-- ---- literals that ask for no side clause

pub asks_nil : AsksNothing []
asks_nil l c = absurd (Contains-nil l c)

pub asks_cons : (l : AtomLit) (rest : List AtomLit) → (IsAsk l.atom → ⊥) → AsksNothing rest → AsksNothing (l ∷ rest)
asks_cons l rest none more k c ask =
    ⊎_elim (λ e. none (subst (λ (m : AtomLit). IsAsk m.atom) (sym e) ask)) (λ later. more k later ask)
    (Contains-cons_cases l rest k c)

pub asks_append : (left right : List AtomLit) → AsksNothing left → AsksNothing right → AsksNothing (left ++ right)
asks_append left right l r k c ask =
    ⊎_elim (λ here. l k here ask) (λ there. r k there ask) (Contains-append_cases left right k c)

pub asks_mapped : (lit : ℕ → AtomLit) (numbers : List ℕ) → ((a : ℕ) → IsAsk (lit a).atom → ⊥)
    → AsksNothing (map lit numbers)
asks_mapped lit numbers none k c ask =
    let m = image_from lit numbers k c in
    none m.0 (subst (λ (l : AtomLit). IsAsk l.atom) (sym m.2) ask)

-- the mode of admissible sets before such literals
pub ad_plain : (rest : List AtomLit) → AsksNothing rest → AsksNothing (affirmed Ad ∷ rest)
ad_plain rest plain = asks_cons (affirmed Ad) rest (λ x. x) plain

-- a claim whose sides are made of sets
pub plain_mapped : (goals : List AtomLit) (side : List ℕ → List AtomLit) (sets : List (List ℕ)) → AsksNothing goals
    → ((e : List ℕ) → AsksNothing (side e))
    → IsPlain (claim_of goals (map side sets))
plain_mapped goals side sets plain each = record {
  goals = plain;
  sides = λ clause c. let m = image_from side sets clause c in
      subst (λ (made : List AtomLit). AsksNothing made) m.2 (each m.0);
}

-- ---- excluded claims

pub only_one : {X : Type 0} (y x : X) → Contains (y ∷ []) x → y ≡ x
only_one y x c = ⊎_elim (λ e. e) (λ later. absurd (Contains-nil x later)) (Contains-cons_cases y [] x c)

-- each claim of an excluded list is excluded
pub excluded_in : (f : Framework) (list : List Claim) (claim : Claim) → AreExcluded f list → Contains list claim
    → IsPlain claim
    → IsExcluded f claim
excluded_in f list claim none c plain =
    let at : slice_index_or list c.0 no_claim ≡ claim = get_or_default list c.0 no_claim claim c.1 ∙ c.2 in
    subst (λ (k : Claim). IsExcluded f k) at (none c.0 c.1 (subst (λ (k : Claim). IsPlain k) (sym at) plain))

-- where a claim is excluded, a set that meets its goals fails one of its side clauses
pub fails_one : (f : Framework) (claim : Claim) → IsExcluded f claim → (s : List ℕ) → IsWorldOf f s
    → MeetsGoals f s claim.goals
    → (side : List AtomLit) × Contains claim.sides side × (IsTrueAlone (world_of f s) side → ⊥)
fails_one f claim none s world goals =
    let w = world_of f s in
    let Fails : List AtomLit → Type 0 = λ side. IsTrueAlone w side → ⊥ in
    ⊎_elim
    (λ found. (found.item, found_in Fails claim.sides found, found.holds))
    (λ all. absurd (none s world goals (λ side c. ⊎_elim (λ t. t) (λ no. absurd (all side c no))
    (decide_true_alone w side))))
    (search_list Fails (λ side. decide_not (decide_true_alone w side)) claim.sides)

-- the same where the sides are made of sets
pub fails_mapped : (f : Framework) (goals : List AtomLit) (side : List ℕ → List AtomLit) (sets : List (List ℕ))
    → IsExcluded f (claim_of goals (map side sets)) → (s : List ℕ) → IsWorldOf f s → MeetsGoals f s goals
    → (e : List ℕ) × Contains sets e × (IsTrueAlone (world_of f s) (side e) → ⊥)
fails_mapped f goals side sets none s world meets =
    let r = fails_one f (claim_of goals (map side sets)) none s world meets in
    let m = image_from side sets r.0 r.1 in
    (m.0, m.1, subst (λ (made : List AtomLit). IsTrueAlone (world_of f s) made → ⊥) (sym m.2) r.2)

-- ---- lists

-- what holds at each index holds of each member
pub each_of : (P : List ℕ → Type 0) (sets : List (List ℕ))
    → ((k : ℕ) → k < length sets → P (slice_index_or sets k []))
    → (e : List ℕ) → Contains sets e → P e
each_of P sets h e c = subst P (get_or_default sets c.0 [] e c.1 ∙ c.2) (h c.0 c.1)
