-- Laws that show the notions of frameworks with collective attacks, and of assumption-based ones, to be the
-- literature's.
use Rattle.std.specs.Prelude.{◌↔◌, ◌⊎◌, List, ℕ, Contains, ◌++◌}
use Rattle.lists.specs.Members.{IsWithin}
use Rattle.semantics.specs.Laws.{HasSameMembers}
use Rattle.semantics.specs.Collectives.{Collective, AttacksMember, Defends, IsUnattacked, IsAdmissible, IsComplete, IsGrounded, IsPreferred, IsStable, IsInAllPreferred, IsIdeal}
use Rattle.semantics.specs.Rules.{Rule, Derives, IsClosureOf, IsLeastClosed, IsDeduced}

-- there is a grounded set, there is one alone, it is admissible, and it lies in every complete set
pub record GroundedIsUnique (d : Collective) : Type 0 where
  pub exists : (s : List ℕ) × IsGrounded d s
  pub one : (s t : List ℕ) → IsGrounded d s → IsGrounded d t → HasSameMembers s t
  pub admissible : (s : List ℕ) → IsGrounded d s → IsAdmissible d s
  pub in_complete : (s t : List ℕ) → IsGrounded d s → IsComplete d t → IsWithin s t

-- each stable set is preferred
abbrev pub StableIsPreferred : Collective → Type 0
StableIsPreferred d = (s : List ℕ) → IsStable d s → IsPreferred d s

-- each preferred set is complete
abbrev pub PreferredIsComplete : Collective → Type 0
PreferredIsComplete d = (s : List ℕ) → IsPreferred d s → IsComplete d s

-- each admissible set is part of a preferred one
abbrev pub AdmissibleIsInPreferred : Collective → Type 0
AdmissibleIsInPreferred d = (s : List ℕ) → IsAdmissible d s → (p : List ℕ) × IsPreferred d p × IsWithin s p

-- live arguments that an admissible set defends make an admissible set with it (Dung's fundamental lemma)
abbrev pub DefendedIsAdmissible : Collective → Type 0
DefendedIsAdmissible d = (s t : List ℕ) → IsAdmissible d s → IsWithin t d.live
    → ((a : ℕ) → Contains t a → Defends d s a) → IsAdmissible d (s ++ t)

-- two admissible sets of which neither attacks the other make an admissible set together
abbrev pub UnionIsAdmissible : Collective → Type 0
UnionIsAdmissible d = (s t : List ℕ) → IsAdmissible d s → IsAdmissible d t → (AttacksMember d s t → ⊥)
    → (AttacksMember d t s → ⊥) → IsAdmissible d (s ++ t)

-- an admissible set lies in every preferred one exactly where no admissible set attacks it
abbrev pub InAllIsUnattacked : Collective → Type 0
InAllIsUnattacked d = (s : List ℕ) → IsAdmissible d s → IsInAllPreferred d s
    ↔ ((t : List ℕ) → IsAdmissible d t → AttacksMember d t s → ⊥)

-- an admissible set that no admissible set attacks is ideal where it has all of each larger admissible set that none of
-- some admissible sets attacks
abbrev pub IdealByOthers : Collective → Type 0
IdealByOthers d = (s : List ℕ) (others : List (List ℕ)) → IsAdmissible d s
    → ((o : List ℕ) → Contains others o → IsAdmissible d o)
    → ((t : List ℕ) → IsAdmissible d t → AttacksMember d t s → ⊥)
    → ((t : List ℕ) → IsAdmissible d t → IsWithin s t
    → ((o : List ℕ) → Contains others o → AttacksMember d o t → ⊥) → IsWithin t s)
    → IsIdeal d s

-- there is an ideal set, there is one alone, and it is admissible
pub record IdealIsUnique (d : Collective) : Type 0 where
  pub exists : (s : List ℕ) × IsIdeal d s
  pub one : (s t : List ℕ) → IsIdeal d s → IsIdeal d t → HasSameMembers s t
  pub admissible : (s : List ℕ) → IsIdeal d s → IsAdmissible d s

-- a set defends an argument exactly where the live arguments that it does not attack do not attack it together
abbrev pub DefendsByRest : Collective → Type 0
DefendsByRest d = (s rest : List ℕ) (a : ℕ) → ((x : ℕ) → Contains rest x ↔ IsUnattacked d s x)
    → Defends d s a ↔ (d.attacks rest a → ⊥)

-- assumptions are admissible where they do not attack themselves and attack each set of assumptions that attacks
-- them (Bondarenko et al. 1997, definition 3.3)
pub record IsAdmissibleBySets (d : Collective) (s : List ℕ) : Type 0 where
  pub live : IsWithin s d.live
  pub apart : AttacksMember d s s → ⊥
  pub answers : (t : List ℕ) → IsWithin t d.live → AttacksMember d t s → AttacksMember d s t

abbrev pub AdmissibleBySets : Collective → Type 0
AdmissibleBySets d = (s : List ℕ) → IsAdmissible d s ↔ IsAdmissibleBySets d s

-- what a set derives can be listed
abbrev pub ClosureExists : List Rule → Type 0
ClosureExists rules = (s : List ℕ) → (t : List ℕ) × IsClosureOf rules s t

-- what a set derives is the least set that holds it and is closed under the rules
abbrev pub ClosureIsLeast : List Rule → Type 0
ClosureIsLeast rules = (s t : List ℕ) → IsClosureOf rules s t ↔ IsLeastClosed rules s t

-- what a set derives are its members and the heads of the last rules of deductions from it
abbrev pub DerivedIsDeduced : List Rule → Type 0
DerivedIsDeduced rules = (s : List ℕ) (x : ℕ) → Derives rules (Contains s) x ↔ (Contains s x ⊎ IsDeduced rules s x)
