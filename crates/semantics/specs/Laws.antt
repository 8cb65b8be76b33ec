-- Laws that show the notions of Framework to be the literature's.
use Rattle.std.specs.Prelude.{List, ℕ, Contains, ◌++◌}
use Rattle.lists.specs.Members.{IsWithin}
use Rattle.semantics.specs.declared.mode.Mode.{Mode}
use Rattle.semantics.specs.Framework.{Af, IsAttackedBy, IsAdmissible, IsComplete, IsGrounded, IsPreferred, IsStable, IsOfMode, IsRangeWithin, IsWidest, IsSemiStable, IsStage, IsInAllPreferred, IsIdeal}

-- the two lists have the same members
pub record HasSameMembers (s t : List ℕ) : Type 0 where
  pub there : IsWithin s t
  pub back : IsWithin t s

-- each framework has a grounded set, it has one alone, it is admissible, and it lies in every complete set
-- (Dung 1995, theorem 25)
pub record GroundedIsUnique (f : Af) : Type 0 where
  pub exists : (s : List ℕ) × IsGrounded f s
  pub one : (s t : List ℕ) → IsGrounded f s → IsGrounded f t → HasSameMembers s t
  pub admissible : (s : List ℕ) → IsGrounded f s → IsAdmissible f s
  pub in_complete : (s t : List ℕ) → IsGrounded f s → IsComplete f t → IsWithin s t

-- each stable set is preferred, and no admissible or conflict-free set has a larger range (Dung 1995, lemma 15; Caminada
-- 2006; Verheij 1996)
pub record StableIsLargest (f : Af) : Type 0 where
  pub preferred : (s : List ℕ) → IsStable f s → IsPreferred f s
  pub semi_stable : (s : List ℕ) → IsStable f s → IsSemiStable f s
  pub stage : (s : List ℕ) → IsStable f s → IsStage f s

-- each preferred set is complete (Dung 1995, theorem 25)
abbrev pub PreferredIsComplete : Af → Type 0
PreferredIsComplete f = (s : List ℕ) → IsPreferred f s → IsComplete f s

-- a member of the one set attacks a member of the other
abbrev pub AttacksMember : Af → List ℕ → List ℕ → Type 0
AttacksMember f s t = (a : ℕ) × Contains t a × IsAttackedBy f s a

-- each admissible set is part of a preferred one (Dung 1995, theorem 11)
abbrev pub AdmissibleIsInPreferred : Af → Type 0
AdmissibleIsInPreferred f = (s : List ℕ) → IsAdmissible f s → (p : List ℕ) × IsPreferred f p × IsWithin s p

-- each semi-stable set is preferred, and so complete (Caminada 2006)
pub record SemiStableIsPreferred (f : Af) : Type 0 where
  pub preferred : (s : List ℕ) → IsSemiStable f s → IsPreferred f s
  pub complete : (s : List ℕ) → IsSemiStable f s → IsComplete f s

-- the range of each conflict-free or admissible set lies in that of a widest one: so there is a stage set, and a
-- semi-stable one
abbrev pub WidestExists : Af → Type 0
WidestExists f = (mode : Mode) (s : List ℕ) → IsOfMode mode f s
    → (w : List ℕ) × IsWidest mode f w × IsRangeWithin f s w

-- two admissible sets of which neither attacks the other make an admissible set together
abbrev pub UnionIsAdmissible : Af → Type 0
UnionIsAdmissible f = (s t : List ℕ) → IsAdmissible f s → IsAdmissible f t → (AttacksMember f s t → ⊥)
    → (AttacksMember f t s → ⊥) → IsAdmissible f (s ++ t)

-- an admissible set that no admissible set attacks is part of every preferred set (Dung, Mancarella, Toni 2007)
abbrev pub UnattackedIsInAll : Af → Type 0
UnattackedIsInAll f = (s : List ℕ) → IsAdmissible f s → ((t : List ℕ) → IsAdmissible f t → AttacksMember f t s → ⊥)
    → IsInAllPreferred f s

-- each framework has an ideal set, it has one alone, and it is admissible (Dung, Mancarella, Toni 2007)
pub record IdealIsUnique (f : Af) : Type 0 where
  pub exists : (s : List ℕ) × IsIdeal f s
  pub one : (s t : List ℕ) → IsIdeal f s → IsIdeal f t → HasSameMembers s t
  pub admissible : (s : List ℕ) → IsIdeal f s → IsAdmissible f s
