-- How a set stands to one other set, where its notion speaks of all others.
use Rattle.std.specs.Prelude.{ℕ, List}
use Rattle.lists.specs.Members.{IsWithin}
use Rattle.semantics.specs.declared.mode.Mode.{Mode}
use Rattle.semantics.specs.Framework.{Af, IsAdmissible, IsComplete, IsPreferred, IsOfMode, IsRangeWithin, IsInAllPreferred}

-- if the other set is complete, this one lies in it
pub record IsInComplete (f : Af) (s t : List ℕ) : Type 0 where
  pub within : IsComplete f t → IsWithin s t

-- if the other set is admissible and holds this one, it is no larger
pub record HasNoLarger (f : Af) (s t : List ℕ) : Type 0 where
  pub back : IsAdmissible f t → IsWithin s t → IsWithin t s

-- if the other set is of the mode and its range holds this one's, its range is no larger
pub record HasNoWider (mode : Mode) (f : Af) (s t : List ℕ) : Type 0 where
  pub back : IsOfMode mode f t → IsRangeWithin f s t → IsRangeWithin f t s

-- if the other set is preferred, this one lies in it
pub record IsInPreferred (f : Af) (s t : List ℕ) : Type 0 where
  pub within : IsPreferred f t → IsWithin s t

-- if the other set is part of every preferred one, this one holds it
pub record HoldsInAll (f : Af) (s t : List ℕ) : Type 0 where
  pub back : IsInAllPreferred f t → IsWithin t s
