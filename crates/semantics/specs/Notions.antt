-- Which notion a set meets.
use Rattle.std.specs.Prelude.{ℕ, List}
use Rattle.semantics.specs.declared.deciding.Notion.{Notion}
use Rattle.semantics.specs.declared.deciding.Notion.TheVariants.{ConflictFree, Admissible, Complete, Grounded, Preferred, Stable, SemiStable, Stage, InAllPreferred, Ideal}
use Rattle.semantics.specs.declared.af_lists.AfLists.{AfLists}
use Rattle.semantics.specs.Framework.{Af, IsConflictFree, IsAdmissible, IsComplete, IsGrounded, IsPreferred, IsStable, IsSemiStable, IsStage, IsInAllPreferred, IsIdeal}

-- the framework that two lists give
abbrev pub AfOf : AfLists → Af
AfOf lists = record { live = lists.live.now; attacks = lists.attacks.now }

-- the set meets the notion
abbrev pub IsOfNotion : Notion → Af → List ℕ → Type 0
IsOfNotion ConflictFree f s = IsConflictFree f s
IsOfNotion Admissible f s = IsAdmissible f s
IsOfNotion Complete f s = IsComplete f s
IsOfNotion Grounded f s = IsGrounded f s
IsOfNotion Preferred f s = IsPreferred f s
IsOfNotion Stable f s = IsStable f s
IsOfNotion SemiStable f s = IsSemiStable f s
IsOfNotion Stage f s = IsStage f s
IsOfNotion InAllPreferred f s = IsInAllPreferred f s
IsOfNotion Ideal f s = IsIdeal f s
