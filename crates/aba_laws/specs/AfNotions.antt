-- An abstract framework as one with collective attacks, in which a set attacks what a member attacks.
use Rattle.std.specs.Prelude.{◌↔◌, List, ℕ}
use Rattle.semantics.specs.Framework as single
use Rattle.semantics.specs.Framework.{Af, IsAttackedBy}
use Rattle.semantics.specs.Collectives as joint
use Rattle.semantics.specs.Collectives.{Collective}
use Rattle.semantics.specs.AbaFrameworks.{collective_of}
use Rattle.semantics.specs.Frameworks.{Framework, af, aba}

abbrev pub collective_af : Af → Collective
collective_af f = record { live = f.live; attacks = IsAttackedBy f }

-- a framework of either kind as one with collective attacks
abbrev pub collective_for : Framework → Collective
collective_for (af f) = collective_af f
collective_for (aba f) = collective_of f

-- each notion of abstract frameworks is that of collective attacks
pub record NotionsAgree (f : Af) : Type 0 where
  pub defends : (s : List ℕ) (a : ℕ) → single.Defends f s a ↔ joint.Defends (collective_af f) s a
  pub conflict_free : (s : List ℕ) → single.IsConflictFree f s ↔ joint.IsConflictFree (collective_af f) s
  pub admissible : (s : List ℕ) → single.IsAdmissible f s ↔ joint.IsAdmissible (collective_af f) s
  pub complete : (s : List ℕ) → single.IsComplete f s ↔ joint.IsComplete (collective_af f) s
  pub grounded : (s : List ℕ) → single.IsGrounded f s ↔ joint.IsGrounded (collective_af f) s
  pub preferred : (s : List ℕ) → single.IsPreferred f s ↔ joint.IsPreferred (collective_af f) s
  pub stable : (s : List ℕ) → single.IsStable f s ↔ joint.IsStable (collective_af f) s
  pub in_all_preferred : (s : List ℕ) → single.IsInAllPreferred f s ↔ joint.IsInAllPreferred (collective_af f) s
  pub ideal : (s : List ℕ) → single.IsIdeal f s ↔ joint.IsIdeal (collective_af f) s
