-- What is left of a set without what admissible sets attack.
use Rattle.std.proofs.Common.{ℕ, List}
use Rattle.std.specs.Prelude.{Result, Ok, Err, IfOk}
use Rattle.lists.specs.declared.memory.Memory.{Memory}
use Rattle.semantics.specs.Frameworks.{Framework, af, aba}
use Rattle.meaning_atoms.specs.declared.atom.Atom.TheVariants.{Ad, Cf}
use Rattle.meaning_atoms.specs.Worlds.{HoldsOf}
use Rattle.oracle_face.specs.Parts.{IsLargestPart}
use Rattle.ideal_set.specs.declared.attackers.Attackers.{Attackers}
use Rattle.ideal_set.specs.Ideals.{IsCut, IsCutBeside, Keeps}

pub conflict_free_of : (f : Framework) (set : List ℕ) → HoldsOf f set Ad → HoldsOf f set Cf
conflict_free_of (af f) set ok = ok.conflict_free
conflict_free_of (aba f) set ok = ok.conflict_free

pub is_cut : (f : Framework) (set other : List ℕ) (old new : Attackers) (result : Result (List ℕ) Memory)
    → Keeps f other old new → IfOk result (IsLargestPart f set new.hit) → IfOk result (IsCut f other old new)
is_cut f set other old new (Ok left) keeps h = record {
  sets = keeps.sets;
  hit = keeps.hit;
  free = record { admissible = h.is_part.admissible; apart = h.is_part.apart };
}
is_cut f set other old new (Err memory) keeps h = h

pub cut_beside : (f : Framework) (set other : List ℕ) (old between new : Attackers) (result : Result (List ℕ) Memory)
    → Keeps f set old between → IfOk result (IsCut f other between new) → IfOk result (IsCutBeside f set other old new)
cut_beside f set other old between new (Ok left) keeps cut = record { between = between; keeps = keeps; cut = cut }
cut_beside f set other old between new (Err memory) keeps h = h
