-- Attacks that edits change, before the framework is changed.
use Rattle.std.specs.Prelude.{◌≡◌, ℕ, ◌==◌, ◌&&◌, Bool, false, not, List, map, Option, Some, None, Ok}
use Rattle.semantics.specs.Framework.{Af}
use Rattle.semantics.specs.Frameworks.{IsNumberedAf, af}
use Rattle.indexmap.specs.IndexMap.{get}
use Rattle.edit_rules.specs.declared.edit.Edit.{Edit}
use Rattle.edit_rules.specs.Edits.{edit_outcome}
use Rattle.edit_rules.specs.Effects.{plain_effect}
use Rattle.edit_rules.specs.Groups.{group_told}
use Rattle.edit_rules.specs.Pairs.{has_pair}
use Rattle.edit_rules.specs.Replay.{replay}
use Rattle.edit_groups.specs.declared.attack_changes.AttackChanges.{AttackChanges}

-- the pairs are the same
abbrev pub is_same : ℕ × ℕ → ℕ × ℕ → Bool
is_same p q = p.0 == q.0 && p.1 == q.1

-- whether the attack is there behind the edits, where they name it
abbrev pub told_of : AttackChanges → ℕ × ℕ → Option Bool
told_of changes p = get is_same changes.there p

-- whether an attack is there where this is told of it, and these are the attacks before
abbrev pub there_in : List (ℕ × ℕ) → ℕ × ℕ → Option Bool → Bool
there_in attacks p None = has_pair attacks p
there_in attacks p (Some there) = there

-- whether an attack comes or goes where this is told of it
abbrev pub comes : List (ℕ × ℕ) → ℕ × ℕ → Option Bool → Bool
comes attacks p None = false
comes attacks p (Some there) = there && not (has_pair attacks p)

abbrev pub goes : Option Bool → Bool
goes None = false
goes (Some there) = not there

-- one attack more is told
pub record IsNoted (p : ℕ × ℕ) (there : Bool) (old new : AttackChanges) : Type 0 where
  pub here : told_of new p ≡ Some there
  pub others : (q : ℕ × ℕ) → is_same p q ≡ false → told_of new q ≡ told_of old q

-- g is the framework f with the changes
pub record IsChanged (f : Af) (changes : AttackChanges) (g : Af) : Type 0 where
  pub form : IsNumberedAf g
  pub live : g.live ≡ f.live
  pub attacks : (p : ℕ × ℕ) → has_pair g.attacks p ≡ there_in f.attacks p (told_of changes p)

-- an edit is taken on each framework that differs by the old changes, and it takes nothing along; the new changes are
-- those of the framework behind it
pub record IsTakenIn (f : Af) (edit : Edit) (old new : AttackChanges) : Type 0 where
  pub each : (g : Af) → IsChanged f old g
      → (h : Af) × IsChanged f new h × (edit_outcome (af g) edit ≡ Ok (af h, plain_effect edit))

-- the edits are taken, and these are the changes that they make
pub record AreTakenIn (f : Af) (edits : List Edit) (changes : AttackChanges) : Type 0 where
  pub behind : Af
  pub changed : IsChanged f changes behind
  pub replayed : replay (af f) edits ≡ af behind
  pub told : group_told (af f) edits ≡ Ok (map plain_effect edits)
