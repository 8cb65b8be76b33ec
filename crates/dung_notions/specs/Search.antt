-- The inner state of the search for the grounded set. `out` tells of each argument, by its number, whether the set is
-- known to attack it, `open_attackers` how many of its attackers are not known to be out, `members` has the arguments
-- that are known to be members, as they entered, and `pending` the attacks of arguments that are out, as far as the
-- counts of open attackers still hold them.
use Rattle.std.specs.Prelude.{◌≡◌, ◌≢◌, ◌↔◌, ℕ, ◌+◌, ◌-◌, ◌<◌, ◌≤◌, Bool, true, not, ◌&&◌, ◌==◌, if◌then◌else◌}
use Rattle.std.specs.Prelude.{List, [], ◌∷◌, ◌++◌, Contains, length, slice_index, slice_index_or, slice_set, count_by, sum}
use Rattle.attack_index.specs.semantics.specs.Framework.{Af, Attacks, IsAttackedBy, Defends}
use Rattle.dung_notions.specs.Grounding.{EntersAfterDefenders}
use Rattle.dung_notions.specs.declared.grounded.Search.{Search}

-- no number stands twice in the list
pub record IsOnce (numbers : List ℕ) : Type 0 where
  pub apart : (i j : ℕ) → i < j → j < length numbers → slice_index numbers i ≢ slice_index numbers j

-- whether an argument is known to be out; a number past the table is
abbrev pub is_out : List Bool → ℕ → Bool
is_out out b = slice_index_or out b true

-- how many of the attacks on an argument come from an attacker that is not out
abbrev pub count_undefeated : List Bool → ℕ → List (ℕ × ℕ) → ℕ
count_undefeated out a attacks = count_by (λ p. (p.1 == a) && not (is_out out p.0)) attacks

-- how many of the attacks reach an argument
abbrev pub reaching : ℕ → List (ℕ × ℕ) → ℕ
reaching a attacks = count_by (λ p. p.1 == a) attacks

-- a state in which the attacks of `rest`, whose attacker is out already, are still to be taken off the counts
pub record IsSearchState (f : Af) (members : List ℕ) (out : List Bool) (open_attackers : List ℕ)
    (rest : List (ℕ × ℕ)) : Type 0 where
  pub wide : (a : ℕ) → Contains f.live a → a < length out
  pub long : length open_attackers ≡ length out
  pub counted : (a : ℕ) → a < length out
      → slice_index open_attackers a ≡ count_undefeated out a f.attacks + reaching a rest
  pub attacked : (b : ℕ) → b < length out → is_out out b ≡ true → IsAttackedBy f members b
  pub entered : EntersAfterDefenders f members
  pub once : IsOnce members
  pub exact : (a : ℕ) → Contains members a ↔ (Contains f.live a × (slice_index open_attackers a ≡ 0))
  pub pending : (p : ℕ × ℕ) → Contains rest p → Contains f.attacks p

-- what a search has found is such a state
abbrev pub IsSearchOf : Af → Search → Type 0
IsSearchOf f s = IsSearchState f s.members.items s.out.items s.open_attackers.items s.pending.items

-- one attack on `a` is taken off, and `a` enters where that was the last one
pub record ReleasesOne (a : ℕ) (members open_attackers members' open_attackers' : List ℕ) : Type 0 where
  pub counts_are : open_attackers' ≡ slice_set open_attackers a (slice_index open_attackers a - 1)
  pub members_are : members' ≡ (if slice_index open_attackers a == 1 then members ++ a ∷ [] else members)

-- one attack on `a` is taken off, and nothing else changes
pub record ReleasesTarget (a : ℕ) (old new : Search) : Type 0 where
  pub out : new.out.items ≡ old.out.items
  pub pending : new.pending.items ≡ old.pending.items
  pub released : ReleasesOne a old.members.items old.open_attackers.items
      new.members.items new.open_attackers.items

-- the members have grown at their end, by no more than the counts have fallen
pub record Grows (members open_attackers members' open_attackers' : List ℕ) : Type 0 where
  pub more : List ℕ
  pub is : members' ≡ members ++ more
  pub spent : sum open_attackers' + length members' ≤ sum open_attackers + length members

-- all pending attacks are taken off, and who has no open attacker left is a member
pub record ReleasesTargets (f : Af) (old new : Search) : Type 0 where
  pub state : IsSearchOf f new
  pub pending : new.pending.items ≡ []
  pub out : new.out.items ≡ old.out.items
  pub grows : Grows old.members.items old.open_attackers.items new.members.items new.open_attackers.items

-- an argument is attacked by a member that entered at an index from `head` on
abbrev pub IsAttackedFrom : Af → List ℕ → ℕ → ℕ → Type 0
IsAttackedFrom f members head b = (k : ℕ) × (head ≤ k) × (k < length members) × Attacks f (slice_index members k) b

-- the state after the arguments of which P holds are out as well
pub record PutsOut (f : Af) (P : ℕ → Type 0) (members : List ℕ) (out : List Bool) (open_attackers : List ℕ)
    (out' : List Bool) (rest : List (ℕ × ℕ)) : Type 0 where
  pub state : IsSearchState f members out' open_attackers rest
  pub stays : (b : ℕ) → is_out out b ≡ true → is_out out' b ≡ true
  pub defeated : (b : ℕ) → P b → is_out out' b ≡ true

-- the arguments of which P holds are out, and the members and the counts are as they were
pub record Defeats (f : Af) (P : ℕ → Type 0) (old new : Search) : Type 0 where
  pub members : new.members.items ≡ old.members.items
  pub counts : new.open_attackers.items ≡ old.open_attackers.items
  pub out : PutsOut f P old.members.items old.out.items old.open_attackers.items new.out.items new.pending.items

-- the end of a search: the members are all that they defend, and exactly the live arguments with no open attacker
pub record IsFinished (f : Af) (members open_attackers : List ℕ) : Type 0 where
  pub wide : (a : ℕ) → Contains f.live a → a < length open_attackers
  pub entered : EntersAfterDefenders f members
  pub once : IsOnce members
  pub closed : (a : ℕ) → Contains f.live a → Defends f members a → Contains members a
  pub exact : (a : ℕ) → Contains members a ↔ (Contains f.live a × (slice_index open_attackers a ≡ 0))
