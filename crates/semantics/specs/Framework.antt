-- Abstract argumentation frameworks and their extensions.
--
-- Sources: P. M. Dung, "On the acceptability of arguments and its fundamental role in nonmonotonic
-- reasoning, logic programming and n-person games", Artificial Intelligence 77 (1995); M. Caminada,
-- "Semi-stable semantics", COMMA 2006; B. Verheij, "Two approaches to dialectical argumentation: admissible sets and
-- argumentation stages", NAIC 1996; P. M. Dung, P. Mancarella, F. Toni, "Computing ideal sceptical argumentation",
-- Artificial Intelligence 171 (2007).
--
-- A set of arguments is any list of numbers, of which only the members count. Every notion ranges over
-- all such lists, and so over all finite sets of numbers.
use Rattle.std.specs.Prelude.{◌≡◌, ℕ, ◌<◌, List, Contains, length, slice_index_or, ◌⊎◌}
use Rattle.std.specs.List.Sorted.{IsStrictlyIncreasing}
use Rattle.lists.specs.Members.{IsWithin}
use Rattle.semantics.specs.declared.mode.Mode.{Mode}
use Rattle.semantics.specs.declared.mode.Mode.TheVariants.{Cf, Ad}

-- an abstract framework: the live arguments, and the attacks between them (Dung 1995, definition 2)
pub record Af : Type 0 where
  pub live : List ℕ
  -- the pair (b, a) reads "b attacks a"
  pub attacks : List (ℕ × ℕ)

-- the first pair comes before the second, by attacker and then by target
abbrev pub IsPairBefore : ℕ × ℕ → ℕ × ℕ → Type 0
IsPairBefore p q = (p.0 < q.0) ⊎ ((p.0 ≡ q.0) × (p.1 < q.1))

-- the form of a framework's lists: live numbers rise, attacks rise by attacker and then by target, and
-- both ends of an attack are live
pub record IsAf (f : Af) : Type 0 where
  pub live_rises : IsStrictlyIncreasing f.live
  pub attacks_rise : (i j : ℕ) (d : ℕ × ℕ) → i < j → j < length f.attacks → IsPairBefore (slice_index_or f.attacks i d)
      (slice_index_or f.attacks j d)
  pub ends : (b a : ℕ) → Contains f.attacks (b, a) → Contains f.live b × Contains f.live a

-- b attacks a
abbrev pub Attacks : Af → ℕ → ℕ → Type 0
Attacks f b a = Contains f.attacks (b, a)

-- some member of the set attacks a
abbrev pub IsAttackedBy : Af → List ℕ → ℕ → Type 0
IsAttackedBy f s a = (b : ℕ) × Contains s b × Attacks f b a

-- the set attacks every attacker of a: a is acceptable with respect to it (Dung 1995, definition 6)
abbrev pub Defends : Af → List ℕ → ℕ → Type 0
Defends f s a = (b : ℕ) → Attacks f b a → IsAttackedBy f s b

-- live arguments, of which none attacks another or itself (Dung 1995, definition 5)
pub record IsConflictFree (f : Af) (s : List ℕ) : Type 0 where
  pub live : IsWithin s f.live
  pub apart : (b a : ℕ) → Contains s b → Contains s a → Attacks f b a → ⊥

-- conflict-free, and defends each of its members (Dung 1995, definition 6)
pub record IsAdmissible (f : Af) (s : List ℕ) : Type 0 where
  pub conflict_free : IsConflictFree f s
  pub defended : (a : ℕ) → Contains s a → Defends f s a

-- admissible, and holds each live argument that it defends (Dung 1995, definition 23)
pub record IsComplete (f : Af) (s : List ℕ) : Type 0 where
  pub admissible : IsAdmissible f s
  pub closed : (a : ℕ) → Contains f.live a → Defends f s a → Contains s a

-- the least complete set (Dung 1995, definition 20 and theorem 25)
pub record IsGrounded (f : Af) (s : List ℕ) : Type 0 where
  pub complete : IsComplete f s
  pub least : (t : List ℕ) → IsComplete f t → IsWithin s t

-- admissible, and within no larger admissible set (Dung 1995, definition 7)
pub record IsPreferred (f : Af) (s : List ℕ) : Type 0 where
  pub admissible : IsAdmissible f s
  pub maximal : (t : List ℕ) → IsAdmissible f t → IsWithin s t → IsWithin t s

-- conflict-free, and attacks every live argument outside it (Dung 1995, definition 13)
pub record IsStable (f : Af) (s : List ℕ) : Type 0 where
  pub conflict_free : IsConflictFree f s
  pub attacks_outside : (a : ℕ) → Contains f.live a → (Contains s a → ⊥) → IsAttackedBy f s a

-- a is a member of the set, or attacked by it: it lies in the set's range (Caminada 2006)
abbrev pub IsInRange : Af → List ℕ → ℕ → Type 0
IsInRange f s a = Contains s a ⊎ IsAttackedBy f s a

-- the one set's range lies in the other's
abbrev pub IsRangeWithin : Af → List ℕ → List ℕ → Type 0
IsRangeWithin f s t = (a : ℕ) → IsInRange f s a → IsInRange f t a

-- conflict-free, or admissible
abbrev pub IsOfMode : Mode → Af → List ℕ → Type 0
IsOfMode Cf f s = IsConflictFree f s
IsOfMode Ad f s = IsAdmissible f s

-- of the mode, and no set of the mode has a larger range
pub record IsWidest (mode : Mode) (f : Af) (s : List ℕ) : Type 0 where
  pub has_mode : IsOfMode mode f s
  pub widest : (t : List ℕ) → IsOfMode mode f t → IsRangeWithin f s t → IsRangeWithin f t s

-- admissible, and no admissible set has a larger range (Caminada 2006)
abbrev pub IsSemiStable : Af → List ℕ → Type 0
IsSemiStable f s = IsWidest Ad f s

-- conflict-free, and no conflict-free set has a larger range (Verheij 1996)
abbrev pub IsStage : Af → List ℕ → Type 0
IsStage f s = IsWidest Cf f s

-- admissible, and part of every preferred set (Dung, Mancarella, Toni 2007)
pub record IsInAllPreferred (f : Af) (s : List ℕ) : Type 0 where
  pub admissible : IsAdmissible f s
  pub within : (p : List ℕ) → IsPreferred f p → IsWithin s p

-- the largest admissible set that is part of every preferred set (Dung, Mancarella, Toni 2007)
pub record IsIdeal (f : Af) (s : List ℕ) : Type 0 where
  pub in_all : IsInAllPreferred f s
  pub largest : (t : List ℕ) → IsInAllPreferred f t → IsWithin t s
