-- What atoms and clauses say of a framework and a set, and which clauses always hold.
--
-- The words of the atoms are the program's own; the notions behind them are those of abstract frameworks, and of
-- frameworks with collective attacks.
use Rattle.std.specs.Prelude.{ℕ, ◌≤◌, ◌<◌, ◌-◌, Bool, true, false, List, [], Contains, length, slice_index_or}
use Rattle.meaning_atoms.specs.declared.atom.Atom.{Atom}
use Rattle.meaning_atoms.specs.declared.atom.Atom.TheVariants.{Member, Live, Attack, Gap, Tail, Unmet, Range, Cf, Ad, Co, St, Ask}
use Rattle.meaning_atoms.specs.declared.atom.Atom.TheVariants.{Asm, Con, ConGap, Head, HGap, Body, BGap, Der, Miss, Sup, Hit}
use Rattle.meaning_atoms.specs.declared.atom.AtomLit.{AtomLit}
use Rattle.aba_laws.specs.semantics.specs.Arguments.{IsArgument}
use Rattle.aba_laws.specs.semantics.specs.Frameworks.{Framework, af, aba, IsNumberedAf}
use Rattle.aba_laws.specs.semantics.specs.Framework.{Af, Attacks, IsAttackedBy, IsConflictFree, IsAdmissible, IsComplete, IsStable, IsInRange}
use Rattle.aba_laws.specs.semantics.specs.AbaFrameworks.{Aba, IsNumberedAba, collective_of}
use Rattle.aba_laws.specs.semantics.specs.Collectives.{IsConflictFree as IsCollectiveFree, IsAdmissible as IsCollectiveAdmissible}
use Rattle.aba_laws.specs.semantics.specs.Collectives.{IsComplete as IsCollectiveComplete, IsStable as IsCollectiveStable}
use Rattle.meaning_atoms.specs.AbaReadings.{HasContrary, HasNoContrary, HasHit, HasHead, HasNoHead, HasBodyAtom, HasBodyGap, IsInClosure, HasMiss, HasSupport}

-- a framework of either kind and a set of numbers, of which only the members count
pub record World : Type 0 where
  pub framework : Framework
  pub set : List ℕ

abbrev pub world_of : Framework → List ℕ → World
world_of f s = record { framework = f; set = s }

-- any abstract framework and any set, both of numbers up to the largest of their kind
pub record IsAfWorld (f : Af) (s : List ℕ) : Type 0 where
  pub framework : IsNumberedAf f
  pub members : (a : ℕ) → Contains s a → IsArgument a

-- any flat assumption-based framework and any set, both of numbers up to the largest of their kind
pub record IsAbaWorld (f : Aba) (s : List ℕ) : Type 0 where
  pub framework : IsNumberedAba f
  pub members : (a : ℕ) → Contains s a → IsArgument a

-- any framework of either kind and any set
abbrev pub IsWorldOf : Framework → List ℕ → Type 0
IsWorldOf (af f) s = IsAfWorld f s
IsWorldOf (aba f) s = IsAbaWorld f s

abbrev pub IsWorld : World → Type 0
IsWorld w = IsWorldOf w.framework w.set

-- no attacker of a has a number from i to just before j
abbrev pub HasGap : Af → ℕ → ℕ → ℕ → Type 0
HasGap f a i j = (b : ℕ) → Attacks f b a → i ≤ b → b < j → ⊥

-- some member of the set, of number i or more, attacks a
pub record HasTail (f : Af) (s : List ℕ) (a i : ℕ) : Type 0 where
  pub attacker : ℕ
  pub late : i ≤ attacker
  pub member : Contains s attacker
  pub attack : Attacks f attacker a

-- some attacker of a, of number i or more, is not attacked by the set
pub record HasUnmet (f : Af) (s : List ℕ) (a i : ℕ) : Type 0 where
  pub attacker : ℕ
  pub late : i ≤ attacker
  pub attack : Attacks f attacker a
  pub unmet : ¬ IsAttackedBy f s attacker

-- what the atom says is so of an abstract framework and a set; a side clause is not asked. The atoms of assumption-based
-- frameworks read so that the clauses which always hold of those hold here too.
abbrev pub HoldsOfAf : Af → List ℕ → Atom → Type 0
HoldsOfAf f s (Member a) = Contains s a
HoldsOfAf f s (Live a) = Contains f.live a
HoldsOfAf f s (Attack b a) = Attacks f b a
HoldsOfAf f s (Gap a i j) = HasGap f a i j
HoldsOfAf f s (Tail a i) = HasTail f s a i
HoldsOfAf f s (Unmet a i) = HasUnmet f s a i
HoldsOfAf f s (Range a) = IsInRange f s a
HoldsOfAf f s Cf = IsConflictFree f s
HoldsOfAf f s Ad = IsAdmissible f s
HoldsOfAf f s Co = IsComplete f s
HoldsOfAf f s St = IsStable f s
HoldsOfAf f s (Asm a) = Unit {0}
HoldsOfAf f s (Der k x) = 1 ≤ x
HoldsOfAf f s (Sup k x i) = Unit {0}
HoldsOfAf f s (Hit k a i) = Unit {0}
HoldsOfAf f s _ = ⊥

-- what the atom says is so of an assumption-based framework and a set; a side clause is not asked. The atoms of abstract
-- frameworks read so that the clauses which always hold of those hold here too.
abbrev pub HoldsOfAba : Aba → List ℕ → Atom → Type 0
HoldsOfAba f s (Member a) = Contains s a
HoldsOfAba f s (Asm a) = Contains f.assumptions a
HoldsOfAba f s (Con a c) = HasContrary f a c
HoldsOfAba f s (ConGap a i j) = HasNoContrary f a i j
HoldsOfAba f s (Head r h) = HasHead f r h
HoldsOfAba f s (HGap h i j) = HasNoHead f h i j
HoldsOfAba f s (Body r x) = HasBodyAtom f r x
HoldsOfAba f s (BGap r i j) = HasBodyGap f r i j
HoldsOfAba f s (Der k x) = IsInClosure f s k x
HoldsOfAba f s (Miss k r i) = HasMiss f s k r i
HoldsOfAba f s (Sup k x i) = HasSupport f s k x i
HoldsOfAba f s (Hit k a i) = HasHit f s k a i
HoldsOfAba f s Cf = IsCollectiveFree (collective_of f) s
HoldsOfAba f s Ad = IsCollectiveAdmissible (collective_of f) s
HoldsOfAba f s Co = IsCollectiveComplete (collective_of f) s
HoldsOfAba f s St = IsCollectiveStable (collective_of f) s
HoldsOfAba f s (Live a) = Unit {0}
HoldsOfAba f s (Tail a i) = Unit {0}
HoldsOfAba f s (Unmet a i) = Unit {0}
HoldsOfAba f s (Range a) = Unit {0}
HoldsOfAba f s _ = ⊥

-- the same of a framework of either kind
abbrev pub HoldsOf : Framework → List ℕ → Atom → Type 0
HoldsOf (af f) s atom = HoldsOfAf f s atom
HoldsOf (aba f) s atom = HoldsOfAba f s atom

-- what the atom says is so in the world; no side clause is asked
abbrev pub HoldsAlone : World → Atom → Type 0
HoldsAlone w atom = HoldsOf w.framework w.set atom

-- a literal says its atom, or that its atom is not so
abbrev pub Says : Bool → Type 0 → Type 0
Says true P = P
Says false P = ¬ P

-- some literal of the clause is true in the world, where no side clause is asked
pub record IsTrueAlone (w : World) (clause : List AtomLit) : Type 0 where
  pub literal : AtomLit
  pub member : Contains clause literal
  pub says : Says literal.positive (HoldsAlone w literal.atom)

-- the side clause of this number, counted from 1, is there and true in the world
pub record IsSideTrue (w : World) (sides : List (List AtomLit)) (n : ℕ) : Type 0 where
  pub low : 1 ≤ n
  pub high : n ≤ length sides
  pub true_there : IsTrueAlone w (slice_index_or sides (n - 1) [])

-- what the atom says is so in the world, beside these side clauses; side clauses ask for none themselves
abbrev pub Holds : World → List (List AtomLit) → Atom → Type 0
Holds w sides (Ask n) = IsSideTrue w sides n
Holds w sides atom = HoldsAlone w atom

-- the literal is true in the world, beside the side clauses
abbrev pub HoldsLit : World → List (List AtomLit) → AtomLit → Type 0
HoldsLit w sides l = Says l.positive (Holds w sides l.atom)

-- some literal of the clause is true in the world, beside the side clauses
pub record IsTrueBeside (w : World) (sides : List (List AtomLit)) (clause : List AtomLit) : Type 0 where
  pub literal : AtomLit
  pub member : Contains clause literal
  pub says : HoldsLit w sides literal

-- the clause is true in every world, whatever side clauses are asked beside it
abbrev pub IsValid : List AtomLit → Type 0
IsValid clause = (w : World) → IsWorld w → (sides : List (List AtomLit)) → IsTrueBeside w sides clause

-- an abstract framework alone fixes whether the atom is true
abbrev pub IsAfFact : Atom → Type 0
IsAfFact (Live a) = Unit {0}
IsAfFact (Attack b a) = Unit {0}
IsAfFact (Gap a i j) = Unit {0}
IsAfFact _ = ⊥

-- an assumption-based framework alone fixes whether the atom is true
abbrev pub IsAbaFact : Atom → Type 0
IsAbaFact (Asm a) = Unit {0}
IsAbaFact (Con a c) = Unit {0}
IsAbaFact (ConGap a i j) = Unit {0}
IsAbaFact (Head r h) = Unit {0}
IsAbaFact (HGap h i j) = Unit {0}
IsAbaFact (Body r x) = Unit {0}
IsAbaFact (BGap r i j) = Unit {0}
IsAbaFact _ = ⊥

-- the framework alone fixes whether the atom is true, by its kind
abbrev pub IsFact : Framework → Atom → Type 0
IsFact (af f) atom = IsAfFact atom
IsFact (aba f) atom = IsAbaFact atom

-- the atom is the number of a side clause
abbrev pub IsAsk : Atom → Type 0
IsAsk (Ask n) = Unit {0}
IsAsk _ = ⊥
