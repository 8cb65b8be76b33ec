-- What a model of the needed axioms tells of the set that it is read as, where the framework is assumption-based.
use Rattle.std.specs.Prelude.{◌≡◌, ◌↔◌, ◌⊎◌, ℕ, List, Contains, map, slice_index}
use Rattle.lists.specs.Members.{IsSetOf}
use Rattle.semantics.specs.AbaFrameworks.{Aba, AttacksAssumption, IsAtom, collective_of}
use Rattle.semantics.specs.Collectives.{IsUnattacked}
use Rattle.meaning_atoms.specs.declared.aba_axiom.AbaAxiom.TheVariants.{B17}
use Rattle.meaning_atoms.specs.declared.atom.Atom.{Atom}
use Rattle.meaning_atoms.specs.declared.atom.Atom.TheVariants.{Member, Asm, Der, Hit}
use Rattle.meaning_atoms.specs.declared.atom.AtomLit.{AtomLit}
use Rattle.meaning_atoms.specs.declared.atom.Closure.{Closure}
use Rattle.meaning_atoms.specs.declared.atom.Closure.TheVariants.{Own, Rest}
use Rattle.meaning_atoms.specs.declared.axiom.AxiomName.{AxiomName}
use Rattle.meaning_atoms.specs.declared.axiom.AxiomName.TheVariants.{Aba as OfAba}
use Rattle.meaning_atoms.specs.AbaAxioms.{IsAbaAxiom}
use Rattle.meaning_atoms.specs.AbaReadings.{IsInClosure}
use Rattle.meaning_atoms.specs.Literals.{negated}
use Rattle.meaning_atoms.specs.Worlds.{HoldsOfAba}
use Rattle.semantics.specs.Frameworks.{aba}
use Rattle.aba_notions.specs.declared.unfounded.Unfounded.{Unfounded}
use Rattle.aba_notions.specs.Unfounded.{IsUnfoundedOf}
use Rattle.loop_clauses.specs.LoopNames.{loop_rows}
use Rattle.certificate_claims.specs.Refutations.{axiom_clause}
use Rattle.oracle_face.specs.Decoding.{IsDecoded, IsModelOf}
use Rattle.oracle_face.specs.Goals.{IsMode}
use Rattle.af_encoding.specs.Decoded.{Affirms}

-- what the values affirm of a closure of the set is in it
abbrev pub IsFounded : Aba → List AtomLit → List ℕ → Closure → Type 0
IsFounded f values s k = (x : ℕ) → IsAtom f.atoms x → Affirms values (Der k x) → IsInClosure f s k x

-- the set has each mode that the values affirm, each assumption is a member exactly where they affirm it, each atom is
-- in a closure of the set exactly where they affirm it, and the set attacks each assumption of which they affirm that
-- some contrary is in the set's own closure
pub record DescribesInAba (f : Aba) (values : List AtomLit) (s : List ℕ) : Type 0 where
  pub modes : (mode : Atom) → IsMode mode → Affirms values mode → HoldsOfAba f s mode
  pub members : (a : ℕ) → Contains f.assumptions a → Affirms values (Member a) ↔ Contains s a
  pub closures : (k : Closure) (x : ℕ) → IsAtom f.atoms x → Affirms values (Der k x) ↔ IsInClosure f s k x
  pub attacked : (a : ℕ) → Contains f.assumptions a → Affirms values (Hit Own a 1) → AttacksAssumption f s a

-- the name is that of a loop clause, whose arguments fit, for the first atom of its rows
abbrev pub IsLoopName : AxiomName → Type 0
IsLoopName (OfAba (B17 k x rows)) = IsAbaAxiom (B17 k x rows) × (x ≡ slice_index (map (λ row. row.atom) rows) 0)
IsLoopName _ = ⊥

-- each literal of the axiom's clause is false under the values
abbrev pub IsFalseUnder : List AtomLit → AxiomName → Type 0
IsFalseUnder values name = (l : AtomLit) → Contains (axiom_clause name) l → Contains values (negated l)

-- the loop clause of the least of the atoms that the values affirm to be in a closure and that do not follow from its
-- base, with a row for each of them
pub record IsLoopBeside (f : Aba) (values : List AtomLit) (base : List ℕ) (k : Closure) (name : AxiomName)
    : Type 0 where
  pub claimed : List ℕ
  pub claimed_are : IsSetOf (λ x. IsAtom f.atoms x × Affirms values (Der k x)) claimed
  pub found : Unfounded
  pub unfounded : IsUnfoundedOf f (Contains base) claimed found
  pub named : name ≡ OfAba (B17 k (slice_index found.atoms 0) (loop_rows found.rows))

-- what a closure of a set starts from: its members, or the assumptions that it does not attack
abbrev pub IsBaseOf : Aba → List ℕ → Closure → ℕ → Type 0
IsBaseOf f s Own a = Contains s a
IsBaseOf f s Rest a = IsUnattacked (collective_of f) s a

-- the set's own closure comes first: the other one has its turn only if the values affirm nothing of it that is not there
abbrev pub HasItsTurn : Aba → List AtomLit → List ℕ → Closure → Type 0
HasItsTurn f values s Own = Unit {0}
HasItsTurn f values s Rest = IsFounded f values s Own

-- the loop clause, for a model that is read as the set, of all atoms which it affirms to be in the first closure that
-- lacks one of them, and which are not there
pub record IsFirstLoop (f : Aba) (values : List AtomLit) (s : List ℕ) (name : AxiomName) : Type 0 where
  pub closure : Closure
  pub turn : HasItsTurn f values s closure
  pub base : List ℕ
  pub base_is : IsSetOf (IsBaseOf f s closure) base
  pub loop : IsLoopBeside f values base closure name

-- the list has gained x if that is one of so many atoms, and nothing else
pub record AddsAtom (atoms x : ℕ) (old new : List ℕ) : Type 0 where
  pub members : (y : ℕ) → Contains new y ↔ (Contains old y ⊎ ((x ≡ y) × IsAtom atoms y))

-- a model of the axioms that the framework needs, which is read as the set, affirms each mode that the set has, and
-- says of nothing else that it is derived than of what is
pub record IsModelOfSetInAba (f : Aba) (values : List AtomLit) (s : List ℕ) : Type 0 where
  pub model : IsModelOf (aba f) values
  pub read : (a : ℕ) → IsDecoded Asm values a ↔ Contains s a
  pub modes : (mode : Atom) → IsMode mode → HoldsOfAba f s mode → Affirms values mode
  pub founded : (k : Closure) → IsFounded f values s k
