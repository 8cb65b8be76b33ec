-- What a model of the needed axioms says of the set that it is read as.
use Rattle.std.specs.Prelude.{◌≡◌, ◌⊎◌, ℕ, Bool, true, List, Contains}
use Rattle.plain_lits.specs.HintCheck.{IsTautology}
use Rattle.certificate_claims.specs.semantics.specs.Framework.{Af}
use Rattle.certificate_claims.specs.semantics.specs.Frameworks.{Framework, af, aba}
use Rattle.semantics.specs.AbaFrameworks.{Aba, IsAtom}
use Rattle.certificate_claims.specs.meaning_atoms.specs.declared.atom.Atom.{Atom}
use Rattle.certificate_claims.specs.meaning_atoms.specs.declared.atom.Atom.TheVariants.{Member, Tail, Range, Cf, Ad, Co, St, Der, Hit}
use Rattle.certificate_claims.specs.meaning_atoms.specs.declared.atom.Closure.TheVariants.{Own}
use Rattle.certificate_claims.specs.meaning_atoms.specs.declared.atom.AtomLit.{AtomLit}
use Rattle.certificate_claims.specs.meaning_atoms.specs.declared.axiom.AxiomName.{AxiomName}
use Rattle.certificate_claims.specs.meaning_atoms.specs.Literals.{affirmed, denied, negated}
use Rattle.certificate_claims.specs.meaning_atoms.specs.Worlds.{HoldsOf, IsFact, Says}
use Rattle.certificate_claims.specs.af_axioms.specs.Facts.{IsFactValue}
use Rattle.certificate_claims.specs.Refutations.{IsAxiomOf, axiom_clause}
use Rattle.certificate_claims.specs.SetLiterals.{members}
use Rattle.oracle_face.specs.Logs.{is_loop}
use Rattle.oracle_face.specs.Needed.{IsNeeded}

-- the number is read as a member: the values have its atom of membership, and the atom that says that it is a member
-- of the framework
pub record IsDecoded (vouches : ℕ → Atom) (values : List AtomLit) (a : ℕ) : Type 0 where
  pub member : Contains values (affirmed (Member a))
  pub vouched : Contains values (affirmed (vouches a))

-- literals under which each needed axiom is true: none stands beside its negation, and what they say of facts is so;
-- each fact of which a needed axiom speaks is told
pub record IsModelOf (f : Framework) (values : List AtomLit) : Type 0 where
  pub plain : IsTautology negated values → ⊥
  pub axioms : (name : AxiomName) → IsNeeded f name
      → (l : AtomLit) × Contains (axiom_clause name) l × Contains values l
  pub facts : (l : AtomLit) → Contains values l → IsFact f l.atom → IsFactValue f l.atom l.positive
  pub told : (name : AxiomName) (l : AtomLit) → IsNeeded f name → Contains (axiom_clause name) l → IsFact f l.atom
      → Contains values l ⊎ Contains values (negated l)

-- what is read back of an abstract framework: modes, and what is said of its arguments and of their ranges and
-- attackers, both ways; what is said of contraries has a fixed reading there
abbrev pub IsReadBackInAf : Af → Atom → Bool → Type 0
IsReadBackInAf f (Member a) positive = Contains f.live a
IsReadBackInAf f (Range a) positive = Contains f.live a
IsReadBackInAf f (Tail a i) positive = Contains f.live a × (i ≡ 1)
IsReadBackInAf f (Hit k a i) true = Unit {0}
IsReadBackInAf f Cf true = Unit {0}
IsReadBackInAf f Ad true = Unit {0}
IsReadBackInAf f Co true = Unit {0}
IsReadBackInAf f St true = Unit {0}
IsReadBackInAf f _ _ = ⊥

-- and of an assumption-based one: modes, what is said of assumptions as members and of atoms in closures, both ways, and
-- that the set derives a contrary of an assumption; ranges and attackers have a fixed reading there
abbrev pub IsReadBackInAba : Aba → Atom → Bool → Type 0
IsReadBackInAba f (Member a) positive = Contains f.assumptions a
IsReadBackInAba f (Der k x) positive = IsAtom f.atoms x
IsReadBackInAba f (Hit Own a i) true = Contains f.assumptions a × (i ≡ 1)
IsReadBackInAba f (Range a) true = Unit {0}
IsReadBackInAba f (Tail a i) true = Unit {0}
IsReadBackInAba f Cf true = Unit {0}
IsReadBackInAba f Ad true = Unit {0}
IsReadBackInAba f Co true = Unit {0}
IsReadBackInAba f St true = Unit {0}
IsReadBackInAba f _ _ = ⊥

-- what is read back, by the kind
abbrev pub IsReadBack : Framework → Atom → Bool → Type 0
IsReadBack (af f) atom positive = IsReadBackInAf f atom positive
IsReadBack (aba f) atom positive = IsReadBackInAba f atom positive

-- what the values say in these words is so of the set
pub record ReadsBack (f : Framework) (values : List AtomLit) (set : List ℕ) : Type 0 where
  pub says : (l : AtomLit) → Contains values l → IsReadBack f l.atom l.positive
      → Says l.positive (HoldsOf f set l.atom)

-- the values affirm freedom from conflict, and say of each member of the framework whether it is in the set
pub record TellsMembers (f : Framework) (values : List AtomLit) : Type 0 where
  pub free : Contains values (affirmed Cf)
  pub members_told : (a : ℕ) → Contains (members f) a
      → Contains values (affirmed (Member a)) ⊎ Contains values (denied (Member a))

-- an axiom of the framework's kind that only a model calls for, which is false under the values
pub record IsNewLoop (f : Framework) (values : List AtomLit) (name : AxiomName) : Type 0 where
  pub axiom_of : IsAxiomOf f name
  pub loop : is_loop name ≡ true
  pub false_there : (l : AtomLit) → Contains (axiom_clause name) l → Contains values (negated l)
