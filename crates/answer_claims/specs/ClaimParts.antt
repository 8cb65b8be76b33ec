-- A claim by its parts.
use Rattle.std.specs.Prelude.{◌≡◌, ◌⊎◌, ◌↔◌, Bool, true, false, List, [], ◌∷◌, Contains}
use Rattle.semantics.specs.Frameworks.{Framework}
use Rattle.meaning_atoms.specs.declared.atom.Atom.{Atom}
use Rattle.meaning_atoms.specs.declared.atom.Atom.TheVariants.{Member, Range}
use Rattle.meaning_atoms.specs.declared.atom.AtomLit.{AtomLit}
use Rattle.certificate_claims.specs.Refutations.{Claim as TableClaim}
use Rattle.certificate_claims.specs.SetLiterals.{is_ranged, members}
use Rattle.answer_claims.specs.declared.claim.Claim.{Claim}
use Rattle.answer_claims.specs.SideClauses.{sides_of}

-- the literal says of a number what the claim's sets say: that it is a member, is none, or is in the range
abbrev pub IsSetGoal : Framework → Claim → Atom → Bool → Type 0
IsSetGoal f c (Member a) true = Contains c.inside a
IsSetGoal f c (Member a) false = Contains c.outside a × Contains (members f) a
IsSetGoal f c (Range a) true = (is_ranged f c.ranged a ≡ true) × Contains (members f) a
IsSetGoal f c _ _ = ⊥

-- the literal is one of the few, or one of those
abbrev pub IsGoal : Framework → Claim → AtomLit → Type 0
IsGoal f c l = Contains c.fixed l ⊎ IsSetGoal f c l.atom l.positive

-- the parts are those of a claim of the table
pub record IsClaimOf (f : Framework) (c : Claim) (claim : TableClaim) : Type 0 where
  pub goals : (l : AtomLit) → IsGoal f c l ↔ Contains claim.goals l
  pub sides : claim.sides ≡ sides_of f c.kind c.sides

-- the claims are those of the table, in order
abbrev pub AreClaims : Framework → List Claim → List TableClaim → Type 0
AreClaims f [] [] = Unit {0}
AreClaims f (c ∷ cs) (claim ∷ claims) = IsClaimOf f c claim × AreClaims f cs claims
AreClaims f [] (claim ∷ claims) = ⊥
AreClaims f (c ∷ cs) [] = ⊥
