-- Rules over atoms, and what follows by them.
--
-- Source: A. Bondarenko, P. M. Dung, R. A. Kowalski, F. Toni, "An abstract, argumentation-theoretic approach to default
-- reasoning", Artificial Intelligence 93 (1997), section 2.
use Rattle.std.specs.Prelude.{◌≡◌, ◌↔◌, ◌⊎◌, ℕ, List, [], ◌∷◌, Contains}
use Rattle.lists.specs.Members.{IsWithin}

-- a rule under its number: where all atoms of its body hold, so does its head
pub record Rule : Type 0 where
  pub number : ℕ
  pub head : ℕ
  pub body : List ℕ

-- what follows by the rules from what is given
pub data Derives (rules : List Rule) (Given : ℕ → Type 0) : ℕ → Type 0 where
  given : (x : ℕ) → Given x → Derives rules Given x
  by_rule : (r : Rule) (x : ℕ) → Contains rules r → r.head ≡ x
      → ((y : ℕ) → Contains r.body y → Derives rules Given y) → Derives rules Given x

-- the second list has exactly what follows from the first
abbrev pub IsClosureOf : List Rule → List ℕ → List ℕ → Type 0
IsClosureOf rules s t = (x : ℕ) → Contains t x ↔ Derives rules (Contains s) x

-- the set holds the head of each rule whose body it holds
abbrev pub IsClosedUnder : List Rule → List ℕ → Type 0
IsClosedUnder rules t = (r : Rule) → Contains rules r → IsWithin r.body t → Contains t r.head

-- the least set that holds the first and is closed under the rules
pub record IsLeastClosed (rules : List Rule) (s t : List ℕ) : Type 0 where
  pub holds : IsWithin s t
  pub closed : IsClosedUnder rules t
  pub least : (u : List ℕ) → IsWithin s u → IsClosedUnder rules u → IsWithin t u

-- x heads one of the rules
abbrev pub IsHeadOf : List Rule → ℕ → Type 0
IsHeadOf rules x = (r : Rule) × Contains rules r × (r.head ≡ x)

-- a deduction from the set: a list of rules, the last one in front, each of whose body atoms is in the set or heads an
-- earlier one
abbrev pub IsDeduction : List Rule → List ℕ → List Rule → Type 0
IsDeduction rules s [] = Unit {0}
IsDeduction rules s (r ∷ earlier) =
    Contains rules r × ((y : ℕ) → Contains r.body y → Contains s y ⊎ IsHeadOf earlier y) × IsDeduction rules s earlier

-- x heads the last rule of a deduction from the set
pub record IsDeduced (rules : List Rule) (s : List ℕ) (x : ℕ) : Type 0 where
  pub last : Rule
  pub earlier : List Rule
  pub deduction : IsDeduction rules s (last ∷ earlier)
  pub head : last.head ≡ x
