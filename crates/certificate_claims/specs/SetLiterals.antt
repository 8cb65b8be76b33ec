-- Literals about sets, which are functions of the sets.
use Rattle.std.specs.Prelude.{ℕ, zero, suc, ◌==◌, Bool, not, ◌&&◌, ◌||◌, List, ◌++◌, length, map, filter}
use Rattle.std.specs.List.{list_any, list_all}
use Rattle.iccma_tasks.specs.semantics.specs.Frameworks.{Framework, af, aba}
use Rattle.iccma_tasks.specs.semantics.specs.AbaFrameworks.{Aba}
use Rattle.iccma_tasks.specs.semantics.specs.Rules.{Rule}
use Rattle.aba_axioms.specs.meaning_atoms.specs.declared.atom.Atom.TheVariants.{Member, Range, Tail, Der, Hit}
use Rattle.aba_axioms.specs.meaning_atoms.specs.declared.atom.AtomLit.{AtomLit}
use Rattle.aba_axioms.specs.meaning_atoms.specs.declared.atom.Closure.TheVariants.{Own}
use Rattle.aba_axioms.specs.meaning_atoms.specs.Literals.{affirmed, denied}

-- the literal that the set accepts the query: that it has the argument, or derives the atom
abbrev pub goal : Framework → ℕ → AtomLit
goal (af f) q = affirmed (Member q)
goal (aba f) q = affirmed (Der Own q)

-- ---- tests

-- whether the number is a member
abbrev pub has : List ℕ → ℕ → Bool
has s x = list_any (λ y. y == x) s

-- the numbers that sets are made of
abbrev pub members : Framework → List ℕ
members (af f) = f.live
members (aba f) = f.assumptions

-- the heads of the rules whose whole bodies are in the list
abbrev pub ready_heads : List Rule → List ℕ → List ℕ
ready_heads rules s = map (λ (r : Rule). r.head) (filter (λ (r : Rule). list_all (has s) r.body) rules)

-- the list with the heads of ready rules added so many times
abbrev pub rounds : ℕ → List Rule → List ℕ → List ℕ
rounds zero rules s = s
rounds (suc n) rules s = rounds n rules s ++ ready_heads rules (rounds n rules s)

-- what the set derives: no rule is new after as many rounds as there are rules
abbrev pub theory : Aba → List ℕ → List ℕ
theory f s = rounds (length f.rules) f.rules s

-- whether the set attacks it: a member does, or the set derives a contrary of it
abbrev pub hits : Framework → List ℕ → ℕ → Bool
hits (af f) s a = list_any (λ p. p.1 == a && has s p.0) f.attacks
hits (aba f) s a = list_any (λ p. p.0 == a && has (theory f s) p.1) f.contraries

-- whether it is in the set's range. Abstract frameworks alone are asked for ranges; in the other kind a set's range counts
-- as its members.
abbrev pub is_ranged : Framework → List ℕ → ℕ → Bool
is_ranged (af f) s a = has s a || hits (af f) s a
is_ranged (aba f) s a = has s a

-- the set's range
abbrev pub range_of : Framework → List ℕ → List ℕ
range_of f s = filter (is_ranged f s) (members f)

-- whether the one set's range lies in the other's
abbrev pub is_range_within : Framework → List ℕ → List ℕ → Bool
is_range_within f s t = list_all (λ a. not (is_ranged f s a) || is_ranged f t a) (members f)

-- whether the two sets have the same range
abbrev pub same_range : Framework → List ℕ → List ℕ → Bool
same_range f s t = is_range_within f s t && is_range_within f t s

-- what some set of the list attacks
abbrev pub hit_by_any : Framework → List (List ℕ) → List ℕ
hit_by_any f sets = filter (λ a. list_any (λ t. hits f t a) sets) (members f)

-- ---- literals

-- for each number that it is a member
abbrev pub are_in : List ℕ → List AtomLit
are_in numbers = map (λ a. affirmed (Member a)) numbers

-- for each number that it is no member
abbrev pub are_out : List ℕ → List AtomLit
are_out numbers = map (λ a. denied (Member a)) numbers

-- for each number that it is in the range
abbrev pub are_ranged : List ℕ → List AtomLit
are_ranged numbers = map (λ a. affirmed (Range a)) numbers

-- ---- side clauses

-- some member lies outside the set
abbrev pub outside : Framework → List ℕ → List AtomLit
outside f e = are_in (filter (λ x. not (has e x)) (members f))

-- some member lies outside the set, or some member of it is none
abbrev pub differs : Framework → List ℕ → List AtomLit
differs f e = outside f e ++ are_out e

-- something in the range is not in the set's range
abbrev pub wider : Framework → List ℕ → List AtomLit
wider f e = are_ranged (filter (λ x. not (is_ranged f e x)) (members f))

-- the literal that the set attacks it
abbrev pub struck : Framework → ℕ → AtomLit
struck (af f) a = affirmed (Tail a 1)
struck (aba f) a = affirmed (Hit Own a 1)

-- a member of the given set is attacked
abbrev pub attacked : Framework → List ℕ → List AtomLit
attacked f e = map (struck f) e
