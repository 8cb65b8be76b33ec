-- The goals of the loops: a mode, members and what are none, what is in the range, and side clauses; or a mode, that a
-- query is accepted or isn't, and side clauses.
use Rattle.std.specs.Prelude.{◌≡◌, ℕ, ◌<◌, Bool, true, false, List, ◌∷◌, ◌++◌, length, map, Contains, slice_index_or}
use Rattle.lists.specs.Members.{IsWithin}
use Rattle.semantics.specs.Frameworks.{Framework}
use Rattle.meaning_atoms.specs.declared.atom.Atom.{Atom}
use Rattle.meaning_atoms.specs.declared.atom.Atom.TheVariants.{Member, Range, Cf, Ad, Co, St, Der, Ask}
use Rattle.meaning_atoms.specs.declared.atom.AtomLit.{AtomLit}
use Rattle.meaning_atoms.specs.declared.atom.Closure.TheVariants.{Own}
use Rattle.meaning_atoms.specs.Literals.{affirmed, negated}
use Rattle.certificate_claims.specs.SetLiterals.{goal, are_in, are_out, are_ranged, members}
use Rattle.edit_rules.specs.Fitting.{IsKnown}
use Rattle.oracle_face.specs.Goals.{IsMode, SpeaksOf}
use Rattle.oracle_face.specs.Logs.{IsNumberOf, SideClause, side_at}

-- for each number that the side clause of this number is true
abbrev pub are_asked : List ℕ → List AtomLit
are_asked asks = map (λ n. affirmed (Ask n)) asks

-- a set of the mode with these members and without those, which has these in its range and makes the side clauses true
abbrev pub goals_of : Atom → List ℕ → List ℕ → List ℕ → List ℕ → List AtomLit
goals_of mode ins outs ranged asks =
    affirmed mode ∷ (are_in ins ++ (are_out outs ++ (are_ranged ranged ++ are_asked asks)))

-- where a literal stands in such goals
abbrev pub IsPlaced : List ℕ → List ℕ → List ℕ → List ℕ → Atom → Bool → Type 0
IsPlaced ins outs ranged asks (Member a) true = Contains ins a
IsPlaced ins outs ranged asks (Member a) false = Contains outs a
IsPlaced ins outs ranged asks (Range a) true = Contains ranged a
IsPlaced ins outs ranged asks (Ask n) true = Contains asks n
IsPlaced ins outs ranged asks Cf true = Unit {0}
IsPlaced ins outs ranged asks Ad true = Unit {0}
IsPlaced ins outs ranged asks Co true = Unit {0}
IsPlaced ins outs ranged asks St true = Unit {0}
IsPlaced ins outs ranged asks _ _ = ⊥

-- no number stands twice
pub record AreApart (asks : List ℕ) : Type 0 where
  pub apart : (i j : ℕ) → i < j → j < length asks → slice_index_or asks i 0 ≡ slice_index_or asks j 0 → ⊥

-- such goals may be asked: they speak of members of the framework alone, none is in the set and not in it, and the side
-- clauses are in the log and speak of such members
pub record IsAskable (f : Framework) (sides : List SideClause) (mode : Atom)
    (ins outs ranged asks : List ℕ) : Type 0 where
  pub moded : IsMode mode
  pub in_members : IsWithin ins (members f)
  pub out_members : IsWithin outs (members f)
  pub ranged_members : IsWithin ranged (members f)
  pub apart : (a : ℕ) → Contains ins a → Contains outs a → ⊥
  pub asked : (n : ℕ) → Contains asks n → IsNumberOf sides n × SpeaksOf f (side_at sides n).literals

-- such goals may be asked beside a side clause, which speaks of members of the framework alone
pub record IsAskableBeside (f : Framework) (mode : Atom) (ins outs ranged : List ℕ) (side : List AtomLit)
    : Type 0 where
  pub moded : IsMode mode
  pub in_members : IsWithin ins (members f)
  pub out_members : IsWithin outs (members f)
  pub ranged_members : IsWithin ranged (members f)
  pub apart : (a : ℕ) → Contains ins a → Contains outs a → ⊥
  pub speaks : SpeaksOf f side

-- ---- queries

-- the atom that a set accepts a query, by whether the framework is assumption-based: that the set derives it, or that
-- it is a member
abbrev pub query_atom : Bool → ℕ → Atom
query_atom true q = Der Own q
query_atom false q = Member q

-- the literal that a set accepts the query, or that it doesn't
abbrev pub query_literal : Framework → ℕ → Bool → AtomLit
query_literal f q true = goal f q
query_literal f q false = negated (goal f q)

-- a set of the mode of which the literal is true, and which makes the side clauses true
abbrev pub goals_about : Atom → AtomLit → List ℕ → List AtomLit
goals_about mode literal asks = affirmed mode ∷ literal ∷ are_asked asks

-- a set of the mode that accepts the query or doesn't, and makes the side clauses true
abbrev pub query_goals : Framework → Atom → ℕ → Bool → List ℕ → List AtomLit
query_goals f mode q accepted asks = goals_about mode (query_literal f q accepted) asks

-- such goals may be asked: what is asked about is there, and the side clauses are in the log and speak of members of
-- the framework alone
pub record IsAskableAbout (f : Framework) (sides : List SideClause) (mode : Atom) (q : ℕ) (asks : List ℕ) : Type 0 where
  pub moded : IsMode mode
  pub known : IsKnown f q
  pub asked : (n : ℕ) → Contains asks n → IsNumberOf sides n × SpeaksOf f (side_at sides n).literals
