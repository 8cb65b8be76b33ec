use Rattle.std.proofs.Common.{◌≡◌, ◌⊎◌, ⊎_elim, ℕ, ◌≤◌, List, [], ◌∷◌, refl, sym, ap, subst, arith}
use Rattle.std.specs.Prelude.{Contains, Option, None, Result, Ok, Err}
use Rattle.lists.proofs.Membership.{Contains-head, Contains-tail}
use Rattle.plain_lits.specs.declared.halt.Halt.{Halt}
use Rattle.plain_lits.specs.declared.halt.Halt.TheVariants.{Memory}
use Rattle.plain_lits.specs.Units.{Units}
use Rattle.semantics.specs.declared.mode.Mode.{Mode}
use Rattle.semantics.specs.declared.mode.Mode.TheVariants.{Cf, Ad}
use Rattle.semantics.specs.Frameworks.{Framework}
use Rattle.meaning_atoms.specs.declared.atom.AtomLit.{AtomLit}
use Rattle.meaning_atoms.specs.Worlds.{HoldsOf}
use Rattle.iccma_tasks.specs.declared.task.Problem.{Problem}
use Rattle.iccma_tasks.specs.declared.task.Problem.TheVariants.{Credulous, Sceptical, SomeExtension, AllExtensions}
use Rattle.iccma_tasks.specs.declared.task.Semantics.{Semantics}
use Rattle.iccma_tasks.specs.declared.task.Semantics.TheVariants.{Complete, Preferred, Stable, SemiStable, Ideal, Stage}
use Rattle.iccma_tasks.specs.declared.task.Task.{Task}
use Rattle.iccma_tasks.specs.Tasks.{Asked, task_of}
use Rattle.certificate_claims.specs.Claims.{mode_atom, widest_semantics}
use Rattle.certificate_claims.specs.SetLiterals.{attacked, differs, outside, wider}
use Rattle.oracle_face.specs.declared.face.Found.{Found}
use Rattle.oracle_face.specs.declared.face.Found.TheVariants.{Set, Refuted}
use Rattle.oracle_face.specs.Growing.{Making, closes, halt_of}
use Rattle.oracle_face.specs.Logs.{IsSameClause}
use Rattle.oracle_face.proofs.GrowingLemmas.{Makes}
use Rattle.session_log.specs.Ends.{MadeFor, side_mode, sides_for}
use Rattle.goal_lists.proofs.Calls.{closes_set, makes_none}
use Rattle.enumerate_block.specs.cegar_preferred.specs.Largest.{MadeOutside}
use Rattle.enumerate_block.specs.semi_stable.specs.Widest.{MadeWider}
use Rattle.ideal_set.specs.Ideals.{MadeForIdeal}
use Rattle.std.specs.Result.{IsErr, IsErrAnd}
use Rattle.oracle_face.specs.declared.oracle.Oracle.{Ghosts as OracleWords}
use Rattle.goal_lists.specs.Runs.{MadeNone, Ran, RanInAll}
use Rattle.goal_lists.proofs.RunLemmas.{Joins, ran_as, ran_lost, ran_search, ran_then}
use Rattle.query_answers.specs.Answers.{RanFor}
use Rattle.enumerate_block.specs.Extensions.{MadeForAll}

-- What the calls leave of which an answer is made, by what a query may make.

-- ---- side clauses that a query may make

serves : (f : Framework) (asked : Asked) (problem : Problem) (semantics : Semantics) (literals : List AtomLit)
    (set : List ℕ) (side : List AtomLit) → asked.task.problem ≡ problem → asked.task.semantics ≡ semantics
    → Contains (sides_for f problem semantics set) side → IsSameClause literals side
    → HoldsOf f set (side_mode semantics) → MadeFor f asked literals set
serves f asked problem semantics literals set side left right listed same ok = record {
  side = side;
  listed = subst (λ (p : Problem). Contains (sides_for f p asked.task.semantics set) side) (sym left)
      (subst (λ (s : Semantics). Contains (sides_for f problem s set) side) (sym right) listed);
  same = same;
  has_mode = subst (λ (s : Semantics). HoldsOf f set (side_mode s)) (sym right) ok;
}

first_side : (one : List AtomLit) (more : List (List AtomLit)) → Contains (one ∷ more) one
first_side one more = Contains-head one more one refl

second_side : (one two : List AtomLit) → Contains (one ∷ two ∷ []) two
second_side one two = Contains-tail one (two ∷ []) two (first_side two [])

in_largest : (f : Framework) (problem : Problem) (e : List ℕ) → Contains (sides_for f problem Preferred e) (outside f e)
in_largest f Credulous e = first_side (outside f e) []
in_largest f Sceptical e = first_side (outside f e) []
in_largest f SomeExtension e = first_side (outside f e) []
in_largest f AllExtensions e = first_side (outside f e) []

in_widest : (mode : Mode) (f : Framework) (problem : Problem) (e : List ℕ)
    → Contains (sides_for f problem (widest_semantics mode) e) (wider f e)
in_widest Cf f Credulous e = first_side (wider f e) []
in_widest Cf f Sceptical e = first_side (wider f e) []
in_widest Cf f SomeExtension e = first_side (wider f e) []
in_widest Cf f AllExtensions e = first_side (wider f e) (differs f e ∷ [])
in_widest Ad f Credulous e = first_side (wider f e) []
in_widest Ad f Sceptical e = first_side (wider f e) []
in_widest Ad f SomeExtension e = first_side (wider f e) []
in_widest Ad f AllExtensions e = first_side (wider f e) (differs f e ∷ [])

differs_widest : (mode : Mode) (f : Framework) (e : List ℕ)
    → Contains (sides_for f AllExtensions (widest_semantics mode) e) (differs f e)
differs_widest Cf f e = second_side (wider f e) (differs f e)
differs_widest Ad f e = second_side (wider f e) (differs f e)

-- the sets of the mode are those that its side clauses are made from
of_side_mode : (mode : Mode) (f : Framework) (set : List ℕ) → HoldsOf f set (mode_atom mode)
    → HoldsOf f set (side_mode (widest_semantics mode))
of_side_mode Cf f set ok = ok
of_side_mode Ad f set ok = ok

outside_ideal : (f : Framework) (problem : Problem) (e : List ℕ) → Contains (sides_for f problem Ideal e) (outside f e)
outside_ideal f Credulous e = first_side (outside f e) (attacked f e ∷ [])
outside_ideal f Sceptical e = first_side (outside f e) (attacked f e ∷ [])
outside_ideal f SomeExtension e = first_side (outside f e) (attacked f e ∷ [])
outside_ideal f AllExtensions e = first_side (outside f e) (attacked f e ∷ [])

attacked_ideal : (f : Framework) (problem : Problem) (e : List ℕ)
    → Contains (sides_for f problem Ideal e) (attacked f e)
attacked_ideal f Credulous e = second_side (outside f e) (attacked f e)
attacked_ideal f Sceptical e = second_side (outside f e) (attacked f e)
attacked_ideal f SomeExtension e = second_side (outside f e) (attacked f e)
attacked_ideal f AllExtensions e = second_side (outside f e) (attacked f e)

pub makes_largest : (f : Framework) (asked : Asked) → asked.task.semantics ≡ Preferred
    → Makes (MadeOutside f) (MadeFor f asked)
makes_largest f asked is literals set h =
    serves f asked asked.task.problem Preferred literals set (outside f set) refl is
    (in_largest f asked.task.problem set) h.0 h.1

pub makes_widest : (f : Framework) (asked : Asked) (mode : Mode) (problem : Problem)
    → asked.task ≡ task_of problem (widest_semantics mode) → Makes (MadeWider f mode) (MadeFor f asked)
makes_widest f asked mode problem is literals set h =
    serves f asked problem (widest_semantics mode) literals set (wider f set) (ap (λ (t : Task). t.problem) is)
    (ap (λ (t : Task). t.semantics) is) (in_widest mode f problem set) h.1 (of_side_mode mode f set h.0)

-- a list by ranges makes two side clauses of a set
ranged_sides : (f : Framework) (asked : Asked) (mode : Mode) → asked.task.problem ≡ AllExtensions
    → asked.task.semantics ≡ widest_semantics mode → (literals : List AtomLit) (set : List ℕ)
    → HoldsOf f set (mode_atom mode) × (IsSameClause literals (wider f set) ⊎ IsSameClause literals (differs f set))
    → MadeFor f asked literals set
ranged_sides f asked mode all is literals set h =
    ⊎_elim
    (λ same. serves f asked AllExtensions (widest_semantics mode) literals set (wider f set) all is
    (in_widest mode f AllExtensions set) same (of_side_mode mode f set h.0))
    (λ same. serves f asked AllExtensions (widest_semantics mode) literals set (differs f set) all is
    (differs_widest mode f set) same (of_side_mode mode f set h.0))
    h.1

pub makes_ideal : (f : Framework) (asked : Asked) → asked.task.semantics ≡ Ideal
    → Makes (MadeForIdeal f) (MadeFor f asked)
makes_ideal f asked is literals set h =
    ⊎_elim
    (λ same. serves f asked asked.task.problem Ideal literals set (outside f set) refl is
    (outside_ideal f asked.task.problem set) same h.0)
    (λ same. serves f asked asked.task.problem Ideal literals set (attacked f set) refl is
    (attacked_ideal f asked.task.problem set) same h.0)
    h.1

all_sides : (f : Framework) (asked : Asked) → asked.task.problem ≡ AllExtensions → (semantics : Semantics)
    → asked.task.semantics ≡ semantics → Makes (MadeForAll f semantics) (MadeFor f asked)
all_sides f asked all Complete is literals set h =
    serves f asked AllExtensions Complete literals set (differs f set) all is (first_side (differs f set) []) h.1 h.0
all_sides f asked all Stable is literals set h =
    serves f asked AllExtensions Stable literals set (differs f set) all is (first_side (differs f set) []) h.1 h.0
all_sides f asked all Preferred is literals set h =
    serves f asked AllExtensions Preferred literals set (outside f set) all is (first_side (outside f set) []) h.1 h.0
all_sides f asked all SemiStable is literals set h = ranged_sides f asked Ad all is literals set h
all_sides f asked all Stage is literals set h = ranged_sides f asked Cf all is literals set h
all_sides f asked all _ is literals set h = absurd h

pub makes_all : (f : Framework) (asked : Asked) → asked.task.problem ≡ AllExtensions
    → Makes (MadeForAll f asked.task.semantics) (MadeFor f asked)
makes_all f asked all = all_sides f asked all asked.task.semantics refl

-- ---- calls

pub closes_few : (r : Result Found Halt) → closes r ≤ 1
closes_few (Ok (Set set)) = omega arith
closes_few (Ok (Refuted step)) = omega arith
closes_few (Err halt) = omega arith

module _ {S : Type 0} {o : OracleWords S} where
  -- a call
  pub for_all : {P : Framework → Making} {asked : Asked} {a b : S} {u v : Units} {halt : Option Halt}
      → Makes (P (o.framework a)) (MadeFor (o.framework a) asked) → RanInAll o P a b u v halt
      → RanFor o asked a b u v halt
  for_all makes h = ran_as makes (omega arith) h

  -- one that logs at most one step that only ends a search
  pub for_one : {P : Framework → Making} {asked : Asked} {a b : S} {u v : Units} {halt : Option Halt}
      → Makes (P (o.framework a)) (MadeFor (o.framework a) asked) → Ran o P 1 a b u v halt
      → RanFor o asked a b u v halt
  for_one makes h = ran_as makes (omega arith) h

  -- a search
  pub for_search : {asked : Asked} {m : ℕ} {a b : S} {u v : Units} {halt : Option Halt} → m ≤ 1
      → Ran o MadeNone m a b u v halt → RanFor o asked a b u v halt
  for_search few h = ran_as (makes_none _) (omega (arith, few)) h

  -- and then memory was refused
  pub no_memory : {T : Type 0} {asked : Asked} {a b : S} {u v : Units} → (r : Result T Halt)
      → IsErr r × IsErrAnd r (λ x. x ≡ Memory) → RanFor o asked a b u v None → RanFor o asked a b u v (halt_of r)
  no_memory r is h = ran_lost r is (omega arith) h

  -- two searches, of which the second is closed at most once
  pub for_searches : {asked : Asked} {m : ℕ} {a b c : S} {u v w : Units} {halt : Option Halt} → Joins o → m ≤ 1
      → Ran o MadeNone m a b u v None → Ran o MadeNone 1 b c v w halt → RanFor o asked a c u w halt
  for_searches joins few h k = ran_then joins (omega (arith, few)) (ran_search h) (ran_search k)

  -- a search that found a set, and what came of it
  pub for_found : {asked : Asked} {r : Found} {set : List ℕ} {a b c : S} {u v w : Units} {halt : Option Halt}
      → Joins o → r ≡ Set set → Ran o MadeNone (closes (Ok r)) a b u v None → RanFor o asked b c v w halt
      → RanFor o asked a c u w halt
  for_found {r = r} {set = set} joins is h k =
      ran_then joins (omega (arith, closes_set r set is)) (ran_search h) k
