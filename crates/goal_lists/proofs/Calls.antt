-- What two calls of an oracle leave, and what a search for goals about sets finds.
use Rattle.std.proofs.Common.{◌≡◌, ⊎_elim, ℕ, ◌+◌, ◌<◌, ◌≤◌, true, List, [], ◌∷◌, ◌++◌, length, ap, sym, subst, ◌∙◌, eqb, arith}
use Rattle.std.specs.Prelude.{Contains, slice_index_or, get_or, Option, None, Some, Result, Ok, Err}
use Rattle.std.proofs.lemmas.Bool.{cases_lt, eqb-true, false≢true, ne_eqb}
use Rattle.std.specs.Result.{IsErr, IsErrAnd}
use Rattle.std.proofs.lemmas.List.Elements.{Contains-append_cases}
use Rattle.std.proofs.lemmas.List.{get_or_append_left, get_or_default, get_or_push, length-append}
use Rattle.std.proofs.lemmas.Map.Keys.{IsDistinct-from_apart}
use Rattle.std.proofs.lemmas.Map.Steps.{length-le_from_distinct_below}
use Rattle.lists.specs.Members.{IsWithin}
use Rattle.lists.proofs.ListTests.{any_gives}
use Rattle.lists.proofs.Membership.{Contains-nil, Contains-cons_cases}
use Rattle.plain_lits.specs.declared.halt.Halt.{Halt}
use Rattle.plain_lits.specs.declared.halt.Halt.TheVariants.{Memory}
use Rattle.plain_lits.specs.Units.{Units}
use Rattle.semantics.specs.Framework.{Af, IsInRange}
use Rattle.semantics.specs.Frameworks.{Framework, af}
use Rattle.meaning_atoms.specs.declared.atom.Atom.{Atom}
use Rattle.meaning_atoms.specs.declared.atom.Atom.TheVariants.{Member, Range, Ad, Cf, Co, St}
use Rattle.meaning_atoms.specs.declared.atom.AtomLit.{AtomLit}
use Rattle.meaning_atoms.specs.Literals.{affirmed, denied}
use Rattle.meaning_atoms.specs.Worlds.{world_of, Holds, HoldsOf, Says}
use Rattle.certificate_claims.specs.SetLiterals.{members}
use Rattle.certificate_claims.proofs.KindFacts.{member_is, admissible_members as members_of}
use Rattle.oracle_face.specs.declared.face.Found.{Found}
use Rattle.oracle_face.specs.declared.face.Found.TheVariants.{Set, Refuted}
use Rattle.oracle_face.specs.declared.face.Pending.{Pending}
use Rattle.oracle_face.specs.Goals.{IsMode, MakesTrue}
use Rattle.oracle_face.specs.Growing.{Making, NoSide, OnlySide, HasRun, closes, halt_of}
use Rattle.oracle_face.specs.Logs.{OracleLog, SideClause, IsNumberOf, literals_of}
use Rattle.oracle_face.proofs.GrowingLemmas.{Makes, run_joined, run_refused}
use Rattle.goal_lists.specs.Asking.{AreApart, goals_of}
use Rattle.goal_lists.proofs.AskedGoals.{mode_there, in_there, out_there, ranged_there}

-- ---- what calls leave

pub makes_none : (P : Making) → Makes NoSide P
makes_none P literals set h = absurd h

pub makes_same : (P : Making) → Makes P P
makes_same P literals set h = h

-- a side clause was kept, and then a search was made
pub obliged_found : (P : Making) (f g : Framework) (a b c : OracleLog) (p q : Option Pending) (u v w : Units)
    (side : List AtomLit) (from : List ℕ) (r : Result Found Halt) → g ≡ f → Makes (OnlySide side from) P
    → HasRun (OnlySide side from) 0 f a b p u v None → HasRun NoSide (closes r) g b c q v w (halt_of r)
    → HasRun P (closes r) f a c q u w (halt_of r)
obliged_found P f g a b c p q u v w side from r e makes h k =
    run_joined (OnlySide side from) NoSide P 0 (closes r) (closes r) f a b c p q u v w (halt_of r) makes (makes_none P)
    (omega arith) h
    (subst (λ (x : Framework). HasRun NoSide (closes r) x b c q v w (halt_of r)) e k)

-- a side clause was kept, and then memory was refused
pub then_refused : (P Q : Making) (m most : ℕ) (f : Framework) (a b : OracleLog) (p : Option Pending) (u v : Units)
    → Makes P Q → m ≤ most → HasRun P m f a b p u v None → HasRun Q most f a b p u v (Some Memory)
then_refused P Q m most f a b p u v makes few h =
    run_joined P P Q m 0 most f a b b p p u v v (Some Memory) makes makes (omega arith) h (run_refused P 0 f b p v)

-- what was left, and then a call that makes side clauses of the kind
pub then_made : (P Q : Making) (f g : Framework) (m n most : ℕ) (a b c : OracleLog) (p q : Option Pending)
    (u v w : Units) (halt : Option Halt) → g ≡ f → Makes Q P → m + n ≤ most → HasRun P m f a b p u v None
    → HasRun Q n g b c q v w halt → HasRun P most f a c q u w halt
then_made P Q f g m n most a b c p q u v w halt e makes few h k =
    run_joined P Q P m n most f a b c p q u v w halt (makes_same P) makes few h
    (subst (λ (x : Framework). HasRun Q n x b c q v w halt) e k)

-- a call that makes side clauses of the same kind on the same framework
pub then_same : (P : Framework → Making) (f g : Framework) (m n most : ℕ) (a b c : OracleLog) (p q : Option Pending)
    (u v w : Units) (halt : Option Halt) → g ≡ f → m + n ≤ most → HasRun (P f) m f a b p u v None
    → HasRun (P g) n g b c q v w halt → HasRun (P f) most f a c q u w halt
then_same P f g m n most a b c p q u v w halt e few h k =
    then_made (P f) (P g) f g m n most a b c p q u v w halt e
    (subst (λ (x : Framework). Makes (P x) (P f)) (sym e) (makes_same (P f))) few h k

-- a call that makes no side clause
pub then_search : (P : Making) (f g : Framework) (m n most : ℕ) (a b c : OracleLog) (p q : Option Pending)
    (u v w : Units) (halt : Option Halt) → g ≡ f → m + n ≤ most → HasRun P m f a b p u v None
    → HasRun NoSide n g b c q v w halt → HasRun P most f a c q u w halt
then_search P f g m n most a b c p q u v w halt e few h k =
    then_made P NoSide f g m n most a b c p q u v w halt e (makes_none P) few h k

-- how many steps a search logs that only end it, by what it found
pub closes_set : (r : Found) (set : List ℕ) → r ≡ Set set → closes (Ok r) ≡ 0
closes_set r set e = ap (λ (x : Found). closes (Ok x)) e

pub closes_refuted : (r : Found) (step : ℕ) → r ≡ Refuted step → closes (Ok r) ≡ 1
closes_refuted r step e = ap (λ (x : Found). closes (Ok x)) e

-- one more number that is none of them
pub apart_pushed : (asks : List ℕ) (n : ℕ) → AreApart asks → (Contains asks n → ⊥) → AreApart (asks ++ n ∷ [])
apart_pushed asks n h out = record {
  apart = λ i j lt high e.
      let len = length-append asks (n ∷ []) in
      let there : slice_index_or (asks ++ n ∷ []) i 0 ≡ slice_index_or asks i 0 =
      get_or_append_left asks (n ∷ []) 0 i (omega arith) in
      ⊎_elim
      (λ early. h.apart i j lt early (sym there ∙ (e ∙ get_or_append_left asks (n ∷ []) 0 j early)))
      (λ late.
      let at : j ≡ length asks = omega arith in
      let last : slice_index_or (asks ++ n ∷ []) j 0 ≡ n = get_or_push asks n 0 j (sym at) in
      out (i, omega arith, get_or_default asks i n 0 (omega arith) ∙ (sym there ∙ (e ∙ last))))
      (cases_lt j (length asks));
}

-- as many different numbers as there are below a bound, at most
few_below : (numbers : List ℕ) (bound : ℕ) → AreApart numbers → ((n : ℕ) → Contains numbers n → n < bound)
    → length numbers ≤ bound
few_below numbers bound h below =
    length-le_from_distinct_below numbers bound
    (IsDistinct-from_apart eqb numbers (λ i j d lt high. ne_eqb (get_or numbers i d) (get_or numbers j d)
    (λ e. h.apart i j lt high
    (get_or_default numbers i 0 d (omega arith) ∙ (e ∙ get_or_default numbers j d 0 high)))))
    (λ q t.
    let m = any_gives (eqb q) numbers t in
    let high = below m.0 m.1 in
    let same : q ≡ m.0 = eqb-true q m.0 m.2 in
    omega arith)

-- as many different side clauses are named as there are, at most
pub asks_fit : (asks : List ℕ) (sides : List SideClause) → AreApart asks
    → ((n : ℕ) → Contains asks n → IsNumberOf sides n) → length asks ≤ length sides
asks_fit asks sides h named =
    let none : Contains asks 0 → ⊥ = λ c. let low = (named 0 c).from_one in absurd (omega arith) in
    let few = few_below (asks ++ 0 ∷ []) (length sides + 1) (apart_pushed asks 0 h none)
    (λ n c. ⊎_elim (λ k. let high = (named n k).within in omega arith)
    (λ k. ⊎_elim (λ (e : 0 ≡ n). omega arith) (λ no. absurd (Contains-nil n no)) (Contains-cons_cases 0 [] n k))
    (Contains-append_cases asks (0 ∷ []) n c)) in
    omega (arith, few, length-append asks (0 ∷ []))

pub few_asks : (asks : List ℕ) (sides : List SideClause) → AreApart asks
    → ((n : ℕ) → Contains asks n → IsNumberOf sides n) → length asks ≤ length sides + 1
few_asks asks sides h named = let few = asks_fit asks sides h named in omega (arith, few)

-- ---- what is found

pub mode_of : (f : Framework) (set : List ℕ) (sides : List (List AtomLit)) (mode : Atom) → IsMode mode
    → Says true (Holds (world_of f set) sides mode) → HoldsOf f set mode
mode_of f set sides Cf moded h = h
mode_of f set sides Ad moded h = h
mode_of f set sides Co moded h = h
mode_of f set sides St moded h = h
mode_of f set sides _ moded h = absurd moded

-- a set that makes the goals true has the mode
pub found_mode : (f : Framework) (log : OracleLog) (mode : Atom) (ins outs ranged asks : List ℕ) (set : List ℕ)
    → IsMode mode → MakesTrue f log (goals_of mode ins outs ranged asks) set → HoldsOf f set mode
found_mode f log mode ins outs ranged asks set moded makes =
    mode_of f set (literals_of log.sides) mode moded (makes (affirmed mode) (mode_there mode ins outs ranged asks))

-- it has the members
pub found_in : (f : Framework) (log : OracleLog) (mode : Atom) (ins outs ranged asks : List ℕ) (set : List ℕ)
    → MakesTrue f log (goals_of mode ins outs ranged asks) set → IsWithin ins set
found_in f log mode ins outs ranged asks set makes a c =
    (member_is f set a).0 (makes (affirmed (Member a)) (in_there mode ins outs ranged asks a c))

-- and none of those that it shall not have
pub found_out : (f : Framework) (log : OracleLog) (mode : Atom) (ins outs ranged asks : List ℕ) (set : List ℕ)
    → MakesTrue f log (goals_of mode ins outs ranged asks) set → (a : ℕ) → Contains outs a → Contains set a → ⊥
found_out f log mode ins outs ranged asks set makes a c =
    λ k. makes (denied (Member a)) (out_there mode ins outs ranged asks a c) ((member_is f set a).1 k)

-- and these are in its range, for an atom of the range that says so
pub found_range : (f : Framework) (log : OracleLog) (mode : Atom) (ins outs ranged asks : List ℕ) (set : List ℕ)
    → MakesTrue f log (goals_of mode ins outs ranged asks) set → (a : ℕ) → Contains ranged a → HoldsOf f set (Range a)
found_range f log mode ins outs ranged asks set makes a c =
    makes (affirmed (Range a)) (ranged_there mode ins outs ranged asks a c)

pub found_ranged : (f : Af) (log : OracleLog) (mode : Atom) (ins outs ranged asks : List ℕ) (set : List ℕ)
    → MakesTrue (af f) log (goals_of mode ins outs ranged asks) set → (a : ℕ) → Contains ranged a → IsInRange f set a
found_ranged f log mode ins outs ranged asks set makes a c =
    found_range (af f) log mode ins outs ranged asks set makes a c

-- an admissible set has members of the framework alone
pub admissible_members : (f : Framework) (set : List ℕ) → HoldsOf f set Ad → IsWithin set (members f)
admissible_members f set h = members_of f set h

-- ---- errors

-- what a halt that is handed on says
pub handed_on : {T : Type 0} (P : Option Halt → Type 0) (r : Result T Halt) (halt : Halt)
    → IsErr r × IsErrAnd r (λ x. x ≡ halt) → P (Some halt) → P (halt_of r)
handed_on P (Ok x) halt is holds = absurd (false≢true is.0)
handed_on P (Err x) halt is holds = subst (λ y. P (Some y)) (sym is.1) holds

pub handed_as : {T : Type 0} (P : Result T Halt → Type 0) (r : Result T Halt) (halt : Halt)
    → IsErr r × IsErrAnd r (λ x. x ≡ halt) → P (Err halt) → P r
handed_as P (Ok x) halt is holds = absurd (false≢true is.0)
handed_as P (Err x) halt is holds = subst (λ y. P (Err y)) (sym is.1) holds

-- what a call leaves whose halt is handed on
pub run_handed : {T : Type 0} (P : Making) (most : ℕ) (f : Framework) (a b : OracleLog) (p : Option Pending)
    (u v : Units) (r : Result T Halt) (halt : Halt) → IsErr r × IsErrAnd r (λ x. x ≡ halt)
    → HasRun P most f a b p u v (Some halt) → HasRun P most f a b p u v (halt_of r)
run_handed P most f a b p u v r halt is h = handed_on (λ x. HasRun P most f a b p u v x) r halt is h
