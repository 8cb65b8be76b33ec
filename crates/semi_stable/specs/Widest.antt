-- Sets whose ranges are as wide as they can be, and what shows that they are.
--
-- Sources: M. Caminada, "Semi-stable semantics", COMMA 2006, for admissible sets; B. Verheij, "Two approaches to
-- dialectical argumentation: admissible sets and argumentation stages", NAIC 1996, for conflict-free ones.
use Rattle.std.specs.Prelude.{◌≡◌, ℕ, false, List, Contains}
use Rattle.lists.specs.Members.{IsSetOf}
use Rattle.semantics.specs.declared.mode.Mode.{Mode}
use Rattle.semantics.specs.Frameworks.{Framework}
use Rattle.meaning_atoms.specs.Worlds.{HoldsOf}
use Rattle.certificate_claims.specs.Claims.{mode_atom, range_widest}
use Rattle.certificate_claims.specs.SetLiterals.{members, wider}
use Rattle.oracle_face.specs.declared.face.Found.{Found}
use Rattle.oracle_face.specs.declared.face.Found.TheVariants.{Set, Refuted}
use Rattle.oracle_face.specs.Goals.{Refutes}
use Rattle.oracle_face.specs.Growing.{Making}
use Rattle.oracle_face.specs.Kinds.{IsRanged, is_assumption_based}
use Rattle.oracle_face.specs.Logs.{IsSameClause, OracleLog}
use Rattle.semi_stable.specs.declared.widest.Widest.{Widest}

-- the side clause that something is in the range that isn't in that of a set of the mode, made from that set
abbrev pub MadeWider : Framework → Mode → Making
MadeWider f mode literals set = HoldsOf f set (mode_atom mode) × IsSameClause literals (wider f set)

-- the one set's range lies in the other's
abbrev pub IsRangeIn : Framework → List ℕ → List ℕ → Type 0
IsRangeIn f less more = (a : ℕ) → IsRanged f less a → IsRanged f more a

-- a set of the mode that has all of the set's range and more, or a step that refutes that there is one
abbrev pub IsWider : Framework → OracleLog → Mode → List ℕ → Found → Type 0
IsWider f log mode set (Set found) =
    HoldsOf f found (mode_atom mode)
    × IsRangeIn f set found
    × ((a : ℕ) × Contains (members f) a × IsRanged f found a × ¬ IsRanged f set a)
IsWider f log mode set (Refuted step) = Refutes f log (range_widest f mode set) step

-- a set of the mode, in an abstract framework, and its range
pub record HasRange (f : Framework) (mode : Mode) (found : Widest) : Type 0 where
  pub kind : is_assumption_based f ≡ false
  pub has_mode : HoldsOf f found.set (mode_atom mode)
  pub range : IsSetOf (IsRanged f found.set) found.range

-- a set of the mode whose range holds the given one's, and the step that refutes that some set of the mode has a wider
-- range
pub record IsWidestFrom (f : Framework) (log : OracleLog) (mode : Mode) (given : List ℕ) (found : Widest)
    : Type 0 where
  pub has_mode : HoldsOf f found.set (mode_atom mode)
  pub range : IsSetOf (IsRanged f found.set) found.range
  pub holds : IsRangeIn f given found.set
  pub refuted : Refutes f log (range_widest f mode found.set) found.refutation
