-- A set that was grown to a widest range has that range.
use Rattle.std.proofs.Common.{◌≡◌, ℕ, false, List, sym, subst}
use Rattle.std.proofs.lemmas.Bool.{false≢true}
use Rattle.semantics.specs.declared.mode.Mode.{Mode}
use Rattle.semantics.specs.Frameworks.{Framework, af, aba}
use Rattle.certificate_claims.specs.Claims.{mode_atom}
use Rattle.oracle_face.specs.Kinds.{is_assumption_based}
use Rattle.oracle_face.specs.Logs.{OracleLog}
use Rattle.semi_stable.specs.declared.widest.Widest.{Widest}
use Rattle.semi_stable.specs.Widest.{IsWidestFrom}
use Rattle.enumerate_block.specs.Modes.{IsAmong}

-- the grown set has its range
has_its_range : (f : Framework) (log : OracleLog) (mode : Mode) (set : List ℕ) (widest : Widest)
    → is_assumption_based f ≡ false → IsWidestFrom f log mode set widest
    → IsAmong f (mode_atom mode) widest.range widest.set
has_its_range (aba f) log mode set widest kind found = absurd (false≢true (sym kind))
has_its_range (af f) log mode set widest kind found = record {
  has_mode = found.has_mode;
  ranged = λ a c. (found.range.members a).0 c;
}

pub range_known : (f h : Framework) (log : OracleLog) (mode : Mode) (set range : List ℕ) (widest : Widest)
    → is_assumption_based f ≡ false → h ≡ f → range ≡ widest.range → IsWidestFrom f log mode set widest
    → IsAmong h (mode_atom mode) range widest.set
range_known f h log mode set range widest kind same is found =
    subst (λ (x : Framework). IsAmong x (mode_atom mode) range widest.set) (sym same)
    (subst (λ (r : List ℕ). IsAmong f (mode_atom mode) r widest.set) (sym is)
    (has_its_range f log mode set widest kind found))
