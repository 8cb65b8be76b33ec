-- Sets of a mode: what its atom says of them, their members, and the world that each makes.
use Rattle.std.proofs.Common.{ℕ, List, ◌∷◌}
use Rattle.std.specs.Prelude.{◌↔◌}
use Rattle.lists.specs.Members.{IsWithin}
use Rattle.iccma_tasks.specs.semantics.specs.declared.mode.Mode.{Mode}
use Rattle.iccma_tasks.specs.semantics.specs.declared.mode.Mode.TheVariants.{Cf, Ad}
use Rattle.iccma_tasks.specs.semantics.specs.Framework.{Af, IsOfMode, IsWidest}
use Rattle.iccma_tasks.specs.semantics.specs.Frameworks.{Framework, af, aba, IsNumbered}
use Rattle.aba_axioms.specs.meaning_atoms.specs.declared.atom.AtomLit.{AtomLit}
use Rattle.aba_axioms.specs.meaning_atoms.specs.Literals.{affirmed, AsksNothing}
use Rattle.aba_axioms.specs.meaning_atoms.specs.Worlds.{IsWorldOf, HoldsOf}
use Rattle.certificate_claims.specs.Claims.{mode_atom, widest_semantics}
use Rattle.certificate_claims.specs.Rights.{IsExtension}
use Rattle.certificate_claims.specs.SetLiterals.{members}
use Rattle.certificate_claims.proofs.GoalLists.{asks_cons}
use Rattle.certificate_claims.proofs.KindFacts.{admissible_members, members_world}

-- the mode's atom says that a set is of the mode
pub mode_is : (mode : Mode) (f : Af) (s : List ℕ) → HoldsOf (af f) s (mode_atom mode) ↔ IsOfMode mode f s
mode_is Cf f s = (λ h. h, λ h. h)
mode_is Ad f s = (λ h. h, λ h. h)

-- the widest of these sets are the extensions by their semantics
pub widest_extension : (mode : Mode) (f : Af) (s : List ℕ) → IsExtension (af f) (widest_semantics mode) s
    ↔ IsWidest mode f s
widest_extension Cf f s = (λ h. h, λ h. h)
widest_extension Ad f s = (λ h. h, λ h. h)

pub mode_members : (mode : Mode) (f : Framework) (s : List ℕ) → HoldsOf f s (mode_atom mode) → IsWithin s (members f)
mode_members Cf (af f) s ok = ok.live
mode_members Cf (aba f) s ok = ok.live
mode_members Ad f s ok = admissible_members f s ok

pub mode_world : (mode : Mode) (f : Framework) (s : List ℕ) → IsNumbered f → HoldsOf f s (mode_atom mode)
    → IsWorldOf f s
mode_world mode f s numbered ok = members_world f s numbered (mode_members mode f s ok)

-- the mode before literals that ask for no side
pub mode_plain : (mode : Mode) (rest : List AtomLit) → AsksNothing rest
    → AsksNothing (affirmed (mode_atom mode) ∷ rest)
mode_plain Cf rest plain = asks_cons (affirmed (mode_atom Cf)) rest (λ x. x) plain
mode_plain Ad rest plain = asks_cons (affirmed (mode_atom Ad)) rest (λ x. x) plain
