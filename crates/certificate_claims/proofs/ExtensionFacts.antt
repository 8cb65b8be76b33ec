-- What extensions are in worlds, and what they accept, for frameworks of both kinds.
use Rattle.std.proofs.Common.{ℕ, List}
use Rattle.lists.specs.Members.{IsWithin}
use Rattle.iccma_tasks.specs.semantics.specs.Frameworks.{Framework, IsNumbered}
use Rattle.aba_axioms.specs.meaning_atoms.specs.declared.atom.Atom.TheVariants.{Ad}
use Rattle.aba_axioms.specs.meaning_atoms.specs.Worlds.{IsWorldOf, HoldsOf}
use Rattle.iccma_tasks.specs.declared.task.Semantics.{Semantics}
use Rattle.iccma_tasks.specs.declared.task.Semantics.TheVariants.{Complete, Grounded, Preferred, Stable, SemiStable, Ideal, Stage}
use Rattle.certificate_claims.specs.Rights.{Accepts, IsExtension}
use Rattle.certificate_claims.specs.SetLiterals.{members}
use Rattle.certificate_claims.proofs.KindFacts.{admissible_members, members_world, complete_admissible, stable_admissible, complete_is, stable_is, preferred_is, grounded_is, semi_stable_admissible, stage_members, ideal_admissible, ideal_within, accepts_more}

-- an admissible set is one of a world
pub admissible_world : (f : Framework) (s : List ℕ) → IsNumbered f → HoldsOf f s Ad → IsWorldOf f s
admissible_world f s ok h = members_world f s ok (admissible_members f s h)

-- ---- extensions are admissible

pub complete_extension_admissible : (f : Framework) (s : List ℕ) → IsExtension f Complete s → HoldsOf f s Ad
complete_extension_admissible f s h = complete_admissible f s ((complete_is f s).0 h)

pub preferred_admissible : (f : Framework) (s : List ℕ) → IsExtension f Preferred s → HoldsOf f s Ad
preferred_admissible f s h = ((preferred_is f s).0 h).admissible

pub stable_extension_admissible : (f : Framework) (s : List ℕ) → IsNumbered f → IsExtension f Stable s → HoldsOf f s Ad
stable_extension_admissible f s ok h = stable_admissible f s ok ((stable_is f s).0 h)

pub grounded_complete : (f : Framework) (g : List ℕ) → IsExtension f Grounded g → IsExtension f Complete g
grounded_complete f g h = (complete_is f g).1 ((grounded_is f g).0 h).complete

pub grounded_admissible : (f : Framework) (g : List ℕ) → IsExtension f Grounded g → HoldsOf f g Ad
grounded_admissible f g h = complete_extension_admissible f g (grounded_complete f g h)

-- extensions have the framework's arguments or assumptions alone
pub extension_members : (f : Framework) (semantics : Semantics) (s : List ℕ) → IsNumbered f
    → IsExtension f semantics s → IsWithin s (members f)
extension_members f Complete s ok h = admissible_members f s (complete_extension_admissible f s h)
extension_members f Grounded s ok h = admissible_members f s (grounded_admissible f s h)
extension_members f Preferred s ok h = admissible_members f s (preferred_admissible f s h)
extension_members f Stable s ok h = admissible_members f s (stable_extension_admissible f s ok h)
extension_members f SemiStable s ok h = admissible_members f s (semi_stable_admissible f s h)
extension_members f Ideal s ok h = admissible_members f s (ideal_admissible f s h)
extension_members f Stage s ok h = stage_members f s h

-- no admissible set is larger than a preferred one
pub preferred_maximal : (f : Framework) (s t : List ℕ) → IsExtension f Preferred s → HoldsOf f t Ad → IsWithin s t
    → IsWithin t s
preferred_maximal f s t h ok sub = ((preferred_is f s).0 h).maximal t ok sub

-- ---- what the least or largest of the kind accepts, each does

pub grounded_least : (f : Framework) (g e : List ℕ) (q : ℕ) → IsExtension f Grounded g → IsExtension f Complete e
    → Accepts f g q
    → Accepts f e q
grounded_least f g e q grounded complete h =
    accepts_more f g e q (((grounded_is f g).0 grounded).least e ((complete_is f e).0 complete)) h

pub ideal_accepts : (f : Framework) (i e : List ℕ) (q : ℕ) → IsExtension f Ideal i → IsExtension f Ideal e
    → Accepts f i q
    → Accepts f e q
ideal_accepts f i e q left right h = accepts_more f i e q (ideal_within f i e left right) h
