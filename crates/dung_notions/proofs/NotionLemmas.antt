-- What a walk along a list that stops early says of the list's members, and the notions by what such walks find.
use Rattle.std.proofs.Common.{ℕ, Bool, List, refl}
use Rattle.std.specs.Prelude.{Contains, ◌↔◌, IsTrue}
use Rattle.attack_index.specs.semantics.specs.Framework.{Af, IsAf, IsAttackedBy, Defends, IsConflictFree}
use Rattle.dung_notions.specs.Neighbours.{ListsTargets, ListsAttackers}
use Rattle.dung_notions.specs.Notions.{AttacksInto}
use Rattle.lists.proofs.Walks.{WalkedAll, all_members, WalkedAny, any_members}
pub use Rattle.lists.proofs.Walks.{WalkedAll}
pub use Rattle.lists.proofs.Walks.{all_members}

-- a walk along the attackers finds a member where the set attacks the argument
pub attacked_by_walk : (f : Af) (s : List ℕ) (a : ℕ) (pairs : List (ℕ × ℕ)) (r : Bool) → ListsAttackers f a pairs
    → WalkedAny (λ p. Contains s p.1) pairs r → IsTrue r ↔ IsAttackedBy f s a
attacked_by_walk f s a pairs r lists walk =
    let some = any_members (λ p. Contains s p.1) pairs r walk in (
      λ e. let w = some.0 e in (w.0.1, w.2, ((lists.attackers w.0.0 w.0.1).0 w.1).1),
      λ w. some.1 ((a, w.0), (lists.attackers a w.0).1 (refl, w.2), w.1),
    )

-- a walk along the targets finds a member where the argument attacks one
pub attacks_into_walk : (f : Af) (s : List ℕ) (b : ℕ) (pairs : List (ℕ × ℕ)) (r : Bool) → ListsTargets f b pairs
    → WalkedAny (λ p. Contains s p.1) pairs r → IsTrue r ↔ AttacksInto f b s
attacks_into_walk f s b pairs r lists walk =
    let some = any_members (λ p. Contains s p.1) pairs r walk in (
      λ e. let w = some.0 e in (w.0.1, w.2, ((lists.targets w.0.0 w.0.1).0 w.1).1),
      λ w. some.1 ((b, w.0), (lists.targets b w.0).1 (refl, w.2), w.1),
    )

-- a walk along the attackers meets none that the set does not attack where the set defends the argument
pub defends_walk : (f : Af) (s : List ℕ) (a : ℕ) (pairs : List (ℕ × ℕ)) (r : Bool) → ListsAttackers f a pairs
    → WalkedAll (λ p. IsAttackedBy f s p.1) pairs r → IsTrue r ↔ Defends f s a
defends_walk f s a pairs r lists walk =
    let each = all_members (λ p. IsAttackedBy f s p.1) pairs r walk in (
      λ e b h. each.0 e (a, b) ((lists.attackers a b).1 (refl, h)),
      λ d. each.1 (λ p m. d p.1 ((lists.attackers p.0 p.1).0 m).1),
    )

-- the set attacks each attacker of a member where it attacks each live argument that attacks a member
pub defends_itself_walk : (f : Af) (s : List ℕ) (r : Bool) → IsAf f
    → WalkedAll (λ b. AttacksInto f b s → IsAttackedBy f s b) f.live r → IsTrue r
    ↔ ((a : ℕ) → Contains s a → Defends f s a)
defends_itself_walk f s r form walk =
    let each = all_members (λ b. AttacksInto f b s → IsAttackedBy f s b) f.live r walk in (
      λ e a m b h. each.0 e b (form.ends b a h).0 (a, m, h),
      λ d. each.1 (λ b _ into. d into.0 into.1 b into.2),
    )

-- a set is conflict-free where each member is live and attacks no member
pub conflict_free_walk : (f : Af) (s : List ℕ) (r : Bool)
    → WalkedAll (λ b. Contains f.live b × (AttacksInto f b s → ⊥)) s r → IsTrue r ↔ IsConflictFree f s
conflict_free_walk f s r walk =
    let each = all_members (λ b. Contains f.live b × (AttacksInto f b s → ⊥)) s r walk in (
      λ e. record { live = λ x m. (each.0 e x m).0; apart = λ b a from to h. (each.0 e b from).1 (a, to, h) },
      λ free. each.1 (λ b m. (free.live b m, λ into. free.apart b into.0 m into.1 into.2)),
    )
