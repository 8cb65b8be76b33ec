-- Which sets are conflict-free, admissible, complete and stable can be decided.
use Rattle.std.proofs.Common.{inl, inr, ⊎_elim, ℕ, List}
use Rattle.std.specs.Prelude.{Contains}
use Rattle.semantics.specs.Framework.{Af, IsAttackedBy, Defends, IsConflictFree, IsAdmissible, IsComplete, IsStable}
use Rattle.semantics.proofs.Decided.{Decided, decide_both, decide_not, decide_each, decide_implied, decide_member, decide_attacked, decide_defends}

pub decide_conflict_free : (f : Af) (s : List ℕ) → Decided (IsConflictFree f s)
decide_conflict_free f s =
    let Inside : ℕ × ℕ → Type 0 = λ p. Contains s p.0 × Contains s p.1 in
    ⊎_elim
    (λ live. ⊎_elim
    (λ apart. inl (record { live = live; apart = λ b a cb ca at. apart (b, a) at (cb, ca) }))
    (λ no. inr (λ h. no (λ p c both. h.apart p.0 p.1 both.0 both.1 c)))
    (decide_each (λ p. Inside p → ⊥) (λ p. decide_not (decide_both (decide_member s p.0) (decide_member s p.1)))
    f.attacks))
    (λ no. inr (λ h. no h.live))
    (decide_each (λ x. Contains f.live x) (λ x. decide_member f.live x) s)

pub decide_admissible : (f : Af) (s : List ℕ) → Decided (IsAdmissible f s)
decide_admissible f s =
    ⊎_elim (λ h. inl (record { conflict_free = h.0; defended = h.1 }))
    (λ no. inr (λ h. no (h.conflict_free, h.defended)))
    (decide_both (decide_conflict_free f s) (decide_each (λ a. Defends f s a) (λ a. decide_defends f s a) s))

pub decide_complete : (f : Af) (s : List ℕ) → Decided (IsComplete f s)
decide_complete f s =
    ⊎_elim (λ h. inl (record { admissible = h.0; closed = h.1 })) (λ no. inr (λ h. no (h.admissible, h.closed)))
    (decide_both (decide_admissible f s) (decide_each (λ a. Defends f s a → Contains s a)
    (λ a. decide_implied (decide_defends f s a) (decide_member s a)) f.live))

pub decide_stable : (f : Af) (s : List ℕ) → Decided (IsStable f s)
decide_stable f s =
    ⊎_elim (λ h. inl (record { conflict_free = h.0; attacks_outside = h.1 }))
    (λ no. inr (λ h. no (h.conflict_free, h.attacks_outside)))
    (decide_both (decide_conflict_free f s)
    (decide_each (λ a. (Contains s a → ⊥) → IsAttackedBy f s a) (λ a. decide_implied (decide_not (decide_member s a))
    (decide_attacked f s a)) f.live))
