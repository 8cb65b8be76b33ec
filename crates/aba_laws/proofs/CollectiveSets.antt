-- Admissible sets under collective attacks: what may be added to one, and which may be joined.
use Rattle.std.proofs.Common.{inl, inr, ⊎_elim, ℕ, List, [], ◌++◌}
use Rattle.std.specs.Prelude.{◌↔◌, Contains}
use Rattle.std.proofs.lemmas.List.Elements.{Contains-append_left, Contains-append_right, Contains-append_cases}
use Rattle.lists.specs.Members.{IsWithin}
use Rattle.lists.proofs.Membership.{Contains-nil}
use Rattle.semantics.specs.Laws.{HasSameMembers}
use Rattle.semantics.proofs.Decided.{Decided, decide_both, decide_not, decide_each, decide_some, decide_implied, decide_member}
use Rattle.semantics.specs.Collectives.{Collective, AttacksMember, Defends, IsUnattacked, IsConflictFree, IsAdmissible, IsComplete, IsStable}
use Rattle.aba_laws.specs.Laws.{DefendsByRest, UnionIsAdmissible, DefendedIsAdmissible, AdmissibleBySets}
use Rattle.aba_laws.proofs.Choosing.{chosen}
use Rattle.semantics.proofs.Existence.{decide_within}

-- what a set attacks a larger one attacks too, and it can be decided
pub record IsLawful (d : Collective) : Type 0 where
  pub more : (s t : List ℕ) (a : ℕ) → IsWithin s t → d.attacks s a → d.attacks t a
  pub decided : (s : List ℕ) (a : ℕ) → Decided (d.attacks s a)

module _ (d : Collective) (lawful : IsLawful d) where
  pub member_more : (s t u : List ℕ) → IsWithin s t → AttacksMember d s u → AttacksMember d t u
  member_more s t u sub h = (h.0, h.1, lawful.more s t h.0 sub h.2)

  pub defends_more : (s t : List ℕ) (a : ℕ) → IsWithin s t → Defends d s a → Defends d t a
  defends_more s t a sub h = λ u live at. member_more s t u sub (h u live at)

  pub decide_attacks_member : (s t : List ℕ) → Decided (AttacksMember d s t)
  decide_attacks_member s t = decide_some (λ a. d.attacks s a) (λ a. lawful.decided s a) t

  -- the live arguments that a set doesn't attack
  pub rest_of : (s : List ℕ) → (rest : List ℕ) × ((x : ℕ) → Contains rest x ↔ IsUnattacked d s x)
  rest_of s =
      let made = chosen (λ x. d.attacks s x → ⊥) (λ x. decide_not (lawful.decided s x)) d.live in (
        made.0,
        λ x. (
          λ c. let h = (made.1 x).0 c in record { live = h.0; quiet = h.1 },
          λ u. (made.1 x).1 (u.live, u.quiet),
        ),
      )

  pub defends_by_rest : DefendsByRest d
  defends_by_rest s rest a is = (
    λ h at. let hit = h rest (λ x c. ((is x).0 c).live) at in ((is hit.0).0 hit.1).quiet hit.2,
    λ none t live at. ⊎_elim (λ hit. hit)
        (λ quiet. absurd (none (lawful.more t rest a
        (λ x c. (is x).1 (record { live = live x c; quiet = λ h. quiet (x, c, h) })) at)))
        (decide_attacks_member s t),
  )

  pub decide_defends : (s : List ℕ) (a : ℕ) → Decided (Defends d s a)
  decide_defends s a =
      let rest = rest_of s in
      let by = defends_by_rest s rest.0 a rest.1 in
      ⊎_elim (λ at. inr (λ h. by.0 h at)) (λ none. inl (by.1 none)) (lawful.decided rest.0 a)

  -- a conflict-free set attacks none of the live sets that attack what it defends
  pub not_attacked : (s : List ℕ) (a : ℕ) → IsConflictFree d s → Defends d s a → d.attacks s a → ⊥
  not_attacked s a free h at = let hit = h s free.live at in free.apart hit.0 hit.1 hit.2

  within_left : (s t : List ℕ) → IsWithin s (s ++ t)
  within_left s t = λ x c. Contains-append_left s t x c

  within_right : (s t : List ℕ) → IsWithin t (s ++ t)
  within_right s t = λ x c. Contains-append_right s t x c

  both_live : (s t : List ℕ) → IsWithin s d.live → IsWithin t d.live → IsWithin (s ++ t) d.live
  both_live s t left right = λ x c. ⊎_elim (λ k. left x k) (λ k. right x k) (Contains-append_cases s t x c)

  -- Dung's fundamental lemma
  pub defended_admissible : DefendedIsAdmissible d
  defended_admissible s t ok live defended =
      let all : (a : ℕ) → Contains (s ++ t) a → Defends d s a =
      λ a c. ⊎_elim (λ k. ok.defended a k) (λ k. defended a k) (Contains-append_cases s t a c) in
      let lives = both_live s t ok.conflict_free.live live in
      record {
        conflict_free = record {
          live = lives;
          apart = λ a c at. let hit = all a c (s ++ t) lives at in
              not_attacked s hit.0 ok.conflict_free (all hit.0 hit.1) hit.2;
        };
        defended = λ a c. defends_more s (s ++ t) a (within_left s t) (all a c);
      }

  pub union_admissible : UnionIsAdmissible d
  union_admissible s t left right none back =
      let lives = both_live s t left.conflict_free.live right.conflict_free.live in
      record {
        conflict_free = record {
          live = lives;
          apart = λ a c at. ⊎_elim
              (λ k. let hit = left.defended a k (s ++ t) lives at in
              ⊎_elim (λ here. left.conflict_free.apart hit.0 here hit.2) (λ there. none (hit.0, there, hit.2))
              (Contains-append_cases s t hit.0 hit.1))
              (λ k. let hit = right.defended a k (s ++ t) lives at in
              ⊎_elim (λ there. back (hit.0, there, hit.2)) (λ here. right.conflict_free.apart hit.0 here hit.2)
              (Contains-append_cases s t hit.0 hit.1))
              (Contains-append_cases s t a c);
        };
        defended = λ a c. ⊎_elim
            (λ k. defends_more s (s ++ t) a (within_left s t) (left.defended a k))
            (λ k. defends_more t (s ++ t) a (within_right s t) (right.defended a k))
            (Contains-append_cases s t a c);
      }

  pub empty_admissible : IsAdmissible d []
  empty_admissible = record {
    conflict_free = record { live = λ x c. absurd (Contains-nil x c); apart = λ a c at. Contains-nil a c };
    defended = λ a c. absurd (Contains-nil a c);
  }

  pub admissible_by_sets : AdmissibleBySets d
  admissible_by_sets s = (
    λ ok. record {
      live = ok.conflict_free.live;
      apart = λ h. ok.conflict_free.apart h.0 h.1 h.2;
      answers = λ t live h. ok.defended h.0 h.1 t live h.2;
    },
    λ ok. record {
      conflict_free = record { live = ok.live; apart = λ a c at. ok.apart (a, c, at) };
      defended = λ a c t live at. ok.answers t live (a, c, at);
    },
  )

  pub conflict_free_same : (s t : List ℕ) → HasSameMembers s t → IsConflictFree d s → IsConflictFree d t
  conflict_free_same s t same free = record {
    live = λ x c. free.live x (same.back x c);
    apart = λ a c at. free.apart a (same.back a c) (lawful.more t s a same.back at);
  }

  pub admissible_same : (s t : List ℕ) → HasSameMembers s t → IsAdmissible d s → IsAdmissible d t
  admissible_same s t same ok = record {
    conflict_free = conflict_free_same s t same ok.conflict_free;
    defended = λ a c. defends_more s t a same.there (ok.defended a (same.back a c));
  }

  pub complete_same : (s t : List ℕ) → HasSameMembers s t → IsComplete d s → IsComplete d t
  complete_same s t same co = record {
    admissible = admissible_same s t same co.admissible;
    closed = λ a live h. same.there a (co.closed a live (defends_more t s a same.back h));
  }

  pub decide_conflict_free : (s : List ℕ) → Decided (IsConflictFree d s)
  decide_conflict_free s =
      ⊎_elim (λ h. inl (record { live = h.0; apart = h.1 })) (λ no. inr (λ h. no (h.live, h.apart)))
      (decide_both (decide_within s d.live)
      (decide_each (λ a. d.attacks s a → ⊥) (λ a. decide_not (lawful.decided s a)) s))

  pub decide_admissible : (s : List ℕ) → Decided (IsAdmissible d s)
  decide_admissible s =
      ⊎_elim (λ h. inl (record { conflict_free = h.0; defended = h.1 }))
      (λ no. inr (λ h. no (h.conflict_free, h.defended)))
      (decide_both (decide_conflict_free s) (decide_each (λ a. Defends d s a) (λ a. decide_defends s a) s))

  pub decide_complete : (s : List ℕ) → Decided (IsComplete d s)
  decide_complete s =
      ⊎_elim (λ h. inl (record { admissible = h.0; closed = h.1 })) (λ no. inr (λ h. no (h.admissible, h.closed)))
      (decide_both (decide_admissible s) (decide_each (λ a. Defends d s a → Contains s a)
      (λ a. decide_implied (decide_defends s a) (decide_member s a)) d.live))

  pub decide_stable : (s : List ℕ) → Decided (IsStable d s)
  decide_stable s =
      ⊎_elim (λ h. inl (record { conflict_free = h.0; attacks_outside = h.1 }))
      (λ no. inr (λ h. no (h.conflict_free, h.attacks_outside)))
      (decide_both (decide_conflict_free s) (decide_each (λ a. (Contains s a → ⊥) → d.attacks s a)
      (λ a. decide_implied (decide_not (decide_member s a)) (lawful.decided s a)) d.live))
