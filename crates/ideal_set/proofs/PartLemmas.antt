-- What the grounded set of the attacks round some members strikes, and what it leaves.
use Rattle.std.proofs.Common.{◌≡◌, inl, inr, ⊎_elim, ℕ, List, refl, sym, subst}
use Rattle.std.specs.Prelude.{◌↔◌, Contains}
use Rattle.lists.specs.Members.{IsSetOf, IsWithin}
use Rattle.semantics.specs.Framework.{Af, IsAf, Attacks, IsAttackedBy, IsConflictFree, IsAdmissible, IsComplete, IsGrounded, IsInRange}
use Rattle.semantics.proofs.Decided.{decide_attacked, decide_both, decide_not, decide_some}
use Rattle.semantics.proofs.Existence.{preferred_round}
use Rattle.semantics.proofs.Extensions.{preferred_complete}
use Rattle.std.proofs.lemmas.Bool.{cases_eq}
use Rattle.semantics.specs.Frameworks.{af}
use Rattle.oracle_face.specs.Parts.{IsLargestPart}
use Rattle.ideal_set.specs.Rounds.{IsRound}

-- the members that are left are those that the grounded set doesn't attack
pub record IsUnstruck (left : List ℕ) (round : Af) (g part : List ℕ) : Type 0 where
  pub members : (a : ℕ) → Contains part a ↔ (Contains left a × (IsAttackedBy round g a → ⊥))

pub unstruck : (left : List ℕ) (round : Af) (g range struck part : List ℕ) → IsConflictFree round g
    → IsSetOf (IsInRange round g) range → IsSetOf (λ x. Contains range x × ¬ Contains g x) struck
    → IsSetOf (λ x. Contains left x × ¬ Contains struck x) part → IsUnstruck left round g part
unstruck left round g range struck part free ranged less more = record {
  members = λ a. (
    λ c. let m = (more.members a).0 c in (
      m.0,
      λ at. m.1 ((less.members a).1 ((ranged.members a).1 (inr at), λ there. free.apart at.0 a at.1 there at.2)),
    ),
    λ m. (more.members a).1 (
      m.0,
      λ c. let k = (less.members a).0 c in ⊎_elim (λ there. k.1 there) (λ at. m.1 at) ((ranged.members a).0 k.0),
    ),
  );
}

-- ---- the part is admissible

-- an attack on the argument by one that the set doesn't attack
IsOpen : Af → List ℕ → ℕ → ℕ × ℕ → Type 0
IsOpen h g b p = (p.1 ≡ b) × (IsAttackedBy h g p.0 → ⊥)

-- what the grounded set doesn't hold has an attacker that it doesn't attack
open_attacker : (h : Af) (g : List ℕ) (b : ℕ) → IsComplete h g → Contains h.live b → (Contains g b → ⊥)
    → (c : ℕ) × Attacks h c b × (IsAttackedBy h g c → ⊥)
unfolding IsOpen
open_attacker h g b complete live out =
    ⊎_elim
    (λ w. (w.0.0, subst (λ (x : ℕ). Attacks h w.0.0 x) w.2.0 w.1, w.2.1))
    (λ none. absurd (out (complete.closed b live
    (λ c at. ⊎_elim (λ hit. hit) (λ no. absurd (none ((c, b), at, (refl, no)))) (decide_attacked h g c)))))
    (decide_some (IsOpen h g b)
    (λ p. decide_both (cases_eq p.1 b) (decide_not (decide_attacked h g p.0))) h.attacks)

-- the part attacks each attacker of a member
answered : (f round : Af) (set left g part : List ℕ) → IsAf f → IsConflictFree f set → IsWithin left set
    → IsRound f left round → IsComplete round g → IsUnstruck left round g part → (a b : ℕ) → Contains part a
    → Attacks f b a → IsAttackedBy f part b
answered f round set left g part form free inside is complete has a b c at =
    let m = (has.members a).0 c in
    let outside : Contains left b → ⊥ = λ d. free.apart b a (inside b d) (inside a m.0) at in
    let struck : Contains g b → ⊥ = λ d. m.1 (b, d, (is.attacks (b, a)).1 (at, inr m.0)) in
    let w = open_attacker round g b complete (subst (λ (xs : List ℕ). Contains xs b) (sym is.live)
    (form.ends b a at).0) struck in
    let back = (is.attacks (w.0, b)).0 w.1 in
    ⊎_elim (λ d. (w.0, (has.members w.0).1 (d, w.2), back.0)) (λ d. absurd (outside d)) back.1

part_admissible : (f round : Af) (set left g part : List ℕ) → IsAf f → IsConflictFree f set → IsWithin left set
    → IsRound f left round → IsComplete round g → IsUnstruck left round g part → IsAdmissible f part
part_admissible f round set left g part form free inside is complete has = record {
  conflict_free = record {
    live = λ a c. free.live a (inside a ((has.members a).0 c).0);
    apart = λ b a c d at. free.apart b a (inside b ((has.members b).0 c).0) (inside a ((has.members a).0 d).0) at;
  };
  defended = λ a c b at. answered f round set left g part form free inside is complete has a b c at;
}

-- ---- the part is the largest

-- an admissible set of members that are left is admissible among the attacks round them
still_admissible : (f round : Af) (left t : List ℕ) → IsRound f left round → IsAdmissible f t → IsWithin t left
    → IsAdmissible round t
still_admissible f round left t is ok inside = record {
  conflict_free = record {
    live = λ a c. subst (λ (xs : List ℕ). Contains xs a) (sym is.live) (ok.conflict_free.live a c);
    apart = λ b a c d at. ok.conflict_free.apart b a c d ((is.attacks (b, a)).0 at).0;
  };
  defended = λ a c b at.
      let w = ok.defended a c b ((is.attacks (b, a)).0 at).0 in
      (w.0, w.1, (is.attacks (w.0, b)).1 (w.2, inl (inside w.0 w.1)));
}

-- the grounded set attacks no member of an admissible set
never_struck : (h : Af) (g t : List ℕ) → IsGrounded h g → IsAdmissible h t → (a : ℕ) → Contains t a
    → IsAttackedBy h g a → ⊥
never_struck h g t grounded ok a c at =
    let round = preferred_round h t ok in
    let p = round.0 in
    let complete = preferred_complete h p round.1 in
    complete.admissible.conflict_free.apart at.0 a (grounded.least p complete at.0 at.1) (round.2 a c) at.2

pub largest_is : (f round : Af) (set without left g part : List ℕ) → IsAf f → IsConflictFree f set
    → IsSetOf (λ x. Contains set x × ¬ Contains without x) left → IsRound f left round → IsGrounded round g
    → IsUnstruck left round g part → IsLargestPart (af f) set without part
largest_is f round set without left g part form free less is grounded has =
    let inside : IsWithin left set = λ a c. ((less.members a).0 c).0 in
    record {
      is_part = record {
        admissible = part_admissible f round set left g part form free inside is grounded.complete has;
        inside = λ a c. inside a ((has.members a).0 c).0;
        apart = λ a c. ((less.members a).0 ((has.members a).0 c).0).1;
      };
      largest = λ t other a c.
          let within : IsWithin t left = λ x d. (less.members x).1 (other.inside x d, other.apart x d) in
          (has.members a).1 (
            within a c,
            never_struck round g t grounded (still_admissible f round left t is other.admissible within) a c,
          );
    }
