-- What is left of a set when members that it doesn't defend are dropped.
use Rattle.std.proofs.Common.{◌≡◌, ◌∙◌, ⊎_elim, ℕ, ◌<◌, Bool, false, List, [], ◌∷◌, length, refl, subst, sym}
use Rattle.std.specs.Prelude.{◌↔◌, Contains, IsTrue}
use Rattle.std.proofs.lemmas.Bool.{false≢true}
use Rattle.std.specs.List.Sorted.{IsStrictlyIncreasing}
use Rattle.lists.specs.Members.{IsSetOf, IsWithin}
use Rattle.lists.proofs.Membership.{Contains-head, Contains-nil}
use Rattle.semantics.specs.AbaFrameworks.{Aba, collective_of}
use Rattle.semantics.specs.Collectives.{Collective, IsAdmissible, IsConflictFree, IsDefended}
use Rattle.semantics.specs.Frameworks.{aba}
use Rattle.aba_laws.proofs.CollectiveSets.{IsLawful, decide_defends, defends_more}
use Rattle.aba_laws.proofs.AbaLemmas.{aba_lawful}
use Rattle.aba_notions.proofs.GroundedLemmas.{rising_shorter}
use Rattle.oracle_face.specs.Parts.{IsLargestPart}
use Rattle.ideal_set.specs.Rounds.{IsUndefendedMember}

-- a part of the set without the numbers, which holds each admissible one
pub record HoldsParts (d : Collective) (set without part : List ℕ) : Type 0 where
  pub rises : IsStrictlyIncreasing part
  pub inside : IsWithin part set
  pub apart : (a : ℕ) → Contains part a → Contains without a → ⊥
  pub holds : (t : List ℕ) → IsAdmissible d t → IsWithin t set → ((a : ℕ) → Contains t a → Contains without a → ⊥)
      → IsWithin t part

-- the set without the numbers
pub parts_begun : (d : Collective) (set without part : List ℕ)
    → IsSetOf (λ x. Contains set x × ¬ Contains without x) part → HoldsParts d set without part
parts_begun d set without part is = record {
  rises = is.rises;
  inside = λ a c. ((is.members a).0 c).0;
  apart = λ a c. ((is.members a).0 c).1;
  holds = λ t ok inside apart a c. (is.members a).1 (inside a c, apart a c);
}

module _ (d : Collective) (lawful : IsLawful d) (set without : List ℕ) where
  -- without the members that it doesn't defend
  pub parts_dropped : (part dropped new : List ℕ) → HoldsParts d set without part
      → IsSetOf (IsUndefendedMember d part) dropped → IsSetOf (λ x. Contains part x × ¬ Contains dropped x) new
      → HoldsParts d set without new
  parts_dropped part dropped new h out less = record {
    rises = less.rises;
    inside = λ a c. h.inside a ((less.members a).0 c).0;
    apart = λ a c. h.apart a ((less.members a).0 c).0;
    holds = λ t ok inside apart a c.
        let sub = h.holds t ok inside apart in
        (less.members a).1 (
          sub a c,
          λ k. ((out.members a).0 k).1 (record {
            live = ok.conflict_free.live a c;
            defended = defends_more d lawful t part a sub (ok.defended a c);
          }),
        );
  }

  -- where it defends all its members, it is admissible
  pub parts_ended : (part dropped : List ℕ) → IsConflictFree d set → HoldsParts d set without part
      → IsSetOf (IsUndefendedMember d part) dropped → dropped ≡ [] → IsAdmissible d part
  parts_ended part dropped free h out none =
      let live : IsWithin part d.live = λ a c. free.live a (h.inside a c) in
      record {
        conflict_free = record {
          live = live;
          apart = λ a c at. free.apart a (h.inside a c) (lawful.more part set a h.inside at);
        };
        defended = λ a c. ⊎_elim (λ k. k)
            (λ no_. absurd (Contains-nil a (subst (λ (xs : List ℕ). Contains xs a) none
            ((out.members a).1 (c, λ is. no_ is.defended)))))
            (decide_defends d lawful part a);
      }

-- what the test of a set without members tells where it fails
pub is_left : (b : Bool) (xs : List ℕ) → IsTrue b ↔ (xs ≡ []) → b ≡ false → xs ≡ [] → ⊥
is_left b xs h fails none = false≢true (sym fails ∙ h.1 none)

-- a member is dropped
pub fewer_kept : (d : Collective) (part dropped new : List ℕ) → IsSetOf (IsUndefendedMember d part) dropped
    → IsSetOf (λ x. Contains part x × ¬ Contains dropped x) new → (dropped ≡ [] → ⊥) → length new < length part
fewer_kept d part [] new out less some_ = absurd (some_ refl)
fewer_kept d part (x ∷ xs) new out less some_ =
    let here = Contains-head x xs x refl in
    rising_shorter new part x less.rises (λ a c. ((less.members a).0 c).0) ((out.members x).0 here).0
    (λ c. ((less.members x).0 c).1 here)

-- the largest part
pub largest_of_assumptions : (f : Aba) (set without part dropped : List ℕ) → IsConflictFree (collective_of f) set
    → HoldsParts (collective_of f) set without part → IsSetOf (IsUndefendedMember (collective_of f) part) dropped
    → dropped ≡ [] → IsLargestPart (aba f) set without part
largest_of_assumptions f set without part dropped free h out none = record {
  is_part = record {
    admissible = parts_ended (collective_of f) (aba_lawful f) set without part dropped free h out none;
    inside = h.inside;
    apart = h.apart;
  };
  largest = λ t is. h.holds t is.admissible is.inside is.apart;
}

pub undefended_members : (d : Collective) (set defended all : List ℕ) → IsSetOf (IsDefended d set) defended
    → IsSetOf (λ x. Contains set x × ¬ Contains defended x) all → IsSetOf (IsUndefendedMember d set) all
undefended_members d set defended all is less = record {
  rises = less.rises;
  members = λ a. (
    λ c. let m = (less.members a).0 c in (m.0, λ k. m.1 ((is.members a).1 k)),
    λ m. (less.members a).1 (m.0, λ k. m.1 ((is.members a).0 k)),
  );
}
