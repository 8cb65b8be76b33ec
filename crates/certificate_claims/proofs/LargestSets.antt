-- Sets that lie in no larger admissible one, and lists of all sets.
use Rattle.std.proofs.Common.{⊎_elim, ℕ, List, [], ◌∷◌, map, sym, subst}
use Rattle.std.specs.Prelude.{Contains}
use Rattle.lists.specs.Members.{IsWithin}
use Rattle.lists.proofs.Membership.{IsWithin-trans}
use Rattle.iccma_tasks.specs.semantics.specs.Frameworks.{Framework, IsNumbered}
use Rattle.iccma_tasks.specs.semantics.specs.Sets.{IsListed}
use Rattle.aba_axioms.specs.meaning_atoms.specs.declared.atom.Atom.{Atom}
use Rattle.aba_axioms.specs.meaning_atoms.specs.declared.atom.Atom.TheVariants.{Ad}
use Rattle.aba_axioms.specs.meaning_atoms.specs.Literals.{affirmed, negated}
use Rattle.aba_axioms.specs.meaning_atoms.specs.Worlds.{IsWorldOf, HoldsOf}
use Rattle.iccma_tasks.specs.declared.task.Semantics.TheVariants.{Preferred}
use Rattle.certificate_claims.specs.Acceptance.{NoneWithin}
use Rattle.certificate_claims.specs.Claims.{claim_of}
use Rattle.certificate_claims.specs.Refutations.{IsExcluded}
use Rattle.certificate_claims.specs.Rights.{Accepts, IsExtension}
use Rattle.certificate_claims.specs.SetLiterals.{goal, members, are_in, outside, differs}
use Rattle.certificate_claims.proofs.ExtensionFacts.{admissible_world, preferred_admissible, preferred_maximal}
use Rattle.certificate_claims.proofs.GoalLists.{meets_nil, meets_cons, only_one, fails_mapped}
use Rattle.certificate_claims.proofs.KindFacts.{accepts_more, admissible_members, decide_accepts, denied_is, preferred_is}
use Rattle.certificate_claims.proofs.SideClauses.{within_where_false, same_where_false, meets_in}

-- an admissible set round which no admissible set is larger
pub largest_preferred : (f : Framework) (e : List ℕ) → IsNumbered f → HoldsOf f e Ad
    → IsExcluded f (claim_of (affirmed Ad ∷ are_in e) (outside f e ∷ []))
    → IsExtension f Preferred e
largest_preferred f e numbered ok none = (preferred_is f e).1 (record {
  admissible = ok;
  maximal = λ t is sub.
      let r = fails_mapped f (affirmed Ad ∷ are_in e) (outside f) (e ∷ []) none t
      (admissible_world f t numbered is)
      (meets_cons f t (affirmed Ad) (are_in e) is (meets_in f e t sub)) in
      subst (λ (set : List ℕ). IsWithin t set) (sym (only_one e r.0 r.1))
      (within_where_false f r.0 t (admissible_members f t is) r.2);
})

-- a cover by sets that accept the query: an admissible set that doesn't is part of one that does
pub covered_accepts : (f : Framework) (q : ℕ) (sets : List (List ℕ)) → IsNumbered f
    → ((e : List ℕ) → Contains sets e → HoldsOf f e Ad × Accepts f e q)
    → IsExcluded f (claim_of (affirmed Ad ∷ negated (goal f q) ∷ []) (map (outside f) sets))
    → (p : List ℕ) → IsExtension f Preferred p → Accepts f p q
covered_accepts f q sets numbered each none p pref =
    ⊎_elim (λ k. k)
    (λ out.
    let is = preferred_admissible f p pref in
    let r = fails_mapped f (affirmed Ad ∷ negated (goal f q) ∷ []) (outside f) sets none p
    (admissible_world f p numbered is)
    (meets_cons f p (affirmed Ad) (negated (goal f q) ∷ []) is
    (meets_cons f p (negated (goal f q)) [] ((denied_is f p q).1 out) (meets_nil f p))) in
    let sub = within_where_false f r.0 p (admissible_members f p is) r.2 in
    let ok = each r.0 r.1 in
    accepts_more f r.0 p q (preferred_maximal f p r.0 pref ok.0 sub) ok.1)
    (decide_accepts f p q)

-- ---- lists

-- the sets of the list, and no others
pub record AreExactly (P : List ℕ → Type 0) (sets : List (List ℕ)) : Type 0 where
  pub each : (e : List ℕ) → Contains sets e → P e
  pub all : (e : List ℕ) → P e → IsListed sets e

-- a set with the mode is listed
pub tested_listed : (f : Framework) (mode : Atom) (sets : List (List ℕ))
    → IsExcluded f (claim_of (affirmed mode ∷ []) (map (differs f) sets))
    → (s : List ℕ) → IsWorldOf f s → IsWithin s (members f) → HoldsOf f s mode → IsListed sets s
tested_listed f mode sets none s world live holds =
    let r = fails_mapped f (affirmed mode ∷ []) (differs f) sets none s world
    (meets_cons f s (affirmed mode) [] holds (meets_nil f s)) in
    record { set = r.0; member = r.1; same = same_where_false f r.0 s live r.2 }

lies_in : (f : Framework) (sets : List (List ℕ)) → IsNumbered f
    → IsExcluded f (claim_of (affirmed Ad ∷ []) (map (outside f) sets))
    → (t : List ℕ) → HoldsOf f t Ad → (e : List ℕ) × Contains sets e × IsWithin t e
lies_in f sets numbered none t is =
    let r = fails_mapped f (affirmed Ad ∷ []) (outside f) sets none t (admissible_world f t numbered is)
    (meets_cons f t (affirmed Ad) [] is (meets_nil f t)) in
    (r.0, r.1, within_where_false f r.0 t (admissible_members f t is) r.2)

-- admissible sets, none in another, of which one holds each admissible set
pub all_preferred : (f : Framework) (sets : List (List ℕ)) → IsNumbered f
    → ((e : List ℕ) → Contains sets e → HoldsOf f e Ad) → NoneWithin sets
    → IsExcluded f (claim_of (affirmed Ad ∷ []) (map (outside f) sets))
    → AreExactly (IsExtension f Preferred) sets
all_preferred f sets numbered ok apart none = record {
  each = λ e c. (preferred_is f e).1 (record {
    admissible = ok e c;
    maximal = λ t is sub.
        let r = lies_in f sets numbered none t is in
        IsWithin-trans t r.0 e r.2 (apart e r.0 c r.1 (IsWithin-trans e t r.0 sub r.2));
  });
  all = λ p pref.
      let r = lies_in f sets numbered none p (preferred_admissible f p pref) in
      record {
        set = r.0;
        member = r.1;
        same = record { there = preferred_maximal f p r.0 pref (ok r.0 r.1) r.2; back = r.2 };
      };
}
