-- The ideal set.
use Rattle.std.proofs.Common.{ℕ, List, [], ◌∷◌, ◌++◌, arith, sym, subst}
use Rattle.std.specs.Prelude.{Contains}
use Rattle.lists.specs.Members.{IsWithin}
use Rattle.lists.proofs.Images.{image_there}
use Rattle.iccma_tasks.specs.semantics.specs.Collectives.{AttacksMember, IsAdmissible}
use Rattle.iccma_tasks.specs.semantics.specs.Frameworks.{Framework, IsNumbered}
use Rattle.aba_axioms.specs.aba_laws.specs.AfNotions.{collective_for}
use Rattle.aba_axioms.specs.aba_laws.proofs.CollectiveExtensions.{ideal_by_others}
use Rattle.aba_axioms.specs.aba_laws.proofs.KindLemmas.{lawful_for}
use Rattle.aba_axioms.specs.meaning_atoms.specs.declared.atom.Atom.TheVariants.{Member, Ad}
use Rattle.aba_axioms.specs.meaning_atoms.specs.declared.atom.AtomLit.{AtomLit}
use Rattle.aba_axioms.specs.meaning_atoms.specs.Literals.{affirmed, denied}
use Rattle.aba_axioms.specs.meaning_atoms.specs.Worlds.{world_of, HoldsOf, IsTrueAlone}
use Rattle.iccma_tasks.specs.declared.task.Semantics.TheVariants.{Ideal}
use Rattle.certificate_claims.specs.Claims.{claim_of, ideal_claims}
use Rattle.certificate_claims.specs.Laws.{AreExcluded}
use Rattle.certificate_claims.specs.Refutations.{IsExcluded}
use Rattle.certificate_claims.specs.Rights.{IsExtension}
use Rattle.certificate_claims.specs.SetLiterals.{hit_by_any, are_in, are_out, outside, struck, attacked}
use Rattle.certificate_claims.proofs.ExtensionFacts.{admissible_world}
use Rattle.certificate_claims.proofs.GoalLists.{meets_nil, meets_cons, meets_append, meets_mapped, only_one, fails_mapped, asks_nil, asks_append, ad_plain, plain_mapped}
use Rattle.certificate_claims.proofs.KindFacts.{admissible_is, admissible_members, ideal_is, in_hit_list, member_is, struck_is}
use Rattle.certificate_claims.proofs.SideClauses.{within_where_false, meets_in, in_plain, out_plain, outside_plain, attacked_plain}

-- no admissible set attacks the set
unattacked : (f : Framework) (e : List ℕ) → IsNumbered f
    → IsExcluded f (claim_of (affirmed Ad ∷ []) (attacked f e ∷ []))
    → (t : List ℕ) → IsAdmissible (collective_for f) t → AttacksMember (collective_for f) t e → ⊥
unattacked f e numbered none t ok h =
    let is = (admissible_is f t numbered).1 ok in
    none t (admissible_world f t numbered is)
    (meets_cons f t (affirmed Ad) [] is (meets_nil f t))
    (λ side c. subst (λ (clause : List AtomLit). IsTrueAlone (world_of f t) clause)
    (only_one (attacked f e) side c)
    (record {
      literal = struck f h.0;
      member = image_there (struck f) e h.0 h.1;
      says = (struck_is f t h.0 numbered).1 h.2;
    }))

-- an admissible set round it that none of the others attacks lies in it
no_larger : (f : Framework) (e : List ℕ) (others : List (List ℕ)) → IsNumbered f
    → IsExcluded f (claim_of (affirmed Ad ∷ (are_in e ++ are_out (hit_by_any f others))) (outside f e ∷ []))
    → (t : List ℕ) → IsAdmissible (collective_for f) t → IsWithin e t
    → ((o : List ℕ) → Contains others o → AttacksMember (collective_for f) o t → ⊥) → IsWithin t e
no_larger f e others numbered none t ok sub quiet =
    let is = (admissible_is f t numbered).1 ok in
    let out = are_out (hit_by_any f others) in
    let r = fails_mapped f (affirmed Ad ∷ (are_in e ++ out)) (outside f) (e ∷ []) none t
    (admissible_world f t numbered is)
    (meets_cons f t (affirmed Ad) (are_in e ++ out) is
    (meets_append f t (are_in e) out (meets_in f e t sub)
    (meets_mapped f t (λ a. denied (Member a)) (hit_by_any f others)
    (λ u c h. let by = (in_hit_list f others u numbered).0 c in
    quiet by.0 by.1 (u, (member_is f t u).0 h, by.2))))) in
    subst (λ (set : List ℕ). IsWithin t set) (sym (only_one e r.0 r.1))
    (within_where_false f r.0 t (admissible_members f t is) r.2)

-- the first set is ideal where no admissible set attacks it, and it holds each admissible set round it that has
-- nothing that one of the others attacks
pub shown_ideal : (f : Framework) (e : List ℕ) (others : List (List ℕ)) → IsNumbered f → HoldsOf f e Ad
    → ((o : List ℕ) → Contains others o → HoldsOf f o Ad)
    → IsExcluded f (claim_of (affirmed Ad ∷ []) (attacked f e ∷ []))
    → IsExcluded f (claim_of (affirmed Ad ∷ (are_in e ++ are_out (hit_by_any f others))) (outside f e ∷ []))
    → IsExtension f Ideal e
shown_ideal f e others numbered ok each first second =
    (ideal_is f e numbered).1 (ideal_by_others (collective_for f) (lawful_for f) e others
    ((admissible_is f e numbered).0 ok) (λ o c. (admissible_is f o numbered).0 (each o c))
    (unattacked f e numbered first) (no_larger f e others numbered second))

-- so it is where no set meets the claims of its row
pub is_ideal : (f : Framework) (e : List ℕ) (others : List (List ℕ)) → IsNumbered f → HoldsOf f e Ad
    → ((o : List ℕ) → Contains others o → HoldsOf f o Ad)
    → AreExcluded f (ideal_claims f (e ∷ others))
    → IsExtension f Ideal e
is_ideal f e others numbered ok each none =
    let out = are_out (hit_by_any f others) in
    shown_ideal f e others numbered ok each
    (none 0 (omega arith)
    (plain_mapped (affirmed Ad ∷ []) (attacked f) (e ∷ []) (ad_plain [] asks_nil) (attacked_plain f)))
    (none 1 (omega arith)
    (plain_mapped (affirmed Ad ∷ (are_in e ++ out)) (outside f) (e ∷ [])
    (ad_plain (are_in e ++ out) (asks_append (are_in e) out (in_plain e) (out_plain (hit_by_any f others))))
    (outside_plain f)))
