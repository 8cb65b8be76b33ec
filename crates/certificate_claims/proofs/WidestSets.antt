-- Sets of a mode of which no set of the mode has a larger range.
use Rattle.std.proofs.Common.{⊎_elim, ℕ, not, List, [], ◌∷◌, filter, sym, subst}
use Rattle.std.specs.Prelude.{Contains}
use Rattle.std.proofs.lemmas.Bool.{cases_Bool, not_from_false}
use Rattle.lists.specs.Members.{IsWithin}
use Rattle.lists.proofs.Filters.{Contains-filter}
use Rattle.lists.proofs.Membership.{Contains-nil}
use Rattle.iccma_tasks.specs.semantics.specs.declared.mode.Mode.{Mode}
use Rattle.iccma_tasks.specs.semantics.specs.Framework.{Af, IsAf, IsRangeWithin, IsWidest}
use Rattle.iccma_tasks.specs.semantics.specs.Frameworks.{af, IsNumberedAf}
use Rattle.aba_axioms.specs.meaning_atoms.specs.declared.atom.Atom.TheVariants.{Range}
use Rattle.aba_axioms.specs.meaning_atoms.specs.declared.atom.AtomLit.{AtomLit}
use Rattle.aba_axioms.specs.meaning_atoms.specs.Literals.{affirmed}
use Rattle.aba_axioms.specs.meaning_atoms.specs.Worlds.{world_of, HoldsOf, IsTrueAlone, Says}
use Rattle.certificate_claims.proofs.SetTests.{firsts_within, ranged_gives, in_range_live}
use Rattle.certificate_claims.specs.Acceptance.{NoRangeWithin}
use Rattle.certificate_claims.specs.Claims.{first_ranged, mode_atom, range_cover, range_free, range_listed, range_widest}
use Rattle.certificate_claims.specs.Refutations.{IsExcluded, MeetsGoals}
use Rattle.certificate_claims.specs.SetLiterals.{is_ranged, are_ranged, range_of, same_range, differs, wider}
use Rattle.certificate_claims.proofs.Modes.{mode_is, mode_members, mode_world}
use Rattle.certificate_claims.proofs.GoalLists.{meets_nil, meets_cons, meets_mapped, only_one, fails_mapped}
use Rattle.certificate_claims.proofs.LargestSets.{AreExactly}
use Rattle.certificate_claims.proofs.SideClauses.{same_where_false}
use Rattle.lists.proofs.Images.{image_there}

-- ---- side clauses and goals about ranges

-- a set of live arguments that has no wider range than the other has its range in that one's
range_where_false : (f : Af) (e s : List ℕ) → IsAf f → IsWithin s f.live
    → (IsTrueAlone (world_of (af f) s) (wider (af f) e) → ⊥) → IsRangeWithin f s e
range_where_false f e s form live none x r =
    ⊎_elim (λ t. ranged_gives f e x t)
    (λ no. absurd (none (record {
      literal = affirmed (Range x);
      member = image_there (λ a. affirmed (Range a)) (filter (λ y. not (is_ranged (af f) e y)) f.live) x
          ((Contains-filter (λ y. not (is_ranged (af f) e y)) f.live x).1
          (in_range_live f s x form live r, not_from_false (is_ranged (af f) e x) no));
      says = r;
    })))
    (cases_Bool (is_ranged (af f) e x))

meets_range : (f : Af) (e s : List ℕ) → IsRangeWithin f e s → MeetsGoals (af f) s (are_ranged (range_of (af f) e))
meets_range f e s sub =
    meets_mapped (af f) s (λ a. affirmed (Range a)) (range_of (af f) e)
    (λ a c. sub a (ranged_gives f e a ((Contains-filter (is_ranged (af f) e) f.live a).0 c).1))

-- ---- one set

-- a set of the mode over whose range no set of the mode has a larger one
pub widest_is : (mode : Mode) (f : Af) (e : List ℕ) → IsNumberedAf f → HoldsOf (af f) e (mode_atom mode)
    → IsExcluded (af f) (range_widest (af f) mode e)
    → IsWidest mode f e
widest_is mode f e numbered ok none = record {
  has_mode = (mode_is mode f e).0 ok;
  widest = λ t of_mode sub.
      let goals = are_ranged (range_of (af f) e) in
      let is = (mode_is mode f t).1 of_mode in
      let r = fails_mapped (af f) (affirmed (mode_atom mode) ∷ goals) (wider (af f)) (e ∷ []) none t
      (mode_world mode (af f) t numbered is)
      (meets_cons (af f) t (affirmed (mode_atom mode)) goals is (meets_range f e t sub)) in
      subst (λ (set : List ℕ). IsRangeWithin f t set) (sym (only_one e r.0 r.1))
      (range_where_false f r.0 t numbered.form (mode_members mode (af f) t is) r.2);
}

-- where the ranges of sets that make the literal true are covered, and none of them has all of such a range, no
-- set with a widest range makes it true
pub ranged_out : (mode : Mode) (f : Af) (bad : AtomLit) (sets : List (List ℕ)) → IsNumberedAf f
    → ((e : List ℕ) → Contains sets e → HoldsOf (af f) e (mode_atom mode))
    → IsExcluded (af f) (range_cover (af f) mode (bad ∷ []) sets)
    → ((e : List ℕ) → Contains sets e → IsExcluded (af f) (range_free (af f) mode bad e))
    → (s : List ℕ) → IsWidest mode f s → Says bad.positive (HoldsOf (af f) s bad.atom) → ⊥
ranged_out mode f bad sets numbered ok cover free s wide says =
    let own = affirmed (mode_atom mode) in
    let has_mode = (mode_is mode f s).1 wide.has_mode in
    let world = mode_world mode (af f) s numbered has_mode in
    let r = fails_mapped (af f) (own ∷ bad ∷ []) (wider (af f)) sets cover s world
    (meets_cons (af f) s own (bad ∷ []) has_mode (meets_cons (af f) s bad [] says (meets_nil (af f) s))) in
    let far = range_where_false f r.0 s numbered.form (mode_members mode (af f) s has_mode) r.2 in
    let goals = are_ranged (range_of (af f) r.0) in
    let back = wide.widest r.0 ((mode_is mode f r.0).0 (ok r.0 r.1)) far in
    free r.0 r.1 s world
    (meets_cons (af f) s own (bad ∷ goals) has_mode
    (meets_cons (af f) s bad goals says (meets_range f r.0 s back)))
    (λ side c. absurd (Contains-nil side c))

-- ---- lists

covers_range : (mode : Mode) (f : Af) (firsts : List (List ℕ)) → IsNumberedAf f
    → IsExcluded (af f) (range_cover (af f) mode [] firsts)
    → (t : List ℕ) → HoldsOf (af f) t (mode_atom mode) → (e : List ℕ) × Contains firsts e × IsRangeWithin f t e
covers_range mode f firsts numbered cover t is =
    let own = affirmed (mode_atom mode) in
    let r = fails_mapped (af f) (own ∷ []) (wider (af f)) firsts cover t (mode_world mode (af f) t numbered is)
    (meets_cons (af f) t own [] is (meets_nil (af f) t)) in
    (r.0, r.1, range_where_false f r.0 t numbered.form (mode_members mode (af f) t is) r.2)

-- sets of the mode, no range in another, whose ranges cover all, and all sets with such a range
pub all_widest : (mode : Mode) (f : Af) (sets : List (List ℕ)) → IsNumberedAf f
    → ((e : List ℕ) → Contains sets e → HoldsOf (af f) e (mode_atom mode)) → NoRangeWithin (af f) sets
    → IsExcluded (af f) (range_cover (af f) mode [] (first_ranged (af f) sets))
    → ((e : List ℕ) → Contains (first_ranged (af f) sets) e → IsExcluded (af f) (range_listed (af f) mode sets e))
    → AreExactly (IsWidest mode f) sets
all_widest mode f sets numbered ok apart cover listed = record {
  each = λ e c. record {
    has_mode = (mode_is mode f e).0 (ok e c);
    widest = λ t is sub.
        let r = covers_range mode f (first_ranged (af f) sets) numbered cover t ((mode_is mode f t).1 is) in
        let back = apart e r.0 c (firsts_within (af f) sets r.0 r.1) (λ x h. r.2 x (sub x h)) in
        λ x h. back x (r.2 x h);
  };
  all = λ s wide.
      let has_mode = (mode_is mode f s).1 wide.has_mode in
      let r = covers_range mode f (first_ranged (af f) sets) numbered cover s has_mode in
      let back = wide.widest r.0 ((mode_is mode f r.0).0 (ok r.0 (firsts_within (af f) sets r.0 r.1))) r.2 in
      let goals = are_ranged (range_of (af f) r.0) in
      let q = fails_mapped (af f) (affirmed (mode_atom mode) ∷ goals) (differs (af f))
      (filter (same_range (af f) r.0) sets) (listed r.0 r.1) s (mode_world mode (af f) s numbered has_mode)
      (meets_cons (af f) s (affirmed (mode_atom mode)) goals has_mode (meets_range f r.0 s back)) in
      record {
        set = q.0;
        member = ((Contains-filter (same_range (af f) r.0) sets q.0).0 q.1).0;
        same = same_where_false (af f) q.0 s (mode_members mode (af f) s has_mode) q.2;
      };
}
