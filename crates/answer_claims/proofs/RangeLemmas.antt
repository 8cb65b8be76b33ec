-- The test of a range is its fact.
use Rattle.std.proofs.Common.{◌≡◌, ℕ, not, List, map, filter, ap, sym, subst}
use Rattle.std.specs.Prelude.{Contains}
use Rattle.std.specs.Cmp.{both_ways}
use Rattle.lists.specs.Members.{IsSetOf}
use Rattle.semantics.specs.Framework.{Af, IsInRange}
use Rattle.semantics.specs.AbaFrameworks.{Aba}
use Rattle.semantics.specs.Frameworks.{Framework, af, aba}
use Rattle.certificate_claims.specs.SetLiterals.{has, is_ranged, members, wider}
use Rattle.certificate_claims.proofs.RangeLists.{kept_alike}
use Rattle.certificate_claims.proofs.SetTests.{has_from, has_gives, ranged_from, ranged_gives}
use Rattle.certificate_claims.specs.declared.words.Word.TheVariants.{Ranged}
use Rattle.answer_claims.specs.SetFacts.{IsRangeOf}
use Rattle.certificate_claims.specs.Words.{literal_of}

pub is_range : (f : Af) (s range : List ℕ) → IsSetOf (IsInRange f s) range → IsRangeOf (af f) s range
is_range f s range h = record {
  members = λ a. (λ c. ranged_from f s a ((h.members a).0 c), λ e. (h.members a).1 (ranged_gives f s a e));
}

-- the range of a set of the other kind is the set
pub own_is_range : (f : Aba) (s range : List ℕ) → range ≡ s → IsRangeOf (aba f) s range
own_is_range f s range same = record {
  members = λ a. (
    λ c. has_from s a (subst (λ l. Contains l a) same c),
    λ e. subst (λ l. Contains l a) (sym same) (has_gives s a e),
  );
}

-- what a range lacks is outside the range
pub lacks_range : (f : Framework) (s range : List ℕ) → IsRangeOf f s range
    → map (literal_of Ranged) (filter (λ x. not (has range x)) (members f)) ≡ wider f s
lacks_range f s range h =
    ap (map (literal_of Ranged)) (kept_alike (λ x. not (has range x)) (λ x. not (is_ranged f s x)) (members f) (λ x c.
    ap not (both_ways (has range x) (is_ranged f s x) (λ e. (h.members x).0 (has_gives range x e))
    (λ e. has_from range x ((h.members x).1 e)))))
