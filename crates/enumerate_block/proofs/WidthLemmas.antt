-- How ranges of sets of a mode lie in each other, by the tests that the claims of certificates are made of.
use Rattle.std.proofs.Common.{◌≡◌, inl, inr, ⊎_elim, ℕ, ◌-◌, true, false, not, List, ap, sym}
use Rattle.std.specs.Prelude.{◌⊎◌}
use Rattle.std.specs.Cmp.{both_ways}
use Rattle.std.proofs.lemmas.Bool.{false≢true}
use Rattle.lists.specs.Members.{IsWithin}
use Rattle.semantics.specs.declared.mode.Mode.{Mode}
use Rattle.semantics.specs.declared.mode.Mode.TheVariants.{Cf, Ad}
use Rattle.semantics.specs.Frameworks.{Framework, af, aba, IsNumbered}
use Rattle.meaning_atoms.specs.Worlds.{HoldsOf}
use Rattle.certificate_claims.specs.Claims.{mode_atom, widest_semantics}
use Rattle.certificate_claims.specs.Rights.{IsExtension}
use Rattle.certificate_claims.specs.SetLiterals.{are_ranged, has, is_range_within, is_ranged, members, same_range}
use Rattle.certificate_claims.specs.SetLiterals.{wider}
use Rattle.certificate_claims.proofs.Modes.{mode_is, mode_members, widest_extension}
use Rattle.certificate_claims.proofs.RangeLists.{kept_alike}
use Rattle.certificate_claims.proofs.SetTests.{in_range_live, ranged_from, ranged_gives, tests_range_within}
use Rattle.certificate_claims.proofs.SetTests.{tests_same_range, within_gives}
use Rattle.oracle_face.specs.Kinds.{is_assumption_based}
use Rattle.oracle_face.specs.Logs.{IsSameClause}
use Rattle.enumerate_block.specs.goal_lists.proofs.AskedGoals.{same_wider}
use Rattle.semi_stable.specs.Widest.{IsRangeIn}

-- a set with a widest range has the mode
pub widest_has_mode : (mode : Mode) (f : Framework) (e : List ℕ) → IsExtension f (widest_semantics mode) e
    → HoldsOf f e (mode_atom mode)
widest_has_mode Cf (af f) e h = h.has_mode
widest_has_mode Cf (aba f) e h = h.has_mode
widest_has_mode Ad (af f) e h = h.has_mode
widest_has_mode Ad (aba f) e h = h.has_mode

pub range_more : (f : Framework) (s t : List ℕ) → is_assumption_based f ≡ false → IsWithin s t → IsRangeIn f s t
range_more (aba f) s t kind sub a h = absurd (false≢true (sym kind))
range_more (af f) s t kind sub a h =
    ⊎_elim (λ c. inl (sub a c)) (λ hit. inr (hit.0, sub hit.0 hit.1, hit.2)) h

pub in_from : (f : Framework) (s t : List ℕ) → is_assumption_based f ≡ false → IsNumbered f → IsWithin s (members f)
    → IsRangeIn f s t → is_range_within f s t ≡ true
in_from (af f) s t kind ok live h = (tests_range_within f s t ok.form live).1 h
in_from (aba f) s t kind ok live h = absurd (false≢true (sym kind))

pub in_gives : (f : Framework) (s t : List ℕ) → is_assumption_based f ≡ false → IsNumbered f → IsWithin s (members f)
    → is_range_within f s t ≡ true → IsRangeIn f s t
in_gives (af f) s t kind ok live h = (tests_range_within f s t ok.form live).0 h
in_gives (aba f) s t kind ok live h = absurd (false≢true (sym kind))

module _ (mode : Mode) where
  -- a set of the mode whose range holds a widest one has the same range
  pub same_width : (f : Framework) (e x : List ℕ) → is_assumption_based f ≡ false
      → IsExtension f (widest_semantics mode) e
      → HoldsOf f x (mode_atom mode) → IsRangeIn f e x → IsRangeIn f x e
  same_width (af f) e x kind wide ok sub =
      ((widest_extension mode f e).0 wide).widest x ((mode_is mode f x).0 ok) sub
  same_width (aba f) e x kind wide ok sub = absurd (false≢true (sym kind))

  -- and is as wide
  pub widest_too : (f : Framework) (e x : List ℕ) → is_assumption_based f ≡ false
      → IsExtension f (widest_semantics mode) e
      → HoldsOf f x (mode_atom mode) → IsRangeIn f e x → IsExtension f (widest_semantics mode) x
  widest_too (aba f) e x kind wide ok sub = absurd (false≢true (sym kind))
  widest_too (af f) e x kind wide ok sub =
      let own = (widest_extension mode f e).0 wide in
      (widest_extension mode f x).1 (record {
        has_mode = (mode_is mode f x).0 ok;
        widest = λ t is in_t a h. sub a (own.widest t is (λ b k. in_t b (sub b k)) a h);
      })

  -- the tests of ranges decide them for sets of the mode
  pub alike_from : (f : Framework) (s t : List ℕ) → is_assumption_based f ≡ false → IsNumbered f
      → HoldsOf f s (mode_atom mode)
      → HoldsOf f t (mode_atom mode) → IsRangeIn f s t → IsRangeIn f t s → same_range f s t ≡ true
  alike_from (aba f) s t kind ok left right h k = absurd (false≢true (sym kind))
  alike_from (af f) s t kind ok left right h k =
      (tests_same_range f s t ok.form (mode_members mode (af f) s left) (mode_members mode (af f) t right)).1 (h, k)

  pub alike_gives : (f : Framework) (s t : List ℕ) → is_assumption_based f ≡ false → IsNumbered f
      → HoldsOf f s (mode_atom mode)
      → HoldsOf f t (mode_atom mode) → same_range f s t ≡ true → IsRangeIn f s t × IsRangeIn f t s
  alike_gives (aba f) s t kind ok left right h = absurd (false≢true (sym kind))
  alike_gives (af f) s t kind ok left right h =
      (tests_same_range f s t ok.form (mode_members mode (af f) s left) (mode_members mode (af f) t right)).0 h

  -- sets with the same range have the same side clause
  pub wider_alike : (f : Framework) (s t : List ℕ) → is_assumption_based f ≡ false → IsNumbered f
      → HoldsOf f s (mode_atom mode)
      → HoldsOf f t (mode_atom mode) → IsRangeIn f s t → IsRangeIn f t s → wider f s ≡ wider f t
  wider_alike f s t kind ok left right h k =
      let there = in_from f s t kind ok (mode_members mode f s left) h in
      let back = in_from f t s kind ok (mode_members mode f t right) k in
      ap are_ranged (kept_alike (λ x. not (is_ranged f s x)) (λ x. not (is_ranged f t x)) (members f)
      (λ a c. ap not (both_ways (is_ranged f s a) (is_ranged f t a) (within_gives f s t there a c)
      (within_gives f t s back a c))))

  -- where the side clauses have the same literals, the one's range lies in the other's
  pub same_clause_range : (f : Framework) (d e : List ℕ) → is_assumption_based f ≡ false → IsNumbered f
      → HoldsOf f e (mode_atom mode)
      → IsSameClause (wider f d) (wider f e) → IsRangeIn f e d
  same_clause_range (aba f) d e kind ok is same a h = absurd (false≢true (sym kind))
  same_clause_range (af f) d e kind ok is same a h =
      ranged_gives f d a (same_wider (af f) d e same a (in_range_live f e a ok.form (mode_members mode (af f) e is) h)
      (ranged_from f e a h))
