-- What the tests of sets decide, and which sets are first with their ranges.
use Rattle.std.proofs.Common.{◌≡◌, ◌==◌, ◌&&◌, ◌||◌, ⊎_elim, inl, inr, ℕ, Bool, true, false, not, if◌then◌else◌, List, [], ◌∷◌, ◌++◌, filter, refl, sym, ap, subst, ◌∙◌}
use Rattle.std.specs.Prelude.{◌↔◌, Contains}
use Rattle.std.proofs.lemmas.Bool.{cases_Bool, eqb-true, and_parts, and_from, or_left, or_right, or_from, not_from_false, not_from_true, both_ways, eq-eqb, false_from_ne_true}
use Rattle.std.proofs.lemmas.List.{append-nil}
use Rattle.std.proofs.lemmas.List.Elements.{filter-append}
use Rattle.lists.specs.Members.{IsWithin}
use Rattle.lists.proofs.Filters.{Contains-filter}
use Rattle.lists.proofs.ListTests.{any_gives, any_from, all_gives, all_from}
use Rattle.lists.proofs.Membership.{Contains-head, Contains-tail, Contains-cons_cases}
use Rattle.iccma_tasks.specs.semantics.specs.Framework.{Af, IsAf, IsAttackedBy, IsInRange, IsRangeWithin}
use Rattle.iccma_tasks.specs.semantics.specs.Frameworks.{Framework, af}
use Rattle.certificate_claims.specs.Claims.{first_ranged, has_ranged}
use Rattle.certificate_claims.specs.SetLiterals.{has, hits, is_range_within, is_ranged, members, range_of, same_range}

-- ---- members, attacks, ranges

same_number : (x : ℕ) → (x == x) ≡ true
same_number x = eq-eqb x x refl

pub has_gives : (s : List ℕ) (x : ℕ) → has s x ≡ true → Contains s x
has_gives s x h = let m = any_gives (λ y. y == x) s h in subst (λ y. Contains s y) (eqb-true m.0 x m.2) m.1

pub has_from : (s : List ℕ) (x : ℕ) → Contains s x → has s x ≡ true
has_from s x c = any_from (λ y. y == x) s x c (same_number x)

pub hits_gives : (f : Af) (s : List ℕ) (a : ℕ) → hits (af f) s a ≡ true → IsAttackedBy f s a
hits_gives f s a h =
    let m = any_gives (λ (p : ℕ × ℕ). p.1 == a && has s p.0) f.attacks h in
    let both = and_parts (m.0.1 == a) (has s m.0.0) m.2 in (
      m.0.0,
      has_gives s m.0.0 both.1,
      subst (λ (x : ℕ). Contains f.attacks (m.0.0, x)) (eqb-true m.0.1 a both.0) m.1,
    )

pub hits_from : (f : Af) (s : List ℕ) (a : ℕ) → IsAttackedBy f s a → hits (af f) s a ≡ true
hits_from f s a h =
    any_from (λ (p : ℕ × ℕ). p.1 == a && has s p.0) f.attacks (h.0, a) h.2
    (and_from (a == a) (has s h.0) (same_number a) (has_from s h.0 h.1))

pub ranged_gives : (f : Af) (s : List ℕ) (a : ℕ) → is_ranged (af f) s a ≡ true → IsInRange f s a
ranged_gives f s a h =
    ⊎_elim (λ t. inl (has_gives s a t)) (λ no. inr (hits_gives f s a (rw no at h))) (cases_Bool (has s a))

pub ranged_from : (f : Af) (s : List ℕ) (a : ℕ) → IsInRange f s a → is_ranged (af f) s a ≡ true
ranged_from f s a h =
    ⊎_elim (λ c. or_left (has s a) (hits (af f) s a) (has_from s a c))
    (λ hit. or_right (has s a) (hits (af f) s a) (hits_from f s a hit)) h

-- what a set of live arguments has in its range is live
pub in_range_live : (f : Af) (s : List ℕ) (a : ℕ) → IsAf f → IsWithin s f.live → IsInRange f s a → Contains f.live a
in_range_live f s a form live r = ⊎_elim (λ c. live a c) (λ hit. (form.ends hit.0 a hit.2).1) r

-- the range as a list has just what is in the range
pub in_range_list : (f : Af) (s : List ℕ) (a : ℕ) → IsAf f → IsWithin s f.live
    → Contains (range_of (af f) s) a ↔ IsInRange f s a
in_range_list f s a form live = (
  λ c. ranged_gives f s a ((Contains-filter (is_ranged (af f) s) f.live a).0 c).1,
  λ r. (Contains-filter (is_ranged (af f) s) f.live a).1 (in_range_live f s a form live r, ranged_from f s a r),
)

-- ---- one range within another

implied_gives : (a b : Bool) → (not a || b) ≡ true → a ≡ true → b ≡ true
implied_gives true b h e = h
implied_gives false b h e = absurd (cc)

implied_from : (a b : Bool) → (a ≡ true → b ≡ true) → (not a || b) ≡ true
implied_from true b h = h refl
implied_from false b h = refl

-- on what sets are made of
pub within_gives : (f : Framework) (s t : List ℕ) → is_range_within f s t ≡ true
    → (a : ℕ) → Contains (members f) a → is_ranged f s a ≡ true → is_ranged f t a ≡ true
within_gives f s t h a c e =
    implied_gives (is_ranged f s a) (is_ranged f t a)
    (all_gives (λ x. not (is_ranged f s x) || is_ranged f t x) (members f) h a c) e

pub within_from : (f : Framework) (s t : List ℕ)
    → ((a : ℕ) → Contains (members f) a → is_ranged f s a ≡ true → is_ranged f t a ≡ true)
    → is_range_within f s t ≡ true
within_from f s t h =
    all_from (λ x. not (is_ranged f s x) || is_ranged f t x) (members f)
    (λ a c. implied_from (is_ranged f s a) (is_ranged f t a) (h a c))

-- the test decides it for sets of live arguments
pub tests_range_within : (f : Af) (s t : List ℕ) → IsAf f → IsWithin s f.live
    → (is_range_within (af f) s t ≡ true) ↔ IsRangeWithin f s t
tests_range_within f s t form live = (
  λ h a r. ranged_gives f t a (within_gives (af f) s t h a (in_range_live f s a form live r) (ranged_from f s a r)),
  λ h. within_from (af f) s t (λ a c e. ranged_from f t a (h a (ranged_gives f s a e))),
)

pub tests_same_range : (f : Af) (s t : List ℕ) → IsAf f → IsWithin s f.live → IsWithin t f.live
    → (same_range (af f) s t ≡ true) ↔ (IsRangeWithin f s t × IsRangeWithin f t s)
tests_same_range f s t form left right = (
  λ h. let both = and_parts (is_range_within (af f) s t) (is_range_within (af f) t s) h in
      ((tests_range_within f s t form left).0 both.0, (tests_range_within f t s form right).0 both.1),
  λ h. and_from (is_range_within (af f) s t) (is_range_within (af f) t s)
      ((tests_range_within f s t form left).1 h.0) ((tests_range_within f t s form right).1 h.1),
)

-- ---- the first sets with their ranges

-- they are of the list
pub firsts_within : (f : Framework) (sets : List (List ℕ)) (e : List ℕ) → Contains (first_ranged f sets) e
    → Contains sets e
firsts_within f [] e c = c
firsts_within f (first ∷ more) e c =
    ⊎_elim (λ here. Contains-head first more e here)
    (λ later. Contains-tail first more e (firsts_within f more e
    ((Contains-filter (λ s. not (same_range f first s)) (first_ranged f more) e).0 later).0))
    (Contains-cons_cases first (filter (λ s. not (same_range f first s)) (first_ranged f more)) e c)

within_trans : (f : Framework) (s t u : List ℕ) → is_range_within f s t ≡ true → is_range_within f t u ≡ true
    → is_range_within f s u ≡ true
within_trans f s t u left right =
    within_from f s u (λ a c e. within_gives f t u right a c (within_gives f s t left a c e))

pub same_trans : (f : Framework) (s t u : List ℕ) → same_range f s t ≡ true → same_range f t u ≡ true
    → same_range f s u ≡ true
same_trans f s t u left right =
    let l = and_parts (is_range_within f s t) (is_range_within f t s) left in
    let r = and_parts (is_range_within f t u) (is_range_within f u t) right in
    and_from (is_range_within f s u) (is_range_within f u s) (within_trans f s t u l.0 r.0)
    (within_trans f u t s r.1 l.1)

pub chosen : {X : Type 0} (b : Bool) (left right : X) → b ≡ true → (if b then left else right) ≡ left
chosen true left right e = refl
chosen false left right e = absurd (cc)

pub passed : {X : Type 0} (b : Bool) (left right : X) → b ≡ false → (if b then left else right) ≡ right
passed true left right e = absurd (cc)
passed false left right e = refl

pub one_kept : {X : Type 0} (p : X → Bool) (x : X) → p x ≡ true → filter p (x ∷ []) ≡ x ∷ []
one_kept p x e = rw e refl

pub one_lost : {X : Type 0} (p : X → Bool) (x : X) → p x ≡ false → filter p (x ∷ []) ≡ []
one_lost p x e = rw e refl

-- whether the first set, or one of those that have other ranges, has a set's range
abbrev had_behind : Framework → List ℕ → List (List ℕ) → List ℕ → Bool
had_behind f e firsts x = has_ranged f (e ∷ filter (λ s. not (same_range f e s)) firsts) x

still_had : (f : Framework) (e : List ℕ) (firsts : List (List ℕ)) (x : List ℕ) → has_ranged f firsts x ≡ true
    → had_behind f e firsts x ≡ true
still_had f e firsts x had =
    let other = λ (s : List ℕ). not (same_range f e s) in
    let m = any_gives (λ s. same_range f s x) firsts had in
    ⊎_elim
    (λ same. any_from (λ s. same_range f s x) (e ∷ filter other firsts) e
    (Contains-head e (filter other firsts) e refl) (same_trans f e m.0 x same m.2))
    (λ differ. any_from (λ s. same_range f s x) (e ∷ filter other firsts) m.0
    (Contains-tail e (filter other firsts) m.0
    ((Contains-filter other firsts m.0).1 (m.1, not_from_false (same_range f e m.0) differ))) m.2)
    (cases_Bool (same_range f e m.0))

still_new : (f : Framework) (e : List ℕ) (firsts : List (List ℕ)) (x : List ℕ) → has_ranged f firsts x ≡ false
    → same_range f e x ≡ false → had_behind f e firsts x ≡ false
still_new f e firsts x new differ =
    let other = λ (s : List ℕ). not (same_range f e s) in
    or_from (same_range f e x) (has_ranged f (filter other firsts) x) differ
    (false_from_ne_true (has_ranged f (filter other firsts) x) (λ h.
    let m = any_gives (λ s. same_range f s x) (filter other firsts) h in
    both_ways (has_ranged f firsts x) new
    (any_from (λ s. same_range f s x) firsts m.0 ((Contains-filter other firsts m.0).0 m.1).0 m.2)))

-- a set more: it is one of them where none before it has its range
pub firsts_more : (f : Framework) (sets : List (List ℕ)) (x : List ℕ)
    → first_ranged f (sets ++ x ∷ [])
    ≡ (if has_ranged f (first_ranged f sets) x then first_ranged f sets else first_ranged f sets ++ x ∷ [])
firsts_more f [] x = refl
firsts_more f (e ∷ more) x =
    let firsts = first_ranged f more in
    let other = λ (s : List ℕ). not (same_range f e s) in
    let old = e ∷ filter other firsts in
    let new = e ∷ (filter other firsts ++ x ∷ []) in
    let is = firsts_more f more x in
    ⊎_elim
    (λ had.
    let same : first_ranged f (more ++ x ∷ []) ≡ firsts =
    is ∙ chosen (has_ranged f firsts x) firsts (firsts ++ x ∷ []) had in
    ap (λ l. e ∷ filter other l) same
    ∙ sym (chosen (had_behind f e firsts x) old new (still_had f e firsts x had)))
    (λ none.
    let same : first_ranged f (more ++ x ∷ []) ≡ firsts ++ x ∷ [] =
    is ∙ passed (has_ranged f firsts x) firsts (firsts ++ x ∷ []) none in
    let cut : e ∷ filter other (first_ranged f (more ++ x ∷ [])) ≡ e ∷ (filter other firsts ++ filter other (x ∷ [])) =
    ap (λ l. e ∷ filter other l) same ∙ ap (λ l. e ∷ l) (filter-append other firsts (x ∷ [])) in
    ⊎_elim
    (λ here. cut
    ∙ (ap (λ l. e ∷ (filter other firsts ++ l)) (one_lost other x (not_from_true (same_range f e x) here))
    ∙ (ap (λ l. e ∷ l) (append-nil (filter other firsts))
    ∙ sym (chosen (had_behind f e firsts x) old new
    (or_left (same_range f e x) (has_ranged f (filter other firsts) x) here)))))
    (λ differ. cut
    ∙ (ap (λ l. e ∷ (filter other firsts ++ l)) (one_kept other x (not_from_false (same_range f e x) differ))
    ∙ sym (passed (had_behind f e firsts x) old new (still_new f e firsts x none differ))))
    (cases_Bool (same_range f e x)))
    (cases_Bool (has_ranged f firsts x))
