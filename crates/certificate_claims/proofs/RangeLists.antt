-- Ranges as lists, and the first sets with their ranges.
use Rattle.std.proofs.Common.{◌≡◌, ◌+◌, ◌<◌, ◌≤◌, ⊎_elim, ℕ, Bool, true, false, not, if◌then◌else◌, List, [], ◌∷◌, ◌++◌, length, get_or, map, filter, take, refl, ap, sym, subst, ◌∙◌}
use Rattle.std.specs.Prelude.{◌↔◌, IsTrue, Contains}
use Rattle.std.specs.Cmp.{both_ways}
use Rattle.std.proofs.lemmas.Bool.{cases_Bool, not_from_false}
use Rattle.std.proofs.lemmas.List.{append-nil, get_or-map, map-append, take_more, take_all}
use Rattle.std.proofs.lemmas.List.Elements.{Contains-get_or, filter-append}
use Rattle.std.proofs.lemmas.List.Kept.{IsStrictlyIncreasing-filter}
use Rattle.lists.specs.Members.{IsSetOf, IsWithin}
use Rattle.lists.proofs.Filters.{Contains-filter}
use Rattle.lists.proofs.ListTests.{any_gives, any_from}
use Rattle.lists.proofs.Membership.{Contains-nil, Contains-head, Contains-tail, Contains-cons_cases}
use Rattle.iccma_tasks.specs.semantics.specs.Framework.{Af, IsAf, IsInRange, IsRangeWithin}
use Rattle.iccma_tasks.specs.semantics.specs.Frameworks.{Framework, af, IsNumberedAf}
use Rattle.certificate_claims.specs.declared.ranges.FirstRanged.{FirstRanged}
use Rattle.certificate_claims.specs.Acceptance.{NoneWithin, NoRangeWithin}
use Rattle.certificate_claims.specs.Claims.{first_ranged, has_ranged}
use Rattle.certificate_claims.specs.Ranges.{AddsIfFirst, AddsIfRanged, AreLive, AreWithRange, IsFirstRanged}
use Rattle.certificate_claims.specs.SetLiterals.{is_range_within, is_ranged, members, range_of, same_range}
use Rattle.certificate_claims.proofs.SetTests.{chosen, passed, one_kept, one_lost, firsts_more, firsts_within, in_range_list, same_trans, within_from, within_gives}
use Rattle.std.proofs.lemmas.Bool.{and_from, and_parts}
use Rattle.lists.proofs.RisingLists.{same_rising}
use Rattle.lists.proofs.Images.{image_there, image_from}

-- the range of a set of live arguments, however it was found, is the range as a list
pub range_is : (f : Af) (s r : List ℕ) → IsNumberedAf f → IsWithin s f.live → IsSetOf (IsInRange f s) r
    → r ≡ range_of (af f) s
range_is f s r ok live is =
    same_rising r (range_of (af f) s) is.rises
    (IsStrictlyIncreasing-filter (is_ranged (af f) s) f.live ok.form.live_rises)
    (λ a. (
      λ c. (in_range_list f s a ok.form live).1 ((is.members a).0 c),
      λ c. (is.members a).1 ((in_range_list f s a ok.form live).0 c),
    ))

-- ---- the same range

pub kept_alike : (p q : ℕ → Bool) (xs : List ℕ) → ((a : ℕ) → Contains xs a → p a ≡ q a) → filter p xs ≡ filter q xs
kept_alike p q [] same = refl
kept_alike p q (x ∷ xs) same =
    let rest = kept_alike p q xs (λ a c. same a (Contains-tail x xs a c)) in
    ap (λ b. if b then x ∷ filter p xs else filter p xs) (same x (Contains-head x xs x refl))
    ∙ ap (λ l. if q x then x ∷ l else l) rest

pub equal_ranges : (f : Framework) (s t : List ℕ) → same_range f s t ≡ true → range_of f s ≡ range_of f t
equal_ranges f s t h =
    let both = and_parts (is_range_within f s t) (is_range_within f t s) h in
    kept_alike (is_ranged f s) (is_ranged f t) (members f)
    (λ a c. both_ways (is_ranged f s a) (is_ranged f t a) (within_gives f s t both.0 a c)
    (within_gives f t s both.1 a c))

within_where_equal : (f : Framework) (s t : List ℕ) → range_of f s ≡ range_of f t → is_range_within f s t ≡ true
within_where_equal f s t e =
    within_from f s t (λ a c r. ((Contains-filter (is_ranged f t) (members f) a).0
    (subst (λ xs. Contains xs a) e ((Contains-filter (is_ranged f s) (members f) a).1 (c, r)))).1)

pub same_ranges : (f : Framework) (s t : List ℕ) → range_of f s ≡ range_of f t → same_range f s t ≡ true
same_ranges f s t e =
    and_from (is_range_within f s t) (is_range_within f t s) (within_where_equal f s t e)
    (within_where_equal f t s (sym e))

pub had_gives : (f : Framework) (sets : List (List ℕ)) (x : List ℕ) → has_ranged f sets x ≡ true
    → Contains (map (range_of f) sets) (range_of f x)
had_gives f sets x h =
    let m = any_gives (λ s. same_range f s x) sets h in
    subst (λ r. Contains (map (range_of f) sets) r) (equal_ranges f m.0 x m.2)
    (image_there (range_of f) sets m.0 m.1)

pub had_from : (f : Framework) (sets : List (List ℕ)) (x : List ℕ)
    → Contains (map (range_of f) sets) (range_of f x) → has_ranged f sets x ≡ true
had_from f sets x c =
    let m = image_from (range_of f) sets (range_of f x) c in
    any_from (λ s. same_range f s x) sets m.0 m.1 (same_ranges f m.0 x m.2)

-- ---- one set more

pub adds_known : (f : Framework) (x range : List ℕ) (old : FirstRanged) (b : Bool) → range ≡ range_of f x
    → (IsTrue b ↔ Contains old.ranges range) → b ≡ true → AddsIfFirst f x old old
adds_known f x range old b is tells yes_ = record {
  sets = λ same.
      let c : Contains (map (range_of f) old.sets) (range_of f x) =
      subst (λ r. Contains (map (range_of f) old.sets) r) is
      (subst (λ l. Contains l range) same (tells.0 yes_)) in
      sym (chosen (has_ranged f old.sets x) old.sets (old.sets ++ x ∷ []) (had_from f old.sets x c));
  same = λ same. same;
}

pub adds_new : (f : Framework) (x copy range : List ℕ) (old : FirstRanged) (sets ranges : List (List ℕ)) (b : Bool)
    → copy ≡ x → range ≡ range_of f x → (IsTrue b ↔ Contains old.ranges range) → b ≡ false
    → sets ≡ old.sets ++ copy ∷ [] → ranges ≡ old.ranges ++ range ∷ []
    → AddsIfFirst f x old (record { sets = sets; ranges = ranges })
adds_new f x copy range old sets ranges b is_copy is tells fails more_sets more_ranges =
    let made : sets ≡ old.sets ++ x ∷ [] = more_sets ∙ ap (λ y. old.sets ++ y ∷ []) is_copy in
    record {
      sets = λ same.
          let new : has_ranged f old.sets x ≡ false = ⊎_elim
          (λ had. let c : Contains old.ranges range =
          subst (λ l. Contains l range) (sym same)
          (subst (λ r. Contains (map (range_of f) old.sets) r) (sym is) (had_gives f old.sets x had)) in
          let true_ : b ≡ true = tells.1 c in absurd (cc))
          (λ no_. no_) (cases_Bool (has_ranged f old.sets x)) in
          made ∙ sym (passed (has_ranged f old.sets x) old.sets (old.sets ++ x ∷ []) new);
      same = λ same.
          more_ranges
          ∙ (ap (λ l. l ++ range ∷ []) same
          ∙ (ap (λ r. map (range_of f) old.sets ++ r ∷ []) is
          ∙ (sym (map-append (range_of f) old.sets (x ∷ [])) ∙ ap (map (range_of f)) (sym made))));
    }

pub first_more : (f : Framework) (sets : List (List ℕ)) (k : ℕ) (x : List ℕ) (old new : FirstRanged) → k < length sets
    → x ≡ get_or sets k x → IsFirstRanged f (take k sets) old → AddsIfFirst f x old new
    → IsFirstRanged f (take (k + 1) sets) new
first_more f sets k x old new lt at before adds =
    let is : take (k + 1) sets ≡ take k sets ++ x ∷ [] =
    take_more sets k x lt ∙ ap (λ y. take k sets ++ y ∷ []) (sym at) in
    record {
      first = adds.sets before.same
          ∙ (ap (λ l. if has_ranged f l x then l else l ++ x ∷ []) before.first
          ∙ (sym (firsts_more f (take k sets) x) ∙ ap (first_ranged f) (sym is)));
      same = adds.same before.same;
    }

pub live_at : (f : Af) (sets : List (List ℕ)) (k : ℕ) (x : List ℕ) → k < length sets → x ≡ get_or sets k x
    → AreLive f sets → IsWithin x f.live
live_at f sets k x lt at live =
    subst (λ y. IsWithin y f.live) (sym at) (live (get_or sets k x) (Contains-get_or sets k x lt))

pub first_all : (f : Framework) (sets : List (List ℕ)) (k : ℕ) (found : FirstRanged) → length sets ≤ k
    → IsFirstRanged f (take k sets) found → IsFirstRanged f sets found
first_all f sets k found end is = subst (λ l. IsFirstRanged f l found) (take_all k sets end) is

-- ---- no range in another

same_itself : (f : Framework) (s : List ℕ) → same_range f s s ≡ true
same_itself f s = same_ranges f s s refl

-- each set has the range of one of the first
first_of : (f : Framework) (sets : List (List ℕ)) (s : List ℕ) → Contains sets s
    → (e : List ℕ) × Contains (first_ranged f sets) e × (same_range f e s ≡ true)
first_of f [] s c = absurd (Contains-nil s c)
first_of f (first ∷ more) s c =
    let other = λ (t : List ℕ). not (same_range f first t) in
    let rest = filter other (first_ranged f more) in
    ⊎_elim
    (λ (here : first ≡ s). (
      first,
      Contains-head first rest first refl,
      subst (λ t. same_range f first t ≡ true) here (same_itself f first),
    ))
    (λ later.
    let w = first_of f more s later in
    ⊎_elim
    (λ same. (first, Contains-head first rest first refl, same_trans f first w.0 s same w.2))
    (λ differ. (
      w.0,
      Contains-tail first rest w.0
          ((Contains-filter other (first_ranged f more) w.0).1 (w.1, not_from_false (same_range f first w.0) differ)),
      w.2,
    ))
    (cases_Bool (same_range f first w.0)))
    (Contains-cons_cases first more s c)

within_lists : (f : Af) (s t : List ℕ) → IsAf f → IsWithin s f.live → IsWithin t f.live
    → IsWithin (range_of (af f) s) (range_of (af f) t) ↔ IsRangeWithin f s t
within_lists f s t form left right = (
  λ sub a r. (in_range_list f t a form right).0 (sub a ((in_range_list f s a form left).1 r)),
  λ sub a c. (in_range_list f t a form right).1 (sub a ((in_range_list f s a form left).0 c)),
)

-- each set's range is one of the first ones' ranges
has_range : (f : Af) (sets : List (List ℕ)) (found : FirstRanged) → IsFirstRanged (af f) sets found
    → (s : List ℕ) → Contains sets s → Contains found.ranges (range_of (af f) s)
has_range f sets found is s c =
    let w = first_of (af f) sets s c in
    subst (λ l. Contains l (range_of (af f) s)) (sym is.same)
    (subst (λ l. Contains (map (range_of (af f)) l) (range_of (af f) s)) (sym is.first)
    (subst (λ r. Contains (map (range_of (af f)) (first_ranged (af f) sets)) r) (equal_ranges (af f) w.0 s w.2)
    (image_there (range_of (af f)) (first_ranged (af f) sets) w.0 w.1)))

-- and each of these is the range of a set
is_range : (f : Af) (sets : List (List ℕ)) (found : FirstRanged) → IsFirstRanged (af f) sets found
    → (r : List ℕ) → Contains found.ranges r → (s : List ℕ) × Contains sets s × (range_of (af f) s ≡ r)
is_range f sets found is r c =
    let m = image_from (range_of (af f)) found.sets r (subst (λ l. Contains l r) is.same c) in
    (m.0, firsts_within (af f) sets m.0 (subst (λ l. Contains l m.0) is.first m.1), m.2)

pub apart_where_lists : (f : Af) (sets : List (List ℕ)) (found : FirstRanged) (b : Bool) → IsNumberedAf f
    → AreLive f sets → IsFirstRanged (af f) sets found → (IsTrue b ↔ NoneWithin found.ranges)
    → (IsTrue b ↔ NoRangeWithin (af f) sets)
apart_where_lists f sets found b ok live is tells = (
  λ h s t cs ct sub.
      let form = ok.form in
      (within_lists f t s form (live t ct) (live s cs)).0
      (tells.0 h (range_of (af f) s) (range_of (af f) t) (has_range f sets found is s cs)
      (has_range f sets found is t ct) ((within_lists f s t form (live s cs) (live t ct)).1 sub)),
  λ apart. tells.1 (λ r q cr cq sub.
      let form = ok.form in
      let s = is_range f sets found is r cr in
      let t = is_range f sets found is q cq in
      let lists : IsWithin (range_of (af f) s.0) (range_of (af f) t.0) =
      subst (λ l. IsWithin l (range_of (af f) t.0)) (sym s.2) (subst (λ l. IsWithin r l) (sym t.2) sub) in
      let back = (within_lists f t.0 s.0 form (live t.0 t.1) (live s.0 s.1)).1
      (apart s.0 t.0 s.1 t.1 ((within_lists f s.0 t.0 form (live s.0 s.1) (live t.0 t.1)).0 lists)) in
      subst (λ l. IsWithin l r) t.2 (subst (λ l. IsWithin (range_of (af f) t.0) l) s.2 back)),
)

-- ---- the sets with a range

pub adds_ranged : (range own x copy : List ℕ) (old new : List (List ℕ)) (b : Bool)
    → (IsTrue b ↔ (own ≡ range)) → b ≡ true → copy ≡ x → new ≡ old ++ copy ∷ [] → AddsIfRanged range own x old new
adds_ranged range own x copy old new b tells same is_copy more = record {
  adds = λ f e of is.
      let alike : same_range f e x ≡ true = same_ranges f e x (sym of ∙ (sym (tells.0 same) ∙ is)) in
      more ∙ (ap (λ y. old ++ y ∷ []) is_copy ∙ ap (λ l. old ++ l) (sym (one_kept (same_range f e) x alike)));
}

pub adds_other : (range own x : List ℕ) (old : List (List ℕ)) (b : Bool)
    → (IsTrue b ↔ (own ≡ range)) → b ≡ false → AddsIfRanged range own x old old
adds_other range own x old b tells other = record {
  adds = λ f e of is.
      let differ : same_range f e x ≡ false = ⊎_elim
      (λ alike. let true_ : b ≡ true = tells.1 (is ∙ (sym (equal_ranges f e x alike) ∙ sym of)) in absurd (cc))
      (λ no_. no_) (cases_Bool (same_range f e x)) in
      sym (ap (λ l. old ++ l) (one_lost (same_range f e) x differ) ∙ append-nil old);
}

-- a range more of the list of them
pub ranges_more : (f : Framework) (sets : List (List ℕ)) (k : ℕ) (x range : List ℕ) (old new : List (List ℕ))
    → k < length sets → x ≡ get_or sets k x → old ≡ map (range_of f) (take k sets) → range ≡ range_of f x
    → new ≡ old ++ range ∷ [] → new ≡ map (range_of f) (take (k + 1) sets)
ranges_more f sets k x range old new lt at before is more =
    let one : take (k + 1) sets ≡ take k sets ++ x ∷ [] =
    take_more sets k x lt ∙ ap (λ y. take k sets ++ y ∷ []) (sym at) in
    more ∙ (ap (λ l. l ++ range ∷ []) before ∙ (ap (λ r. map (range_of f) (take k sets) ++ r ∷ []) is
    ∙ (sym (map-append (range_of f) (take k sets) (x ∷ [])) ∙ ap (map (range_of f)) (sym one))))

-- the sets of a list's front that have the range
abbrev pub AreFrontWithRange : List (List ℕ) → List (List ℕ) → List ℕ → ℕ → List (List ℕ) → Type 0
AreFrontWithRange sets ranges range k found =
    (f : Framework) (e : List ℕ) → ranges ≡ map (range_of f) sets → range ≡ range_of f e
    → found ≡ filter (same_range f e) (take k sets)

pub ranged_more : (sets ranges : List (List ℕ)) (range : List ℕ) (k : ℕ) (x own : List ℕ) (old new : List (List ℕ))
    → k < length sets → x ≡ get_or sets k x → own ≡ get_or ranges k own
    → AreFrontWithRange sets ranges range k old → AddsIfRanged range own x old new
    → AreFrontWithRange sets ranges range (k + 1) new
ranged_more sets ranges range k x own old new lt at own_at before adds f e all of =
    let is : take (k + 1) sets ≡ take k sets ++ x ∷ [] =
    take_more sets k x lt ∙ ap (λ y. take k sets ++ y ∷ []) (sym at) in
    let mine : own ≡ range_of f x =
    own_at ∙ (ap (λ l. get_or l k own) all ∙ (get_or-map (range_of f) sets k x own lt ∙ ap (range_of f) (sym at))) in
    adds.adds f e of mine
    ∙ (ap (λ l. l ++ filter (same_range f e) (x ∷ [])) (before f e all of)
    ∙ (sym (filter-append (same_range f e) (take k sets) (x ∷ [])) ∙ ap (filter (same_range f e)) (sym is)))

pub ranged_all : (sets ranges : List (List ℕ)) (range : List ℕ) (k : ℕ) (found : List (List ℕ)) → length sets ≤ k
    → AreFrontWithRange sets ranges range k found → AreWithRange sets ranges range found
ranged_all sets ranges range k found end is = record {
  kept = λ f e all of. is f e all of ∙ ap (filter (same_range f e)) (take_all k sets end);
}
