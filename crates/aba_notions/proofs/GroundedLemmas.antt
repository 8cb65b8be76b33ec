-- The grounded set, by rounds in which what a set defends takes its place.
use Rattle.std.proofs.Common.{◌≡◌, ◌≢◌, ℕ, ◌-◌, ◌<◌, ◌≤◌, List, [], ◌∷◌, ◌++◌, length, get_or, eqb, true, arith, subst, sym, refl, ⊎_elim, ◌∙◌}
use Rattle.std.specs.Prelude.{Contains}
use Rattle.std.specs.List.{IsDistinct}
use Rattle.std.specs.List.Sorted.{IsStrictlyIncreasing}
use Rattle.std.specs.Set.{is_member}
use Rattle.std.proofs.lemmas.Bool.{cases_eq, eq-eqb, eqb-true}
use Rattle.std.proofs.lemmas.Bool.Decides.{Decides-eqb}
use Rattle.std.proofs.lemmas.Cmp.{nat_eq_equiv}
use Rattle.std.proofs.lemmas.List.{get_or_default, get_or_push, get_or_append_left, length_push}
use Rattle.std.proofs.lemmas.List.Elements.{Contains-append_right, Contains-append_cases, Contains-push_cases}
use Rattle.std.proofs.lemmas.List.Kept.{AllPairs-from_increasing}
use Rattle.std.proofs.lemmas.Map.Made.{length-le_from_is_member, IsDistinct-from_AllPairs}
use Rattle.lists.specs.Members.{IsSetOf, IsWithin}
use Rattle.lists.proofs.ListTests.{any_gives, any_from}
use Rattle.lists.proofs.Membership.{Contains-nil}
use Rattle.aba_laws.specs.semantics.proofs.Decided.{search_list, found_in, decide_not, decide_member}
use Rattle.semantics.specs.Collectives.{Collective, IsDefended, IsAdmissible, IsComplete, IsGrounded}
use Rattle.aba_laws.proofs.CollectiveSets.{IsLawful, defends_more, defended_admissible, empty_admissible, admissible_same}

-- ---- sizes of rising lists

member_gives : (xs : List ℕ) (q : ℕ) → is_member eqb xs q ≡ true → Contains xs q
member_gives xs q h =
    let w = any_gives (λ x. eqb q x) xs h in subst (λ x. Contains xs x) (sym (eqb-true q w.0 w.2)) w.1

member_from : (xs : List ℕ) (q : ℕ) → Contains xs q → is_member eqb xs q ≡ true
member_from xs q c = any_from (λ x. eqb q x) xs q c (eq-eqb q q refl)

no_longer : (xs ys : List ℕ) → IsDistinct eqb xs → IsWithin xs ys → length xs ≤ length ys
no_longer xs ys apart sub =
    length-le_from_is_member nat_eq_equiv xs ys apart (λ q h. member_from ys q (sub q (member_gives xs q h)))

rising_apart : (xs : List ℕ) → IsStrictlyIncreasing xs → (i j : ℕ) → i < j → j < length xs
    → get_or xs i 0 ≢ get_or xs j 0
rising_apart xs up i j lt within same = omega (arith, AllPairs-from_increasing xs up i j 0 lt within, same)

pub rising_no_longer : (xs ys : List ℕ) → IsStrictlyIncreasing xs → IsWithin xs ys → length xs ≤ length ys
rising_no_longer xs ys up sub =
    no_longer xs ys (IsDistinct-from_AllPairs Decides-eqb xs
    (λ i j d lt within same. rising_apart xs up i j lt within
    (get_or_default xs i 0 d (omega (arith, lt, within)) ∙ same ∙ get_or_default xs j d 0 within)))
    sub

-- a rising list within another that has a member more is shorter
pub rising_shorter : (xs ys : List ℕ) (y : ℕ) → IsStrictlyIncreasing xs → IsWithin xs ys → Contains ys y
    → (Contains xs y → ⊥) → length xs < length ys
rising_shorter xs ys y up sub there out =
    let more : List ℕ = xs ++ y ∷ [] in
    let apart : IsDistinct eqb more =
    IsDistinct-from_AllPairs Decides-eqb more
    (λ i j d lt within same.
    let early : i < length xs = omega (arith, lt, within, length_push xs y) in
    let first : get_or more i d ≡ get_or xs i d = get_or_append_left xs (y ∷ []) d i early in
    ⊎_elim
    (λ (e : j ≡ length xs). out (
      i,
      early,
      get_or_default xs i y d early ∙ sym first ∙ same ∙ get_or_push xs y d j (sym e),
    ))
    (λ ne. let late : j < length xs = omega (arith, within, ne, length_push xs y) in
    rising_apart xs up i j lt late
    (get_or_default xs i 0 d early ∙ sym first ∙ same ∙ get_or_append_left xs (y ∷ []) d j late
    ∙ get_or_default xs j d 0 late))
    (cases_eq j (length xs))) in
    let size = no_longer more ys apart (λ x c. ⊎_elim (λ k. sub x k) (λ e. subst (λ z. Contains ys z) e there)
    (Contains-push_cases xs y x c)) in
    omega (arith, size, length_push xs y)

-- ---- rounds

-- an admissible set that lies in every complete one, and what it defends
pub record IsOnWay (d : Collective) (s next : List ℕ) : Type 0 where
  pub rises : IsStrictlyIncreasing s
  pub admissible : IsAdmissible d s
  pub least : (t : List ℕ) → IsComplete d t → IsWithin s t
  pub defended : IsSetOf (IsDefended d s) next

module _ (d : Collective) (lawful : IsLawful d) where
  pub starts : (none next : List ℕ) → none ≡ [] → IsSetOf (IsDefended d none) next → IsOnWay d none next
  starts none next e set = record {
    rises = rw e (λ k lt. absurd (omega arith));
    admissible = rw e (empty_admissible d lawful);
    least = rw e (λ t co x c. absurd (Contains-nil x c));
    defended = set;
  }

  -- the members are among what the set defends
  within_next : (s next : List ℕ) → IsOnWay d s next → IsWithin s next
  within_next s next h a c = (h.defended.members a).1 (record {
    live = h.admissible.conflict_free.live a c;
    defended = h.admissible.defended a c;
  })

  pub goes_on : (s next later : List ℕ) → IsOnWay d s next → IsSetOf (IsDefended d next) later → IsOnWay d next later
  goes_on s next later h set = record {
    rises = h.defended.rises;
    admissible = admissible_same d lawful (s ++ next) next
        (record {
          there = λ x c. ⊎_elim (λ k. within_next s next h x k) (λ k. k) (Contains-append_cases s next x c);
          back = λ x c. Contains-append_right s next x c;
        })
        (defended_admissible d lawful s next h.admissible (λ a c. ((h.defended.members a).0 c).live)
        (λ a c. ((h.defended.members a).0 c).defended));
    least = λ t co a c. let w = (h.defended.members a).0 c in
        co.closed a w.live (defends_more d lawful s t a (h.least t co) w.defended);
    defended = set;
  }

  -- fewer arguments are left out
  pub leaves_fewer : (s next : List ℕ) → IsOnWay d s next → (IsWithin next s → ⊥)
      → length d.live - length next < length d.live - length s
  leaves_fewer s next h more =
      let Out : ℕ → Type 0 = λ x. Contains s x → ⊥ in
      let longer : length s < length next =
      ⊎_elim
      (λ found. rising_shorter s next found.item h.rises (within_next s next h) (found_in Out next found) found.holds)
      (λ none. absurd (more (λ x c. ⊎_elim (λ k. k) (λ out. absurd (none x c out)) (decide_member s x))))
      (search_list Out (λ x. decide_not (decide_member s x)) next) in
      let few = rising_no_longer next d.live h.defended.rises (λ a c. ((h.defended.members a).0 c).live) in
      omega (arith, longer, few)

  pub arrives : (s next : List ℕ) → IsOnWay d s next → IsWithin next s → IsGrounded d s
  arrives s next h back = record {
    complete = record {
      admissible = h.admissible;
      closed = λ a live defended. back a ((h.defended.members a).1 (record { live = live; defended = defended }));
    };
    least = h.least;
  }
