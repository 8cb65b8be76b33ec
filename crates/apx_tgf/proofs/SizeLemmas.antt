-- A framework has no more attacks than are told.
use Rattle.std.proofs.Common.{◌≡◌, ◌≢◌, ◌∙◌, ◌⊎◌, ℕ, ◌+◌, ◌*◌, ◌<◌, ◌≤◌, List, [], ◌∷◌, length, map, get_or, eqb, true, refl, sym}
use Rattle.std.proofs.Common.{ap, subst, arith, ⊎_elim}
use Rattle.std.specs.Prelude.{Contains, slice_index_or}
use Rattle.std.specs.List.{AllZip, IsDistinct}
use Rattle.std.specs.Set.{is_member}
use Rattle.std.proofs.lemmas.Bool.{eq-eqb, eqb-true}
use Rattle.std.proofs.lemmas.Bool.Decides.{Decides-eqb}
use Rattle.std.proofs.lemmas.Cmp.{nat_eq_equiv}
use Rattle.std.proofs.lemmas.List.{get_or_default, get_or-map, length-map}
use Rattle.std.proofs.lemmas.Map.Made.{length-le_from_is_member, IsDistinct-from_AllPairs}
use Rattle.lists.proofs.ListTests.{any_from, any_gives}
use Rattle.lists.proofs.Images.{image_from, image_there}
use Rattle.semantics.specs.Framework.{Af}
use Rattle.semantics.specs.declared.argument.TheConstants.{MAX_ARGUMENT}
use Rattle.af_format.proofs.Reading.{arguments_numbered}
use Rattle.af_format.specs.AfText.{IsFrameworkOf}

-- ---- pairs as numbers

code : ℕ × ℕ → ℕ
code p = p.0 * 2000000 + p.1

-- the target is an argument's number
abbrev HasTarget : ℕ × ℕ → Type 0
HasTarget p = p.1 ≤ MAX_ARGUMENT

before_less : (p q : ℕ × ℕ) → (p.0 < q.0) ⊎ ((p.0 ≡ q.0) × (p.1 < q.1)) → HasTarget p → code p ≢ code q
unfolding code
before_less p q before within same = ⊎_elim
    (λ less. let lt : p.0 < q.0 = less in let at : p.1 ≤ 1000000 = within in omega (arith, lt, at, same))
    (λ both. let e : p.0 ≡ q.0 = both.0 in let lt : p.1 < q.1 = both.1 in omega (arith, e, lt, same)) before

member_gives : (xs : List ℕ) (q : ℕ) → is_member eqb xs q ≡ true → Contains xs q
member_gives xs q h =
    let w = any_gives (λ x. eqb q x) xs h in subst (λ x. Contains xs x) (sym (eqb-true q w.0 w.2)) w.1

member_from : (xs : List ℕ) (q : ℕ) → Contains xs q → is_member eqb xs q ≡ true
member_from xs q c = any_from (λ x. eqb q x) xs q c (eq-eqb q q refl)

-- a list of distinct numbers, each of which another list holds, is no longer than it
no_longer : (xs ys : List ℕ) → ((i j : ℕ) (d : ℕ) → i < j → j < length xs → get_or xs i d ≢ get_or xs j d)
    → ((q : ℕ) → Contains xs q → Contains ys q) → length xs ≤ length ys
no_longer xs ys apart within =
    length-le_from_is_member nat_eq_equiv xs ys
    (IsDistinct-from_AllPairs Decides-eqb xs (λ i j d less below same. apart i j d less below same))
    (λ q h. member_from ys q (within q (member_gives xs q h)))

-- a framework of these attacks has no more
pub no_more_attacks : (count : ℕ) (numbers : List (ℕ × ℕ)) (f : Af) → count ≤ MAX_ARGUMENT
    → IsFrameworkOf count numbers f → length f.attacks ≤ length numbers
no_more_attacks count numbers f few is =
    let target : (p : ℕ × ℕ) → Contains f.attacks p → HasTarget p = λ p c.
    (arguments_numbered count few p.1 (subst (λ xs. Contains xs p.1) is.live (is.form.ends p.0 p.1 c).1)).high in
    let here : (i : ℕ) → i < length f.attacks → Contains f.attacks (slice_index_or f.attacks i (0, 0)) =
    λ i below. (i, below, get_or_default f.attacks i (slice_index_or f.attacks i (0, 0)) (0, 0) below) in
    let coded : (i : ℕ) (d : ℕ) → i < length f.attacks
    → get_or (map code f.attacks) i d ≡ code (slice_index_or f.attacks i (0, 0)) =
    λ i d below. get_or-map code f.attacks i (0, 0) d below in
    let long = length-map f.attacks code in
    let shorter : length (map code f.attacks) ≤ length (map code numbers) =
    no_longer (map code f.attacks) (map code numbers)
    (λ i j d less below same.
    let low : j < length f.attacks = omega (arith, below, long) in
    let lower : i < length f.attacks = omega (arith, less, low) in
    before_less _ _ (is.form.attacks_rise i j (0, 0) less low) (target _ (here i lower))
    (sym (coded i d lower) ∙ same ∙ coded j d low))
    (λ q c. let from = image_from code f.attacks q c in
    subst (λ x. Contains (map code numbers) x) from.2
    (image_there code numbers from.0 ((is.attacks_are from.0).0 from.1))) in
    let long' = length-map numbers code in
    omega (arith, shorter, long, long')
