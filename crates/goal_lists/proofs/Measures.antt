-- What falls with each turn of a loop.
use Rattle.std.proofs.Common.{◌≡◌, ⊎_elim, ℕ, ◌<◌, ◌≤◌, Bool, true, false, not, List, [], ◌∷◌, length, map, filter, refl, ap, subst, ◌∙◌, arith}
use Rattle.std.specs.Prelude.{Contains}
use Rattle.std.specs.List.{list_any}
use Rattle.std.proofs.lemmas.Bool.{cases_Bool, not_from_false, false_from_ne_true}
use Rattle.std.proofs.lemmas.List.Elements.{Contains-append_left, Contains-append_right}
use Rattle.lists.specs.Members.{IsWithin}
use Rattle.lists.proofs.Filters.{Contains-filter}
use Rattle.lists.proofs.ListTests.{all_from, all_gives, any_from, any_gives}
use Rattle.lists.proofs.Membership.{Contains-nil, Contains-head, Contains-cons_cases}
use Rattle.plain_lits.proofs.HintCheckLemmas.{Contains-mapped}
use Rattle.semantics.proofs.Decided.{search_list, found_in, decide_not, decide_member}
use Rattle.certificate_claims.proofs.SetTests.{has_from, has_gives}
use Rattle.certificate_claims.specs.SetLiterals.{has}
use Rattle.goal_lists.specs.AllSets.{all_sets, is_part}

-- fewer items pass a narrower test
fewer_pass : {X : Type 0} (p q : X → Bool) (xs : List X) → ((y : X) → q y ≡ true → p y ≡ true)
    → length (filter q xs) ≤ length (filter p xs)
fewer_pass p q [] narrower = omega arith
fewer_pass p q (y ∷ ys) narrower =
    let more = fewer_pass p q ys narrower in
    ⊎_elim
    (λ passes. let e : length (filter q (y ∷ ys)) ≡ length (y ∷ filter q ys) = rw passes refl in
    let d : length (filter p (y ∷ ys)) ≡ length (y ∷ filter p ys) = rw (narrower y passes) refl in
    omega arith)
    (λ fails. let e : length (filter q (y ∷ ys)) ≡ length (filter q ys) = rw fails refl in
    ⊎_elim
    (λ passes. let d : length (filter p (y ∷ ys)) ≡ length (y ∷ filter p ys) = rw passes refl in omega arith)
    (λ none. let d : length (filter p (y ∷ ys)) ≡ length (filter p ys) = rw none refl in omega arith)
    (cases_Bool (p y)))
    (cases_Bool (q y))

-- and strictly fewer where some item passes the wider test alone
pub strictly_fewer : {X : Type 0} (p q : X → Bool) (xs : List X) (x : X) → ((y : X) → q y ≡ true → p y ≡ true)
    → Contains xs x → p x ≡ true → q x ≡ false → length (filter q xs) < length (filter p xs)
strictly_fewer p q [] x narrower c passes fails = absurd (Contains-nil x c)
strictly_fewer p q (y ∷ ys) x narrower c passes fails =
    ⊎_elim
    (λ e. let out : q y ≡ false = ap q e ∙ fails in
    let inside : p y ≡ true = ap p e ∙ passes in
    let here : length (filter q (y ∷ ys)) ≡ length (filter q ys) = rw out refl in
    let there : length (filter p (y ∷ ys)) ≡ length (y ∷ filter p ys) = rw inside refl in
    let more = fewer_pass p q ys narrower in
    omega arith)
    (λ later.
    let more = strictly_fewer p q ys x narrower later passes fails in
    ⊎_elim
    (λ pass. let e : length (filter q (y ∷ ys)) ≡ length (y ∷ filter q ys) = rw pass refl in
    let d : length (filter p (y ∷ ys)) ≡ length (y ∷ filter p ys) = rw (narrower y pass) refl in
    omega arith)
    (λ fail. let e : length (filter q (y ∷ ys)) ≡ length (filter q ys) = rw fail refl in
    ⊎_elim
    (λ pass. let d : length (filter p (y ∷ ys)) ≡ length (y ∷ filter p ys) = rw pass refl in omega arith)
    (λ none. let d : length (filter p (y ∷ ys)) ≡ length (filter p ys) = rw none refl in omega arith)
    (cases_Bool (p y)))
    (cases_Bool (q y)))
    (Contains-cons_cases y ys x c)

-- ---- members outside a set

-- a set that doesn't lie in another has a member outside it
pub some_outside : (s e : List ℕ) → (IsWithin s e → ⊥) → (x : ℕ) × Contains s x × (Contains e x → ⊥)
some_outside s e none =
    let Out : ℕ → Type 0 = λ x. Contains e x → ⊥ in
    ⊎_elim
    (λ found. (found.item, found_in Out s found, found.holds))
    (λ all. absurd (none (λ x c. ⊎_elim (λ k. k) (λ out. absurd (all x c out)) (decide_member e x))))
    (search_list Out (λ x. decide_not (decide_member e x)) s)

pub lacks : (e : List ℕ) (x : ℕ) → (Contains e x → ⊥) → not (has e x) ≡ true
lacks e x out = not_from_false (has e x) (false_from_ne_true (has e x) (λ h. out (has_gives e x h)))

pub not_true : (b : Bool) → b ≡ true → not b ≡ false
not_true true h = refl
not_true false h = absurd (cc)

pub not_both : (b : Bool) → b ≡ true → not b ≡ true → ⊥
not_both true h k = absurd (cc)
not_both false h k = absurd (cc)

-- a larger set leaves fewer of the numbers outside
pub fewer_outside : (numbers e s : List ℕ) → IsWithin s numbers → IsWithin e s → (IsWithin s e → ⊥)
    → length (filter (λ x. not (has s x)) numbers) < length (filter (λ x. not (has e x)) numbers)
fewer_outside numbers e s live sub more =
    let out = some_outside s e more in
    strictly_fewer (λ x. not (has e x)) (λ x. not (has s x)) numbers out.0
    (λ y h. lacks e y (λ c. not_both (has s y) (has_from s y (sub y c)) h))
    (live out.0 out.1) (lacks e out.0 out.2) (not_true (has s out.0) (has_from s out.0 out.1))

-- ---- sets

-- what a test keeps of numbers is one of their sets
pub kept_is_set : (p : ℕ → Bool) (numbers : List ℕ) → Contains (all_sets numbers) (filter p numbers)
kept_is_set p [] = Contains-head [] [] [] refl
kept_is_set p (x ∷ xs) =
    let more = kept_is_set p xs in
    ⊎_elim
    (λ passes. let e : x ∷ filter p xs ≡ filter p (x ∷ xs) = rw passes refl in
    subst (λ (s : List ℕ). Contains (all_sets (x ∷ xs)) s) e
    (Contains-append_left (map (λ set. x ∷ set) (all_sets xs)) (all_sets xs) (x ∷ filter p xs)
    (Contains-mapped (λ set. x ∷ set) (all_sets xs) (filter p xs) more)))
    (λ fails. let e : filter p xs ≡ filter p (x ∷ xs) = rw fails refl in
    subst (λ (s : List ℕ). Contains (all_sets (x ∷ xs)) s) e
    (Contains-append_right (map (λ set. x ∷ set) (all_sets xs)) (all_sets xs) (filter p xs) more))
    (cases_Bool (p x))

pub part_from : (s t : List ℕ) → IsWithin s t → is_part s t ≡ true
part_from s t sub = all_from (has t) s (λ x c. has_from t x (sub x c))

pub part_gives : (s t : List ℕ) → is_part s t ≡ true → IsWithin s t
part_gives s t h x c = has_gives t x (all_gives (has t) s h x c)

-- ---- sets that no listed set covers

-- how many sets of the numbers no listed set covers, as the test says
abbrev pub left_open : (List ℕ → List ℕ → Bool) → List ℕ → List (List ℕ) → ℕ
left_open covered numbers sets = length (filter (λ s. not (list_any (covered s) sets)) (all_sets numbers))

-- fewer where more are listed, of which one covers a set that none of those before did
pub fewer_left : (covered : List ℕ → List ℕ → Bool) (numbers : List ℕ) (old new : List (List ℕ)) (e s : List ℕ)
    → ((d : List ℕ) → Contains old d → Contains new d) → Contains new e → Contains (all_sets numbers) s
    → covered s e ≡ true → ((d : List ℕ) → Contains old d → covered s d ≡ true → ⊥)
    → left_open covered numbers new < left_open covered numbers old
fewer_left covered numbers old new e s more last there covers none =
    strictly_fewer (λ t. not (list_any (covered t) old)) (λ t. not (list_any (covered t) new)) (all_sets numbers) s
    (λ t still. not_from_false (list_any (covered t) old) (false_from_ne_true (list_any (covered t) old)
    (λ h. let m = any_gives (covered t) old h in
    not_both (list_any (covered t) new) (any_from (covered t) new m.0 (more m.0 m.1) m.2) still)))
    there
    (not_from_false (list_any (covered s) old) (false_from_ne_true (list_any (covered s) old)
    (λ h. let m = any_gives (covered s) old h in none m.0 m.1 m.2)))
    (not_true (list_any (covered s) new) (any_from (covered s) new e last covers))

-- the members of a set as one of the framework's sets
pub same_as_kept : (numbers e : List ℕ) → IsWithin e numbers
    → IsWithin (filter (has e) numbers) e × IsWithin e (filter (has e) numbers)
same_as_kept numbers e live = (
  λ x c. has_gives e x ((Contains-filter (has e) numbers x).0 c).1,
  λ x c. (Contains-filter (has e) numbers x).1 (live x c, has_from e x c),
)
