-- Sets in order, from each to the next.
use Rattle.std.proofs.Common.{◌≡◌, ◌+◌, ◌-◌, ◌<◌, ◌≤◌, ⊎_elim, ℕ, zero, suc, Bool, true, false, not, List, [], length, arith, refl, sym, subst, ◌∙◌}
use Rattle.std.specs.Prelude.{◌↔◌, IsTrue, Contains, slice_index_or}
use Rattle.std.specs.declared.cmp.Ordering.TheVariants.{Less}
use Rattle.std.specs.Ordering.{nat_cmp}
use Rattle.std.specs.Cmp.Lexicographic.{slice_cmp}
use Rattle.std.proofs.lemmas.Bool.{cases_eq}
use Rattle.std.proofs.lemmas.Cmp.{nat_list_cmp_total}
use Rattle.std.proofs.lemmas.List.{get_or_default}
use Rattle.lists.specs.Members.{IsWithin}
use Rattle.iccma_tasks.specs.semantics.proofs.Decided.{decide_each, decide_member}
use Rattle.certificate_claims.specs.Acceptance.{NoneWithin}
use Rattle.certificate_claims.specs.Orders.{HasLarger, IsPart, IsPartOfAny, IsSomePart}
use Rattle.certificate_claims.specs.Rights.{SetsRise}
use Rattle.lists.proofs.Walks.{WalkedAny, any_members}

-- each of the first n sets comes before the next one
abbrev pub RiseSoFar : List (List ℕ) → ℕ → Type 0
RiseSoFar sets n = (k : ℕ) → k + 1 < n
    → slice_cmp nat_cmp (slice_index_or sets k []) (slice_index_or sets (k + 1) []) ≡ Less

pub rise_one : (sets : List (List ℕ)) → RiseSoFar sets 1
rise_one sets k lt = absurd (omega arith)

pub rise_more : (sets : List (List ℕ)) (n : ℕ) → 1 ≤ n → RiseSoFar sets n
    → slice_cmp nat_cmp (slice_index_or sets (n - 1) []) (slice_index_or sets n []) ≡ Less
    → RiseSoFar sets (n + 1)
rise_more sets n low before next k lt =
    ⊎_elim
    (λ (e : k + 1 ≡ n).
    let back : n - 1 ≡ k = omega arith in
    subst (λ j. slice_cmp nat_cmp (slice_index_or sets k []) (slice_index_or sets j []) ≡ Less) (sym e)
    (subst (λ i. slice_cmp nat_cmp (slice_index_or sets i []) (slice_index_or sets n []) ≡ Less) back next))
    (λ differ. before k (omega (arith, differ)))
    (cases_eq (k + 1) n)

rise_by : (sets : List (List ℕ)) → RiseSoFar sets (length sets) → (d i : ℕ) → i + 1 + d < length sets
    → slice_cmp nat_cmp (slice_index_or sets i []) (slice_index_or sets (i + 1 + d) []) ≡ Less
rise_by sets rise zero i lt =
    let at : i + 1 ≡ i + 1 + 0 = omega arith in
    subst (λ k. slice_cmp nat_cmp (slice_index_or sets i []) (slice_index_or sets k []) ≡ Less) at
    (rise i (omega arith))
rise_by sets rise (suc d) i lt =
    let at : i + 1 + d + 1 ≡ i + 1 + suc d = omega arith in
    subst (λ k. slice_cmp nat_cmp (slice_index_or sets i []) (slice_index_or sets k []) ≡ Less) at
    (nat_list_cmp_total.trans (slice_index_or sets i []) (slice_index_or sets (i + 1 + d) [])
    (slice_index_or sets (i + 1 + d + 1) []) (rise_by sets rise d i (omega arith)) (rise (i + 1 + d) (omega arith)))

pub rise_all : (sets : List (List ℕ)) (n : ℕ) → length sets ≤ n → RiseSoFar sets n → SetsRise sets
rise_all sets n end rise i j less within =
    let at : i + 1 + (j - (i + 1)) ≡ j = omega arith in
    subst (λ k. slice_cmp nat_cmp (slice_index_or sets i []) (slice_index_or sets k []) ≡ Less) at
    (rise_by sets (λ k lt. rise k (omega arith)) (j - (i + 1)) i (omega arith))

-- a set that doesn't come before the next one
pub falls : (sets : List (List ℕ)) (n : ℕ) (s t : List ℕ) (before : Bool) → 1 ≤ n → n < length sets
    → s ≡ slice_index_or sets (n - 1) s → t ≡ slice_index_or sets n t → before ≡ false
    → (IsTrue before ↔ (slice_cmp nat_cmp s t ≡ Less)) → SetsRise sets → ⊥
falls sets n s t before low high is_s is_t fails tells rise =
    let first : slice_index_or sets (n - 1) [] ≡ s = get_or_default sets (n - 1) [] s (omega arith) ∙ sym is_s in
    let second : slice_index_or sets n [] ≡ t = get_or_default sets n [] t high ∙ sym is_t in
    let less : slice_cmp nat_cmp s t ≡ Less =
    subst (λ x. slice_cmp nat_cmp x t ≡ Less) first
    (subst (λ y. slice_cmp nat_cmp (slice_index_or sets (n - 1) []) y ≡ Less) second
    (rise (n - 1) n (omega arith) high)) in
    let true_ : before ≡ true = tells.1 less in absurd (cc)

within_or_more : (s t : List ℕ) → (IsPart s t → ⊥) → IsWithin s t → IsWithin t s
within_or_more s t none sub =
    ⊎_elim (λ h. h) (λ no. absurd (none (record { within = sub; more = no })))
    (decide_each (Contains s) (decide_member s) t)

pub none_where_no_part : (sets : List (List ℕ)) (some_ : Bool) → (IsTrue some_ ↔ IsSomePart sets)
    → (IsTrue (not some_) ↔ NoneWithin sets)
none_where_no_part sets true tells = (
  λ h. absurd (cc),
  λ none. let w = tells.0 refl in let p = w.2.part in absurd (p.2.more (none w.0 p.0 w.1 p.1 p.2.within)),
)
none_where_no_part sets false tells = (
  λ h s t cs ct sub. within_or_more s t
      (λ part. let no : false ≡ true = tells.1 (s, cs, record { part = (t, ct, part) }) in absurd (cc)) sub,
  λ none. refl,
)

pub larger_tells : (sets : List (List ℕ)) (s : List ℕ) (b : Bool) → (IsTrue b ↔ IsPartOfAny s sets)
    → (IsTrue b ↔ HasLarger sets s)
larger_tells sets s b tells = (λ h. record { part = tells.0 h }, λ w. tells.1 w.part)

pub some_part : (sets : List (List ℕ)) (r : Bool) → WalkedAny (HasLarger sets) sets r → (IsTrue r ↔ IsSomePart sets)
some_part sets r walk =
    let found = any_members (HasLarger sets) sets r walk in (λ e. found.0 e, λ w. found.1 w)
