-- The form of a line, by its parts.
use Rattle.std.proofs.Common.{◌≡◌, ℕ, ◌+◌, ◌≤◌, true, false, List, [], ◌∷◌, ◌++◌, length, length-append, append_assoc, inl, inr, ap, sym, refl, ◌∙◌, arith}
use Rattle.std.specs.Prelude.{◌↔◌}
use Rattle.std.proofs.lemmas.Bool.{cases_Bool, false≢true}
use Rattle.lrat_text.specs.Numbers.{has_zero, zeros, before_zero, behind_zero, is_filled, is_zero}
use Rattle.lrat_text.specs.LratText.{HasForm}
use Rattle.lrat_text.proofs.LineParts.{CutAtZero, cut_at_zero, no_zero, last_field, last_behind, last_no_zero, zeros-here, zeros-later, zeros-nil}

-- the last field of a line that is cut at a zero
last_at : (id : List ℕ) (rest : List (List ℕ)) (cut : CutAtZero rest) (behind : List (List ℕ)) → behind_zero rest ≡ behind
    → last_field (id ∷ rest) ≡ last_field (cut.mark ∷ behind)
last_at id rest cut behind e =
    ap (λ r. last_field (id ∷ r)) (cut.cut ∙ ap (λ b. before_zero rest ++ cut.mark ∷ b) e)
    ∙ last_behind (id ∷ before_zero rest) cut.mark behind

-- fields behind the first zero of which none is a zero, but which are there
not_last : (id : List ℕ) (rest : List (List ℕ)) (cut : CutAtZero rest) (behind : List (List ℕ)) → behind_zero rest ≡ behind
    → zeros behind ≡ 0 → is_zero (last_field (id ∷ rest)) ≡ true → behind ≡ []
not_last id rest cut [] e none closed = refl
not_last id rest cut (x ∷ xs) e none closed =
    let last : last_field (id ∷ rest) ≡ last_field (x ∷ xs)
    = last_at id rest cut (x ∷ xs) e ∙ last_behind (cut.mark ∷ []) x xs in
    absurd (false≢true (sym (last_no_zero x xs none) ∙ (ap is_zero (sym last) ∙ closed)))

last_is : (id : List ℕ) (rest : List (List ℕ)) (cut : CutAtZero rest) → behind_zero rest ≡ []
    → is_zero (last_field (id ∷ rest)) ≡ true
last_is id rest cut e = ap is_zero (last_at id rest cut [] e) ∙ cut.is

length_cut : (rest : List (List ℕ)) (cut : CutAtZero rest)
    → length rest ≡ length (before_zero rest) + 1 + length (behind_zero rest)
length_cut rest cut =
    let a = ap length cut.cut in
    let b = length-append (before_zero rest) (cut.mark ∷ behind_zero rest) in
    omega (arith, a, b)

-- ---- an id that is no zero

pub form_unclosed : (id : List ℕ) (rest : List (List ℕ)) → is_zero id ≡ false → has_zero rest ≡ true
    → has_zero (behind_zero rest) ≡ false → HasForm (id ∷ rest) → ⊥
form_unclosed id rest plain closed open_end h =
    let cut = cut_at_zero rest closed in
    let two = h.two in
    let a = zeros-later id rest plain in
    let b = cut.counted in
    let d = (no_zero (behind_zero rest) open_end).0 in
    omega (arith, two, a, b, d)

pub form_done : (id : List ℕ) (rest : List (List ℕ)) → is_zero id ≡ false → has_zero rest ≡ true
    → has_zero (behind_zero rest) ≡ true → (behind_zero (behind_zero rest) ≡ []) ↔ HasForm (id ∷ rest)
form_done id rest plain closed again =
    let cut = cut_at_zero rest closed in
    let next = cut_at_zero (behind_zero rest) again in
    let a = zeros-later id rest plain in
    let b = cut.counted in
    let d = next.counted in
    let whole : rest ≡ (before_zero rest ++ cut.mark ∷ before_zero (behind_zero rest))
    ++ next.mark ∷ behind_zero (behind_zero rest) = cut.cut ∙ (ap (λ r. before_zero rest ++ cut.mark ∷ r) next.cut
    ∙ sym (append_assoc (before_zero rest) (cut.mark ∷ before_zero (behind_zero rest))
    (next.mark ∷ behind_zero (behind_zero rest)))) in
    let front : List (List ℕ) = id ∷ (before_zero rest ++ cut.mark ∷ before_zero (behind_zero rest)) in
    let last : last_field (id ∷ rest) ≡ last_field (next.mark ∷ behind_zero (behind_zero rest))
    = ap (λ r. last_field (id ∷ r)) whole ∙ last_behind front next.mark (behind_zero (behind_zero rest)) in (
      λ e.
          let none = ap zeros e in
          let nil = zeros-nil in
          let l1 = length_cut rest cut in
          let l2 = length_cut (behind_zero rest) next in
          record {
            long = omega (arith, l1, l2);
            closed = ap is_zero (last ∙ ap (λ r. last_field (next.mark ∷ r)) e) ∙ next.is;
            two = omega (arith, a, b, d, none, nil);
          },
      λ h.
          let two = h.two in
          ended next.mark (behind_zero (behind_zero rest)) (omega (arith, a, b, d, two))
          (ap is_zero (sym last) ∙ h.closed),
    )
  where
    ended : (mark : List ℕ) (behind : List (List ℕ)) → zeros behind ≡ 0
        → is_zero (last_field (mark ∷ behind)) ≡ true → behind ≡ []
    ended mark [] none closed = refl
    ended mark (x ∷ xs) none closed = absurd (false≢true (sym (last_no_zero x xs none)
        ∙ (ap is_zero (sym (last_behind (mark ∷ []) x xs)) ∙ closed)))

-- no zero behind the id
pub form_open : (id : List ℕ) (rest : List (List ℕ)) → has_zero rest ≡ false → HasForm (id ∷ rest) → ⊥
form_open id rest none h =
    let two = h.two in
    let zero_count = (no_zero rest none).0 in
    let bound = zeros_bound id rest in
    omega (arith, two, zero_count, bound)
  where
    zeros_bound : (f : List ℕ) (fs : List (List ℕ)) → zeros (f ∷ fs) ≤ 1 + zeros fs
    zeros_bound f fs = elim (cases_Bool (is_zero f)) [
      | inl e ↦ let a = zeros-here f fs e in omega (arith, a)
      | inr e ↦ let a = zeros-later f fs e in omega (arith, a)
    ]

-- ---- an id that is a zero

pub form_third : (id : List ℕ) (rest : List (List ℕ)) → is_zero id ≡ true → has_zero rest ≡ true
    → has_zero (behind_zero rest) ≡ true → HasForm (id ∷ rest) → ⊥
form_third id rest here closed again h =
    let two = h.two in
    let a = zeros-here id rest here in
    let b = (cut_at_zero rest closed).counted in
    let d = (cut_at_zero (behind_zero rest) again).counted in
    omega (arith, two, a, b, d)

pub form_more : (id : List ℕ) (rest : List (List ℕ)) → is_zero id ≡ true → has_zero rest ≡ true
    → has_zero (behind_zero rest) ≡ false → is_filled (before_zero (behind_zero rest)) ≡ true → HasForm (id ∷ rest) → ⊥
form_more id rest here closed none filled h =
    let behind = no_zero (behind_zero rest) none in
    let nothing : behind_zero rest ≡ [] = not_last id rest (cut_at_zero rest closed) (behind_zero rest) refl behind.0
    h.closed in
    false≢true (sym (ap is_filled (behind.1 ∙ nothing)) ∙ filled)

empty_of : (fields : List (List ℕ)) → is_filled fields ≡ false → fields ≡ []
empty_of [] e = refl
empty_of (f ∷ fs) e = absurd (false≢true (sym e))

filled_long : (fields : List (List ℕ)) → is_filled fields ≡ true → 1 ≤ length fields
filled_long [] e = absurd (false≢true e)
filled_long (f ∷ fs) e = omega arith

long_filled : (fields : List (List ℕ)) → 1 ≤ length fields → is_filled fields ≡ true
long_filled [] e = absurd (omega arith)
long_filled (f ∷ fs) e = refl

pub form_zero : (id : List ℕ) (rest : List (List ℕ)) → is_zero id ≡ true → has_zero rest ≡ true
    → has_zero (behind_zero rest) ≡ false → is_filled (before_zero (behind_zero rest)) ≡ false
    → (is_filled (before_zero rest) ≡ true) ↔ HasForm (id ∷ rest)
form_zero id rest here closed none empty =
    let cut = cut_at_zero rest closed in
    let behind = no_zero (behind_zero rest) none in
    let nothing : behind_zero rest ≡ [] = sym behind.1 ∙ empty_of (before_zero (behind_zero rest)) empty in
    let long = length_cut rest cut in
    let no_more = ap length nothing in (
      λ filled.
          let some = filled_long (before_zero rest) filled in
          let a = zeros-here id rest here in
          let b = cut.counted in
          record {
            long = omega (arith, long, some);
            closed = last_is id rest cut nothing;
            two = let d = behind.0 in omega (arith, a, b, d);
          },
      λ h. let l = h.long in long_filled (before_zero rest) (omega (arith, l, long, no_more)),
    )
