-- Where a field of digits ends.
use Rattle.std.proofs.Common.{◌≡◌, ℕ, zero, suc, ◌+◌, ◌*◌, ◌^◌, ◌<◌, ◌≤◌, true, false, List, [], ◌∷◌, length, take, get_or, refl, sym, ap, subst, ◌∙◌, inl, inr, arith, add-one}
use Rattle.std.proofs.Math.Nat.{pow-suc, pow-le-pow_right}
use Rattle.std.specs.Prelude.{All}
use Rattle.std.specs.List.{position_or_len}
use Rattle.std.proofs.lemmas.List.{length-take-le, get_or-take}
use Rattle.std.proofs.lemmas.List.Sums.{fails_before_first, passes_at_first}
use Rattle.std.proofs.lemmas.Bool.{cases_lt}
use Rattle.num_text.specs.Cuts.{is_blank}
use Rattle.num_text.specs.Number.{IsDigit}
use Rattle.num_text.specs.Numerals.{IsFieldEnd}
use Rattle.num_text.proofs.CutLemmas.{position_or_len-le}
use Rattle.num_text.proofs.DigitFields.{no_blanks}

-- no blank stands among the first digits of bytes
none_before : (bytes : List ℕ) (n i : ℕ) → All IsDigit (take n bytes) → n ≤ length bytes → i < n
    → is_blank (get_or bytes i 0) ≡ false
none_before bytes n i digits within below =
    subst (λ byte. is_blank byte ≡ false) (get_or-take n bytes i 0 below)
    (no_blanks (take n bytes) digits i 0 (omega (arith, length-take-le n bytes within)))

-- the first blank stands where the digits end
pub field_of_digits : (bytes : List ℕ) (n : ℕ) → n ≤ length bytes → All IsDigit (take n bytes) → IsFieldEnd bytes n
    → n ≡ position_or_len is_blank bytes
field_of_digits bytes n within digits end =
    let p = position_or_len is_blank bytes in
    let upto = position_or_len-le is_blank bytes in
    elim (cases_lt p n) [
      | inl below ↦
          let passes = passes_at_first is_blank bytes 0 (omega arith) in
          let bad : true ≡ false = sym passes ∙ none_before bytes n p digits within below in cc
      | inr above ↦ elim (cases_lt n p) [
        | inl below ↦ elim end [
          | inl e ↦ omega arith
          | inr blank ↦ let bad : true ≡ false = sym blank ∙ fails_before_first is_blank bytes n 0 below in cc
        ]
        | inr same ↦ omega arith
      ]
    ]

-- where there are first digits, there are bytes
pub some_digits : (bytes : List ℕ) (n : ℕ) → 0 < length (take n bytes) → 0 < length bytes
some_digits [] zero some = some
some_digits [] (suc n) some = some
some_digits (b ∷ bs) n some = omega arith

-- one digit more, where there are fewer than nine
pub one_more : (value n most d : ℕ) → value < 10 ^ n → n < most → most ≤ 9 → d < 10
    → (value * 10 + d < 10 ^ (n + 1)) × (value * 10 + d < 2 ^ 32)
one_more value n most d below lt few digit =
    let next : 10 ^ (n + 1) ≡ 10 ^ n * 10 = ap (λ k. 10 ^ k) (add-one n) ∙ pow-suc 10 n in
    let le : n + 1 ≤ 9 = omega arith in
    let fits : 10 ^ (n + 1) ≤ 10 ^ 9 = pow-le-pow_right (omega arith) le in
    let nine : 10 ^ 9 ≡ 1000000000 = refl in
    (omega arith, omega arith)
