-- A number's text in decimal spells the number.
use Rattle.std.proofs.Common.{◌≡◌, ℕ, ◌+◌, ◌-◌, ◌*◌, ◌/◌, ◌%◌, ◌^◌, ◌<◌, ◌≤◌, List, [], ◌∷◌, ◌++◌, length, ◌∙◌, arith}
use Rattle.std.specs.Prelude.{All}
use Rattle.std.specs.Fmt.{decimal}
use Rattle.std.proofs.lemmas.Fmt.{decimal_by_steps}
use Rattle.std.proofs.lemmas.List.{length-append}
use Rattle.std.proofs.lemmas.List.Elements.{All-nil, All-cons, All-append}
use Rattle.std.proofs.lemmas.List.Sums.{fold-append}
use Rattle.num_text.specs.Number.{IsNumber, IsDigit, digits_value}

-- digits of which a number is the value
record IsDecimalOf (n : ℕ) (ds : List ℕ) : Type 0 where
  some : 0 < length ds
  digits : All IsDigit ds
  value : digits_value ds ≡ n

digit : (d : ℕ) → d < 10 → IsDigit (48 + d)
digit d h = record { low = omega arith; high = omega arith }

one_digit : (n : ℕ) → n < 10 → IsDecimalOf n ((48 + n) ∷ [])
one_digit n h = record {
  some = omega arith;
  digits = All-cons IsDigit (48 + n) [] (digit n h) (All-nil IsDigit);
  value = omega arith;
}

more_digits : (n : ℕ) (ds : List ℕ) → 10 ≤ n → IsDecimalOf (n / 10) ds → IsDecimalOf n (ds ++ ((48 + n % 10) ∷ []))
more_digits n ds h p = record {
  some = omega (arith, length-append ds ((48 + n % 10) ∷ []));
  digits = All-append IsDigit ds ((48 + n % 10) ∷ []) p.digits
      (All-cons IsDigit (48 + n % 10) [] (digit (n % 10) (omega arith)) (All-nil IsDigit));
  value = fold-append (λ value byte. value * 10 + (byte - 48)) 0 ds ((48 + n % 10) ∷ [])
      ∙ (let v = p.value in omega (arith, v));
}

decimal_is : (n : ℕ) → n < 2 ^ 64 → IsDecimalOf n (decimal n)
decimal_is n h = decimal_by_steps IsDecimalOf one_digit more_digits n h

-- a number of 32 bits is spelled by its text in decimal
pub decimal_number : (n : ℕ) → n < 2 ^ 32 → IsNumber (decimal n) n
decimal_number n h =
    let d = decimal_is n (omega arith) in
    record { not_empty = d.some; digits = d.digits; value = d.value; fits = h }
