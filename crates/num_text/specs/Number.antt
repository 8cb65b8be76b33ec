-- Numbers in decimal.
use Rattle.std.specs.Prelude.{◌≡◌, ℕ, ◌+◌, ◌-◌, ◌*◌, ◌^◌, ◌<◌, ◌≤◌, List, length, All, fold}

-- an ASCII digit, from `0` to `9`
pub record IsDigit (byte : ℕ) : Type 0 where
  pub low : 48 ≤ byte
  pub high : byte ≤ 57

-- the value of digits in base ten, the first digit weighing most
abbrev pub digits_value : List ℕ → ℕ
digits_value bytes = fold (λ value byte. value * 10 + (byte - 48)) 0 bytes

-- the bytes spell the number n: one or more digits, of any leading zeros, whose value fits 32 bits
pub record IsNumber (bytes : List ℕ) (n : ℕ) : Type 0 where
  pub not_empty : 0 < length bytes
  pub digits : All IsDigit bytes
  pub value : digits_value bytes ≡ n
  pub fits : n < 2 ^ 32
