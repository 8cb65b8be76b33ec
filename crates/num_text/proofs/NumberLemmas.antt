-- Values of digits.
use Rattle.std.proofs.Common.{◌≡◌, ℕ, zero, suc, ◌+◌, ◌-◌, ◌*◌, ◌<◌, ◌≤◌, List, [], ◌∷◌, length, take, get_or, fold, arith}
use Rattle.std.proofs.lemmas.List.Sums.{fold_more}
use Rattle.num_text.specs.Number.{digits_value}

-- more digits never lower a value
le_fold : (v : ℕ) (bytes : List ℕ) → v ≤ fold (λ value byte. value * 10 + (byte - 48)) v bytes
le_fold v [] = omega arith
le_fold v (b ∷ bs) = let h = le_fold (v * 10 + (b - 48)) bs in omega arith

-- the value of the first digits, from a value on
fold-take-le : (v : ℕ) (bytes : List ℕ) (i : ℕ)
    → fold (λ value byte. value * 10 + (byte - 48)) v (take i bytes) ≤ fold
    (λ value byte. value * 10 + (byte - 48)) v bytes
fold-take-le v [] zero = omega arith
fold-take-le v [] (suc i) = omega arith
fold-take-le v (b ∷ bs) zero = le_fold v (b ∷ bs)
fold-take-le v (b ∷ bs) (suc i) = fold-take-le (v * 10 + (b - 48)) bs i

-- the first digits' value is no larger than the whole value
pub digits_value-take-le : (bytes : List ℕ) (i : ℕ) → digits_value (take i bytes) ≤ digits_value bytes
digits_value-take-le bytes i = fold-take-le 0 bytes i

-- the value with one more digit
pub digits_value_more : (bytes : List ℕ) (i : ℕ) → i < length bytes
    → digits_value (take (i + 1) bytes) ≡ digits_value (take i bytes) * 10 + (get_or bytes i 0 - 48)
digits_value_more bytes i h = fold_more (λ value byte. value * 10 + (byte - 48)) 0 bytes i 0 h
