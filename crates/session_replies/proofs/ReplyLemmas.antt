-- Texts of numbered items, and the atoms of a body.
use Rattle.std.proofs.Common.{◌≡◌, ℕ, ◌+◌, ◌<◌, List, [], ◌∷◌, ◌++◌}
use Rattle.std.proofs.Common.{length, get_or, take, sym, ap, ◌∙◌, append_assoc, arith}
use Rattle.std.specs.Prelude.{Contains}
use Rattle.std.proofs.lemmas.List.{take_more, append-nil, length-take-le}
use Rattle.lists.specs.Members.{IsSetOf}
use Rattle.edit_rules.specs.AbaEdits.{in_order}
use Rattle.edit_rules.proofs.AbaRowForms.{in_order_rises, in_order_members}
use Rattle.session_replies.specs.Replies.{numbered}
use Rattle.lists.proofs.RisingLists.{same_rising}

-- the set of a body's atoms is the body in order
pub set_in_order : (body atoms : List ℕ) → IsSetOf (Contains body) atoms → atoms ≡ in_order body
set_in_order body atoms is = same_rising atoms (in_order body) is.rises (in_order_rises body) (λ a. (
  λ c. (in_order_members body a).1 ((is.members a).0 c),
  λ c. (is.members a).1 ((in_order_members body a).0 c),
))

number_is : (n : ℕ) → n ≡ n + 0
number_is n = omega arith

-- the text of items with one more
pub numbered_push : {X : Type 0} (text : ℕ → X → List ℕ) (n : ℕ) (xs : List X) (x : X)
    → numbered text n (xs ++ x ∷ []) ≡ numbered text n xs ++ text (n + length xs) x
numbered_push text n [] x = append-nil (text n x) ∙ ap (λ (k : ℕ). text k x) (number_is n)
numbered_push text n (y ∷ ys) x =
    ap (λ more. text n y ++ more) (numbered_push text (n + 1) ys x)
    ∙ sym (append_assoc (text n y) (numbered text (n + 1) ys) (text (n + 1 + length ys) x))
    ∙ ap (λ k. (text n y ++ numbered text (n + 1) ys) ++ text k x) (omega arith)

-- a text of numbered items, where the next item is added
pub numbered_more : {X : Type 0} (text : ℕ → X → List ℕ) (base old now : List ℕ) (xs : List X) (i : ℕ) (x : X)
    → i < length xs → x ≡ get_or xs i x → old ≡ base ++ numbered text 1 (take i xs)
    → now ≡ old ++ text (i + 1) x → now ≡ base ++ numbered text 1 (take (i + 1) xs)
numbered_more text base old now xs i x within is before more =
    let long : length (take i xs) ≡ i = length-take-le i xs (omega (arith, within)) in
    let front : take (i + 1) xs ≡ take i xs ++ x ∷ []
    = take_more xs i x within ∙ ap (λ y. take i xs ++ y ∷ []) (sym is) in
    more ∙ ap (λ b. b ++ text (i + 1) x) before
    ∙ append_assoc base (numbered text 1 (take i xs)) (text (i + 1) x)
    ∙ ap (λ k. base ++ (numbered text 1 (take i xs) ++ text k x)) (omega (arith, long))
    ∙ ap (λ b. base ++ b) (sym (numbered_push text 1 (take i xs) x))
    ∙ ap (λ ys. base ++ numbered text 1 ys) (sym front)
