-- Members of the fronts of lists, and literals by their signs and codes.
use Rattle.std.proofs.Common.{◌≡◌, ℕ, ◌<◌, ◌≤◌, ◌+◌, ◌*◌, List, [], ◌∷◌, ◌++◌, length}
use Rattle.std.proofs.Common.{get_or, take, arith, ap, sym, ◌∙◌, refl, Bool, true, false, length-take}
use Rattle.std.proofs.Common.{inl, inr, ⊎_elim}
use Rattle.std.specs.Prelude.{◌⊎◌, Contains, if◌then◌else◌}
use Rattle.std.proofs.Math.ListN.{set, length-set}
use Rattle.std.proofs.lemmas.List.{get_or-take, get_or-set_same, get_or-set_other}
use Rattle.std.proofs.lemmas.List.{get_or_default}
use Rattle.std.proofs.lemmas.List.Elements.{Contains-append_cases}
use Rattle.std.proofs.lemmas.Bool.{cases_lt, cases_eq}
use Rattle.lists.proofs.Membership.{Contains-nil, Contains-cons_cases}
use Rattle.plain_lits.specs.declared.lit.Lit.{Lit}
use Rattle.plain_lits.specs.Literals.{negation}
use Rattle.plain_lits.specs.Packed.{packed}
use Rattle.plain_lits.specs.Trails.{VarsDiffer}
use Rattle.plain_lits.proofs.LitOrder.{lit_same}
use Rattle.lists.proofs.TruthValues.{not_itself}

-- what stands in a front stands in the list
pub from_front : {X : Type 0} (n : ℕ) (xs : List X) (x : X) → Contains (take n xs) x → Contains xs x
from_front n xs x c =
    let at = c.0 in
    let lt = c.1 in
    let below : c.0 < n = omega (arith, length-take n xs) in
    (c.0, omega (arith, length-take n xs), sym (get_or-take n xs c.0 x below) ∙ c.2)

-- an item before an index stands in the front
pub in_front : {X : Type 0} (n i : ℕ) (xs : List X) (x d : X) → i < n → i < length xs → get_or xs i d ≡ x
    → Contains (take n xs) x
in_front n i xs x d lt within e =
    (i, omega (arith, length-take n xs), get_or-take n xs i x lt ∙ (get_or_default xs i x d within ∙ e))

-- and a longer front has what a shorter one has
pub longer_front : {X : Type 0} (n m : ℕ) (xs : List X) (x : X) → n ≤ m → Contains (take n xs) x
    → Contains (take m xs) x
longer_front n m xs x le c =
    let lt = c.1 in
    let below : c.0 < n = omega (arith, length-take n xs) in
    in_front m c.0 xs x x (omega arith) (omega (arith, length-take n xs)) (sym (get_or-take n xs c.0 x below) ∙ c.2)

-- what stands in a front that is one longer
pub front_cases : {X : Type 0} (n : ℕ) (xs : List X) (x : X) → Contains (take (n + 1) xs) x
    → Contains (take n xs) x ⊎ ((n < length xs) × (get_or xs n x ≡ x))
front_cases n xs x c =
    let lt = c.1 in
    let below : c.0 < n + 1 = omega (arith, length-take (n + 1) xs) in
    let within : c.0 < length xs = omega (arith, length-take (n + 1) xs) in
    let at : get_or xs c.0 x ≡ x = sym (get_or-take (n + 1) xs c.0 x below) ∙ c.2 in
    ⊎_elim (λ less. inl (in_front n c.0 xs x x less within at))
    (λ more. let e : c.0 ≡ n = omega arith in inr (omega arith, ap (λ k. get_or xs k x) (sym e) ∙ at))
    (cases_lt c.0 n)

-- an item that is replaced
pub set_cases : {X : Type 0} (xs : List X) (i : ℕ) (y x : X) → Contains (set xs i y) x → (y ≡ x) ⊎ Contains xs x
set_cases xs i y x c =
    let lt = c.1 in
    let within : c.0 < length xs = omega (arith, length-set xs i y) in
    ⊎_elim (λ e. inl (sym (ap (λ k. get_or (set xs i y) k x) e ∙ get_or-set_same xs i y x (omega arith)) ∙ c.2))
    (λ ne. inr (c.0, within, sym (get_or-set_other xs i c.0 y x ne) ∙ c.2))
    (cases_eq c.0 i)

-- an item that is added
pub pushed_cases : {X : Type 0} (xs : List X) (y x : X) → Contains (xs ++ y ∷ []) x → Contains xs x ⊎ (y ≡ x)
pushed_cases xs y x c =
    ⊎_elim (λ old. inl old) (λ new. ⊎_elim (λ e. inr e) (λ none. absurd (Contains-nil x none))
    (Contains-cons_cases y [] x new))
    (Contains-append_cases xs (y ∷ []) x c)

-- no literal is true and false
pub consistent : (lits : List Lit) (l : Lit) → VarsDiffer lits → Contains lits l → Contains lits (negation l) → ⊥
consistent lits l apart c n =
    let a : get_or lits c.0 l ≡ l = c.2 in
    let b : get_or lits n.0 l ≡ negation l = get_or_default lits n.0 l (negation l) n.1 ∙ n.2 in
    let same : c.0 ≡ n.0 = apart c.0 n.0 l c.1 n.1 (ap (λ (x : Lit). x.var) (a) ∙ sym (ap (λ (x : Lit). x.var) b)) in
    let e : l ≡ negation l = sym a ∙ (ap (λ k. get_or lits k l) same ∙ b) in
    not_itself l.positive (ap (λ (x : Lit). x.positive) e)

code_var : (v w : ℕ) (p q : Bool) → 2 * v + (if p then 1 else 0) ≡ 2 * w + (if q then 1 else 0) → (v ≡ w) × (p ≡ q)
code_var v w true true e = (omega arith, refl)
code_var v w false false e = (omega arith, refl)
code_var v w true false e = absurd (omega arith)
code_var v w false true e = absurd (omega arith)

-- literals of one code are the same
pub packed_same : (a b : Lit) → packed a ≡ packed b → a ≡ b
packed_same a b e = let h = code_var a.var b.var a.positive b.positive e in lit_same a b h.0 h.1

code_low : (v : ℕ) (p : Bool) (n : ℕ) → v < n → 2 * v + (if p then 1 else 0) < 2 * n
code_low v true n lt = omega arith
code_low v false n lt = omega arith

-- codes of known literals
pub packed_low : (l : Lit) (vars : ℕ) → l.var < vars → packed l < 2 * vars
packed_low l vars lt = code_low l.var l.positive vars lt
