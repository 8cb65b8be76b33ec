-- What a loop over parts keeps, and how the parts add up.
use Rattle.std.proofs.Common.{◌≡◌, ℕ, ◌+◌, ◌-◌, ◌≤◌, List, [], ◌++◌, length, take, drop, Option, None, Some, ap, arith, append_assoc}
use Rattle.std.proofs.KnownBytes.{Appends-trans}
use Rattle.std.proofs.Math.Seq.{take-add}
use Rattle.std.proofs.lemmas.Grind.{common_steps}
use Rattle.std.specs.Io.KnownBytes.{Appends}
use Rattle.argue_outside.specs.Outside.{KnownFile, Adds, Fetches}

-- these are the first bytes of the name, as far as that is known
abbrev pub HoldsFirst : KnownFile → List ℕ → Type 0
HoldsFirst None bytes = Unit {0}
HoldsFirst (Some None) bytes = bytes ≡ []
HoldsFirst (Some (Some held)) bytes = (bytes ≡ take (length bytes) held) × (length bytes ≤ length held)

-- a prefix of the slice from t on is a prefix of the list from t on
pub take_rest : (xs : List ℕ) (t n : ℕ) → take n (take (length xs - t) (drop t xs)) ≡ take n (drop t xs)
take_rest xs t n = grind (arith, common_steps)

pub stays_within : (xs : List ℕ) (t n : ℕ) → t ≤ length xs → n ≤ length (take (length xs - t) (drop t xs))
    → t + n ≤ length xs
stays_within xs t n h k = grind (arith, common_steps)

pub Adds-trans : (a b d : KnownFile) (x y : List ℕ) → Adds a b x → Adds b d y → Adds a d (x ++ y)
Adds-trans None b d x y p q = tt
Adds-trans (Some a) None d x y p q = absurd p
Adds-trans (Some None) (Some None) None x y p q = absurd q
Adds-trans (Some None) (Some None) (Some None) x y p q = rw p q
Adds-trans (Some None) (Some None) (Some (Some d)) x y p q = rw p q
Adds-trans (Some None) (Some (Some b)) None x y p q = absurd q
Adds-trans (Some None) (Some (Some b)) (Some None) x y p q = absurd q
Adds-trans (Some None) (Some (Some b)) (Some (Some d)) x y p q = rw (← p) q
Adds-trans (Some (Some a)) (Some None) d x y p q = absurd p
Adds-trans (Some (Some a)) (Some (Some b)) None x y p q = absurd q
Adds-trans (Some (Some a)) (Some (Some b)) (Some None) x y p q = absurd q
Adds-trans (Some (Some a)) (Some (Some b)) (Some (Some d)) x y p q = cc (append_assoc a x y)

-- one more part of the bytes that a sink is given
pub Appends-more : (a b d : Option (List ℕ)) (xs : List ℕ) (t n : ℕ) → Appends a b (take t xs)
    → Appends b d (take n (take (length xs - t) (drop t xs))) → Appends a d (take (t + n) xs)
Appends-more a b d xs t n p q = rw (take-add, ← take_rest xs t n) (Appends-trans a b d _ _ p q)

-- one more part of the bytes that a name is given
pub Adds-more : (a b d : KnownFile) (xs : List ℕ) (t n : ℕ) → Adds a b (take t xs)
    → Adds b d (take n (take (length xs - t) (drop t xs))) → Adds a d (take (t + n) xs)
Adds-more a b d xs t n p q = rw (take-add, ← take_rest xs t n) (Adds-trans a b d _ _ p q)

-- one more piece of a name that is read from its front
pub HoldsFirst-more : (known : KnownFile) (bytes buf : List ℕ) (n : ℕ) → n ≤ length buf → HoldsFirst known bytes
    → Fetches known (length bytes) n buf → HoldsFirst known (bytes ++ take n buf)
HoldsFirst-more None bytes buf n bound p q = tt
HoldsFirst-more (Some None) bytes buf n bound p q = absurd q
HoldsFirst-more (Some (Some held)) bytes buf n bound p q =
    let len : length (bytes ++ take n buf) ≡ length bytes + n = grind (arith, common_steps) in
    let joined : bytes ++ take n buf ≡ take (length bytes) held ++ take n (drop (length bytes) held) =
    rw (← q.piece) (ap (λ v. v ++ take n buf) p.0) in
    let within : n ≤ length held - length bytes = q.within in
    (rw (len, take-add) joined, rw len (omega arith))

-- the same where the bytes and their length are kept by other names
pub HoldsFirst-next : (known now : KnownFile) (bytes buf next : List ℕ) (at n : ℕ) → now ≡ known → at ≡ length bytes
    → next ≡ bytes ++ take n buf → n ≤ length buf → HoldsFirst known bytes → Fetches now at n buf
    → HoldsFirst known next
HoldsFirst-next known now bytes buf next at n same position e bound p q =
    let r : Fetches known (length bytes) n buf = rw (← same, ← position) q in
    rw e (HoldsFirst-more known bytes buf n bound p r)
