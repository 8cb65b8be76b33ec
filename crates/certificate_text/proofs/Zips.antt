-- Lists that are paired, and one pair more.
use Rattle.std.proofs.Common.{zero, suc, List, [], ◌∷◌, ◌++◌, refl, subst, arith}
use Rattle.std.specs.Prelude.{Contains}
use Rattle.std.specs.List.{AllZip}
use Rattle.lists.proofs.Membership.{Contains-tail}

pub zip_append : {A B : Type 0} (R : A → B → Type 0) (xs more : List A) (ys others : List B) → AllZip R xs ys
    → AllZip R more others → AllZip R (xs ++ more) (ys ++ others)
zip_append R [] more [] others all rest = rest
zip_append R [] more (b ∷ bs) others all rest = absurd all
zip_append R (a ∷ us) more [] others all rest = absurd all
zip_append R (a ∷ us) more (b ∷ bs) others all rest = (all.0, zip_append R us more bs others all.1 rest)

-- what the first list holds has a partner
pub zip_partner : {A B : Type 0} (R : A → B → Type 0) (xs : List A) (ys : List B) (x : A) → AllZip R xs ys
    → Contains xs x → (y : B) × R x y
zip_partner R [] ys x all (k, within, e) = absurd (omega arith)
zip_partner R (a ∷ us) [] x all c = absurd all
zip_partner R (a ∷ us) (b ∷ bs) x all (zero, within, e) = (b, subst (λ w. R w b) e all.0)
zip_partner R (a ∷ us) (b ∷ bs) x all (suc k, within, e) = zip_partner R us bs x all.1 (k, omega arith, e)

pub among : {A : Type 0} (front : List A) (x : A) (more : List A) → Contains (front ++ x ∷ more) x
among [] x more = (zero, omega arith, refl)
among (a ∷ us) x more = Contains-tail a (us ++ x ∷ more) x (among us x more)

-- what is among some is among more
pub kept_among : {A : Type 0} (front : List A) (x y : A) → Contains front y → Contains (front ++ x ∷ []) y
kept_among [] x y (k, within, e) = absurd (omega arith)
kept_among (a ∷ us) x y (zero, within, e) = (zero, omega arith, e)
kept_among (a ∷ us) x y (suc k, within, e) = Contains-tail a (us ++ x ∷ []) y (kept_among us x y (k, omega arith, e))
