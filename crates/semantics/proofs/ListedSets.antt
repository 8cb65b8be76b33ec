-- What holds of each listed set holds of every set, where all sets are listed.
use Rattle.std.proofs.Common.{◌≡◌, inl, inr, ⊎_elim, ℕ, Bool, List, [], ◌∷◌, ◌++◌, map, refl, sym, subst}
use Rattle.std.specs.Prelude.{◌↔◌, Contains, IsTrue}
use Rattle.lists.specs.Members.{IsWithin}
use Rattle.semantics.specs.Framework.{Af, IsAttackedBy, Attacks, Defends, IsInRange, IsAdmissible, IsComplete, IsPreferred, IsOfMode, IsRangeWithin, IsInAllPreferred}
use Rattle.semantics.specs.Compared.{HasNoLarger, HasNoWider, HoldsInAll, IsInComplete, IsInPreferred}
use Rattle.semantics.specs.Sets.{IsListed, HasAllSets}
use Rattle.semantics.specs.declared.mode.Mode.{Mode}
use Rattle.semantics.proofs.SameMembers.{turned, range_more, mode_live, mode_same, admissible_same, complete_same, preferred_same, in_all_same}

pub in_complete : (f : Af) (sets : List (List ℕ)) (s : List ℕ) → HasAllSets f.live sets
    → ((t : List ℕ) → Contains sets t → IsInComplete f s t) → (t : List ℕ) → IsComplete f t → IsWithin s t
in_complete f sets s all h t ok x c =
    let l = all t ok.admissible.conflict_free.live in
    l.same.there x ((h l.set l.member).within (complete_same f t l.set (turned l.set t l.same) ok) x c)

pub no_larger : (f : Af) (sets : List (List ℕ)) (s : List ℕ) → HasAllSets f.live sets
    → ((t : List ℕ) → Contains sets t → HasNoLarger f s t)
    → (t : List ℕ) → IsAdmissible f t → IsWithin s t → IsWithin t s
no_larger f sets s all h t ok sub x c =
    let l = all t ok.conflict_free.live in
    (h l.set l.member).back (admissible_same f t l.set (turned l.set t l.same) ok) (λ y k. l.same.back y (sub y k)) x
    (l.same.back x c)

pub no_wider : (mode : Mode) (f : Af) (sets : List (List ℕ)) (s : List ℕ) → HasAllSets f.live sets
    → ((t : List ℕ) → Contains sets t → HasNoWider mode f s t)
    → (t : List ℕ) → IsOfMode mode f t → IsRangeWithin f s t → IsRangeWithin f t s
no_wider mode f sets s all h t ok sub a c =
    let l = all t (mode_live mode f t ok) in
    (h l.set l.member).back (mode_same mode f t l.set (turned l.set t l.same) ok)
    (λ y k. range_more f t l.set l.same.back y (sub y k)) a (range_more f t l.set l.same.back a c)

pub in_preferred : (f : Af) (sets : List (List ℕ)) (s : List ℕ) → HasAllSets f.live sets
    → ((t : List ℕ) → Contains sets t → IsInPreferred f s t) → (t : List ℕ) → IsPreferred f t → IsWithin s t
in_preferred f sets s all h t ok x c =
    let l = all t ok.admissible.conflict_free.live in
    l.same.there x ((h l.set l.member).within (preferred_same f t l.set (turned l.set t l.same) ok) x c)

pub holds_in_all : (f : Af) (sets : List (List ℕ)) (s : List ℕ) → HasAllSets f.live sets
    → ((t : List ℕ) → Contains sets t → HoldsInAll f s t) → (t : List ℕ) → IsInAllPreferred f t → IsWithin t s
holds_in_all f sets s all h t ok x c =
    let l = all t ok.admissible.conflict_free.live in
    (h l.set l.member).back (in_all_same f t l.set (turned l.set t l.same) ok) x (l.same.back x c)

-- the walk along all attacks
pub defends_by : (f : Af) (s : List ℕ) (a : ℕ) (r : Bool)
    → IsTrue r ↔ ((p : ℕ × ℕ) → Contains f.attacks p → p.1 ≡ a → IsAttackedBy f s p.0) → IsTrue r ↔ Defends f s a
defends_by f s a r h = (
  λ e b at. h.0 e (b, a) at refl,
  λ d. h.1
      (λ p c same. d p.0 (subst (λ x. Attacks f p.0 x) same c)),
)

pub covers_by : (f : Af) (s t : List ℕ) (r : Bool)
    → IsTrue r ↔ ((p : ℕ × ℕ) → Contains f.attacks p → Contains s p.0 → IsInRange f t p.1)
    → IsTrue r ↔ ((b a : ℕ) → Attacks f b a → Contains s b → IsInRange f t a)
covers_by f s t r h = (λ e b a at c. h.0 e (b, a) at c, λ all. h.1 (λ p at c. all p.0 p.1 at c))

-- the one set's range lies in the other's where its members do and what it attacks does
pub range_by : (f : Af) (s t : List ℕ) → ((a : ℕ) → Contains s a → IsInRange f t a)
    → ((b a : ℕ) → Attacks f b a → Contains s b → IsInRange f t a) → IsRangeWithin f s t
range_by f s t members targets a h = ⊎_elim (λ c. members a c) (λ hit. targets hit.0 a hit.2 hit.1) h
