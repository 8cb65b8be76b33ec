-- What the tests of literals come to.
use Rattle.std.proofs.Common.{◌≡◌, inl, inr, ⊎_elim, Bool, true, false, not, List, sym, ◌∙◌, refl}
use Rattle.std.specs.Prelude.{◌↔◌, IsTrue, Contains}
use Rattle.std.proofs.lemmas.Bool.{false≢true}
use Rattle.plain_lits.specs.HintCheck.{IsTautology}
use Rattle.meaning_atoms.specs.declared.atom.AtomLit.{AtomLit}
use Rattle.meaning_atoms.specs.Literals.{AsksNothing, negated}
use Rattle.oracle_face.specs.Goals.{IsOfOneKind, IsOneSided}
use Rattle.core_logs.specs.Tests.{AsksNone, IsAffirmed, IsHit, IsNoHit, IsOfMember}

pub asks_nothing_is : (b : Bool) (clause : List AtomLit)
    → IsTrue b ↔ ((l : AtomLit) → Contains clause l → AsksNone l) → IsTrue b ↔ AsksNothing clause
asks_nothing_is b clause h = (
  λ t l c. ((h.0 t) l c).none,
  λ none. h.1 (λ l c. record { none = none l c }),
)

-- where all literals affirm
pub one_sided_affirmed : (b : Bool) (clause : List AtomLit)
    → IsTrue b ↔ ((l : AtomLit) → Contains clause l → IsAffirmed l) → b ≡ true → IsTrue b ↔ IsOneSided clause
one_sided_affirmed b clause h e = (λ t. inl (λ l c. ((h.0 t) l c).is), λ one. e)

-- where they don't, but all are about membership
pub one_sided_members : (b c t : Bool) (clause : List AtomLit)
    → IsTrue b ↔ ((l : AtomLit) → Contains clause l → IsAffirmed l) → b ≡ false
    → IsTrue c ↔ ((l : AtomLit) → Contains clause l → IsOfMember l) → c ≡ true
    → IsTrue t ↔ IsTautology negated clause → IsTrue (not t) ↔ IsOneSided clause
one_sided_members b c true clause hb eb hc ec ht = (
  λ e. absurd (false≢true e),
  λ one. ⊎_elim (λ all. absurd (false≢true (sym eb ∙ hb.1 (λ l m. record { is = all l m }))))
      (λ both. absurd (both.1 (ht.0 refl))) one,
)
one_sided_members b c false clause hb eb hc ec ht = (
  λ e. inr ((λ l m. ((hc.0 ec) l m).is), λ taut. false≢true (ht.1 taut)),
  λ one. refl,
)

-- where neither
pub one_sided_neither : (b c : Bool) (clause : List AtomLit)
    → IsTrue b ↔ ((l : AtomLit) → Contains clause l → IsAffirmed l) → b ≡ false
    → IsTrue c ↔ ((l : AtomLit) → Contains clause l → IsOfMember l) → c ≡ false
    → IsTrue c ↔ IsOneSided clause
one_sided_neither b c clause hb eb hc ec = (
  λ e. absurd (false≢true (sym ec ∙ e)),
  λ one. ⊎_elim (λ all. absurd (false≢true (sym eb ∙ hb.1 (λ l m. record { is = all l m }))))
      (λ both. absurd (false≢true (sym ec ∙ hc.1 (λ l m. record { is = both.0 l m })))) one,
)

-- where no literal says that a contrary is derived
pub one_kind_none : (b : Bool) (clause : List AtomLit)
    → IsTrue b ↔ ((l : AtomLit) → Contains clause l → IsNoHit l) → b ≡ true → IsTrue b ↔ IsOfOneKind clause
one_kind_none b clause h e = (λ t. inl (λ l c. ((h.0 t) l c).none), λ one. e)

-- where some does
pub one_kind_all : (b c : Bool) (clause : List AtomLit)
    → IsTrue b ↔ ((l : AtomLit) → Contains clause l → IsNoHit l) → b ≡ false
    → IsTrue c ↔ ((l : AtomLit) → Contains clause l → IsHit l) → IsTrue c ↔ IsOfOneKind clause
one_kind_all b c clause hb eb hc = (
  λ t. inr (λ l m. ((hc.0 t) l m).is),
  λ one. ⊎_elim (λ none. absurd (false≢true (sym eb ∙ hb.1 (λ l m. record { none = none l m }))))
      (λ all. hc.1 (λ l m. record { is = all l m })) one,
)
