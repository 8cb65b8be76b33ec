-- The attacks between sets of assumptions are collective attacks, and they can be decided.
use Rattle.std.proofs.Common.{◌≡◌, inl, inr, ⊎_elim, ℕ, List, refl, subst}
use Rattle.std.specs.Prelude.{Contains}
use Rattle.std.proofs.lemmas.Bool.{cases_eq}
use Rattle.lists.specs.Members.{IsWithin}
use Rattle.semantics.proofs.Decided.{Decided, decide_both, decide_some}
use Rattle.semantics.specs.AbaFrameworks.{Aba, AttacksAssumption, collective_of}
use Rattle.aba_laws.proofs.CollectiveSets.{IsLawful}
use Rattle.aba_laws.proofs.DerivationLemmas.{derives_more, decide_derives}
use Rattle.semantics.specs.Rules.{Derives}

pub attacks_more : (f : Aba) (s t : List ℕ) (a : ℕ) → IsWithin s t → AttacksAssumption f s a → AttacksAssumption f t a
attacks_more f s t a sub h = record {
  contrary = h.contrary;
  is = h.is;
  derived = derives_more f.rules (Contains s) (Contains t) sub h.contrary h.derived;
}

-- a pair of an assumption and a contrary of it that the set derives
abbrev IsHit : Aba → List ℕ → ℕ → ℕ × ℕ → Type 0
IsHit f s a p = (p.0 ≡ a) × Derives f.rules (Contains s) p.1

pub decide_attacks : (f : Aba) (s : List ℕ) (a : ℕ) → Decided (AttacksAssumption f s a)
decide_attacks f s a =
    ⊎_elim
    (λ h. inl (record {
      contrary = h.0.1;
      is = subst (λ x. Contains f.contraries (x, h.0.1)) h.2.0 h.1;
      derived = h.2.1;
    }))
    (λ none. inr (λ h. none ((a, h.contrary), h.is, (refl, h.derived))))
    (decide_some (IsHit f s a) (λ p. decide_both (cases_eq p.0 a) (decide_derives f.rules s p.1)) f.contraries)

pub aba_lawful : (f : Aba) → IsLawful (collective_of f)
aba_lawful f = record { more = attacks_more f; decided = decide_attacks f }
