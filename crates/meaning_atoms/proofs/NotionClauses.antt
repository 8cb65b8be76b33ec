-- The clauses on the notions are true in every world of either kind, within their bounds, and ask for no side clause.
use Rattle.std.proofs.Common.{◌==◌, ℕ, List, [], ◌∷◌}
use Rattle.std.specs.List.{AllByRecursion}
use Rattle.std.proofs.lemmas.Bool.{cond_both}
use Rattle.aba_laws.proofs.AbaLemmas.{aba_lawful}
use Rattle.aba_laws.proofs.CollectiveExtensions as collective_extensions
use Rattle.semantics.specs.AbaFrameworks.{Aba, collective_of}
use Rattle.semantics.specs.Framework.{Af}
use Rattle.semantics.specs.Frameworks.{af, aba}
use Rattle.semantics.proofs.Extensions.{stable_largest, preferred_complete}
use Rattle.meaning_atoms.specs.declared.atom.Atom.TheVariants.{Cf, Ad, Co, St}
use Rattle.meaning_atoms.specs.declared.atom.AtomLit.{AtomLit}
use Rattle.meaning_atoms.specs.Atoms.{IsLit}
use Rattle.meaning_atoms.specs.Literals.{affirmed, denied}
use Rattle.meaning_atoms.specs.Notions.{notion_clause}
use Rattle.meaning_atoms.specs.Worlds.{world_of, IsAbaWorld, IsAfWorld, IsAsk, IsTrueBeside}
use Rattle.meaning_atoms.proofs.Clauses.{so, given}

-- the clause is true in every world of an abstract framework
abbrev pub IsValidOfAf : List AtomLit → Type 0
IsValidOfAf clause = (f : Af) (s : List ℕ) → IsAfWorld f s → (sides : List (List AtomLit))
    → IsTrueBeside (world_of (af f) s) sides clause

-- the clause is true in every world of an assumption-based framework
abbrev pub IsValidOfAba : List AtomLit → Type 0
IsValidOfAba clause = (f : Aba) (s : List ℕ) → IsAbaWorld f s → (sides : List (List AtomLit))
    → IsTrueBeside (world_of (aba f) s) sides clause

-- one of the three clauses
each_part : (P : List AtomLit → Type 0) → P (denied Ad ∷ affirmed Cf ∷ []) → P (denied Co ∷ affirmed Ad ∷ [])
    → P (denied St ∷ affirmed Co ∷ []) → (part : ℕ) → P (notion_clause part)
each_part P first second third part =
    cond_both (part == 1) _ _ P (λ _. first) (λ _. cond_both (part == 2) _ _ P (λ _. second) (λ _. third))

-- ---- abstract frameworks

af_admissible : IsValidOfAf (denied Ad ∷ affirmed Cf ∷ [])
af_admissible f s ok sides =
    let w = world_of (af f) s in given w sides Ad _ (λ ad. so w sides Cf [] ad.conflict_free)

af_complete : IsValidOfAf (denied Co ∷ affirmed Ad ∷ [])
af_complete f s ok sides = let w = world_of (af f) s in given w sides Co _ (λ co. so w sides Ad [] co.admissible)

af_stable : IsValidOfAf (denied St ∷ affirmed Co ∷ [])
af_stable f s ok sides =
    let w = world_of (af f) s in
    given w sides St _ (λ st. so w sides Co []
    (preferred_complete f s ((stable_largest f ok.framework.form).preferred s st)))

pub notions_of_af : (part : ℕ) → IsValidOfAf (notion_clause part)
notions_of_af part = each_part IsValidOfAf af_admissible af_complete af_stable part

-- ---- assumption-based frameworks

aba_admissible : IsValidOfAba (denied Ad ∷ affirmed Cf ∷ [])
aba_admissible f s ok sides =
    let w = world_of (aba f) s in given w sides Ad _ (λ ad. so w sides Cf [] ad.conflict_free)

aba_complete : IsValidOfAba (denied Co ∷ affirmed Ad ∷ [])
aba_complete f s ok sides = let w = world_of (aba f) s in given w sides Co _ (λ co. so w sides Ad [] co.admissible)

aba_stable : IsValidOfAba (denied St ∷ affirmed Co ∷ [])
aba_stable f s ok sides =
    let w = world_of (aba f) s in
    given w sides St _ (λ st. so w sides Co []
    (collective_extensions.preferred_complete (collective_of f) (aba_lawful f) s
    (collective_extensions.stable_preferred (collective_of f) (aba_lawful f) s st)))

pub notions_of_aba : (part : ℕ) → IsValidOfAba (notion_clause part)
notions_of_aba part = each_part IsValidOfAba aba_admissible aba_complete aba_stable part

-- ---- their literals

pub notions_fit : (part : ℕ) → AllByRecursion IsLit (notion_clause part)
notions_fit part = each_part (AllByRecursion IsLit) (tt, (tt, tt)) (tt, (tt, tt)) (tt, (tt, tt)) part

pub notions_plain : (part : ℕ) → AllByRecursion (λ (l : AtomLit). ¬ IsAsk l.atom) (notion_clause part)
notions_plain part =
    each_part (AllByRecursion (λ (l : AtomLit). ¬ IsAsk l.atom)) (λ a. a, (λ a. a, tt)) (λ a. a, (λ a. a, tt))
    (λ a. a, (λ a. a, tt)) part
