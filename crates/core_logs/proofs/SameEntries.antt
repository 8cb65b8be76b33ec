-- The comparisons of entries, of their names and of their parts are those of their values.
use Rattle.std.proofs.Common.{◌≡◌, ℕ, true, List, ap, ◌∙◌, rules}
use Rattle.std.specs.Prelude.{◌↔◌, ◌&&◌, nat_eq}
use Rattle.std.specs.Cmp.Lexicographic.{pointwise}
use Rattle.std.proofs.lemmas.Bool.{and_from, and_parts}
use Rattle.meaning_atoms.specs.declared.atom.AtomLit.{AtomLit}
use Rattle.meaning_atoms.specs.contracts.atom.AtomLitPartialEq.TheImpl.{eq-value as lit_eq}
use Rattle.meaning_atoms.proofs.SameAtoms.{lit_decides}
use Rattle.oracle_face.specs.declared.entry.Entry.{Entry}
use Rattle.oracle_face.specs.declared.entry.EntryName.{EntryName}
use Rattle.oracle_face.specs.declared.entry.EntryOrigin.{EntryOrigin}
use Rattle.oracle_face.specs.declared.entry.EntryOrigin.TheVariants.{Axiom as OfAxiom, Hints}
use Rattle.oracle_face.specs.declared.entry.HintName.{HintName}
use Rattle.oracle_face.specs.declared.entry.HintName.TheVariants.{Axiom, Entry as OfEntry}
use Rattle.oracle_face.specs.contracts.entry.EntryPartialEq.TheImpl.{eq-value as entry_eq}
use Rattle.oracle_face.specs.contracts.entry.EntryNamePartialEq.TheImpl.{eq-value as name_eq}
use Rattle.oracle_face.specs.contracts.entry.EntryOriginPartialEq.TheImpl.{eq-value as origin_eq}
use Rattle.oracle_face.specs.contracts.entry.HintNamePartialEq.TheImpl.{eq-value as hint_eq}
use Rattle.entry_taking.specs.NameEquality.{axiom_decides, lists_decide}

nat_decides : (a b : ℕ) → (nat_eq a b ≡ true) ↔ (a ≡ b)
nat_decides a b = search rules

abbrev named : ℕ → ℕ → EntryName
named session step = record { session = session; step = step }

pub name_decides : (a b : EntryName) → ((name_eq).it a b ≡ true) ↔ (a ≡ b)
name_decides a b = (
  λ e. let both = and_parts (nat_eq a.session b.session) (nat_eq a.step b.step) e in
      ap (λ n. named n a.step) ((nat_decides a.session b.session).0 both.0)
      ∙ ap (λ n. named b.session n) ((nat_decides a.step b.step).0 both.1),
  λ e. and_from (nat_eq a.session b.session) (nat_eq a.step b.step)
      ((nat_decides a.session b.session).1 (ap (λ (n : EntryName). n.session) e))
      ((nat_decides a.step b.step).1 (ap (λ (n : EntryName). n.step) e)),
)

hint_decides : (a b : HintName) → ((hint_eq).it a b ≡ true) ↔ (a ≡ b)
hint_decides (Axiom a) (Axiom b) = (
  λ e. ap Axiom ((axiom_decides a b).0 e),
  λ e. let same : a ≡ b = cc in (axiom_decides a b).1 same,
)
hint_decides (OfEntry a) (OfEntry b) = (
  λ e. ap OfEntry ((name_decides a b).0 e),
  λ e. let same : a ≡ b = cc in (name_decides a b).1 same,
)
hint_decides a b = (λ e. absurd (cc), λ e. absurd (cc))

origin_decides : (a b : EntryOrigin) → ((origin_eq).it a b ≡ true) ↔ (a ≡ b)
origin_decides (OfAxiom a) (OfAxiom b) = (
  λ e. ap OfAxiom ((axiom_decides a b).0 e),
  λ e. let same : a ≡ b = cc in (axiom_decides a b).1 same,
)
origin_decides (Hints xs) (Hints ys) = (
  λ e. ap Hints ((lists_decide (hint_eq).it hint_decides xs ys).0 e),
  λ e. let same : xs ≡ ys = cc in (lists_decide (hint_eq).it hint_decides xs ys).1 same,
)
origin_decides a b = (λ e. absurd (cc), λ e. absurd (cc))

abbrev entry_of : List AtomLit → EntryName → EntryOrigin → Entry
entry_of clause name origin = record { clause = clause; name = name; origin = origin }

pub entry_decides : (a b : Entry) → ((entry_eq).it a b ≡ true) ↔ (a ≡ b)
entry_decides a b = (
  λ e. let first = and_parts (pointwise (lit_eq).it a.clause b.clause)
      ((name_eq).it a.name b.name && (origin_eq).it a.origin b.origin) e in
      let rest = and_parts ((name_eq).it a.name b.name) ((origin_eq).it a.origin b.origin) first.1 in
      ap (λ c. entry_of c a.name a.origin) ((lists_decide (lit_eq).it lit_decides a.clause b.clause).0 first.0)
      ∙ (ap (λ n. entry_of b.clause n a.origin) ((name_decides a.name b.name).0 rest.0)
      ∙ ap (λ o. entry_of b.clause b.name o) ((origin_decides a.origin b.origin).0 rest.1)),
  λ e. and_from (pointwise (lit_eq).it a.clause b.clause)
      ((name_eq).it a.name b.name && (origin_eq).it a.origin b.origin)
      ((lists_decide (lit_eq).it lit_decides a.clause b.clause).1 (ap (λ (x : Entry). x.clause) e))
      (and_from ((name_eq).it a.name b.name) ((origin_eq).it a.origin b.origin)
      ((name_decides a.name b.name).1 (ap (λ (x : Entry). x.name) e))
      ((origin_decides a.origin b.origin).1 (ap (λ (x : Entry). x.origin) e))),
)
