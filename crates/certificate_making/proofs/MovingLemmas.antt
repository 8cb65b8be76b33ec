-- Loops that move literals, and that number the kept steps; and where a derived step comes from.
use Rattle.std.proofs.Common.{◌≡◌, ⊎_elim, ℕ, true, ◌+◌, ◌<◌, ◌≤◌, List, length, map, get_or, ap}
use Rattle.std.proofs.Common.{sym, subst, ◌∙◌, arith, refl}
use Rattle.std.specs.Prelude.{Contains, slice_index_or}
use Rattle.std.proofs.Math.ListN.{set, length-set}
use Rattle.std.proofs.lemmas.Bool.{cases_eq}
use Rattle.std.proofs.lemmas.List.{get_or-set_same, get_or-set_other, get_or-map, get_or_default, length-map}
use Rattle.std.proofs.lemmas.List.{ext_get_or}
use Rattle.meaning_atoms.specs.declared.atom.Atom.TheVariants.{Cf}
use Rattle.meaning_atoms.specs.declared.atom.AtomLit.{AtomLit}
use Rattle.meaning_atoms.specs.declared.axiom.AxiomName.{AxiomName}
use Rattle.oracle_face.specs.declared.step_source.StepSource.{StepSource}
use Rattle.oracle_face.specs.declared.step_source.StepSource.TheVariants.{Axiom, Side, Entry, Hints}
use Rattle.oracle_face.specs.Logs.{Source, by_hints, hints_of}
use Rattle.certificate_making.specs.Origins.{IsOrigin}
use Rattle.certificate_making.specs.Moving.{AreMovedTo}
use Rattle.certificate_making.specs.Trimmed.{moved_lit}

-- ---- literals in place

-- a literal to stand where there is none
abbrev no_lit : AtomLit
no_lit = record { atom = Cf; positive = true }

pub moved_next : (positions : List ℕ) (old now new : List AtomLit) (index : ℕ) (d value : AtomLit) → index < length now
    → AreMovedTo positions old index now → value ≡ moved_lit positions (slice_index_or now index d)
    → new ≡ set now index value → AreMovedTo positions old (index + 1) new
moved_next positions old now new index d value within h is made =
    rw made (record {
      long = omega (arith, h.long, length-set {A = AtomLit});
      front = λ j e lt inside. ⊎_elim
          (λ (same : j ≡ index).
          subst (λ (k : ℕ). slice_index_or (set now index value) k e ≡ moved_lit positions (slice_index_or old k e))
          (sym same)
          (get_or-set_same now index value e within
          ∙ (is ∙ ap (moved_lit positions) (get_or_default now index d e within ∙ h.rest index e (omega arith)))))
          (λ ne. get_or-set_other now index j value e (λ (same : j ≡ index). ne same)
          ∙ h.front j e (omega arith) inside)
          (cases_eq j index);
      rest = λ j e le. get_or-set_other now index j value e (λ (same : j ≡ index). omega arith)
          ∙ h.rest j e (omega arith);
    })

pub moved_all : (positions : List ℕ) (old now : List AtomLit) (count : ℕ) → length now ≤ count
    → AreMovedTo positions old count now → now ≡ map (moved_lit positions) old
moved_all positions old now count le h =
    let long = h.long in
    ext_get_or no_lit now (map (moved_lit positions) old) (long ∙ sym (length-map old (moved_lit positions)))
    (λ j lt. h.front j no_lit (omega arith) (omega arith)
    ∙ sym (get_or-map (moved_lit positions) old j no_lit no_lit (omega arith)))

-- an item of a list is a member
pub item_listed : (xs : List ℕ) (i x : ℕ) → i < length xs → x ≡ get_or xs i x → Contains xs x
item_listed xs i x lt is = (i, lt, sym is)

-- a step that is told as neither an axiom's nor a side clause's is derived
pub derived_source : (source : Source) (origin : StepSource) → ((name : AxiomName) → origin ≡ Axiom name → ⊥)
    → ((n : ℕ) → origin ≡ Side n → ⊥) → IsOrigin source origin → source ≡ by_hints (hints_of source)
derived_source source (Axiom name) no_axiom no_side is = absurd (no_axiom name refl)
derived_source source (Side n) no_axiom no_side is = absurd (no_side n refl)
derived_source source (Entry name) no_axiom no_side is = is
derived_source source Hints no_axiom no_side is = is
