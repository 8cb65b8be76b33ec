-- What goes to others of a log.
use Rattle.std.proofs.Common.{◌≡◌, ◌≢◌, inl, inr, ℕ, ◌+◌, ◌<◌, ◌≤◌, List, [], ◌∷◌, ◌++◌, length, take, get_or, ap, sym}
use Rattle.std.proofs.Common.{subst, ◌∙◌, refl, arith, ⊎_elim}
use Rattle.std.specs.Prelude.{All}
use Rattle.std.proofs.lemmas.Bool.{cases_lt}
use Rattle.std.proofs.lemmas.List.{get_or_append_left, get_or_push, get_or-take, get_or_default, length_push}
use Rattle.std.proofs.lemmas.List.{length-take-le}
use Rattle.semantics.specs.Frameworks.{Framework}
use Rattle.meaning_atoms.specs.Atoms.{IsLit}
use Rattle.meaning_atoms.specs.Literals.{AsksNothing}
use Rattle.meaning_atoms.specs.Worlds.{IsValid}
use Rattle.oracle_face.specs.declared.entry.Entry.{Entry}
use Rattle.meaning_atoms.specs.declared.axiom.AxiomName.{AxiomName}
use Rattle.oracle_face.specs.declared.entry.EntryName.{EntryName}
use Rattle.oracle_face.specs.declared.entry.HintName.{HintName}
use Rattle.oracle_face.specs.declared.entry.HintName.TheVariants.{Axiom, Entry as OfEntry}
use Rattle.oracle_face.specs.Entries.{IsShareable}
use Rattle.oracle_face.specs.Logs.{OracleLog, LogStep, IsNumberOf, step_at}
use Rattle.session_log.proofs.StepWorlds.{step_shared}
use Rattle.atom_solver.specs.States.{IsGuardedLog}
use Rattle.oracle_face.specs.declared.step_source.StepSource.TheVariants.{Axiom as OfAxiom, Entry as FromEntry}
use Rattle.oracle_face.specs.declared.step_source.StepSource.TheVariants.{Hints as ByHints}
use Rattle.session_log.specs.Imports.{name_by_source, name_in_log}
use Rattle.oracle_core.specs.Sharing.{AreNamesOf, CallsAny, IsEntryOf, IsNamedAs}

-- the entry of a step may be shared
pub entry_shareable : (f : Framework) (log : OracleLog) (own number : ℕ) (entry : Entry) → IsGuardedLog f log
    → IsNumberOf log.steps number → IsEntryOf own log.steps number entry → IsShareable entry
entry_shareable f log own number entry guarded named is =
    let shared = step_shared f log number guarded.form guarded.guards named is.may.plain.plain in
    record {
      valid = subst IsValid (sym is.clause) shared.valid;
      plain = subst AsksNothing (sym is.clause) shared.plain;
      within = subst (All IsLit) (sym is.clause) shared.within;
    }

-- ---- names

pub remote_named : (own : ℕ) (name : EntryName) (number : ℕ) → name.session ≢ own
    → CallsAny own (FromEntry name) number (OfEntry name)
remote_named own name number other = λ step source imported. record {
  called = inl (other, imported);
  same = sym (ap (λ taken. name_in_log own number taken step.source) imported);
}

pub axiom_named : (own : ℕ) (name : AxiomName) (number : ℕ) → CallsAny own (OfAxiom name) number (Axiom name)
axiom_named own name number = λ step source imported. record {
  called = source;
  same = sym (ap (λ taken. name_in_log own number taken step.source) imported ∙ ap (name_by_source own number) source);
}

pub derived_named : (own number : ℕ) → CallsAny own ByHints number (OfEntry (record { session = own; step = number }))
derived_named own number = λ step source imported. record {
  called = inr (refl, refl, imported);
  same = sym (ap (λ taken. name_in_log own number taken step.source) imported ∙ ap (name_by_source own number) source);
}

pub names_none : (own : ℕ) (steps : List LogStep) → AreNamesOf own steps [] []
names_none own steps = record { long = refl; each = λ k d lt. absurd (omega arith) }

-- one step more is named
pub names_more : (own : ℕ) (steps : List LogStep) (numbers : List ℕ) (names : List HintName) (i number : ℕ)
    (name : HintName) → i < length numbers → get_or numbers i number ≡ number
    → AreNamesOf own steps (take i numbers) names → IsNamedAs own name number (step_at steps number)
    → AreNamesOf own steps (take (i + 1) numbers) (names ++ name ∷ [])
names_more own steps numbers names i number name lt at before here =
    let long = before.long in
    let front = length-take-le i numbers (omega arith) in
    let wider = length-take-le (i + 1) numbers (omega arith) in
    let Called : HintName → ℕ → Type 0 = λ n m. IsNamedAs own n m (step_at steps m) in
    record {
      long = omega (arith, length_push names name);
      each = λ k d within. ⊎_elim
          (λ (early : k < i).
          subst (Called (get_or (names ++ name ∷ []) k d))
          (get_or-take i numbers k 0 early ∙ sym (get_or-take (i + 1) numbers k 0 (omega arith)))
          (subst (λ n. Called n (get_or (take i numbers) k 0))
          (sym (get_or_append_left names (name ∷ []) d k (omega arith)))
          (before.each k d (omega arith))))
          (λ (late : i ≤ k).
          let same : k ≡ i = omega arith in
          subst (Called (get_or (names ++ name ∷ []) k d))
          (sym (get_or-take (i + 1) numbers k 0 (omega arith)
          ∙ (ap (λ m. get_or numbers m 0) same ∙ (get_or_default numbers i 0 number lt ∙ at))))
          (subst (λ n. Called n number) (sym (get_or_push names name d k (omega arith))) here))
          (cases_lt k i);
    }
