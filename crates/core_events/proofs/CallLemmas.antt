-- What calls for an axiom, in the core's words, and how an axiom or an entry comes.
use Rattle.std.proofs.Common.{◌≡◌, inl, ⊎_elim, ℕ, ◌<◌, Bool, true, false, List, length, take, refl, ap}
use Rattle.std.proofs.Common.{sym, subst, ◌∙◌, arith}
use Rattle.std.specs.Prelude.{◌↔◌, IsTrue, Some, None}
use Rattle.std.proofs.lemmas.Bool.{cases_lt, false≢true}
use Rattle.std.proofs.lemmas.List.{take_all}
use Rattle.meaning_atoms.specs.declared.atom.AtomLit.{AtomLit}
use Rattle.meaning_atoms.specs.declared.axiom.AxiomName.{AxiomName}
use Rattle.certificate_claims.specs.Refutations.{axiom_clause}
use Rattle.edit_rules.specs.declared.edit.Edit.{Edit}
use Rattle.edit_rules.specs.Replay.{replay}
use Rattle.edit_history.specs.declared.entry.HistoryEntry.{HistoryEntry}
use Rattle.edit_history.specs.Entries.{edits_of}
use Rattle.oracle_face.specs.declared.entry.Entry.{Entry as PoolEntry}
use Rattle.oracle_face.specs.Logs.{IsNew, LogStep, OracleLog, by_axiom, is_loop, working}
use Rattle.oracle_face.specs.Needed.{IsNeeded}
use Rattle.session_log.specs.OwnSteps.{IsWanted}
use Rattle.core_machine.specs.Core.{Core, with_log}
use Rattle.core_machine.specs.Steps.{IsCalledFor, IsNamedInPool, IsNeededFor, IsStep, learn, take_in}
use Rattle.core_events.specs.declared.at_hand.CoreAtHand.{CoreAtHand}
use Rattle.core_events.specs.declared.places.IndexedEntry.{IndexedEntry}
use Rattle.core_events.specs.AtHand.{core_of}
use Rattle.core_events.specs.Naming.{Imports}
use Rattle.core_events.specs.Needs.{IsNamedAmong, IsNeededAmong}

-- ---- needed axioms

module _ (core : Core) (s : ℕ) (name : AxiomName) where
  abbrev seen_part : List HistoryEntry
  seen_part = take (core.sessions s).seen core.history

  abbrev seen_edits : List Edit
  seen_edits = edits_of seen_part

  needed_to : IsNeededAmong core.opening seen_edits name → IsNeededFor core s name
  needed_to w = record { count = w.count; needed = w.needed }

  needed_from : IsNeededFor core s name → IsNeededAmong core.opening seen_edits name
  needed_from w =
      ⊎_elim
      (λ (more : length seen_edits < w.count). record {
        count = length seen_edits;
        within = omega arith;
        needed = subst (λ (edits : List Edit). IsNeeded (replay core.opening edits) name)
            (take_all w.count seen_edits (omega (arith, more))
            ∙ sym (take_all (length seen_edits) seen_edits (omega arith))) w.needed;
      })
      (λ few. record { count = w.count; within = omega (arith, few); needed = w.needed })
      (cases_lt (length seen_edits) w.count)

  pub called_needed : (b named : Bool) (seen : List HistoryEntry) → seen ≡ seen_part
      → IsTrue named ↔ IsNamedInPool core name → named ≡ false
      → IsTrue b ↔ IsNeededAmong core.opening (edits_of seen) name → IsTrue b ↔ IsCalledFor core s name
  called_needed b named seen e hn no_ h = (
    λ t. inl (needed_to (subst (λ (es : List HistoryEntry). IsNeededAmong core.opening (edits_of es) name) e (h.0 t))),
    λ called. ⊎_elim
        (λ w. h.1 (subst (λ (es : List HistoryEntry). IsNeededAmong core.opening (edits_of es) name) (sym e)
        (needed_from w)))
        (λ w. absurd (false≢true (sym no_ ∙ hn.1 w))) called,
  )

  pub loop_wanted : (b : Bool) (steps : List LogStep) (clause : List AtomLit) → is_loop name ≡ true
      → steps ≡ (core.sessions s).log.steps → clause ≡ axiom_clause name → IsTrue b ↔ IsNew (working steps) clause
      → IsTrue b ↔ IsWanted (IsCalledFor core s) (core.sessions s).log name (is_loop name)
  loop_wanted b steps clause e e1 e2 h =
      let here : IsTrue b ↔ IsWanted (IsCalledFor core s) (core.sessions s).log name true =
      subst (λ (xs : List LogStep). IsTrue b ↔ IsNew (working xs) (axiom_clause name)) e1
      (subst (λ (c : List AtomLit). IsTrue b ↔ IsNew (working steps) c) e2 h) in
      subst (λ x. IsTrue b ↔ IsWanted (IsCalledFor core s) (core.sessions s).log name x) (sym e) here

  -- an axiom that isn't wanted doesn't come
  pub not_wanted : (before : Core) (clause : List AtomLit) (closing b : Bool) → core ≡ before
      → IsTrue b ↔ IsWanted (IsCalledFor core s) (core.sessions s).log name (is_loop name) → b ≡ false
      → (next : Core) → IsStep before (learn s clause (by_axiom name) closing) next → ⊥
  not_wanted before clause closing b same h no_ next q =
      false≢true (sym no_
      ∙ h.1 (subst (λ (c : Core). IsWanted (IsCalledFor c s) (c.sessions s).log name (is_loop name)) (sym same)
      q.1.1.called))

-- ---- the pool

pub named_in_pool : (m : CoreAtHand) (b : Bool) (places : List IndexedEntry) (name : AxiomName) → places ≡ m.pool.items
    → IsTrue b ↔ IsNamedAmong places name → IsTrue b ↔ IsNamedInPool (core_of m) name
named_in_pool m b places name e h = (
  λ t. let w = subst (λ (ps : List IndexedEntry). IsNamedAmong ps name) e (h.0 t) in
      record { index = w.index; entry = w.entry; there = w.there; named = w.named },
  λ w. h.1 (subst (λ (ps : List IndexedEntry). IsNamedAmong ps name) (sym e)
      (record { index = w.index; entry = w.entry; there = w.there; named = w.named })),
)

-- ---- entries

same_some : (a b : PoolEntry) → Some a ≡ Some b → a ≡ b
same_some a b e = cc

none_some : (a : PoolEntry) → None ≡ Some a → ⊥
none_some a e = absurd (cc)

pub nothing_there : (core before : Core) (s i : ℕ) → core ≡ before → core.pool i ≡ None → (next : Core)
    → IsStep before (take_in s i) next → ⊥
nothing_there core before s i same none next q =
    none_some q.entry (sym none ∙ (ap (λ (c : Core). c.pool i) same ∙ q.there))

pub comes_in : (core : Core) (s i : ℕ) (entry : PoolEntry) → core.pool i ≡ Some entry → (log : OracleLog)
    → Imports core.opening s entry (core.sessions s).log log → IsStep core (take_in s i) (with_log core s log)
comes_in core s i entry there log p =
    record { entry = entry; there = there; may = p.may; log = log; takes = p.takes; is = refl }

pub came_in : (core : Core) (s i : ℕ) (entry : PoolEntry) → core.pool i ≡ Some entry → (next : Core)
    → IsStep core (take_in s i) next → (log : OracleLog) × Imports core.opening s entry (core.sessions s).log log
came_in core s i entry there next q =
    let same = same_some q.entry entry (sym q.there ∙ there) in (
      q.log,
      subst (λ (e : PoolEntry). Imports core.opening s e (core.sessions s).log q.log) same
          (record { may = q.may; takes = q.takes }),
    )
