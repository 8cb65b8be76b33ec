-- What the looks for axioms come to.
use Rattle.std.proofs.Common.{◌≡◌, ⊎_elim, ℕ, ◌+◌, ◌<◌, ◌≤◌, ◌==◌, Bool, true, false, List, [], ◌∷◌, ◌++◌, length}
use Rattle.std.proofs.Common.{take, get_or, refl, ap, sym, subst, ◌∙◌, arith}
use Rattle.std.specs.Prelude.{◌↔◌, IsTrue, Some}
use Rattle.std.proofs.lemmas.Bool.{cases_Bool, cases_lt, eqb-true, false≢true}
use Rattle.std.proofs.lemmas.List.{take_all, take_more}
use Rattle.lists.proofs.Membership.{Contains-head, Contains-tail}
use Rattle.semantics.specs.Frameworks.{Framework}
use Rattle.meaning_atoms.specs.declared.axiom.AxiomName.{AxiomName}
use Rattle.edit_rules.specs.declared.edit.Edit.{Edit}
use Rattle.edit_rules.specs.Replay.{after_edit, replay}
use Rattle.edit_history.specs.declared.entry.HistoryEntry.{HistoryEntry}
use Rattle.edit_history.specs.Entries.{edits_of}
use Rattle.edit_history.proofs.EntryLemmas.{edits_more}
use Rattle.oracle_face.specs.declared.entry.Entry.{Entry as PoolEntry}
use Rattle.oracle_face.specs.Needed.{IsNeeded}
use Rattle.core_logs.proofs.Walked.{IsSome}
use Rattle.core_events.specs.declared.places.IndexedEntry.{IndexedEntry}
use Rattle.core_events.specs.Needs.{IsNamedAmong, IsNamedUnder, IsNeededAmong}
use Rattle.core_events.specs.Places.{pool_of}
use Rattle.certificate_claims.proofs.SetTests.{passed}

-- ---- frameworks

after_one : (f : Framework) (edits : List Edit) (edit : Edit)
    → replay f (edits ++ edit ∷ []) ≡ after_edit (replay f edits) edit
after_one f [] edit = refl
after_one f (first ∷ more) edit = after_one (after_edit f first) more edit

pub after_next : (f now next : Framework) (edits : List Edit) (i : ℕ) (edit : Edit) → i < length
    edits
    → edit ≡ get_or edits i edit → now ≡ replay f (take i edits) → next ≡ after_edit now edit
    → next ≡ replay f (take (i + 1) edits)
after_next f now next edits i edit lt read so_far step =
    step ∙ (ap (λ g. after_edit g edit) so_far
    ∙ (sym (after_one f (take i edits) edit)
    ∙ ap (replay f) (ap (λ (e : Edit). take i edits ++ e ∷ []) read ∙ sym
    (take_more edits i edit lt))))

pub after_all : (f now : Framework) (edits : List Edit) (i : ℕ) → length edits ≤ i
    → now ≡ replay f (take i edits) → now ≡ replay f edits
after_all f now edits i le so_far = so_far ∙ ap (replay f) (take_all i edits le)

-- the edits of entries up to the next one
pub edits_next : (entries : List HistoryEntry) (i : ℕ) (entry : HistoryEntry) (now next : List Edit)
    → i < length entries
    → entry ≡ get_or entries i entry → now ≡ edits_of (take i entries) → next ≡ now ++ entry.edits
    → next ≡ edits_of (take (i + 1) entries)
edits_next entries i entry now next lt read so_far step =
    step ∙ (ap (λ l. l ++ entry.edits) so_far
    ∙ (sym (edits_more (take i entries) entry)
    ∙ ap edits_of (ap (λ (e : HistoryEntry). take i entries ++ e ∷ []) read ∙ sym (take_more entries i entry lt))))

-- ---- needed axioms

-- none of one more framework
pub needed_no_more : (f now : Framework) (edits : List Edit) (i : ℕ) (name : AxiomName) (b : Bool)
    → now ≡ replay f (take i edits) → IsTrue b ↔ IsNeeded now name → b ≡ false
    → ((count : ℕ) → count < i → IsNeeded (replay f (take count edits)) name → ⊥)
    → (count : ℕ) → count < i + 1 → IsNeeded (replay f (take count edits)) name → ⊥
needed_no_more f now edits i name b e h no_ none count lt needed =
    ⊎_elim (λ early. none count early needed)
    (λ late. let same : count ≡ i = omega (arith, lt, late) in
    false≢true (sym no_ ∙ h.1 (subst (λ (g : Framework). IsNeeded g name) (sym e)
    (subst (λ n. IsNeeded (replay f (take n edits)) name) same needed))))
    (cases_lt count i)

-- it is needed after some of the edits
pub needed_here : (f now : Framework) (edits : List Edit) (i : ℕ) (name : AxiomName) (b : Bool)
    → now ≡ replay f (take i edits) → IsTrue b ↔ IsNeeded now name → b ≡ true → i ≤ length edits
    → IsTrue true ↔ IsNeededAmong f edits name
needed_here f now edits i name b e h yes_ le = (
  λ t. record { count = i; within = le; needed = subst (λ (g : Framework). IsNeeded g name) e (h.0 yes_) },
  λ w. refl,
)

-- after all of them, where it isn't after fewer
pub needed_last : (f now : Framework) (edits : List Edit) (i : ℕ) (name : AxiomName) (b : Bool)
    → i ≡ length edits → now ≡ replay f (take i edits)
    → ((count : ℕ) → count < i → IsNeeded (replay f (take count edits)) name → ⊥)
    → IsTrue b ↔ IsNeeded now name → IsTrue b ↔ IsNeededAmong f edits name
needed_last f now edits i name b at e none h = (
  λ t. record {
    count = i;
    within = omega (arith, at);
    needed = subst (λ (g : Framework). IsNeeded g name) e (h.0 t);
  },
  λ w. let within = w.within in ⊎_elim (λ early. absurd (none w.count early w.needed))
      (λ late. let same : w.count ≡ i = omega (arith, at, late, within) in
      h.1 (subst (λ (g : Framework). IsNeeded g name) (sym e)
      (subst (λ n. IsNeeded (replay f (take n edits)) name) same w.needed)))
      (cases_lt w.count i),
)

-- ---- the pool

-- what stands under an index stands in a place
placed : (places : List IndexedEntry) (index : ℕ) (entry : PoolEntry) → pool_of places index ≡ Some entry
    → IsSome (λ (p : IndexedEntry). p.index ≡ index) places
placed [] index entry e = absurd (cc)
placed (place ∷ places) index entry e =
    ⊎_elim
    (λ t. record {
      item = place;
      there = Contains-head place places place refl;
      is = sym (eqb-true index place.index t);
    })
    (λ f. let w = placed places index entry
    (sym (passed (index == place.index) (Some place.entry) (pool_of places index) f) ∙ e) in
    record { item = w.item; there = Contains-tail place places w.item w.there; is = w.is })
    (cases_Bool (index == place.index))

pub named_is : (b : Bool) (places : List IndexedEntry) (name : AxiomName)
    → IsTrue b ↔ IsSome (λ (p : IndexedEntry). IsNamedUnder places name p.index) places
    → IsTrue b ↔ IsNamedAmong places name
named_is b places name h = (
  λ t. let w = h.0 t in
      record { index = w.item.index; entry = w.is.entry; there = w.is.there; named = w.is.named },
  λ named. let w = placed places named.index named.entry named.there in h.1 (record {
    item = w.item;
    there = w.there;
    is = record {
      entry = named.entry;
      there = ap (pool_of places) w.is ∙ named.there;
      named = named.named;
    };
  }),
)
