-- How the pool is read and changes.
use Rattle.std.proofs.Common.{◌≡◌, ◌≢◌, ⊎_elim, ℕ, ◌==◌, List, [], ◌∷◌, ◌++◌, refl, ap, sym, ◌∙◌}
use Rattle.std.specs.Prelude.{Option, Some, None, if◌then◌else◌}
use Rattle.std.proofs.lemmas.Bool.{cases_Bool, eqb-true}
use Rattle.oracle_face.specs.declared.entry.Entry.{Entry}
use Rattle.core_machine.specs.Core.{put_at}
use Rattle.core_events.specs.declared.places.IndexedEntry.{IndexedEntry}
use Rattle.core_events.specs.Places.{pool_of}
use Rattle.core_events.proofs.Tests.{other_test, same_test}
use Rattle.certificate_claims.proofs.SetTests.{chosen, passed}

some_not_none : (entry : Entry) → Some entry ≡ None → ⊥
some_not_none entry e = absurd (cc)

-- a place more, under an index that nothing stood under
pub entry_added : (places : List IndexedEntry) (new : IndexedEntry) (i : ℕ) → pool_of places new.index ≡ None
    → pool_of (places ++ new ∷ []) i ≡ put_at new.index (Some new.entry) (pool_of places) i
entry_added [] new i e = refl
entry_added (place ∷ places) new i e =
    let own = Some place.entry in
    let later = pool_of (places ++ new ∷ []) i in
    let rest = pool_of places i in
    let before = pool_of (place ∷ places) i in
    let apart : new.index ≢ place.index = λ h. some_not_none place.entry
    (sym (chosen (new.index == place.index) own (pool_of places new.index) (same_test new.index place.index h)) ∙ e) in
    let step = entry_added places new i
    (sym (passed (new.index == place.index) own (pool_of places new.index)
    (other_test new.index place.index apart)) ∙ e) in
    ⊎_elim
    (λ t. chosen (i == place.index) own later t
    ∙ (sym (chosen (i == place.index) own rest t)
    ∙ sym (passed (i == new.index) (Some new.entry) before
    (other_test i new.index (λ h. apart (sym h ∙ eqb-true i place.index t))))))
    (λ f. passed (i == place.index) own later f
    ∙ (step ∙ ap (λ (x : Option Entry). if i == new.index then Some new.entry else x)
    (sym (passed (i == place.index) own rest f))))
    (cases_Bool (i == place.index))

-- what stands under an index is there already
pub entry_again : (places : List IndexedEntry) (index : ℕ) (entry : Entry) (i : ℕ) → pool_of places index ≡ Some entry
    → pool_of places i ≡ put_at index (Some entry) (pool_of places) i
entry_again places index entry i e =
    ⊎_elim
    (λ t. ap (pool_of places) (eqb-true i index t) ∙ (e ∙ sym (chosen (i == index) (Some entry) (pool_of places i) t)))
    (λ f. sym (passed (i == index) (Some entry) (pool_of places i) f))
    (cases_Bool (i == index))
