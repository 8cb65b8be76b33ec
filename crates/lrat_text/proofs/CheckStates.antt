-- The state of the check, as lines are taken.
use Rattle.std.proofs.Common.{◌≡◌, ℕ, ◌+◌, ◌<◌, ◌≤◌, ◌^◌, Bool, true, false, List, [], ◌∷◌, ◌++◌, length, length-append, get_or, map, inl, inr, ap, sym, subst, ◌∙◌, arith, ⊎_elim}
use Rattle.std.specs.Prelude.{Contains}
use Rattle.std.specs.List.{range_with_len}
use Rattle.std.specs.List.Sorted.{IsStrictlyIncreasing}
use Rattle.std.proofs.lemmas.Bool.{cases_lt}
use Rattle.std.proofs.lemmas.List.{get_or_append_left, get_or-append-add}
use Rattle.std.proofs.lemmas.List.Elements.{Contains-get_or, Contains-push_cases}
use Rattle.plain_lits.specs.declared.lit.Lit.{Lit}
use Rattle.lists.proofs.Membership.{Contains-nil}
use Rattle.lrat_text.specs.CnfText.{Formula}
use Rattle.lrat_text.specs.Checking.{AreIds, CheckState, steps_in, step_line, number_of, Fails, IsLast, IsAdded}
use Rattle.lrat_text.specs.Tables.{Takes, state_of}

-- a rising list with one number more that is above all of it
push_rises : (ids : List ℕ) (id : ℕ) → IsStrictlyIncreasing ids → ((i : ℕ) → Contains ids i → i < id)
    → IsStrictlyIncreasing (ids ++ id ∷ [])
push_rises ids id up above k within =
    let long = length-append ids (id ∷ []) in
    let here = get_or_append_left ids (id ∷ []) 0 k (omega arith) in
    elim (cases_lt (k + 1) (length ids)) [
      | inl low ↦
          let next = get_or_append_left ids (id ∷ []) 0 (k + 1) low in
          let less = up k low in
          omega (arith, here, next, less)
      | inr high ↦
          let last : get_or (ids ++ id ∷ []) (k + 1) 0 ≡ id
          = ap (λ n. get_or (ids ++ id ∷ []) n 0) (omega arith) ∙ get_or-append-add ids (id ∷ []) 0 0 in
          let less = above (get_or ids k 0) (Contains-get_or ids k 0 (omega arith)) in
          omega (arith, here, last, less)
    ]

-- ids with one more
push_ids : (count : ℕ) (ids : List ℕ) (id last : ℕ) → AreIds count ids → count ≤ last
    → ((i : ℕ) → Contains ids i → i ≤ last) → last < id → id < 2 ^ 32 → AreIds count (ids ++ id ∷ [])
push_ids count ids id last h low all above fits = record {
  rise = push_rises ids id h.rise (λ i c. let le = all i c in omega arith);
  above = λ i c. ⊎_elim (λ old. h.above i old) (λ (e : id ≡ i). omega (arith, e, low, above))
      (Contains-push_cases ids id i c);
  fit = λ i c. ⊎_elim (λ old. h.fit i old) (λ (e : id ≡ i). omega (arith, e, fits)) (Contains-push_cases ids id i c);
}

-- before the first line there is no id
pub no_ids : (count : ℕ) (ids : List ℕ) → ids ≡ [] → AreIds count ids
no_ids count ids none = rw none (record {
  rise = λ k lt. absurd (omega arith);
  above = λ id c. absurd (Contains-nil id c);
  fit = λ id c. absurd (Contains-nil id c);
})

-- ids with that of one more line
pub added_ids : (count : ℕ) (ids new : List ℕ) (f : Formula) (view : CheckState) (id : ℕ) → AreIds count ids
    → state_of count ids f ≡ view → (last : ℕ) × IsLast last view × (last < id) → id < 2 ^ 32 → new ≡ ids ++ id ∷ []
    → AreIds count new
added_ids count ids new f view id h viewed last fits more =
    let counted : count ≤ last.0 = subst (λ v. v.count ≤ last.0) (sym viewed) last.1.count in
    let all : (i : ℕ) → Contains ids i → i ≤ last.0
    = subst (λ (v : CheckState). (i : ℕ) → Contains v.ids i → i ≤ last.0) (sym viewed) last.1.ids in
    rw more (push_ids count ids id last.0 h counted all last.2 fits)

-- ---- what becomes of the state

-- the hints as numbers of steps
abbrev pub named_hints : ℕ → List ℕ → List ℕ → List ℕ
named_hints count ids hints = map (number_of (range_with_len 1 count ++ ids)) hints

pub state_failed : (count : ℕ) (ids : List ℕ) (f g : Formula) (view : CheckState) (id : ℕ) (clause : List Lit)
    (hints : List ℕ) (passes : Bool) → state_of count ids f ≡ view
    → Takes f clause (named_hints count ids hints) g passes → passes ≡ false
    → Fails (steps_in view) (step_line id clause hints) × (state_of count ids g ≡ view)
state_failed count ids f g view id clause hints passes viewed h e =
    let t : Takes f clause (named_hints count ids hints) g false
    = subst (λ b. Takes f clause (named_hints count ids hints) g b) e h in (
      subst (λ v. Fails (steps_in v) (step_line id clause hints)) viewed t.0,
      ap (λ x. state_of count ids x) t.1 ∙ viewed,
    )

pub state_added : (count : ℕ) (ids more : List ℕ) (f g : Formula) (view : CheckState) (id : ℕ) (clause : List Lit)
    (hints : List ℕ) (passes : Bool) → state_of count ids f ≡ view
    → Takes f clause (named_hints count ids hints) g passes → passes ≡ true → more ≡ ids ++ id ∷ []
    → IsAdded view (state_of count more g) (step_line id clause hints)
state_added count ids more f g view id clause hints passes viewed h e pushed =
    let t : Takes f clause (named_hints count ids hints) g true
    = subst (λ b. Takes f clause (named_hints count ids hints) g b) e h in
    subst (λ v. IsAdded v (state_of count more g) (step_line id clause hints)) viewed (record {
      passes = t.0;
      after_is = ap (λ is. state_of count is g) pushed ∙ ap (λ x. state_of count (ids ++ id ∷ []) x) t.1;
    })
