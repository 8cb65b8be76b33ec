-- Clauses of which each variable has room.
use Rattle.std.proofs.Common.{◌≡◌, ℕ, ◌<◌, ◌≤◌, List, [], ◌∷◌, ◌++◌, arith, ap, subst, ◌∙◌, ⊎_elim}
use Rattle.std.proofs.lemmas.List.Elements.{Contains-push_cases}
use Rattle.plain_lits.specs.declared.lit.Lit.{Lit}
use Rattle.plain_lits.specs.Checking.{HasRoomFor, IsPackable}
use Rattle.lrat_text.specs.declared.cnf.TheConstants.{MAX_VARIABLE}
use Rattle.lrat_text.specs.CnfText.{AreWithin}
use Rattle.lrat_text.specs.Tables.{IsBelow, IsPlain}

pub plain_begun : (vars : ℕ) (clauses : List (List Lit)) (truths : List Lit) (room : ℕ) → vars ≤ MAX_VARIABLE
    → AreWithin vars clauses → truths ≡ [] → vars < room → IsPlain vars clauses truths room
plain_begun vars clauses truths room few within idle wide = record {
  few = few;
  wide = wide;
  below = λ clause at l c. let low = (within clause l at c).within in omega (arith, low, wide);
  idle = idle;
}

-- between two checks
pub plain_kept : (vars : ℕ) (clauses : List (List Lit)) (truths now : List Lit) (room left : ℕ)
    → IsPlain vars clauses truths room → now ≡ [] → left ≡ room → IsPlain vars clauses now left
plain_kept vars clauses truths now room left h idle same = rw same (record {
  few = h.few;
  wide = h.wide;
  below = h.below;
  idle = idle;
})

-- a clause has room, and can be packed
pub plain_room : (vars : ℕ) (clauses : List (List Lit)) (truths : List Lit) (room : ℕ) (clause : List Lit)
    → IsPlain vars clauses truths room → IsBelow vars clause → HasRoomFor room clause
plain_room vars clauses truths room clause h below l c =
    let low = below l c in let wide = h.wide in omega (arith, low, wide)

pub plain_packable : (vars : ℕ) (clauses : List (List Lit)) (truths : List Lit) (room : ℕ) (clause : List Lit)
    → IsPlain vars clauses truths room → IsBelow vars clause → IsPackable clause
plain_packable vars clauses truths room clause h below l c =
    let low = below l c in let few = h.few in omega (arith, low, few)

-- a row that is added is the clause that was packed
pub packed_row : (old new : List (List Lit)) (row packed clause : List Lit) → new ≡ old ++ row ∷ [] → row ≡ packed
    → packed ≡ clause → new ≡ old ++ clause ∷ []
packed_row old new row packed clause e same there = e ∙ ap (λ x. old ++ x ∷ []) (same ∙ there)

pub plain_more : (vars : ℕ) (clauses new : List (List Lit)) (truths : List Lit) (room : ℕ) (clause : List Lit)
    → IsPlain vars clauses truths room → IsBelow vars clause → new ≡ clauses ++ clause ∷ []
    → IsPlain vars new truths room
plain_more vars clauses new truths room clause h below more = rw more (record {
  few = h.few;
  wide = h.wide;
  below = λ one at. ⊎_elim (λ old. h.below one old)
      (λ (e : clause ≡ one). subst (λ x. HasRoomFor room x) e (plain_room vars clauses truths room clause h below))
      (Contains-push_cases clauses clause one at);
  idle = h.idle;
})
