-- Fields that spell numbers, one after the other.
use Rattle.std.proofs.Common.{◌≡◌, ℕ, ◌<◌, List, [], ◌∷◌, ◌++◌, length, get_or, refl, sym, ap, subst, ◌∙◌, inl, inr, arith, length-append, append_assoc}
use Rattle.std.proofs.Math.ListN.{get_or-append}
use Rattle.std.proofs.Math.Seq.{get_or-append_seam}
use Rattle.std.proofs.lemmas.List.{append-nil}
use Rattle.std.proofs.lemmas.Bool.{cases_lt}
use Rattle.iccma_tasks.specs.AnswerText.{SpellsArgument, AreArguments, HasBadNumber}

-- a front of the fields spells the numbers, and these fields are left
pub record ArgumentsTo (all left : List (List ℕ)) (numbers : List ℕ) : Type 0 where
  pub front : List (List ℕ)
  pub whole : all ≡ front ++ left
  pub arguments : AreArguments front numbers

pub to_start : (all : List (List ℕ)) → ArgumentsTo all all []
to_start all = record {
  front = [];
  whole = refl;
  arguments = record { same_length = refl; each = λ k h. absurd (omega arith) };
}

pub to_end : (all left : List (List ℕ)) (numbers : List ℕ) → ArgumentsTo all left numbers → left ≡ []
    → AreArguments all numbers
to_end all left numbers at e =
    let same : at.front ≡ all = sym (append-nil at.front) ∙ ap (λ more. at.front ++ more) (sym e)
    ∙ sym at.whole in
    subst (λ fields. AreArguments fields numbers) same at.arguments

pub to_bad : (all left more : List (List ℕ)) (field : List ℕ) (numbers : List ℕ)
    → ArgumentsTo all left numbers
    → left ≡ field ∷ more → ((n : ℕ) → SpellsArgument field n → ⊥) → HasBadNumber all
to_bad all left more field numbers at e bad =
    let whole : at.front ++ field ∷ more ≡ all = ap (λ rest. at.front ++ rest) (sym e) ∙ sym at.whole in
    subst HasBadNumber whole (record {
      index = length at.front;
      within = omega (arith, length-append at.front (field ∷ more));
      bad = λ n is. bad n (subst (λ f. SpellsArgument f n) (get_or-append_seam at.front field more []) is);
    })

more_below : (front : List (List ℕ)) (numbers : List ℕ) (field : List ℕ) (n : ℕ) → AreArguments front numbers
    → (k : ℕ) → k < length front
    → SpellsArgument (get_or (front ++ field ∷ []) k []) (get_or (numbers ++ n ∷ []) k 0)
more_below front numbers field n are k below =
    subst (λ f. SpellsArgument f (get_or (numbers ++ n ∷ []) k 0))
    (sym (get_or-append front (field ∷ []) [] k below))
    (subst (λ m. SpellsArgument (get_or front k []) m)
    (sym (get_or-append numbers (n ∷ []) 0 k (omega (arith, are.same_length)))) (are.each k below))

-- one more field and its number
arguments_more : (front : List (List ℕ)) (numbers : List ℕ) (field : List ℕ) (n : ℕ)
    → AreArguments front numbers
    → SpellsArgument field n → AreArguments (front ++ field ∷ []) (numbers ++ n ∷ [])
arguments_more front numbers field n are is = record {
  same_length = omega (
    arith,
    are.same_length,
    length-append front (field ∷ []),
    length-append numbers
        (n ∷ []),
  );
  each = λ k h. elim (cases_lt k (length front)) [
    | inl below ↦ more_below front numbers field n are k below
    | inr above ↦
        let here : length front ≡ k = omega (arith, length-append front (field ∷ [])) in
        subst (λ j. SpellsArgument (get_or (front ++ field ∷ []) j []) (get_or (numbers ++ n ∷ []) j 0)) here
        (subst (λ f. SpellsArgument f (get_or (numbers ++ n ∷ []) (length front) 0))
        (sym (get_or-append_seam front field [] []))
        (subst (λ m. SpellsArgument field (get_or (numbers ++ n ∷ []) m 0)) (sym are.same_length)
        (subst (λ m. SpellsArgument field m) (sym (get_or-append_seam numbers n [] 0)) is)))
  ];
}

pub to_next : (all left more : List (List ℕ)) (field : List ℕ) (numbers : List ℕ) (n : ℕ)
    → ArgumentsTo all left numbers → left ≡ field ∷ more → SpellsArgument field n
    → ArgumentsTo all more (numbers ++ n ∷ [])
to_next all left more field numbers n at e is = record {
  front = at.front ++ field ∷ [];
  whole = at.whole ∙ ap (λ rest. at.front ++ rest) e ∙ sym (append_assoc at.front (field ∷ []) more);
  arguments = arguments_more at.front numbers field n at.arguments is;
}
