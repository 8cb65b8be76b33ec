-- A check moves to other literals and other numbers of steps.
use Rattle.std.proofs.Common.{ℕ, ◌+◌, List, [], ◌∷◌, ◌++◌, ap, sym, ◌∙◌, refl, inl, inr, ⊎_elim, map, Result}
use Rattle.std.proofs.Common.{subst}
use Rattle.std.specs.Prelude.{Contains}
use Rattle.std.proofs.lemmas.List.Elements.{Contains-append_left, Contains-push_cases}
use Rattle.lists.proofs.Membership.{Contains-pushed, Contains-head, Contains-tail}
use Rattle.plain_lits.specs.HintCheck.{clause_at, IsFalsified, IsUnit}
use Rattle.plain_lits.specs.HintCheck.{Propagates, IsTautology, Checks}
use Rattle.plain_lits.specs.CheckLaws.{Renames, IsImage, IsMovedHint, IsMovedCheck}
use Rattle.lists.proofs.Images.{image_there, image_from}

-- true literals and their images, each negated
truth_there : {L M : Type 0} (neg : L → L) (other : M → M) (to : L → M) (IsIn : L → Type 0) (truths : List L)
    (images : List M)
    → Renames neg other to IsIn → IsImage to IsIn truths images → (l : L) → IsIn l → Contains truths (neg l)
    → Contains images (other (to l))
truth_there neg other to IsIn truths images r h l at c = subst (λ m. Contains images m) (r.negates l at)
    (h.there (neg l) c)

truth_back : {L M : Type 0} (neg : L → L) (other : M → M) (to : L → M) (IsIn : L → Type 0) (truths : List L)
    (images : List M)
    → Renames neg other to IsIn → IsImage to IsIn truths images → (l : L) → IsIn l → Contains images (to l)
    → Contains truths l
truth_back neg other to IsIn truths images r h l at c =
    let w = h.back (to l) c in
    subst (λ x. Contains truths x) (r.apart w.0 l (h.within w.0 w.1) at w.2) w.1

negated_back : {L M : Type 0} (neg : L → L) (other : M → M) (to : L → M) (IsIn : L → Type 0) (truths : List L)
    (images : List M)
    → Renames neg other to IsIn → IsImage to IsIn truths images → (l : L) → IsIn l → Contains images (other (to l))
    → Contains truths (neg l)
negated_back neg other to IsIn truths images r h l at c =
    truth_back neg other to IsIn truths images r h (neg l) (r.closed l at)
    (subst (λ m. Contains images m) (sym (r.negates l at)) c)

-- one more true literal
image_push : {L M : Type 0} (to : L → M) (IsIn : L → Type 0) (truths : List L) (images : List M) (u : L) → IsIn u
    → IsImage to IsIn truths images → IsImage to IsIn (truths ++ u ∷ []) (images ++ to u ∷ [])
image_push to IsIn truths images u at h = record {
  within = λ l c. ⊎_elim (h.within l) (λ e. subst (λ x. IsIn x) e at) (Contains-push_cases truths u l c);
  there = λ l c. ⊎_elim (λ old. Contains-append_left images (to u ∷ []) (to l) (h.there l old))
      (λ e. Contains-pushed images (to u) (to l) (ap to e)) (Contains-push_cases truths u l c);
  back = λ m c. ⊎_elim (λ old. let w = h.back m old in (w.0, Contains-append_left truths (u ∷ []) w.0 w.1, w.2))
      (λ e. (u, Contains-pushed truths u u refl, e)) (Contains-push_cases images (to u) m c);
}

falsified_there : {L M : Type 0} (neg : L → L) (other : M → M) (to : L → M) (IsIn : L → Type 0) (truths : List L)
    (images : List M)
    (clause : List L) (image : List M) → Renames neg other to IsIn → IsImage to IsIn truths images
    → IsImage to IsIn clause image → IsFalsified neg truths clause → IsFalsified other images image
falsified_there neg other to IsIn truths images clause image r h i f = record {
  each = λ m c. let w = i.back m c in subst (λ x. Contains images (other x)) w.2
      (truth_there neg other to IsIn truths images r h w.0 (i.within w.0 w.1) (f.each w.0 w.1));
}

falsified_back : {L M : Type 0} (neg : L → L) (other : M → M) (to : L → M) (IsIn : L → Type 0) (truths : List L)
    (images : List M)
    (clause : List L) (image : List M) → Renames neg other to IsIn → IsImage to IsIn truths images
    → IsImage to IsIn clause image → IsFalsified other images image → IsFalsified neg truths clause
falsified_back neg other to IsIn truths images clause image r h i f = record {
  each = λ l c. negated_back neg other to IsIn truths images r h l (i.within l c) (f.each (to l) (i.there l c));
}

unit_there : {L M : Type 0} (neg : L → L) (other : M → M) (to : L → M) (IsIn : L → Type 0) (truths : List L)
    (images : List M)
    (clause : List L) (image : List M) (u : L) → Renames neg other to IsIn → IsImage to IsIn truths images
    → IsImage to IsIn clause image → IsUnit neg truths clause u → IsUnit other images image (to u)
unit_there neg other to IsIn truths images clause image u r h i f =
    let at = i.within u f.there in record {
      there = i.there u f.there;
      not_true = λ c. f.not_true (truth_back neg other to IsIn truths images r h u at c);
      not_false = λ c. f.not_false (negated_back neg other to IsIn truths images r h u at c);
      others = λ m c ne. let w = i.back m c in subst (λ x. Contains images (other x)) w.2
          (truth_there neg other to IsIn truths images r h w.0 (i.within w.0 w.1)
          (f.others w.0 w.1 (λ e. ne (sym w.2 ∙ ap to e))));
    }

unit_back : {L M : Type 0} (neg : L → L) (other : M → M) (to : L → M) (IsIn : L → Type 0) (truths : List L)
    (images : List M)
    (clause : List L) (image : List M) (m : M) → Renames neg other to IsIn → IsImage to IsIn truths images
    → IsImage to IsIn clause image → IsUnit other images image m → (u : L) × IsUnit neg truths clause u
unit_back neg other to IsIn truths images clause image m r h i f =
    let w = i.back m f.there in
    let at = i.within w.0 w.1 in (
      w.0,
      record {
        there = w.1;
        not_true = λ c. f.not_true (subst (λ x. Contains images x) w.2 (h.there w.0 c));
        not_false = λ c. f.not_false (subst (λ x. Contains images (other x)) w.2
            (truth_there neg other to IsIn truths images r h w.0 at c));
        others = λ l c ne. negated_back neg other to IsIn truths images r h l (i.within l c)
            (f.others (to l) (i.there l c) (λ e. ne (r.apart l w.0 (i.within l c) at (e ∙ sym w.2))));
      },
    )

-- the outcome of propagation along hints
propagates_there : {L M : Type 0} (neg : L → L) (other : M → M) (to : L → M) (IsIn : L → Type 0) (number : ℕ → ℕ)
    (steps : List (List L)) (new_steps : List (List M)) (truths : List L) (images : List M) (place : ℕ) (hints : List ℕ)
    (outcome : Result ℕ ℕ) → Renames neg other to IsIn → IsImage to IsIn truths images
    → ((hint : ℕ) → Contains hints hint → IsMovedHint to IsIn steps new_steps hint (number hint))
    → Propagates neg steps truths place hints outcome
    → Propagates other new_steps images place (map number hints) outcome
propagates_there neg other to IsIn number steps new_steps truths images place [] outcome r h moved w = w
propagates_there neg other to IsIn number steps new_steps truths images place (hint ∷ hints) outcome r h moved w =
    let here = moved hint (Contains-head hint hints hint refl) in
    let rest = λ (x : ℕ) (c : Contains hints x). moved x (Contains-tail hint hints x c) in
    ⊎_elim
    (λ f. inl (
      record {
        named = here.named.0 f.0.named;
        all_false = falsified_there neg other to IsIn truths images (clause_at steps hint)
            (clause_at new_steps (number hint)) r h (here.image f.0.named) f.0.all_false;
      },
      f.1,
    ))
    (λ q. ⊎_elim
    (λ f.
    let i = here.image f.1.named in
    inr (inl (
      to f.0,
      record {
        named = here.named.0 f.1.named;
        unit = unit_there neg other to IsIn truths images (clause_at steps hint) (clause_at new_steps (number hint)) f.0
            r h i f.1.unit;
      },
      propagates_there neg other to IsIn number steps new_steps (truths ++ f.0 ∷ []) (images ++ to f.0 ∷ []) (place + 1)
          hints outcome r
          (image_push to IsIn truths images f.0 (i.within f.0 f.1.unit.there) h) rest f.2,
    )))
    (λ f. inr (inr (
      record {
        not_false = λ g. let named = here.named.1 g.named in f.0.not_false (record {
          named = named;
          all_false = falsified_back neg other to IsIn truths images (clause_at steps hint)
              (clause_at new_steps (number hint)) r h (here.image named) g.all_false;
        });
        not_unit = λ m g.
            let named = here.named.1 g.named in
            let u = unit_back neg other to IsIn truths images (clause_at steps hint) (clause_at new_steps (number hint))
            m r h (here.image named) g.unit in
            f.0.not_unit u.0 (record { named = named; unit = u.1 });
      },
      f.1,
    ))) q) w

-- what is taken to be true at first
negated_image : {L M : Type 0} (neg : L → L) (other : M → M) (to : L → M) (IsIn : L → Type 0) (clause : List L)
    (image : List M)
    → Renames neg other to IsIn → IsImage to IsIn clause image → IsImage to IsIn (map neg clause) (map other image)
negated_image neg other to IsIn clause image r i = record {
  within = λ l c. let w = image_from neg clause l c in
      subst (λ x. IsIn x) w.2 (r.closed w.0 (i.within w.0 w.1));
  there = λ l c. let w = image_from neg clause l c in
      subst (λ x. Contains (map other image) x) (sym (r.negates w.0 (i.within w.0 w.1)) ∙ ap to w.2)
      (image_there other image (to w.0) (i.there w.0 w.1));
  back = λ m c.
      let w = image_from other image m c in
      let v = i.back w.0 w.1 in
      (neg v.0, image_there neg clause v.0 v.1, r.negates v.0 (i.within v.0 v.1) ∙ (ap other v.2 ∙ w.2));
}

tautology_there : {L M : Type 0} (neg : L → L) (other : M → M) (to : L → M) (IsIn : L → Type 0) (clause : List L)
    (image : List M)
    → Renames neg other to IsIn → IsImage to IsIn clause image → IsTautology neg clause → IsTautology other image
tautology_there neg other to IsIn clause image r i t =
    (to t.0, i.there t.0 t.1, subst (λ x. Contains image x) (r.negates t.0 (i.within t.0 t.1)) (i.there (neg t.0) t.2))

tautology_back : {L M : Type 0} (neg : L → L) (other : M → M) (to : L → M) (IsIn : L → Type 0) (clause : List L)
    (image : List M)
    → Renames neg other to IsIn → IsImage to IsIn clause image → IsTautology other image → IsTautology neg clause
tautology_back neg other to IsIn clause image r i t =
    let w = i.back t.0 t.1 in
    let back : Contains image (other (to w.0)) = subst (λ x. Contains image (other x)) (sym w.2) t.2 in
    (w.0, w.1, negated_back neg other to IsIn clause image r i w.0 (i.within w.0 w.1) back)

pub checks_moved : {L M : Type 0} (neg : L → L) (other : M → M) (to : L → M) (IsIn : L → Type 0)
    → Renames neg other to IsIn
    → (number : ℕ → ℕ) (steps : List (List L)) (new_steps : List (List M)) (clause : List L) (new_clause : List M)
    (hints : List ℕ) → IsMovedCheck to IsIn number steps new_steps clause new_clause hints → (outcome : Result ℕ ℕ)
    → Checks neg steps clause hints outcome → Checks other new_steps new_clause (map number hints) outcome
checks_moved neg other to IsIn r number steps new_steps clause new_clause hints moved outcome w =
    ⊎_elim
    (λ f. inl (tautology_there neg other to IsIn clause new_clause r moved.clause_image f.0, f.1))
    (λ f. inr (
      λ t. f.0 (tautology_back neg other to IsIn clause new_clause r moved.clause_image t),
      propagates_there neg other to IsIn number steps new_steps (map neg clause) (map other new_clause) 1 hints outcome
          r
          (negated_image neg other to IsIn clause new_clause r moved.clause_image) moved.each f.1,
    )) w
