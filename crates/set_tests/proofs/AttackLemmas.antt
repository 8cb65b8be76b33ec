-- What a set attacks, found member by member, or by what it derives.
use Rattle.std.proofs.Common.{◌≡◌, ◌+◌, ◌<◌, ◌≤◌, ℕ, List, [], ◌∷◌, ◌++◌, length, get_or, take, sym, inl, inr, ⊎_elim, subst}
use Rattle.std.specs.Prelude.{Contains}
use Rattle.std.proofs.lemmas.List.{take_more, take_all}
use Rattle.std.proofs.lemmas.List.Elements.{Contains-push_cases, Contains-append_left, Contains-append_right, Contains-append_cases, Contains-push}
use Rattle.lists.specs.Members.{IsSetOf}
use Rattle.lists.proofs.Membership.{Contains-nil}
use Rattle.semantics.specs.Framework.{Af}
use Rattle.semantics.specs.AbaFrameworks.{Aba, AttacksAssumption}
use Rattle.semantics.specs.Frameworks.{af, aba}
use Rattle.dung_notions.specs.Ranges.{GainsTargets}
use Rattle.set_tests.specs.Attacks.{GainsAttacked}

pub attacked_none : (f : Af) (old : List ℕ) → GainsAttacked (af f) [] old old
attacked_none f old = record {
  gains = λ a. (λ c. inl c, λ h. ⊎_elim (λ c. c) (λ w. absurd (Contains-nil w.0 w.1)) h);
}

pub attacked_more : (f : Af) (set : List ℕ) (n : ℕ) (start old new : List ℕ) → n < length set
    → GainsAttacked (af f) (take n set) start old → GainsTargets f (get_or set n 0) old new
    → GainsAttacked (af f) (take (n + 1) set) start new
attacked_more f set n start old new lt before gains =
    let b = get_or set n 0 in
    let is : take (n + 1) set ≡ take n set ++ b ∷ [] = take_more set n 0 lt in record {
      gains = λ a. (
        λ h. ⊎_elim
            (λ c. ⊎_elim (λ o. inl o)
            (λ w. inr (w.0, rw is (Contains-append_left (take n set) (b ∷ []) w.0 w.1), w.2)) ((before.gains a).0 c))
            (λ att. inr (b, rw is (Contains-push (take n set) b), att))
            ((gains a).0 h),
        λ h. (gains a).1 (⊎_elim (λ o. inl ((before.gains a).1 (inl o)))
            (λ w. ⊎_elim (λ c. inl ((before.gains a).1 (inr (w.0, c, w.2))))
            (λ (e : b ≡ w.0). inr (rw e w.2))
            (Contains-push_cases (take n set) b w.0 (rw is at w.1))) h),
      );
    }

pub attacked_all : (f : Af) (set : List ℕ) (n : ℕ) (old new : List ℕ) → length set ≤ n
    → GainsAttacked (af f) (take n set) old new → GainsAttacked (af f) set old new
attacked_all f set n old new end h = rw (take_all n set end) at h

-- all at once
pub attacked_added : (f : Aba) (set old more new : List ℕ) → IsSetOf (AttacksAssumption f set) more → new ≡ old ++ more
    → GainsAttacked (aba f) set old new
attacked_added f set old more new is e = record {
  gains = λ a. (
    λ c. ⊎_elim (λ k. inl k) (λ k. inr ((is.members a).0 k))
        (Contains-append_cases old more a (subst (λ l. Contains l a) e c)),
    λ h. subst (λ l. Contains l a) (sym e) (⊎_elim (λ k. Contains-append_left old more a k)
        (λ at. Contains-append_right old more a ((is.members a).1 at)) h),
  );
}
