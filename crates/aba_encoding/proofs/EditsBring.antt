-- What each edit of an assumption-based framework brings.
use Rattle.std.proofs.Common.{◌≡◌, ◌<◌, ◌≤◌, ◌+◌, ◌⊎◌, ◌↔◌, ℕ, true, not, List, [], ◌∷◌, arith, refl, ap, sym, subst, ◌∙◌, inl, inr, ⊎_elim}
use Rattle.std.specs.Prelude.{Contains, ◌==◌}
use Rattle.std.proofs.lemmas.Bool.{cases_eq, eq-eqb, eqb-true, false≢true, not_from_false}
use Rattle.std.proofs.lemmas.List.Elements.{Contains-append_left, Contains-append_right, Contains-push_cases}
use Rattle.lists.proofs.Filters.{Contains-filter}
use Rattle.lists.proofs.Membership.{Contains-head}
use Rattle.semantics.specs.AbaFrameworks.{Aba, IsAtom, IsNumberedAba}
use Rattle.semantics.specs.Rules.{Rule}
use Rattle.meaning_atoms.specs.AbaReadings.{HasContrary, HasRule}
use Rattle.oracle_face.specs.AbaNeeded.{Heads}
use Rattle.oracle_face.specs.Walks.{IsWalkEnd, IsWalkStep}
use Rattle.edit_rules.proofs.EditWordTests.{is_false}
use Rattle.edit_rules.proofs.NumberLists.{with_number_members}
use Rattle.edit_rules.specs.AbaEdits.{aba_with_assumption, aba_without_assumption, aba_with_contrary, aba_with_rule, aba_without_rule}
use Rattle.edit_rules.specs.AbaEdits.{aba_with_pair, aba_without_pair}
use Rattle.edit_rules.specs.AbaEdits.{contraries_of, next_rule}
use Rattle.edit_rules.proofs.ContraryLists.{contraries_of_members, with_contrary_members, without_contrary_members}
use Rattle.edit_rules.proofs.PairLists.{with_pair_members, without_pair_members}
use Rattle.aba_encoding.specs.Brought.{by_assumption, by_rule_added, by_rule_gone, nothing}
use Rattle.aba_encoding.specs.Brought.{IsOnly, by_contrary_added, by_contrary_gone, by_contrary_set}
use Rattle.aba_encoding.specs.Places.{HasNoneAfter, IsNextAfter, IsPlaceBefore}
use Rattle.aba_encoding.proofs.BroughtLemmas.{Brings, IsContraryEnd, IsContraryStep, IsHeadEnd, IsHeadStep}
use Rattle.aba_encoding.proofs.WalkChanges.{Gained, Lost, gained_end, gained_step, lost_end, lost_step, same_end, same_step, top_end, top_step}
use Rattle.lists.proofs.RisingLists.{same_item}

-- what is as it was is nothing new
as_before : {P Q : Type 0} → (P → Q) → ⊥ ↔ (P × (Q → ⊥))
as_before same = (λ h. absurd h, λ w. w.1 (same w.0))

-- a rule that is in the other framework too
has_in : (f g : Aba) → ((q : Rule) → Contains f.rules q → Contains g.rules q) → (r : ℕ) (P : Rule → Type 0)
    → HasRule f r P → HasRule g r P
has_in f g kept r P has = record {
  rule = has.rule;
  there = kept has.rule has.there;
  numbered = has.numbered;
  says = has.says;
}

-- where the rules are the same, there is nothing new about them
module _ (f g : Aba) (atoms : g.atoms ≡ f.atoms) (rules : g.rules ≡ f.rules) where
  old_rule : (r : ℕ) (P : Rule → Type 0) → HasRule g r P → HasRule f r P
  old_rule = has_in g f (λ q c. subst (λ qs. Contains qs q) rules c)

  old_heads : (x y : ℕ) → Heads g x y ↔ Heads f x y
  old_heads x y = (
    old_rule y (λ q. q.head ≡ x),
    has_in f g (λ q c. subst (λ qs. Contains qs q) (sym rules) c) y (λ q. q.head ≡ x),
  )

  no_new_rule : (r : ℕ) (P : Rule → Type 0) → ⊥ ↔ (HasRule g r P × (HasRule f r P → ⊥))
  no_new_rule r P = as_before (old_rule r P)

  no_new_step : (x i j : ℕ) → ⊥ ↔ (IsHeadStep g x i j × (IsHeadStep f x i j → ⊥))
  no_new_step x i j = as_before (λ h. (
    subst (λ n. IsAtom n x) atoms h.0,
    same_step (Heads g x) (Heads f x) (old_heads x) i j h.1,
  ))

  no_new_end : (x i : ℕ) → ⊥ ↔ (IsHeadEnd g x i × (IsHeadEnd f x i → ⊥))
  no_new_end x i = as_before (λ h. (
    subst (λ n. IsAtom n x) atoms h.0,
    same_end (Heads g x) (Heads f x) (old_heads x) i h.1,
  ))

-- ---- assumptions and contraries

-- what is new of one number, where nothing is of another
at_one : (Old New : ℕ → Type 0) (a : ℕ) (new : Type 0) → ((x : ℕ) → (x ≡ a → ⊥) → New x → Old x)
    → new ↔ (New a × (Old a → ⊥)) → (x : ℕ) → ((x ≡ a) × new) ↔ (New x × (Old x → ⊥))
at_one Old New a new others at x = (
  λ h. subst (λ z. New z × (Old z → ⊥)) (sym h.0) (at.0 h.1),
  λ w. ⊎_elim (λ (e : x ≡ a). (e, at.1 (subst (λ z. New z × (Old z → ⊥)) e w)))
      (λ other. absurd (w.1 (others x other w.0))) (cases_eq x a),
)

-- two frameworks which differ in the assumption a and its contraries alone
record AreButFor (f g : Aba) (a : ℕ) : Type 0 where
  pub assumption : (x : ℕ) → (x ≡ a → ⊥) → Contains g.assumptions x → Contains f.assumptions x
  pub contraries : (x : ℕ) → (x ≡ a → ⊥) → (c : ℕ) → HasContrary g x c ↔ HasContrary f x c

module _ (f g : Aba) (a : ℕ) (same : AreButFor f g a) where
  pair_at : (c : ℕ) (new : Type 0) → new ↔ (HasContrary g a c × (HasContrary f a c → ⊥)) → (x : ℕ)
      → ((x ≡ a) × new) ↔ (HasContrary g x c × (HasContrary f x c → ⊥))
  pair_at c new = at_one (λ z. HasContrary f z c) (λ z. HasContrary g z c) a new
      (λ x other has. (same.contraries x other c).0 has)

  step_kept : (i j x : ℕ) → (x ≡ a → ⊥) → IsContraryStep g x i j → IsContraryStep f x i j
  step_kept i j x other w = (
    same.assumption x other w.0,
    same_step (HasContrary g x) (HasContrary f x) (same.contraries x other) i j w.1,
  )

  end_kept : (i x : ℕ) → (x ≡ a → ⊥) → IsContraryEnd g x i → IsContraryEnd f x i
  end_kept i x other w = (
    same.assumption x other w.0,
    same_end (HasContrary g x) (HasContrary f x) (same.contraries x other) i w.1,
  )

  step_at : (i j : ℕ) (new : Type 0) → new ↔ (IsContraryStep g a i j × (IsContraryStep f a i j → ⊥)) → (x : ℕ)
      → ((x ≡ a) × new) ↔ (IsContraryStep g x i j × (IsContraryStep f x i j → ⊥))
  step_at i j new = at_one (λ z. IsContraryStep f z i j) (λ z. IsContraryStep g z i j) a new (step_kept i j)

  end_at : (i : ℕ) (new : Type 0) → new ↔ (IsContraryEnd g a i × (IsContraryEnd f a i → ⊥)) → (x : ℕ)
      → ((x ≡ a) × new) ↔ (IsContraryEnd g x i × (IsContraryEnd f x i → ⊥))
  end_at i new = at_one (λ z. IsContraryEnd f z i) (λ z. IsContraryEnd g z i) a new (end_kept i)

-- what is new of a walk is so beside what holds before and after
beside : {A B P Q : Type 0} (new : Type 0) → A → B → new ↔ (P × (Q → ⊥)) → new ↔ ((A × P) × ((B × Q) → ⊥))
beside new here there is = (
  λ h. ((here, (is.0 h).0), λ old. (is.0 h).1 old.1),
  λ w. is.1 (w.0.1, λ q. w.1 (there, q)),
)

-- three parts, of which the last two were one
in_three : {A B C P : Type 0} → (A × (B × C)) ↔ P → (A × B × C) ↔ P
in_three same = (
  λ h. same.0 (h.0, (h.1, h.2)),
  λ w. let is = same.1 w in (is.0, is.1.0, is.1.1),
)

-- ---- an assumption that comes or goes

module _ (f : Aba) (a c : ℕ) (ok : IsNumberedAba f) (free : Contains f.assumptions a → ⊥) where
  abbrev with_it : Aba
  with_it = aba_with_assumption f a c

  but_for_new : AreButFor f with_it a
  but_for_new = record {
    assumption = λ x other h.
        ⊎_elim (λ there. there) (λ e. absurd (other e)) ((with_number_members a f.assumptions x).0 h);
    contraries = λ x other y. (
      λ h. ⊎_elim (λ kept. ((without_contrary_members a f.contraries (x, y)).0 kept).0)
          (λ e. absurd (other (ap (λ (p : ℕ × ℕ). p.0) e.0))) ((with_contrary_members a c f.contraries (x, y)).0 h),
      λ h. (with_contrary_members a c f.contraries (x, y)).1
          (inl ((without_contrary_members a f.contraries (x, y)).1 (h, other))),
    );
  }

  it_is_there : Contains with_it.assumptions a
  it_is_there = (with_number_members a f.assumptions a).1 (inr refl)

  pub assumption_brings : Brings f with_it (by_assumption with_it a)
  assumption_brings = record {
    atoms = refl;
    assumption = λ x. (
      λ (e : x ≡ a). (
        (with_number_members a f.assumptions x).1 (inr e),
        λ there. free (subst (Contains f.assumptions) e there),
      ),
      λ w. ⊎_elim (λ there. absurd (w.1 there)) (λ e. e) ((with_number_members a f.assumptions x).0 w.0),
    );
    contrary = λ x y. pair_at f with_it a but_for_new y (HasContrary with_it a y)
        (λ h. (h, λ old. free (ok.form.contraries_are a y old).0), λ w. w.0) x;
    contrary_step = λ x i j. step_at f with_it a but_for_new i j (IsWalkStep (HasContrary with_it a) i j)
        (λ h. ((it_is_there, h), λ old. free old.0), λ w. w.0.1) x;
    contrary_end = λ x i. end_at f with_it a but_for_new i (IsWalkEnd (HasContrary with_it a) i)
        (λ h. ((it_is_there, h), λ old. free old.0), λ w. w.0.1) x;
    rule = no_new_rule f with_it refl refl;
    step = no_new_step f with_it refl refl;
    end = no_new_end f with_it refl refl;
  }

module _ (f : Aba) (a : ℕ) where
  abbrev without_it : Aba
  without_it = aba_without_assumption f a

  but_for_old : AreButFor f without_it a
  but_for_old = record {
    assumption = λ x other h. ((Contains-filter (λ b. not (b == a)) f.assumptions x).0 h).0;
    contraries = λ x other y. (
      λ h. ((without_contrary_members a f.contraries (x, y)).0 h).0,
      λ h. (without_contrary_members a f.contraries (x, y)).1 (h, other),
    );
  }

  it_is_gone : (x : ℕ) → Contains without_it.assumptions x → x ≡ a → ⊥
  it_is_gone x h e =
      false≢true (ap not (sym (eq-eqb x a e)) ∙ ((Contains-filter (λ b. not (b == a)) f.assumptions x).0 h).1)

  pub assumption_gone : Brings f without_it nothing
  assumption_gone = record {
    atoms = refl;
    assumption = λ x. as_before (λ h. ((Contains-filter (λ b. not (b == a)) f.assumptions x).0 h).0);
    contrary = λ x y. as_before (λ h. ((without_contrary_members a f.contraries (x, y)).0 h).0);
    contrary_step = λ x i j. as_before (λ w.
        step_kept f without_it a but_for_old i j x (it_is_gone x w.0) w);
    contrary_end = λ x i. as_before (λ w. end_kept f without_it a but_for_old i x (it_is_gone x w.0) w);
    rule = no_new_rule f without_it refl refl;
    step = no_new_step f without_it refl refl;
    end = no_new_end f without_it refl refl;
  }

-- ---- another contrary alone

module _ (f : Aba) (a c : ℕ) (gone : List ℕ) (there : Contains f.assumptions a)
    (was : gone ≡ contraries_of f.contraries a) where
  abbrev set_to : Aba
  set_to = aba_with_contrary f a c

  but_for_set : AreButFor f set_to a
  but_for_set = record {
    assumption = λ x other h. h;
    contraries = λ x other y. (
      λ h. ⊎_elim (λ kept. ((without_contrary_members a f.contraries (x, y)).0 kept).0)
          (λ e. absurd (other (ap (λ (p : ℕ × ℕ). p.0) e.0))) ((with_contrary_members a c f.contraries (x, y)).0 h),
      λ h. (with_contrary_members a c f.contraries (x, y)).1
          (inl ((without_contrary_members a f.contraries (x, y)).1 (h, other))),
    );
  }

  before_is : (y : ℕ) → Contains gone y ↔ HasContrary f a y
  before_is y = (
    λ h. (contraries_of_members f.contraries a y).0 (subst (λ ys. Contains ys y) was h),
    λ h. subst (λ ys. Contains ys y) (sym was) ((contraries_of_members f.contraries a y).1 h),
  )

  is_before : (y : ℕ) → HasContrary f a y ↔ Contains gone y
  is_before y = ((before_is y).1, (before_is y).0)

  only_is : (y : ℕ) → IsOnly c y ↔ HasContrary set_to a y
  only_is y = (
    λ h. (with_contrary_members a c f.contraries (a, y)).1 (inr (ap (λ z. (a, z)) h.1, h.0)),
    λ h. ⊎_elim (λ kept. absurd (((without_contrary_members a f.contraries (a, y)).0 kept).1 refl))
        (λ e. (e.1, ap (λ (p : ℕ × ℕ). p.1) e.0)) ((with_contrary_members a c f.contraries (a, y)).0 h),
  )

  is_only : (y : ℕ) → HasContrary set_to a y ↔ IsOnly c y
  is_only y = ((only_is y).1, (only_is y).0)

  pub set_brings : Brings f set_to (by_contrary_set a c gone)
  set_brings = record {
    atoms = refl;
    assumption = λ x. as_before (λ h. h);
    contrary = λ x y. in_three (pair_new y x);
    contrary_step = λ x i j. in_three (step_new i j x);
    contrary_end = λ x i. in_three (end_new i x);
    rule = no_new_rule f set_to refl refl;
    step = no_new_step f set_to refl refl;
    end = no_new_end f set_to refl refl;
  }
    where
      pair_new : (y x : ℕ) → ((x ≡ a) × (IsOnly c y × (Contains gone y → ⊥)))
          ↔ (HasContrary set_to x y × (HasContrary f x y → ⊥))
      pair_new y = pair_at f set_to a but_for_set y (IsOnly c y × (Contains gone y → ⊥)) (
        λ h. ((only_is y).0 h.0, λ old. h.1 ((is_before y).0 old)),
        λ w. ((is_only y).0 w.0, λ old. w.1 ((before_is y).0 old)),
      )

      step_new : (i j x : ℕ)
          → ((x ≡ a) × (IsWalkStep (IsOnly c) i j × (IsWalkStep (Contains gone) i j → ⊥)))
          ↔ (IsContraryStep set_to x i j × (IsContraryStep f x i j → ⊥))
      step_new i j = step_at f set_to a but_for_set i j
          (IsWalkStep (IsOnly c) i j × (IsWalkStep (Contains gone) i j → ⊥)) (
            λ h. (
              (there, same_step (IsOnly c) (HasContrary set_to a) only_is i j h.0),
              λ old. h.1 (same_step (HasContrary f a) (Contains gone) is_before i j old.1),
            ),
            λ w. (
              same_step (HasContrary set_to a) (IsOnly c) is_only i j w.0.1,
              λ old. w.1 (there, same_step (Contains gone) (HasContrary f a) before_is i j old),
            ),
          )

      end_new : (i x : ℕ) → ((x ≡ a) × (IsWalkEnd (IsOnly c) i × (IsWalkEnd (Contains gone) i → ⊥)))
          ↔ (IsContraryEnd set_to x i × (IsContraryEnd f x i → ⊥))
      end_new i = end_at f set_to a but_for_set i (IsWalkEnd (IsOnly c) i × (IsWalkEnd (Contains gone) i → ⊥)) (
        λ h. (
          (there, same_end (IsOnly c) (HasContrary set_to a) only_is i h.0),
          λ old. h.1 (same_end (HasContrary f a) (Contains gone) is_before i old.1),
        ),
        λ w. (
          same_end (HasContrary set_to a) (IsOnly c) is_only i w.0.1,
          λ old. w.1 (there, same_end (Contains gone) (HasContrary f a) before_is i old),
        ),
      )

-- ---- a contrary more

module _ (f : Aba) (a c : ℕ) (there : Contains f.assumptions a) (low : 1 ≤ c) (free : HasContrary f a c → ⊥) where
  abbrev with_one : Aba
  with_one = aba_with_pair f a c

  added_members : (x y : ℕ) → HasContrary with_one x y ↔ (HasContrary f x y ⊎ (◌≡◌ {A = ℕ × ℕ} (x, y) (a, c)))
  added_members x y = with_pair_members (a, c) f.contraries (x, y)

  but_for_one : AreButFor f with_one a
  but_for_one = record {
    assumption = λ x other h. h;
    contraries = λ x other y. (
      λ h. ⊎_elim (λ old. old) (λ e. absurd (other (ap (λ (p : ℕ × ℕ). p.0) e))) ((added_members x y).0 h),
      λ h. (added_members x y).1 (inl h),
    );
  }

  gains : Gained (HasContrary f a) (HasContrary with_one a) c
  gains = record {
    here = (added_members a c).1 (inr refl);
    fresh = free;
    kept = λ y h. (added_members a y).1 (inl h);
    others = λ y h. ⊎_elim (λ old. inl old) (λ e. inr (ap (λ (p : ℕ × ℕ). p.1) e)) ((added_members a y).0 h);
    low = low;
  }

  pub added_brings : Brings f with_one (by_contrary_added with_one a c)
  added_brings = record {
    atoms = refl;
    assumption = λ x. as_before (λ h. h);
    contrary = λ x y. pair_at f with_one a but_for_one y (y ≡ c) (
      λ e. (
        (added_members a y).1 (inr (ap (λ z. (a, z)) e)),
        λ old. free (subst (λ z. HasContrary f a z) e old),
      ),
      λ w. ⊎_elim (λ old. absurd (w.1 old)) (λ e. ap (λ (p : ℕ × ℕ). p.1) e) ((added_members a y).0 w.0),
    ) x;
    contrary_step = λ x i j. step_at f with_one a but_for_one i j _ (beside _ there there (
      (gained_step (HasContrary f a) (HasContrary with_one a) c gains i j).1,
      (gained_step (HasContrary f a) (HasContrary with_one a) c gains i j).0,
    )) x;
    contrary_end = λ x i. in_three (end_new i x);
    rule = no_new_rule f with_one refl refl;
    step = no_new_step f with_one refl refl;
    end = no_new_end f with_one refl refl;
  }
    where
      end_new : (i x : ℕ) → ((x ≡ a) × ((i ≡ c + 1) × HasNoneAfter (HasContrary with_one a) c))
          ↔ (IsContraryEnd with_one x i × (IsContraryEnd f x i → ⊥))
      end_new i = end_at f with_one a but_for_one i _ (beside _ there there (
        (gained_end (HasContrary f a) (HasContrary with_one a) c gains i).1,
        (gained_end (HasContrary f a) (HasContrary with_one a) c gains i).0,
      ))

-- ---- a contrary less

module _ (f : Aba) (a c : ℕ) (there : Contains f.assumptions a) (under : c < 1000001) (was : HasContrary f a c) where
  abbrev without_one : Aba
  without_one = aba_without_pair f a c

  left_members : (x y : ℕ) → HasContrary without_one x y ↔ (HasContrary f x y × (◌≡◌ {A = ℕ × ℕ} (x, y) (a, c) → ⊥))
  left_members x y = without_pair_members (a, c) f.contraries (x, y)

  but_for_lost : AreButFor f without_one a
  but_for_lost = record {
    assumption = λ x other h. h;
    contraries = λ x other y. (
      λ h. ((left_members x y).0 h).0,
      λ h. (left_members x y).1 (h, λ e. other (ap (λ (p : ℕ × ℕ). p.0) e)),
    );
  }

  loses : Lost (HasContrary f a) (HasContrary without_one a) c
  loses = record {
    was = was;
    gone = λ h. ((left_members a c).0 h).1 refl;
    kept = λ y h other. (left_members a y).1 (h, λ e. other (ap (λ (p : ℕ × ℕ). p.1) e));
    others = λ y h. ((left_members a y).0 h).0;
    under = under;
  }

  pub contrary_gone_brings : Brings f without_one (by_contrary_gone without_one a c)
  contrary_gone_brings = record {
    atoms = refl;
    assumption = λ x. as_before (λ h. h);
    contrary = λ x y. as_before (λ h. ((left_members x y).0 h).0);
    contrary_step = λ x i j. in_three (step_new i j x);
    contrary_end = λ x i. in_three (end_new i x);
    rule = no_new_rule f without_one refl refl;
    step = no_new_step f without_one refl refl;
    end = no_new_end f without_one refl refl;
  }
    where
      step_new : (i j x : ℕ) → ((x ≡ a) × (IsPlaceBefore (HasContrary without_one a) c i
          × IsNextAfter (HasContrary without_one a) c j))
          ↔ (IsContraryStep without_one x i j × (IsContraryStep f x i j → ⊥))
      step_new i j = step_at f without_one a but_for_lost i j _ (beside _ there there (
        (lost_step (HasContrary f a) (HasContrary without_one a) c loses i j).1,
        (lost_step (HasContrary f a) (HasContrary without_one a) c loses i j).0,
      ))

      end_new : (i x : ℕ) → ((x ≡ a) × (IsPlaceBefore (HasContrary without_one a) c i
          × HasNoneAfter (HasContrary without_one a) c))
          ↔ (IsContraryEnd without_one x i × (IsContraryEnd f x i → ⊥))
      end_new i = end_at f without_one a but_for_lost i _ (beside _ there there (
        (lost_end (HasContrary f a) (HasContrary without_one a) c loses i).1,
        (lost_end (HasContrary f a) (HasContrary without_one a) c loses i).0,
      ))

-- ---- a rule that comes

module _ (f : Aba) (h : ℕ) (body : List ℕ) (ok : IsNumberedAba f) where
  abbrev more : Aba
  more = aba_with_rule f h body

  abbrev rule : Rule
  rule = next_rule f h body

  kept_rule : (r : ℕ) (P : Rule → Type 0) → HasRule f r P → HasRule more r P
  kept_rule = has_in f more (λ q. Contains-append_left f.rules (rule ∷ []) q)

  which_rule : (r : ℕ) (P : Rule → Type 0) → HasRule more r P → HasRule f r P ⊎ ((r ≡ f.next) × P rule)
  which_rule r P has =
      ⊎_elim
      (λ old. inl (record { rule = has.rule; there = old; numbered = has.numbered; says = has.says }))
      (λ (e : rule ≡ has.rule). inr (sym has.numbered ∙ ap (λ (q : Rule). q.number) (sym e), subst P (sym e) has.says))
      (Contains-push_cases f.rules rule has.rule has.there)

  -- no rule before had the number
  fresh : (r : ℕ) (P : Rule → Type 0) → HasRule f r P → r < f.next
  fresh r P has = let given = (ok.form.rules_are has.rule has.there).given in let e = has.numbered in omega arith

  added : (r : ℕ) (P : Rule → Type 0) → (r ≡ f.next) × P rule → HasRule more r P
  added r P is = record {
    rule = rule;
    there = Contains-append_right f.rules (rule ∷ []) rule (Contains-head rule [] rule refl);
    numbered = sym is.0;
    says = is.1;
  }

  module _ (head : IsAtom f.atoms h) where
    gained : Gained (Heads f h) (Heads more h) f.next
    gained = record {
      here = added f.next (λ q. q.head ≡ h) (refl, refl);
      fresh = λ has. let less = fresh f.next (λ q. q.head ≡ h) has in omega arith;
      kept = λ y. kept_rule y (λ q. q.head ≡ h);
      others = λ y has. ⊎_elim (λ old. inl old) (λ e. inr e.0) (which_rule y (λ q. q.head ≡ h) has);
      low = ok.form.next_is;
    }

    top : (y : ℕ) → Heads f h y → y < f.next
    top y = fresh y (λ q. q.head ≡ h)

    -- the rules that head another atom are the same
    elsewhere : (x : ℕ) → (x ≡ h → ⊥) → (y : ℕ) → Heads more x y → Heads f x y
    elsewhere x other y has =
        ⊎_elim (λ old. old) (λ e. absurd (other (sym e.1))) (which_rule y (λ q. q.head ≡ x) has)

    same_heads : (x : ℕ) → (x ≡ h → ⊥) → (y : ℕ) → Heads more x y ↔ Heads f x y
    same_heads x other y = (elsewhere x other y, kept_rule y (λ q. q.head ≡ x))

    pub rule_brings : Brings f more (by_rule_added more h rule)
    rule_brings = record {
      atoms = refl;
      assumption = λ x. as_before (λ w. w);
      contrary = λ x y. as_before (λ w. w);
      contrary_step = λ x i j. as_before (λ w. w);
      contrary_end = λ x i. as_before (λ w. w);
      rule = λ r P. (
        λ is. (added r P is, λ has. let less = fresh r P has in let e = is.0 in omega arith),
        λ w. ⊎_elim (λ old. absurd (w.1 old)) (λ new. new) (which_rule r P w.0),
      );
      step = λ x i j. (
        λ (is : (x ≡ h) × IsPlaceBefore (Heads more h) f.next i × (j ≡ f.next)).
            let new = (top_step (Heads f h) (Heads more h) f.next gained top i j).1 (is.1, is.2) in
            subst (λ z. IsHeadStep more z i j × (IsHeadStep f z i j → ⊥)) (sym is.0)
            ((head, new.0), λ old. new.1 old.1),
        λ w. ⊎_elim
            (λ (e : x ≡ h).
            let at = subst (λ z. IsHeadStep more z i j × (IsHeadStep f z i j → ⊥)) e w in
            let is = (top_step (Heads f h) (Heads more h) f.next gained top i j).0
            (at.0.1, λ old. at.1 (head, old)) in
            (e, is.0, is.1))
            (λ other. absurd (w.1 (w.0.0, same_step (Heads more x) (Heads f x) (same_heads x other) i j w.0.1)))
            (cases_eq x h),
      );
      end = λ x i. (
        λ (is : (x ≡ h) × (i ≡ f.next + 1)).
            let new = (top_end (Heads f h) (Heads more h) f.next gained top i).1 is.1 in
            subst (λ z. IsHeadEnd more z i × (IsHeadEnd f z i → ⊥)) (sym is.0) ((head, new.0), λ old. new.1 old.1),
        λ w. ⊎_elim
            (λ (e : x ≡ h).
            let at = subst (λ z. IsHeadEnd more z i × (IsHeadEnd f z i → ⊥)) e w in
            (e, (top_end (Heads f h) (Heads more h) f.next gained top i).0 (at.0.1, λ old. at.1 (head, old))))
            (λ other. absurd (w.1 (w.0.0, same_end (Heads more x) (Heads f x) (same_heads x other) i w.0.1)))
            (cases_eq x h),
      );
    }

-- ---- a rule that goes

module _ (f : Aba) (gone : Rule) (ok : IsNumberedAba f) (there : Contains f.rules gone) where
  abbrev less : Aba
  less = aba_without_rule f gone.number

  left_rule : (r : ℕ) (P : Rule → Type 0) → HasRule less r P → HasRule f r P
  left_rule = has_in less f (λ q c. ((Contains-filter (λ q. not (q.number == gone.number)) f.rules q).0 c).0)

  stays : (r : ℕ) (P : Rule → Type 0) → HasRule f r P → (r ≡ gone.number → ⊥) → HasRule less r P
  stays r P has other = record {
    rule = has.rule;
    there = (Contains-filter (λ q. not (q.number == gone.number)) f.rules has.rule).1 (
      has.there,
      not_from_false (has.rule.number == gone.number) (is_false (has.rule.number == gone.number)
          (λ t. other (sym has.numbered ∙ eqb-true has.rule.number gone.number t))),
    );
    numbered = has.numbered;
    says = has.says;
  }

  -- none has the number
  no_such : (r : ℕ) (P : Rule → Type 0) → HasRule less r P → r ≡ gone.number → ⊥
  no_such r P has e =
      not_same has.rule.number
      ((Contains-filter (λ q. not (q.number == gone.number)) f.rules has.rule).0 has.there).1 (has.numbered ∙ e)
    where
      not_same : (n : ℕ) → not (n == gone.number) ≡ true → n ≡ gone.number → ⊥
      not_same n t same = false≢true (ap not (sym (eq-eqb n gone.number same)) ∙ t)

  lost : Lost (Heads f gone.head) (Heads less gone.head) gone.number
  lost = record {
    was = record { rule = gone; there = there; numbered = refl; says = refl };
    gone = λ has. no_such gone.number (λ q. q.head ≡ gone.head) has refl;
    kept = λ y. stays y (λ q. q.head ≡ gone.head);
    others = λ y. left_rule y (λ q. q.head ≡ gone.head);
    under =
        let given = (ok.form.rules_are gone there).given in let room = ok.rules in omega arith;
  }

  -- the rules that head another atom are the same
  keeps_heads : (x : ℕ) → (x ≡ gone.head → ⊥) → (y : ℕ) → Heads less x y ↔ Heads f x y
  keeps_heads x other y = (
    left_rule y (λ q. q.head ≡ x),
    λ has. stays y (λ q. q.head ≡ x) has (λ e. other (sym has.says ∙ ap (λ (q : Rule). q.head)
        (same_item (λ (q : Rule). q.number) f.rules has.rule gone ok.form.numbers_rise has.there there
        (has.numbered ∙ e)))),
  )

  head_atom : IsAtom f.atoms gone.head
  head_atom = (ok.form.rules_are gone there).head

  pub rule_gone_brings : Brings f less (by_rule_gone less gone.head gone.number)
  rule_gone_brings = record {
    atoms = refl;
    assumption = λ x. as_before (λ w. w);
    contrary = λ x y. as_before (λ w. w);
    contrary_step = λ x i j. as_before (λ w. w);
    contrary_end = λ x i. as_before (λ w. w);
    rule = λ r P. as_before (left_rule r P);
    step = λ x i j. (
      λ (is : (x ≡ gone.head) × IsPlaceBefore (Heads less gone.head) gone.number i
          × IsNextAfter (Heads less gone.head) gone.number j).
          let new = (lost_step (Heads f gone.head) (Heads less gone.head) gone.number lost i j).1 (is.1, is.2) in
          subst (λ z. IsHeadStep less z i j × (IsHeadStep f z i j → ⊥)) (sym is.0)
          ((head_atom, new.0), λ old. new.1 old.1),
      λ w. ⊎_elim
          (λ (e : x ≡ gone.head).
          let at = subst (λ z. IsHeadStep less z i j × (IsHeadStep f z i j → ⊥)) e w in
          let is = (lost_step (Heads f gone.head) (Heads less gone.head) gone.number lost i j).0
          (at.0.1, λ old. at.1 (head_atom, old)) in
          (e, is.0, is.1))
          (λ other. absurd (w.1 (w.0.0, same_step (Heads less x) (Heads f x) (keeps_heads x other) i j w.0.1)))
          (cases_eq x gone.head),
    );
    end = λ x i. (
      λ (is : (x ≡ gone.head) × IsPlaceBefore (Heads less gone.head) gone.number i
          × HasNoneAfter (Heads less gone.head) gone.number).
          let new = (lost_end (Heads f gone.head) (Heads less gone.head) gone.number lost i).1 (is.1, is.2) in
          subst (λ z. IsHeadEnd less z i × (IsHeadEnd f z i → ⊥)) (sym is.0) ((head_atom, new.0), λ old. new.1 old.1),
      λ w. ⊎_elim
          (λ (e : x ≡ gone.head).
          let at = subst (λ z. IsHeadEnd less z i × (IsHeadEnd f z i → ⊥)) e w in
          let is = (lost_end (Heads f gone.head) (Heads less gone.head) gone.number lost i).0
          (at.0.1, λ old. at.1 (head_atom, old)) in
          (e, is.0, is.1))
          (λ other. absurd (w.1 (w.0.0, same_end (Heads less x) (Heads f x) (keeps_heads x other) i w.0.1)))
          (cases_eq x gone.head),
    );
  }
