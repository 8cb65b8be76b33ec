-- Changes of attacks, edit by edit.
use Rattle.std.proofs.Common.{◌≡◌, ◌∙◌, ℕ, ◌+◌, ◌<◌, Bool, true, false, not, List, [], ◌∷◌, ◌++◌, length, map, take}
use Rattle.std.proofs.Common.{get_or, refl, sym, ap, subst, inl, inr, ⊎_elim, Ok, Err, Option, Some, None}
use Rattle.std.specs.Prelude.{◌⊎◌, ◌↔◌, ◌≢◌, ◌==◌, Contains, IsSome, filter}
use Rattle.std.proofs.lemmas.Bool.{cases_Bool, eqb-true, eq-eqb, false≢true}
use Rattle.std.proofs.lemmas.List.{map-append}
use Rattle.std.proofs.lemmas.Map.Views.{Contains-keys_from_lookup}
use Rattle.lists.proofs.Filters.{Contains-filter}
use Rattle.semantics.specs.Framework.{Af}
use Rattle.semantics.specs.Frameworks.{IsNumberedAf, af}
use Rattle.indexmap.specs.IndexMap.{keys}
use Rattle.edit_rules.specs.declared.edit.Edit.{Edit}
use Rattle.edit_rules.specs.declared.edit.Edit.TheVariants.{AttackAdd, AttackDrop}
use Rattle.edit_rules.specs.declared.effect.EditFault.{EditFault}
use Rattle.edit_rules.specs.declared.effect.EditFault.TheVariants.{AttackIsThere, NoSuchAttack}
use Rattle.edit_rules.specs.Applying.{AreTold}
use Rattle.edit_rules.specs.Edits.{af_with_attack, af_without_attack, attack_added, attack_dropped, edit_outcome}
use Rattle.edit_rules.specs.Edits.{end_refusals}
use Rattle.edit_rules.specs.Effects.{plain_effect}
use Rattle.edit_rules.specs.Groups.{group_told}
use Rattle.edit_rules.specs.Pairs.{has_pair, with_pair, without_pair}
use Rattle.edit_rules.specs.Refusals.{refused_if}
use Rattle.edit_rules.specs.Replay.{replay}
use Rattle.edit_rules.proofs.EditTests.{pair_there, there_pair}
use Rattle.edit_rules.proofs.EditWordTests.{both_from, both_gives, is_false, same_pair}
use Rattle.edit_rules.proofs.PairLists.{with_pair_members, without_pair_members}
use Rattle.edit_rules.proofs.RowForms.{with_attack_form, without_attack_form}
use Rattle.edit_rules.proofs.RowOutcomes.{done_behind, refused_behind}
use Rattle.edit_rules.proofs.SameFrameworks.{same_framework}
use Rattle.edit_groups.specs.declared.attack_changes.AttackChanges.{AttackChanges}
use Rattle.edit_groups.specs.Changes.{AreTakenIn, IsChanged, IsNoted, IsTakenIn, comes, goes, is_same, there_in}
use Rattle.edit_groups.specs.Changes.{told_of}
use Rattle.edit_groups.specs.Gaining.{HasGained, HasLost}
use Rattle.edit_groups.specs.Taking.{IsGroupTaken}
use Rattle.edit_groups.proofs.TakingLemmas.{next_refused, next_taken, one_behind}

-- ---- pairs

same_is : (p q : ℕ × ℕ) → is_same p q ≡ true → p ≡ q
same_is p q t =
    let both = both_gives (p.0 == q.0) (p.1 == q.1) t in
    same_pair p q (eqb-true p.0 q.0 both.0) (eqb-true p.1 q.1 both.1)

is_itself : (p q : ℕ × ℕ) → p ≡ q → is_same p q ≡ true
is_itself p q e = both_from (p.0 == q.0) (p.1 == q.1)
    (eq-eqb p.0 q.0 (ap (λ (x : ℕ × ℕ). x.0) e)) (eq-eqb p.1 q.1 (ap (λ (x : ℕ × ℕ). x.1) e))

-- lists that both have a pair, or both lack it, are tested alike
tested_alike : (ps qs : List (ℕ × ℕ)) (p : ℕ × ℕ) → (Contains ps p → Contains qs p) → (Contains qs p → Contains ps p)
    → has_pair ps p ≡ has_pair qs p
tested_alike ps qs p to from =
    ⊎_elim (λ t. t ∙ sym (there_pair qs p (to (pair_there ps p t))))
    (λ n. n ∙ sym (is_false (has_pair qs p) (λ t. false≢true (sym n ∙ there_pair ps p (from (pair_there qs p t))))))
    (cases_Bool (has_pair ps p))

-- a test that is true exactly of pairs that are there
pub test_is : (r : Bool) (ps : List (ℕ × ℕ)) (p : ℕ × ℕ) → (r ≡ true) ↔ Contains ps p → r ≡ has_pair ps p
test_is true ps p iff = sym (there_pair ps p (iff.0 refl))
test_is false ps p iff = sym (is_false (has_pair ps p) (λ t. false≢true (iff.1 (pair_there ps p t))))

-- ---- one edit

-- the tests of the ends are those of each framework with the same live arguments
told_for : (f g : Af) (b a : ℕ) → g.live ≡ f.live → AreTold {X = Unit} (end_refusals f b a) (Ok tt)
    → AreTold {X = Unit} (end_refusals g b a) (Ok tt)
told_for f g b a live told =
    subst (λ xs. AreTold {X = Unit} (end_refusals (record { live = xs; attacks = g.attacks }) b a) (Ok tt)) (sym live)
    told

refusal_for : (f g : Af) (b a : ℕ) (fault : EditFault) → g.live ≡ f.live
    → AreTold {X = Unit} (end_refusals f b a) (Err fault) → AreTold {X = Unit} (end_refusals g b a) (Err fault)
refusal_for f g b a fault live told =
    subst (λ xs. AreTold {X = Unit} (end_refusals (record { live = xs; attacks = g.attacks }) b a) (Err fault))
    (sym live) told

-- a framework that changed, and one attack of it
changed_more : (f g h : Af) (old new : AttackChanges) (p : ℕ × ℕ) (there : Bool) → IsChanged f old g
    → IsNoted p there old new → IsNumberedAf h → h.live ≡ g.live → has_pair h.attacks p ≡ there
    → ((q : ℕ × ℕ) → q ≢ p → has_pair h.attacks q ≡ has_pair g.attacks q) → IsChanged f new h
changed_more f g h old new p there changed noted ok live here others = record {
  form = ok;
  live = live ∙ changed.live;
  attacks = λ q. ⊎_elim
      (λ (t : is_same p q ≡ true).
      let e : p ≡ q = same_is p q t in
      subst (λ x. has_pair h.attacks x ≡ there_in f.attacks x (told_of new x)) e
      (here ∙ ap (there_in f.attacks p) (sym noted.here)))
      (λ (n : is_same p q ≡ false).
      others q (λ (e : q ≡ p). false≢true (sym n ∙ is_itself p q (sym e)))
      ∙ changed.attacks q ∙ ap (there_in f.attacks q) (sym (noted.others q n)))
      (cases_Bool (is_same p q));
}

pub addition_taken : (f : Af) (b a : ℕ) (old new : AttackChanges) → AreTold {X = Unit} (end_refusals f b a) (Ok tt)
    → Contains f.live b × Contains f.live a → there_in f.attacks (b, a) (told_of old (b, a)) ≡ false
    → IsNoted (b, a) true old new → IsTakenIn f (AttackAdd b a) old new
addition_taken f b a old new told live free noted = record {
  each = λ g changed.
      let ends : Contains g.live b × Contains g.live a = (
        subst (λ xs. Contains xs b) (sym changed.live) live.0,
        subst (λ xs. Contains xs a) (sym changed.live) live.1,
      ) in (
        af_with_attack g b a,
        changed_more f g (af_with_attack g b a) old new (b, a) true changed noted
            (with_attack_form g b a changed.form ends) refl
            (there_pair (with_pair (b, a) g.attacks) (b, a) ((with_pair_members (b, a) g.attacks (b, a)).1 (inr refl)))
            (λ q other. tested_alike (with_pair (b, a) g.attacks) g.attacks q
            (λ c. ⊎_elim (λ o. o) (λ (e : q ≡ (b, a)). absurd (other e))
            ((with_pair_members (b, a) g.attacks q).0 c))
            (λ c. (with_pair_members (b, a) g.attacks q).1 (inl c))),
        done_behind (end_refusals g b a) (refused_if (has_pair g.attacks (b, a)) AttackIsThere)
            ((attack_added g b a).framework, (attack_added g b a).effect) _ (told_for f g b a changed.live told)
            (changed.attacks (b, a) ∙ free) refl,
      );
}

pub removal_taken : (f : Af) (b a : ℕ) (old new : AttackChanges) → AreTold {X = Unit} (end_refusals f b a) (Ok tt)
    → there_in f.attacks (b, a) (told_of old (b, a)) ≡ true → IsNoted (b, a) false old new
    → IsTakenIn f (AttackDrop b a) old new
removal_taken f b a old new told there noted = record {
  each = λ g changed. (
    af_without_attack g b a,
    changed_more f g (af_without_attack g b a) old new (b, a) false changed noted
        (without_attack_form g b a changed.form) refl
        (is_false (has_pair (without_pair (b, a) g.attacks) (b, a)) (λ t.
        ((without_pair_members (b, a) g.attacks (b, a)).0
        (pair_there (without_pair (b, a) g.attacks) (b, a) t)).1 refl))
        (λ q other. tested_alike (without_pair (b, a) g.attacks) g.attacks q
        (λ c. ((without_pair_members (b, a) g.attacks q).0 c).0)
        (λ c. (without_pair_members (b, a) g.attacks q).1 (c, other))),
    done_behind (end_refusals g b a) (refused_if (not (has_pair g.attacks (b, a))) NoSuchAttack)
        ((attack_dropped g b a).framework, (attack_dropped g b a).effect) _ (told_for f g b a changed.live told)
        (ap not (changed.attacks (b, a) ∙ there)) refl,
  );
}

-- an edit that is refused
pub addition_refused : (f g : Af) (b a : ℕ) (old : AttackChanges) → AreTold {X = Unit} (end_refusals f b a) (Ok tt)
    → there_in f.attacks (b, a) (told_of old (b, a)) ≡ true → IsChanged f old g
    → edit_outcome (af g) (AttackAdd b a) ≡ Err AttackIsThere
addition_refused f g b a old told there changed =
    refused_behind (end_refusals g b a) (refused_if (has_pair g.attacks (b, a)) AttackIsThere)
    ((attack_added g b a).framework, (attack_added g b a).effect) AttackIsThere (told_for f g b a changed.live told)
    (changed.attacks (b, a) ∙ there) refl

pub removal_refused : (f g : Af) (b a : ℕ) (old : AttackChanges) → AreTold {X = Unit} (end_refusals f b a) (Ok tt)
    → there_in f.attacks (b, a) (told_of old (b, a)) ≡ false → IsChanged f old g
    → edit_outcome (af g) (AttackDrop b a) ≡ Err NoSuchAttack
removal_refused f g b a old told free changed =
    refused_behind (end_refusals g b a) (refused_if (not (has_pair g.attacks (b, a))) NoSuchAttack)
    ((attack_dropped g b a).framework, (attack_dropped g b a).effect) NoSuchAttack
    (told_for f g b a changed.live told) (ap not (changed.attacks (b, a) ∙ free)) refl

pub addition_ends : (f g : Af) (b a : ℕ) (old : AttackChanges) (fault : EditFault)
    → AreTold {X = Unit} (end_refusals f b a) (Err fault) → IsChanged f old g
    → edit_outcome (af g) (AttackAdd b a) ≡ Err fault
addition_ends f g b a old fault told changed =
    refusal_for f g b a fault changed.live told
    (refused_if (has_pair g.attacks (b, a)) AttackIsThere ∷ [])
    ((attack_added g b a).framework, (attack_added g b a).effect)

pub removal_ends : (f g : Af) (b a : ℕ) (old : AttackChanges) (fault : EditFault)
    → AreTold {X = Unit} (end_refusals f b a) (Err fault) → IsChanged f old g
    → edit_outcome (af g) (AttackDrop b a) ≡ Err fault
removal_ends f g b a old fault told changed =
    refusal_for f g b a fault changed.live told
    (refused_if (not (has_pair g.attacks (b, a))) NoSuchAttack ∷ [])
    ((attack_dropped g b a).framework, (attack_dropped g b a).effect)

-- ---- the edits of a group

pub none_taken : (f : Af) (changes : AttackChanges) → IsNumberedAf f → ((p : ℕ × ℕ) → told_of changes p ≡ None)
    → AreTakenIn f [] changes
none_taken f changes ok none = record {
  behind = f;
  changed = record { form = ok; live = refl; attacks = λ p. ap (there_in f.attacks p) (sym (none p)) };
  replayed = refl;
  told = refl;
}

taken_so : (f : Af) (edits : List Edit) (changes : AttackChanges) (taken : AreTakenIn f edits changes)
    → IsGroupTaken (af f) edits (map plain_effect edits) (af taken.behind)
taken_so f edits changes taken = record { told = taken.told; behind = sym taken.replayed }

pub next_in : (f : Af) (edits : List Edit) (index : ℕ) (edit : Edit) (old new : AttackChanges) → index < length edits
    → get_or edits index edit ≡ edit → AreTakenIn f (take index edits) old → IsTakenIn f edit old new
    → AreTakenIn f (take (index + 1) edits) new
next_in f edits index edit old new lt is taken takes =
    let step = takes.each taken.behind taken.changed in
    let next = next_taken (af f) (af taken.behind) (af step.0) edits index edit (map plain_effect (take index edits))
    (plain_effect edit) lt is (taken_so f (take index edits) old taken) step.2 in
    let whole : map plain_effect (take (index + 1) edits)
    ≡ map plain_effect (take index edits) ++ plain_effect edit ∷ [] =
    ap (map plain_effect) (one_behind edits index edit lt is)
    ∙ map-append plain_effect (take index edits) (edit ∷ []) in
    record {
      behind = step.0;
      changed = step.1;
      replayed = sym next.behind;
      told = next.told ∙ ap Ok (sym whole);
    }

pub refused_in : (f : Af) (edits : List Edit) (index : ℕ) (edit : Edit) (old : AttackChanges) (fault : EditFault)
    → index < length edits → get_or edits index edit ≡ edit → AreTakenIn f (take index edits) old
    → ((g : Af) → IsChanged f old g → edit_outcome (af g) edit ≡ Err fault)
    → group_told (af f) edits ≡ Err (index + 1, fault)
refused_in f edits index edit old fault lt is taken refused =
    next_refused (af f) (af taken.behind) edits index edit (map plain_effect (take index edits)) fault lt is
    (taken_so f (take index edits) old taken) (refused taken.behind taken.changed)

-- ---- the changes are made

-- the pairs of attacks that come, and of those that go
abbrev pub coming : Af → AttackChanges → List (ℕ × ℕ)
coming f changes = filter (λ p. comes f.attacks p (told_of changes p)) (keys changes.there)

abbrev pub going : AttackChanges → List (ℕ × ℕ)
going changes = filter (λ p. goes (told_of changes p)) (keys changes.there)

named : (changes : AttackChanges) (p : ℕ × ℕ) → IsSome (told_of changes p) → Contains (keys changes.there) p
named changes p is = Contains-keys_from_lookup same_is p changes.there.entries is

comes_new : (attacks : List (ℕ × ℕ)) (p : ℕ × ℕ) (told : Option Bool) → comes attacks p told ≡ true
    → (there_in attacks p told ≡ true) × (has_pair attacks p ≡ false)
comes_new attacks p None t = absurd (false≢true t)
comes_new attacks p (Some true) t = (refl, is_false (has_pair attacks p) (λ h. false≢true (sym (ap not h) ∙ t)))
comes_new attacks p (Some false) t = absurd (false≢true t)

-- an attack that comes is between live arguments, and wasn't there
pub coming_between : (f : Af) (edits : List Edit) (changes : AttackChanges) → AreTakenIn f edits changes
    → (p : ℕ × ℕ) → Contains (coming f changes) p → Contains f.live p.0 × Contains f.live p.1
coming_between f edits changes taken p c =
    let told = comes_new f.attacks p (told_of changes p)
    ((Contains-filter (λ p. comes f.attacks p (told_of changes p)) (keys changes.there) p).0 c).1 in
    let there = pair_there taken.behind.attacks p (taken.changed.attacks p ∙ told.0) in
    let ends = taken.changed.form.form.ends p.0 p.1 there in
    (subst (λ xs. Contains xs p.0) taken.changed.live ends.0, subst (λ xs. Contains xs p.1) taken.changed.live ends.1)

pub coming_new : (f : Af) (changes : AttackChanges) (p : ℕ × ℕ) → Contains (coming f changes) p
    → Contains f.attacks p → ⊥
coming_new f changes p c there =
    let told = comes_new f.attacks p (told_of changes p)
    ((Contains-filter (λ p. comes f.attacks p (told_of changes p)) (keys changes.there) p).0 c).1 in
    false≢true (sym told.1 ∙ there_pair f.attacks p there)

-- what is made of one attack
made_of : (f : Af) (p : ℕ × ℕ) (named : List (ℕ × ℕ)) (changes : AttackChanges) (told : Option Bool)
    → told_of changes p ≡ told → (IsSome told → Contains named p)
    → (((Contains f.attacks p ⊎ (Contains named p × (comes f.attacks p (told_of changes p) ≡ true)))
    × ((Contains named p × (goes (told_of changes p) ≡ true)) → ⊥)) ↔ (there_in f.attacks p told ≡ true))
made_of f p named changes None is there = (
  λ h. ⊎_elim (λ o. there_pair f.attacks p o)
      (λ x. absurd (false≢true (sym (ap (comes f.attacks p) is) ∙ x.1))) h.0,
  λ t. (inl (pair_there f.attacks p t), λ x. false≢true (sym (ap goes is) ∙ x.1)),
)
made_of f p named changes (Some true) is there = (
  λ h. refl,
  λ t. (
    ⊎_elim (λ o. inl (pair_there f.attacks p o))
        (λ n. inr (there refl, ap (comes f.attacks p) is ∙ ap not n)) (cases_Bool (has_pair f.attacks p)),
    λ x. false≢true (sym (ap goes is) ∙ x.1),
  ),
)
made_of f p named changes (Some false) is there = (
  λ h. absurd (h.1 (there refl, ap goes is)),
  λ t. absurd (false≢true t),
)

-- the framework that the changes lead to is the one behind the edits
pub made_is : (f m h : Af) (edits : List Edit) (changes : AttackChanges) (come go : List (ℕ × ℕ))
    → (taken : AreTakenIn f edits changes) → come ≡ coming f changes → go ≡ going changes → HasGained come f m
    → HasLost go m h → af h ≡ replay (af f) edits
made_is f m h edits changes come go taken come_is go_is gained lost =
    let g = taken.behind in
    let same : h ≡ g = same_framework h g lost.form.form taken.changed.form.form
    (lost.live ∙ gained.live ∙ sym taken.changed.live) (λ p.
    let is = made_of f p (keys changes.there) changes (told_of changes p) refl (named changes p) in
    let came = Contains-filter (λ p. comes f.attacks p (told_of changes p)) (keys changes.there) p in
    let went = Contains-filter (λ p. goes (told_of changes p)) (keys changes.there) p in (
      λ c.
          let kept = (lost.attacks p).0 c in
          let before = (gained.attacks p).0 kept.0 in
          pair_there g.attacks p (taken.changed.attacks p ∙ is.0 (
            ⊎_elim (λ o. inl o) (λ x. inr (came.0 (subst (λ xs. Contains xs p) come_is x))) before,
            λ x. kept.1 (subst (λ xs. Contains xs p) (sym go_is) (went.1 x)),
          )),
      λ c.
          let parts = is.1 (sym (taken.changed.attacks p) ∙ there_pair g.attacks p c) in
          (lost.attacks p).1 (
            (gained.attacks p).1 (⊎_elim (λ o. inl o)
                (λ x. inr (subst (λ xs. Contains xs p) (sym come_is) (came.1 x))) parts.0),
            λ x. parts.1 (went.0 (subst (λ xs. Contains xs p) go_is x)),
          ),
    )) in
    ap af same ∙ sym taken.replayed
