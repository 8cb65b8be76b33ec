-- The axioms that an edit calls for are those of the walks that it changes.
use Rattle.std.proofs.Common.{◌≡◌, ◌≤◌, ◌<◌, ◌+◌, ◌⊎◌, ◌↔◌, ℕ, List, arith, refl, sym, subst, inl, inr, ⊎_elim}
use Rattle.std.specs.Prelude.{Contains}
use Rattle.std.proofs.lemmas.Bool.{cases_eq, cases_lt}
use Rattle.semantics.specs.Framework.{Af, Attacks}
use Rattle.semantics.specs.Frameworks.{af, IsNumberedAf}
use Rattle.semantics.proofs.Decided.{decide_attacks}
use Rattle.meaning_atoms.specs.declared.axiom.AfAxiom.{AfAxiom}
use Rattle.meaning_atoms.specs.declared.axiom.AfAxiom.TheVariants.{A1, A2, A3, A4, A5, A6, A7, A8, A9}
use Rattle.meaning_atoms.specs.declared.axiom.AfAxiom.TheVariants.{A10, A11, A12, A13, A14}
use Rattle.meaning_atoms.specs.declared.axiom.AxiomName.{AxiomName}
use Rattle.meaning_atoms.specs.declared.axiom.AxiomName.TheVariants.{Af as OfAf, Aba as OfAba}
use Rattle.meaning_atoms.specs.Worlds.{HasGap}
use Rattle.oracle_face.specs.Needed.{IsNeeded, IsNeededOfAf, IsWalkEnd, IsWalkStart, IsWalkStep}
use Rattle.af_encoding.specs.Changes.{HasNoneAfter, IsAlone, IsCalledByAttack, IsCalledByLoss, IsCalledByPairs, IsCalledFor}
use Rattle.af_encoding.specs.Changes.{IsNextAfter, IsPast, IsPlaceBefore, IsToAttack}
use Rattle.af_encoding.specs.Told.{told_of}
use Rattle.af_encoding.proofs.NeededLemmas.{same_one, same_three, same_two}
use Rattle.af_encoding.proofs.WalkLemmas.{attacker_high}

-- ---- an argument whose attackers stay

-- the argument is live in both or in neither, and has the same attackers
pub record IsSameRow (f g : Af) (a : ℕ) : Type 0 where
  pub live : Contains f.live a ↔ Contains g.live a
  pub attacks : (x : ℕ) → Attacks f x a ↔ Attacks g x a

same_start : (f g : Af) (a i : ℕ) → IsSameRow f g a → IsWalkStart g a i → IsWalkStart f a i
same_start f g a i same start =
    ⊎_elim (λ e. inl e) (λ h. inr (h.0, (same.attacks h.0).1 h.1, h.2)) start

same_gap : (f g : Af) (a i j : ℕ) → IsSameRow f g a → HasGap g a i j → HasGap f a i j
same_gap f g a i j same gap x at late before = gap x ((same.attacks x).0 at) late before

same_step : (f g : Af) (a i j : ℕ) → IsSameRow f g a → IsWalkStep g a i j → IsWalkStep f a i j
same_step f g a i j same h = record {
  live = same.live.1 h.live;
  start = same_start f g a i same h.start;
  order = h.order;
  gap = same_gap f g a i j same h.gap;
  attack = (same.attacks j).1 h.attack;
}

same_end : (f g : Af) (a i : ℕ) → IsSameRow f g a → IsWalkEnd g a i → IsWalkEnd f a i
same_end f g a i same h = record {
  live = same.live.1 h.live;
  start = same_start f g a i same h.start;
  gap = same_gap f g a i 1000001 same h.gap;
}

-- an axiom that tells of it is needed before where it is needed behind
needed_before : (f g : Af) (name : AfAxiom) → IsSameRow f g (told_of name) → IsNeededOfAf g name → IsNeededOfAf f name
needed_before f g (A1 a) same h = same.live.1 h
needed_before f g (A2 b a) same h = (same.attacks b).1 h
needed_before f g (A3 b a) same h = (same.attacks b).1 h
needed_before f g (A4 b a) same h = (same.attacks b).1 h
needed_before f g (A5 a i j) same h = same_step f g a i j same h
needed_before f g (A6 a i) same h = same_end f g a i same h
needed_before f g (A7 a) same h = same.live.1 h
needed_before f g (A8 a i j) same h = same_step f g a i j same h
needed_before f g (A9 a i) same h = same_end f g a i same h
needed_before f g (A10 a) same h = same.live.1 h
needed_before f g (A11 a) same h = same.live.1 h
needed_before f g (A12 a) same h = same.live.1 h
needed_before f g (A13 a) same h = same.live.1 h
needed_before f g (A14 part) same h = h

-- an axiom that is needed tells of a live argument, or of none
told_live : (f g : Af) → IsNumberedAf g → (name : AfAxiom) → IsNeededOfAf g name
    → IsNeededOfAf f name ⊎ Contains g.live (told_of name)
told_live f g ok (A1 a) h = inr h
told_live f g ok (A2 b a) h = inr (ok.form.ends b a h).1
told_live f g ok (A3 b a) h = inr (ok.form.ends b a h).1
told_live f g ok (A4 b a) h = inr (ok.form.ends b a h).1
told_live f g ok (A5 a i j) h = inr h.live
told_live f g ok (A6 a i) h = inr h.live
told_live f g ok (A7 a) h = inr h
told_live f g ok (A8 a i j) h = inr h.live
told_live f g ok (A9 a i) h = inr h.live
told_live f g ok (A10 a) h = inr h
told_live f g ok (A11 a) h = inr h
told_live f g ok (A12 a) h = inr h
told_live f g ok (A13 a) h = inr h
told_live f g ok (A14 part) h = inl h

-- ---- an argument that loses an attacker

-- b attacked a, and no longer does; a's other attackers stay
pub record IsLostRow (f g : Af) (b a : ℕ) : Type 0 where
  pub live : Contains f.live a ↔ Contains g.live a
  pub was : Attacks f b a
  pub gone : Attacks g b a → ⊥
  pub others : (x : ℕ) → (x ≡ b → ⊥) → Attacks f x a ↔ Attacks g x a

lost_kept : (f g : Af) (b a : ℕ) → IsLostRow f g b a → (x : ℕ) → Attacks g x a → Attacks f x a
lost_kept f g b a lost x at =
    (lost.others x (λ e. lost.gone (subst (λ y. Attacks g y a) e at))).1 at

lost_start : (f g : Af) (b a i : ℕ) → IsLostRow f g b a → IsWalkStart g a i → IsWalkStart f a i
lost_start f g b a i lost start =
    ⊎_elim (λ e. inl e) (λ h. inr (h.0, lost_kept f g b a lost h.0 h.1, h.2)) start

-- a gap that b doesn't stand in was there before
lost_gap : (f g : Af) (b a i j : ℕ) → IsLostRow f g b a → (i ≤ b → b < j → ⊥) → HasGap g a i j → HasGap f a i j
lost_gap f g b a i j lost outside gap x at late before =
    ⊎_elim (λ (e : x ≡ b). outside (omega arith) (omega arith))
    (λ other. gap x ((lost.others x other).0 at) late before) (cases_eq x b)

-- the gap from the place before b to past b
over_gap : (f g : Af) (b a i j : ℕ) → IsLostRow f g b a → IsPlaceBefore g a b i → HasGap g a (b + 1) j → HasGap g a i j
over_gap f g b a i j lost place gap x at late before =
    ⊎_elim (λ (e : x ≡ b). lost.gone (subst (λ y. Attacks g y a) e at))
    (λ other. ⊎_elim (λ lt. place.gap x at late lt) (λ ge. gap x at (omega arith) before) (cases_lt x b))
    (cases_eq x b)

lost_step : (f g : Af) → (b a i j : ℕ) → IsLostRow f g b a → Contains g.live a → IsPlaceBefore g a b i
    → IsNextAfter g a b j → IsWalkStep g a i j × (IsWalkStep f a i j → ⊥)
lost_step f g b a i j lost live place next =
    let order = place.order in
    let past = next.past in (
      record {
        live = live;
        start = place.start;
        order = omega arith;
        gap = over_gap f g b a i j lost place next.gap;
        attack = next.attack;
      },
      λ step. step.gap b lost.was order past,
    )

lost_end : (f g : Af) → IsNumberedAf f → (b a i : ℕ) → IsLostRow f g b a → Contains g.live a → IsPlaceBefore g a b i
    → HasNoneAfter g a b → IsWalkEnd g a i × (IsWalkEnd f a i → ⊥)
lost_end f g ok b a i lost live place none =
    let order = place.order in (
      record { live = live; start = place.start; gap = over_gap f g b a i 1000001 lost place none },
      λ end. end.gap b lost.was order (attacker_high f ok b a lost.was),
    )

-- what is needed behind the edit and was not before, under whatever name, is called for
called_as : (f g : Af) (name other : AxiomName) → name ≡ other
    → IsNeeded (af g) name × (IsNeeded (af f) name → ⊥) → IsCalledFor (af f) (af g) other
called_as f g name other e made =
    subst (IsCalledFor (af f) (af g)) e (record { needed = made.0; new = made.1 })

-- an axiom of the step past b is called for
pub loss_calls : (f g : Af) → IsNumberedAf f → (b a : ℕ) → IsLostRow f g b a → Contains g.live a → (name : AxiomName)
    → IsCalledByLoss g b a name → IsCalledFor (af f) (af g) name
loss_calls f g ok b a lost live (OfAf (A5 x k j)) h =
    called_as f g _ _ (same_three A5 a k j x k j h.0 refl refl) (lost_step f g b a k j lost live h.1.0 h.1.1)
loss_calls f g ok b a lost live (OfAf (A8 x k j)) h =
    called_as f g _ _ (same_three A8 a k j x k j h.0 refl refl) (lost_step f g b a k j lost live h.1.0 h.1.1)
loss_calls f g ok b a lost live (OfAf (A6 x k)) h =
    called_as f g _ _ (same_two A6 a k x k h.0 refl) (lost_end f g ok b a k lost live h.1.0 h.1.1)
loss_calls f g ok b a lost live (OfAf (A9 x k)) h =
    called_as f g _ _ (same_two A9 a k x k h.0 refl) (lost_end f g ok b a k lost live h.1.0 h.1.1)
loss_calls f g ok b a lost live (OfAf _) h = absurd h
loss_calls f g ok b a lost live (OfAba name) h = absurd h

-- a step of the walk that is new goes past b
new_step : (f g : Af) (b a i j : ℕ) → IsLostRow f g b a → IsWalkStep g a i j → (IsWalkStep f a i j → ⊥)
    → IsPlaceBefore g a b i × IsNextAfter g a b j
new_step f g b a i j lost step new =
    let old : (i ≤ b → b < j → ⊥) → ⊥ = λ outside. new (record {
      live = lost.live.1 step.live;
      start = lost_start f g b a i lost step.start;
      order = step.order;
      gap = lost_gap f g b a i j lost outside step.gap;
      attack = lost_kept f g b a lost j step.attack;
    }) in
    ⊎_elim
    (λ (lt : b < j). ⊎_elim (λ early. absurd (old (λ le _. omega arith)))
    (λ (le : i ≤ b). (
      record { start = step.start; order = le; gap = λ x at late before. step.gap x at late (omega arith) },
      record { past = lt; attack = step.attack; gap = λ x at late before. step.gap x at (omega arith) before },
    ))
    (cases_lt b i))
    (λ ge. absurd (old (λ _ lt. omega arith)))
    (cases_lt b j)

new_end : (f g : Af) → IsNumberedAf f → (b a i : ℕ) → IsLostRow f g b a → IsWalkEnd g a i → (IsWalkEnd f a i → ⊥)
    → IsPlaceBefore g a b i × HasNoneAfter g a b
new_end f g ok b a i lost end new =
    let high = attacker_high f ok b a lost.was in
    ⊎_elim
    (λ early. absurd (new (record {
      live = lost.live.1 end.live;
      start = lost_start f g b a i lost end.start;
      gap = lost_gap f g b a i 1000001 lost (λ le _. omega arith) end.gap;
    })))
    (λ (le : i ≤ b). (
      record { start = end.start; order = le; gap = λ x at late before. end.gap x at late (omega arith) },
      λ x at late before. end.gap x at (omega arith) before,
    ))
    (cases_lt b i)

-- so does one of the walk towards an argument that is a
step_past : (f g : Af) (b a x i j : ℕ) → IsLostRow f g b a → x ≡ a → IsWalkStep g x i j → (IsWalkStep f x i j → ⊥)
    → (x ≡ a) × (IsPlaceBefore g a b i × IsNextAfter g a b j)
step_past f g b a x i j lost e step new = (
  e,
  new_step f g b a i j lost (subst (λ y. IsWalkStep g y i j) e step)
      (λ k. new (subst (λ y. IsWalkStep f y i j) (sym e) k)),
)

end_past : (f g : Af) → IsNumberedAf f → (b a x i : ℕ) → IsLostRow f g b a → x ≡ a → IsWalkEnd g x i
    → (IsWalkEnd f x i → ⊥) → (x ≡ a) × (IsPlaceBefore g a b i × HasNoneAfter g a b)
end_past f g ok b a x i lost e end new = (
  e,
  new_end f g ok b a i lost (subst (λ y. IsWalkEnd g y i) e end) (λ k. new (subst (λ y. IsWalkEnd f y i) (sym e) k)),
)

-- nothing else is new
live_not_new : (f g : Af) (b a : ℕ) → IsLostRow f g b a → (x : ℕ) → x ≡ a → Contains g.live x
    → (Contains f.live x → ⊥) → ⊥
live_not_new f g b a lost x e here new =
    new (subst (Contains f.live) (sym e) (lost.live.1 (subst (Contains g.live) e here)))

attack_not_new : (f g : Af) (b a : ℕ) → IsLostRow f g b a → (y x : ℕ) → x ≡ a → Attacks g y x → (Attacks f y x → ⊥)
    → ⊥
attack_not_new f g b a lost y x e here new =
    new (subst (Attacks f y) (sym e) (lost_kept f g b a lost y (subst (Attacks g y) e here)))

-- an axiom that tells of a and is called for is of the step past b
pub called_by_loss : (f g : Af) → IsNumberedAf f → (b a : ℕ) → IsLostRow f g b a → (name : AfAxiom) → told_of name ≡ a
    → IsCalledFor (af f) (af g) (OfAf name) → IsCalledByLoss g b a (OfAf name)
called_by_loss f g ok b a lost (A5 x i j) e h = step_past f g b a x i j lost e h.needed h.new
called_by_loss f g ok b a lost (A8 x i j) e h = step_past f g b a x i j lost e h.needed h.new
called_by_loss f g ok b a lost (A6 x i) e h = end_past f g ok b a x i lost e h.needed h.new
called_by_loss f g ok b a lost (A9 x i) e h = end_past f g ok b a x i lost e h.needed h.new
called_by_loss f g ok b a lost (A1 x) e h = absurd (live_not_new f g b a lost x e h.needed h.new)
called_by_loss f g ok b a lost (A7 x) e h = absurd (live_not_new f g b a lost x e h.needed h.new)
called_by_loss f g ok b a lost (A10 x) e h = absurd (live_not_new f g b a lost x e h.needed h.new)
called_by_loss f g ok b a lost (A11 x) e h = absurd (live_not_new f g b a lost x e h.needed h.new)
called_by_loss f g ok b a lost (A12 x) e h = absurd (live_not_new f g b a lost x e h.needed h.new)
called_by_loss f g ok b a lost (A13 x) e h = absurd (live_not_new f g b a lost x e h.needed h.new)
called_by_loss f g ok b a lost (A2 y x) e h = absurd (attack_not_new f g b a lost y x e h.needed h.new)
called_by_loss f g ok b a lost (A3 y x) e h = absurd (attack_not_new f g b a lost y x e h.needed h.new)
called_by_loss f g ok b a lost (A4 y x) e h = absurd (attack_not_new f g b a lost y x e h.needed h.new)
called_by_loss f g ok b a lost (A14 part) e h = absurd (h.new h.needed)

-- ---- an argument that gains an attacker

-- b attacks a, and did not before; a's other attackers stay
pub record IsGainedRow (f g : Af) (b a : ℕ) : Type 0 where
  pub live : Contains f.live a ↔ Contains g.live a
  pub fresh : Attacks f b a → ⊥
  pub now : Attacks g b a
  pub others : (x : ℕ) → (x ≡ b → ⊥) → Attacks f x a ↔ Attacks g x a

gained_kept : (f g : Af) (b a : ℕ) → IsGainedRow f g b a → (x : ℕ) → Attacks f x a → Attacks g x a
gained_kept f g b a gained x at =
    (gained.others x (λ e. gained.fresh (subst (λ y. Attacks f y a) e at))).0 at

-- the walk did not come past b before
not_past : (f g : Af) (b a : ℕ) → IsGainedRow f g b a → 1 ≤ b → IsWalkStart f a (b + 1) → ⊥
not_past f g b a gained low start =
    ⊎_elim (λ e. let one : b + 1 ≡ 1 = e in omega arith)
    (λ h. let is : b + 1 ≡ h.0 + 1 = h.2 in
    let same : h.0 ≡ b = omega arith in gained.fresh (subst (λ y. Attacks f y a) same h.1))
    start

to_step : (f g : Af) (b a i : ℕ) → IsGainedRow f g b a → Contains g.live a → IsPlaceBefore g a b i
    → IsWalkStep g a i b × (IsWalkStep f a i b → ⊥)
to_step f g b a i gained live place = (
  record { live = live; start = place.start; order = place.order; gap = place.gap; attack = gained.now },
  λ step. gained.fresh step.attack,
)

past_step : (f g : Af) (b a j : ℕ) → IsGainedRow f g b a → 1 ≤ b → Contains g.live a → IsNextAfter g a b j
    → IsWalkStep g a (b + 1) j × (IsWalkStep f a (b + 1) j → ⊥)
past_step f g b a j gained low live next =
    let past = next.past in (
      record {
        live = live;
        start = inr (b, gained.now, refl);
        order = omega arith;
        gap = next.gap;
        attack = next.attack;
      },
      λ step. not_past f g b a gained low step.start,
    )

past_end : (f g : Af) (b a : ℕ) → IsGainedRow f g b a → 1 ≤ b → Contains g.live a → HasNoneAfter g a b
    → IsWalkEnd g a (b + 1) × (IsWalkEnd f a (b + 1) → ⊥)
past_end f g b a gained low live none = (
  record { live = live; start = inr (b, gained.now, refl); gap = none },
  λ end. not_past f g b a gained low end.start,
)

to_attack_calls : (f g : Af) (b a : ℕ) → IsGainedRow f g b a → Contains g.live a → (name : AxiomName)
    → IsToAttack g b a name → IsCalledFor (af f) (af g) name
to_attack_calls f g b a gained live (OfAf (A2 y x)) h =
    called_as f g _ _ (same_two A2 b a y x h.0 h.1) (gained.now, gained.fresh)
to_attack_calls f g b a gained live (OfAf (A3 y x)) h =
    called_as f g _ _ (same_two A3 b a y x h.0 h.1) (gained.now, gained.fresh)
to_attack_calls f g b a gained live (OfAf (A4 y x)) h =
    called_as f g _ _ (same_two A4 b a y x h.0 h.1) (gained.now, gained.fresh)
to_attack_calls f g b a gained live (OfAf (A5 x k j)) h =
    called_as f g _ _ (same_three A5 a k b x k j h.0 refl h.1.1) (to_step f g b a k gained live h.1.0)
to_attack_calls f g b a gained live (OfAf (A8 x k j)) h =
    called_as f g _ _ (same_three A8 a k b x k j h.0 refl h.1.1) (to_step f g b a k gained live h.1.0)
to_attack_calls f g b a gained live (OfAf _) h = absurd h
to_attack_calls f g b a gained live (OfAba name) h = absurd h

past_attack_calls : (f g : Af) (b a : ℕ) → IsGainedRow f g b a → 1 ≤ b → Contains g.live a → (name : AxiomName)
    → IsPast g a (λ k. k ≡ b + 1) b name → IsCalledFor (af f) (af g) name
past_attack_calls f g b a gained low live (OfAf (A5 x k j)) h =
    let made = past_step f g b a j gained low live h.1.1 in
    subst (IsCalledFor (af f) (af g)) (same_three A5 a (b + 1) j x k j h.0 h.1.0 refl)
    (record { needed = made.0; new = made.1 })
past_attack_calls f g b a gained low live (OfAf (A8 x k j)) h =
    let made = past_step f g b a j gained low live h.1.1 in
    subst (IsCalledFor (af f) (af g)) (same_three A8 a (b + 1) j x k j h.0 h.1.0 refl)
    (record { needed = made.0; new = made.1 })
past_attack_calls f g b a gained low live (OfAf (A6 x k)) h =
    let made = past_end f g b a gained low live h.1.1 in
    subst (IsCalledFor (af f) (af g)) (same_two A6 a (b + 1) x k h.0 h.1.0)
    (record { needed = made.0; new = made.1 })
past_attack_calls f g b a gained low live (OfAf (A9 x k)) h =
    let made = past_end f g b a gained low live h.1.1 in
    subst (IsCalledFor (af f) (af g)) (same_two A9 a (b + 1) x k h.0 h.1.0)
    (record { needed = made.0; new = made.1 })
past_attack_calls f g b a gained low live (OfAf _) h = absurd h
past_attack_calls f g b a gained low live (OfAba name) h = absurd h

pub attack_calls : (f g : Af) (b a : ℕ) → IsGainedRow f g b a → 1 ≤ b → Contains g.live a → (name : AxiomName)
    → IsCalledByAttack g b a name → IsCalledFor (af f) (af g) name
attack_calls f g b a gained low live name h =
    ⊎_elim (to_attack_calls f g b a gained live name) (past_attack_calls f g b a gained low live name) h

gained_start : (f g : Af) (b a i : ℕ) → IsGainedRow f g b a → (i ≡ b + 1 → ⊥) → IsWalkStart g a i → IsWalkStart f a i
gained_start f g b a i gained other start =
    ⊎_elim (λ e. inl e)
    (λ h. let apart : h.0 ≡ b → ⊥ = λ (e : h.0 ≡ b). let is : i ≡ h.0 + 1 = h.2 in other (omega arith) in
    inr (h.0, (gained.others h.0 apart).1 h.1, h.2))
    start

gained_gap : (f g : Af) (b a i j : ℕ) → IsGainedRow f g b a → HasGap g a i j → HasGap f a i j
gained_gap f g b a i j gained gap x at late before = gap x (gained_kept f g b a gained x at) late before

-- a step of the walk that is new goes to b, or from just past it
step_by_attack : (f g : Af) (b a i j : ℕ) → IsGainedRow f g b a → IsWalkStep g a i j → (IsWalkStep f a i j → ⊥)
    → (IsPlaceBefore g a b i × (j ≡ b)) ⊎ ((i ≡ b + 1) × IsNextAfter g a b j)
step_by_attack f g b a i j gained step new =
    let order = step.order in
    ⊎_elim
    (λ (e : j ≡ b). inl (
      record { start = step.start; order = omega arith; gap = λ x at late before. step.gap x at late (omega arith) },
      e,
    ))
    (λ other. ⊎_elim
    (λ (e : i ≡ b + 1). inr (
      e,
      record {
        past = omega arith;
        attack = step.attack;
        gap = λ x at late before. step.gap x at (omega arith) before;
      },
    ))
    (λ old. absurd (new (record {
      live = gained.live.1 step.live;
      start = gained_start f g b a i gained old step.start;
      order = step.order;
      gap = gained_gap f g b a i j gained step.gap;
      attack = (gained.others j other).1 step.attack;
    })))
    (cases_eq i (b + 1)))
    (cases_eq j b)

end_by_attack : (f g : Af) (b a i : ℕ) → IsGainedRow f g b a → IsWalkEnd g a i → (IsWalkEnd f a i → ⊥)
    → (i ≡ b + 1) × HasNoneAfter g a b
end_by_attack f g b a i gained end new =
    ⊎_elim (λ (e : i ≡ b + 1). (e, λ x at late before. end.gap x at (omega arith) before))
    (λ old. absurd (new (record {
      live = gained.live.1 end.live;
      start = gained_start f g b a i gained old end.start;
      gap = gained_gap f g b a i 1000001 gained end.gap;
    })))
    (cases_eq i (b + 1))

-- the same of a walk towards an argument that is a
step_by_pair : (f g : Af) (b a x i j : ℕ) → IsGainedRow f g b a → x ≡ a → IsWalkStep g x i j
    → (IsWalkStep f x i j → ⊥)
    → ((x ≡ a) × (IsPlaceBefore g a b i × (j ≡ b))) ⊎ ((x ≡ a) × ((i ≡ b + 1) × IsNextAfter g a b j))
step_by_pair f g b a x i j gained e step new =
    ⊎_elim (λ to. inl (e, to)) (λ past. inr (e, past))
    (step_by_attack f g b a i j gained (subst (λ y. IsWalkStep g y i j) e step)
    (λ k. new (subst (λ y. IsWalkStep f y i j) (sym e) k)))

end_by_pair : (f g : Af) (b a x i : ℕ) → IsGainedRow f g b a → x ≡ a → IsWalkEnd g x i → (IsWalkEnd f x i → ⊥)
    → (x ≡ a) × ((i ≡ b + 1) × HasNoneAfter g a b)
end_by_pair f g b a x i gained e end new = (
  e,
  end_by_attack f g b a i gained (subst (λ y. IsWalkEnd g y i) e end)
      (λ k. new (subst (λ y. IsWalkEnd f y i) (sym e) k)),
)

live_by_attack : (f g : Af) (b a x : ℕ) → IsGainedRow f g b a → x ≡ a → Contains g.live x → Contains f.live x
live_by_attack f g b a x gained e c =
    subst (Contains f.live) (sym e) (gained.live.1 (subst (Contains g.live) e c))

attack_by_attack : (f g : Af) (b a y x : ℕ) → IsGainedRow f g b a → x ≡ a → Attacks g y x → (Attacks f y x → ⊥)
    → y ≡ b
attack_by_attack f g b a y x gained e at new =
    ⊎_elim (λ same. same)
    (λ other. absurd (new (subst (Attacks f y) (sym e) ((gained.others y other).1 (subst (Attacks g y) e at)))))
    (cases_eq y b)

-- an axiom that tells of a and is called for is the attack's, or of the step past b
called_by_attack : (f g : Af) (b a : ℕ) → IsGainedRow f g b a → (name : AfAxiom) → told_of name ≡ a
    → IsCalledFor (af f) (af g) (OfAf name) → IsCalledByAttack g b a (OfAf name)
called_by_attack f g b a gained (A2 y x) e h = inl (attack_by_attack f g b a y x gained e h.needed h.new, e)
called_by_attack f g b a gained (A3 y x) e h = inl (attack_by_attack f g b a y x gained e h.needed h.new, e)
called_by_attack f g b a gained (A4 y x) e h = inl (attack_by_attack f g b a y x gained e h.needed h.new, e)
called_by_attack f g b a gained (A5 x i j) e h = step_by_pair f g b a x i j gained e h.needed h.new
called_by_attack f g b a gained (A8 x i j) e h = step_by_pair f g b a x i j gained e h.needed h.new
called_by_attack f g b a gained (A6 x i) e h = inr (end_by_pair f g b a x i gained e h.needed h.new)
called_by_attack f g b a gained (A9 x i) e h = inr (end_by_pair f g b a x i gained e h.needed h.new)
called_by_attack f g b a gained (A1 x) e h = absurd (h.new (live_by_attack f g b a x gained e h.needed))
called_by_attack f g b a gained (A7 x) e h = absurd (h.new (live_by_attack f g b a x gained e h.needed))
called_by_attack f g b a gained (A10 x) e h = absurd (h.new (live_by_attack f g b a x gained e h.needed))
called_by_attack f g b a gained (A11 x) e h = absurd (h.new (live_by_attack f g b a x gained e h.needed))
called_by_attack f g b a gained (A12 x) e h = absurd (h.new (live_by_attack f g b a x gained e h.needed))
called_by_attack f g b a gained (A13 x) e h = absurd (h.new (live_by_attack f g b a x gained e h.needed))
called_by_attack f g b a gained (A14 part) e h = absurd (h.new h.needed)

-- ---- an attack comes or goes

-- what tells of another argument was needed before
not_called : (f g : Af) (name : AfAxiom) → IsSameRow f g (told_of name) → IsCalledFor (af f) (af g) (OfAf name) → ⊥
not_called f g name same h = h.new (needed_before f g name same h.needed)

pub by_attack : (f g : Af) (b a : ℕ) → IsGainedRow f g b a → ((x : ℕ) → (x ≡ a → ⊥) → IsSameRow f g x) → 1 ≤ b
    → Contains g.live a → (name : AxiomName) → IsCalledByAttack g b a name ↔ IsCalledFor (af f) (af g) name
by_attack f g b a gained rows low live name =
    (attack_calls f g b a gained low live name, λ h. back name h)
  where
    back : (name : AxiomName) → IsCalledFor (af f) (af g) name → IsCalledByAttack g b a name
    back (OfAba other) h = absurd h.needed
    back (OfAf other) h = ⊎_elim (λ e. called_by_attack f g b a gained other e h)
        (λ no. absurd (not_called f g other (rows (told_of other) no) h)) (cases_eq (told_of other) a)

pub by_loss : (f g : Af) → IsNumberedAf f → (b a : ℕ) → IsLostRow f g b a
    → ((x : ℕ) → (x ≡ a → ⊥) → IsSameRow f g x) → Contains g.live a → (name : AxiomName)
    → IsCalledByLoss g b a name ↔ IsCalledFor (af f) (af g) name
by_loss f g ok b a lost rows live name =
    (loss_calls f g ok b a lost live name, λ h. back name h)
  where
    back : (name : AxiomName) → IsCalledFor (af f) (af g) name → IsCalledByLoss g b a name
    back (OfAba other) h = absurd h.needed
    back (OfAf other) h = ⊎_elim (λ e. called_by_loss f g ok b a lost other e h)
        (λ no. absurd (not_called f g other (rows (told_of other) no) h)) (cases_eq (told_of other) a)

-- ---- an argument goes

-- each argument but n stays, and loses the attacker n if it had it
pub record LosesArgument (f g : Af) (n : ℕ) : Type 0 where
  pub gone : Contains g.live n → ⊥
  pub lost : (t : ℕ) → (t ≡ n → ⊥) → Attacks f n t → IsLostRow f g n t
  pub kept : (t : ℕ) → (t ≡ n → ⊥) → (Attacks f n t → ⊥) → IsSameRow f g t

pub by_argument : (f g : Af) → IsNumberedAf f → IsNumberedAf g → (n : ℕ) (pairs : List (ℕ × ℕ)) → LosesArgument f g n
    → ((t : ℕ) → Contains pairs (n, t) ↔ Attacks f n t) → (name : AxiomName)
    → IsCalledByPairs g n pairs name ↔ IsCalledFor (af f) (af g) name
by_argument f g ok ko n pairs loses listed name = (λ h. forth name h, λ h. back name h)
  where
    attack_of : (p : ℕ × ℕ) → Contains pairs p → p.0 ≡ n → Attacks f n p.1
    attack_of p c e = (listed p.1).0 (subst (λ m. Contains pairs (m, p.1)) e c)

    forth : (name : AxiomName) → IsCalledByPairs g n pairs name → IsCalledFor (af f) (af g) name
    forth name (p, c, (e, (other, h))) =
        let at = attack_of p c e in
        let lost = loses.lost p.1 other at in
        loss_calls f g ok n p.1 lost (lost.live.0 (ok.form.ends n p.1 at).1) name h

    back : (name : AxiomName) → IsCalledFor (af f) (af g) name → IsCalledByPairs g n pairs name
    back (OfAba other) h = absurd h.needed
    back (OfAf other) h =
        let t = told_of other in
        ⊎_elim (λ was. absurd (h.new was))
        (λ live. let no : t ≡ n → ⊥ = λ e. loses.gone (subst (Contains g.live) e live) in
        ⊎_elim (λ at. (
          (n, t),
          (listed t).1 at,
          (refl, (no, called_by_loss f g ok n t (loses.lost t no at) other refl h)),
        ))
        (λ not. absurd (not_called f g other (loses.kept t no not) h))
        (decide_attacks f n t))
        (told_live f g ko other h.needed)

-- ---- an argument comes

-- the argument n is live, and was not; nothing attacks it; all else stays
pub record GainsArgument (f g : Af) (n : ℕ) : Type 0 where
  pub fresh : Contains f.live n → ⊥
  pub now : Contains g.live n
  pub none : (x : ℕ) → Attacks g x n → ⊥
  pub others : (t : ℕ) → (t ≡ n → ⊥) → IsSameRow f g t

alone_end : (f g : Af) (n i : ℕ) → GainsArgument f g n → i ≡ 1 → IsWalkEnd g n i
alone_end f g n i gains e = record { live = gains.now; start = inl e; gap = λ x at late before. gains.none x at }

alone_calls : (f g : Af) (n : ℕ) → GainsArgument f g n → (name : AxiomName) → IsAlone n name
    → IsCalledFor (af f) (af g) name
alone_calls f g n gains (OfAf (A1 x)) h = called_as f g _ _ (same_one A1 n x h) (gains.now, gains.fresh)
alone_calls f g n gains (OfAf (A7 x)) h = called_as f g _ _ (same_one A7 n x h) (gains.now, gains.fresh)
alone_calls f g n gains (OfAf (A10 x)) h = called_as f g _ _ (same_one A10 n x h) (gains.now, gains.fresh)
alone_calls f g n gains (OfAf (A11 x)) h = called_as f g _ _ (same_one A11 n x h) (gains.now, gains.fresh)
alone_calls f g n gains (OfAf (A12 x)) h = called_as f g _ _ (same_one A12 n x h) (gains.now, gains.fresh)
alone_calls f g n gains (OfAf (A13 x)) h = called_as f g _ _ (same_one A13 n x h) (gains.now, gains.fresh)
alone_calls f g n gains (OfAf (A6 x i)) h = called_as f g _ _ (same_two A6 n i x i h.0 refl) (alone_end f g n i gains h.1, λ end. gains.fresh end.live)
alone_calls f g n gains (OfAf (A9 x i)) h = called_as f g _ _ (same_two A9 n i x i h.0 refl) (alone_end f g n i gains h.1, λ end. gains.fresh end.live)
alone_calls f g n gains (OfAf _) h = absurd h
alone_calls f g n gains (OfAba name) h = absurd h

alone_start : (f g : Af) (n i : ℕ) → GainsArgument f g n → IsWalkStart g n i → i ≡ 1
alone_start f g n i gains start = ⊎_elim (λ e. e) (λ h. absurd (gains.none h.0 h.1)) start

called_alone : (f g : Af) (n : ℕ) → GainsArgument f g n → (name : AfAxiom) → told_of name ≡ n
    → IsCalledFor (af f) (af g) (OfAf name) → IsAlone n (OfAf name)
called_alone f g n gains (A1 x) e h = e
called_alone f g n gains (A7 x) e h = e
called_alone f g n gains (A10 x) e h = e
called_alone f g n gains (A11 x) e h = e
called_alone f g n gains (A12 x) e h = e
called_alone f g n gains (A13 x) e h = e
called_alone f g n gains (A6 x i) e h =
    let end : IsWalkEnd g n i = subst (λ y. IsWalkEnd g y i) e h.needed in (e, alone_start f g n i gains end.start)
called_alone f g n gains (A9 x i) e h =
    let end : IsWalkEnd g n i = subst (λ y. IsWalkEnd g y i) e h.needed in (e, alone_start f g n i gains end.start)
called_alone f g n gains (A2 y x) e h = absurd (gains.none y (subst (Attacks g y) e h.needed))
called_alone f g n gains (A3 y x) e h = absurd (gains.none y (subst (Attacks g y) e h.needed))
called_alone f g n gains (A4 y x) e h = absurd (gains.none y (subst (Attacks g y) e h.needed))
called_alone f g n gains (A5 x i j) e h = absurd (gains.none j (subst (Attacks g j) e h.needed.attack))
called_alone f g n gains (A8 x i j) e h = absurd (gains.none j (subst (Attacks g j) e h.needed.attack))
called_alone f g n gains (A14 part) e h = absurd (h.new h.needed)

pub by_new_argument : (f g : Af) (n : ℕ) → GainsArgument f g n → (name : AxiomName)
    → IsAlone n name ↔ IsCalledFor (af f) (af g) name
by_new_argument f g n gains name = (alone_calls f g n gains name, λ h. back name h)
  where
    back : (name : AxiomName) → IsCalledFor (af f) (af g) name → IsAlone n name
    back (OfAba other) h = absurd h.needed
    back (OfAf other) h = ⊎_elim (λ e. called_alone f g n gains other e h)
        (λ no. absurd (not_called f g other (gains.others (told_of other) no) h)) (cases_eq (told_of other) n)
