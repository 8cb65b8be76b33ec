-- Marks by stamps, marks that come, and walks over what is marked.
use Rattle.std.proofs.Common.{◌≡◌, ℕ, ◌+◌, ◌<◌, ◌≤◌, Bool, true, false, List, length, get_or, set, replicate, arith, subst, sym, ap, ◌∙◌, refl, inl, inr, ⊎_elim, eqb, eq-eqb, ne_eqb}
use Rattle.std.specs.Prelude.{◌↔◌, ◌⊎◌, Contains, IsTrue, map}
use Rattle.std.proofs.lemmas.Bool.{cases_eq, cases_lt, false≢true}
use Rattle.std.proofs.lemmas.List.{length-set, length-map, length-replicate, get_or-set_same, get_or-set_other, get_or-replicate, get_or_past, get_or_default, get_or-map, map-set, ext_get_or}
use Rattle.std.proofs.lemmas.List.Elements.{Contains-get_or}
use Rattle.attack_index.specs.semantics.specs.Framework.{Af, Attacks, IsAttackedBy, Defends, IsConflictFree}
use Rattle.attack_index.specs.semantics.specs.Frameworks.{IsNumberedAf}
use Rattle.dung_notions.specs.Neighbours.{ListsTargets, ListsAttackers}
use Rattle.dung_notions.proofs.NotionLemmas.{WalkedAll, all_members}
use Rattle.marked_sets.specs.Marks.{AreStamps, AreMarked, MarksAlso, is_marked, marks_of}

-- ---- stamps

-- a stamp ahead of all others marks nothing
pub none_ahead : (stamps : List ℕ) (present bound : ℕ) → AreStamps stamps present → length stamps ≡ bound
    → marks_of stamps (present + 1) ≡ replicate bound false
none_ahead stamps present bound h long =
    let f : ℕ → Bool = λ stamp. eqb stamp (present + 1) in
    ext_get_or false (map f stamps) (replicate bound false)
    (length-map stamps f ∙ long ∙ sym (length-replicate bound false))
    (λ k lt.
    let low : k < length stamps = omega (arith, lt, length-map stamps f) in
    get_or-map f stamps k 0 false low
    ∙ ne_eqb _ _ (omega (arith, h.given (get_or stamps k 0) (Contains-get_or stamps k 0 low)))
    ∙ sym (get_or-replicate bound k false false (omega (arith, low, long))))

-- a table of stamps 0 marks nothing
pub none_stamped : (bound : ℕ) → marks_of (replicate bound 0) 1 ≡ replicate bound false
none_stamped bound =
    let long : length (replicate bound 0) ≡ bound = length-replicate {A = ℕ} bound 0 in
    none_ahead (replicate bound 0) 0 bound
    (record {
      given = λ s c.
          let here : get_or (replicate bound 0) c.0 s ≡ 0 = get_or-replicate bound c.0 0 s (omega (arith, c.1, long)) in
          omega (arith, here, c.2);
    })
    long

-- the present stamp lies ahead of none
pub stamped : (stamps : List ℕ) (present k : ℕ) → AreStamps stamps present → AreStamps (set stamps k present) present
stamped stamps present k h = record {
  given = λ s c.
      let low : c.0 < length stamps = omega (arith, c.1, length-set stamps k present) in
      ⊎_elim (λ (e : c.0 ≡ k).
      let here : get_or (set stamps k present) c.0 s ≡ present =
      rw e (get_or-set_same stamps k present s (rw e at low)) in
      omega (arith, here, c.2))
      (λ ne. h.given s (c.0, low, sym (get_or-set_other stamps k c.0 present s ne) ∙ c.2))
      (cases_eq c.0 k);
}

-- the present stamp marks
pub marks_here : (stamps : List ℕ) (present k : ℕ)
    → marks_of (set stamps k present) present ≡ set (marks_of stamps present) k true
marks_here stamps present k =
    map-set (λ stamp. eqb stamp present) stamps k present
    ∙ ap (λ b. set (marks_of stamps present) k b) (eq-eqb present present refl)

-- whether a number's stamp is the present one
pub has_stamp : (stamps : List ℕ) (present k : ℕ) → k < length stamps
    → is_marked (marks_of stamps present) k ≡ eqb (get_or stamps k 0) present
has_stamp stamps present k lt = get_or-map (λ stamp. eqb stamp present) stamps k 0 false lt

pub past_stamps : (stamps : List ℕ) (present k : ℕ) → length stamps ≤ k
    → is_marked (marks_of stamps present) k ≡ false
past_stamps stamps present k past =
    get_or_past (marks_of stamps present) k false
    (omega (arith, past, length-map stamps (λ stamp. eqb stamp present)))

-- ---- marks that come

-- a number more is marked
pub marks_one : (old : List Bool) (a : ℕ) → a < length old → MarksAlso (λ x. x ≡ a) old (set old a true)
marks_one old a lt = record {
  long = length-set old a true;
  marked = λ x. ⊎_elim
      (λ (e : x ≡ a). (λ _. inr e, λ _. rw e (get_or-set_same old a true false lt)))
      (λ ne. (
        λ t. inl (sym (get_or-set_other old a x true false ne) ∙ t),
        λ h. ⊎_elim (λ t. get_or-set_other old a x true false ne ∙ t) (λ e. absurd (ne e)) h,
      ))
      (cases_eq x a);
}

-- x is the second number of one of the first n pairs
pub record IsSecond (pairs : List (ℕ × ℕ)) (n x : ℕ) : Type 0 where
  pub at : ℕ
  pub first : at < n
  pub within : at < length pairs
  pub is : (get_or pairs at (0, 0)).1 ≡ x

pub seconds_none : (pairs : List (ℕ × ℕ)) (old : List Bool) → MarksAlso (IsSecond pairs 0) old old
seconds_none pairs old = record {
  long = refl;
  marked = λ x. (
    λ t. inl t,
    λ h. ⊎_elim (λ t. t) (λ (w : IsSecond pairs 0 x). absurd (omega (arith, w.first))) h,
  );
}

-- there is room for the mark of each target
pub room_for : (f : Af) (b : ℕ) (pairs : List (ℕ × ℕ)) (n : ℕ) (old new : List Bool) → ListsTargets f b pairs
    → ((b' a : ℕ) → Attacks f b' a → a < length old) → n < length pairs → MarksAlso (IsSecond pairs n) old new
    → (get_or pairs n (0, 0)).1 < length new
room_for f b pairs n old new lists low lt has =
    let p = get_or pairs n (0, 0) in
    let att = ((lists.targets p.0 p.1).0 (Contains-get_or pairs n (0, 0) lt)).1 in
    omega (arith, low b p.1 att, has.long)

pub seconds_more : (pairs : List (ℕ × ℕ)) (n : ℕ) (old new : List Bool) → n < length pairs
    → (get_or pairs n (0, 0)).1 < length new → MarksAlso (IsSecond pairs n) old new
    → MarksAlso (IsSecond pairs (n + 1)) old (set new (get_or pairs n (0, 0)).1 true)
seconds_more pairs n old new lt low before =
    let a = (get_or pairs n (0, 0)).1 in
    let one = marks_one new a low in record {
      long = one.long ∙ before.long;
      marked = λ x. (
        λ t. ⊎_elim
            (λ was. ⊎_elim (λ o. inl o)
            (λ (w : IsSecond pairs n x). inr (record {
              at = w.at;
              first = omega (arith, w.first);
              within = w.within;
              is = w.is;
            })) ((before.marked x).0 was))
            (λ (e : x ≡ a). inr (record { at = n; first = omega arith; within = lt; is = sym e }))
            ((one.marked x).0 t),
        λ h. (one.marked x).1 (⊎_elim (λ o. inl ((before.marked x).1 (inl o)))
            (λ (w : IsSecond pairs (n + 1) x). ⊎_elim
            (λ (e : w.at ≡ n). inr (sym w.is ∙ ap (λ k. (get_or pairs k (0, 0)).1) e))
            (λ ne. inl ((before.marked x).1 (inr (record {
              at = w.at;
              first = omega (arith, w.first, ne);
              within = w.within;
              is = w.is;
            }))))
            (cases_eq w.at n)) h),
      );
    }

pub seconds_all : (f : Af) (b : ℕ) (pairs : List (ℕ × ℕ)) (n : ℕ) (old new : List Bool) → ListsTargets f b pairs
    → length pairs ≤ n → MarksAlso (IsSecond pairs n) old new → MarksAlso (Attacks f b) old new
seconds_all f b pairs n old new lists end has = record {
  long = has.long;
  marked = λ x. (
    λ t. ⊎_elim (λ o. inl o)
        (λ (w : IsSecond pairs n x).
        let p = get_or pairs w.at (0, 0) in
        inr (subst (λ a. Attacks f b a) w.is
        ((lists.targets p.0 p.1).0 (Contains-get_or pairs w.at (0, 0) w.within)).1))
        ((has.marked x).0 t),
    λ h. (has.marked x).1 (⊎_elim (λ o. inl o)
        (λ att.
        let c = (lists.targets b x).1 (refl, att) in
        inr (record {
          at = c.0;
          first = omega (arith, c.1, end);
          within = c.1;
          is = ap (λ (p : ℕ × ℕ). p.1) (get_or_default pairs c.0 (0, 0) (b, x) c.1 ∙ c.2);
        })) h),
  );
}

-- one of the first n members attacks x
pub record IsHitByFirst (f : Af) (s : List ℕ) (n x : ℕ) : Type 0 where
  pub at : ℕ
  pub first : at < n
  pub within : at < length s
  pub attacks : Attacks f (get_or s at 0) x

-- what the first n members attack is marked, and there is room for all that is attacked
pub record HasMarked (f : Af) (s : List ℕ) (n : ℕ) (marks : List Bool) : Type 0 where
  pub room : (b a : ℕ) → Attacks f b a → a < length marks
  pub marked : (x : ℕ) → IsTrue (is_marked marks x) ↔ IsHitByFirst f s n x

pub none_marked : (bound x : ℕ) → IsTrue (is_marked (replicate bound false) x) → ⊥
none_marked bound x t =
    ⊎_elim (λ lt. false≢true (sym (get_or-replicate bound x false false lt) ∙ t))
    (λ past. false≢true (sym (get_or_past (replicate bound false) x false
    (omega (arith, past, length-replicate bound false))) ∙ t))
    (cases_lt x bound)

pub members_none : (f : Af) (s : List ℕ) (bound : ℕ) (marks : List Bool) → IsNumberedAf f
    → ((a : ℕ) → Contains f.live a → a < bound) → marks ≡ replicate bound false → HasMarked f s 0 marks
members_none f s bound marks form above is = rw is (record {
  room = λ b a h. omega (arith, above a (form.form.ends b a h).1, length-replicate bound false);
  marked = λ x. (
    λ t. absurd (none_marked bound x t),
    λ (w : IsHitByFirst f s 0 x). absurd (omega (arith, w.first)),
  );
})

pub members_more : (f : Af) (s : List ℕ) (n : ℕ) (old new : List Bool) → n < length s → HasMarked f s n old
    → MarksAlso (Attacks f (get_or s n 0)) old new → HasMarked f s (n + 1) new
members_more f s n old new lt before more = record {
  room = λ b a h. omega (arith, before.room b a h, more.long);
  marked = λ x. (
    λ t. ⊎_elim (λ was. let w = (before.marked x).0 was in record {
      at = w.at;
      first = omega (arith, w.first);
      within = w.within;
      attacks = w.attacks;
    }) (λ att. record { at = n; first = omega arith; within = lt; attacks = att }) ((more.marked x).0 t),
    λ (w : IsHitByFirst f s (n + 1) x). (more.marked x).1 (⊎_elim
        (λ (e : w.at ≡ n). inr (subst (λ k. Attacks f (get_or s k 0) x) e w.attacks))
        (λ ne. inl ((before.marked x).1 (record {
          at = w.at;
          first = omega (arith, w.first, ne);
          within = w.within;
          attacks = w.attacks;
        }))) (cases_eq w.at n)),
  );
}

pub members_all : (f : Af) (s : List ℕ) (n : ℕ) (marks : List Bool) → length s ≤ n → HasMarked f s n marks
    → AreMarked (IsAttackedBy f s) marks
members_all f s n marks end has = record {
  marked = λ x. (
    λ t. let w = (has.marked x).0 t in (get_or s w.at 0, Contains-get_or s w.at 0 w.within, w.attacks),
    λ h. (has.marked x).1 (record {
      at = h.1.0;
      first = omega (arith, h.1.1, end);
      within = h.1.1;
      attacks = subst (λ b. Attacks f b x) (sym (get_or_default s h.1.0 0 h.0 h.1.1 ∙ h.1.2)) h.2;
    }),
  );
}

-- ---- walks

-- a set is conflict-free where each member is live and not marked
pub free_walk : (f : Af) (s : List ℕ) (marks : List Bool) (r : Bool) → AreMarked (IsAttackedBy f s) marks
    → WalkedAll (λ b. Contains f.live b × (IsTrue (is_marked marks b) → ⊥)) s r → IsTrue r ↔ IsConflictFree f s
free_walk f s marks r m walk =
    let each = all_members (λ b. Contains f.live b × (IsTrue (is_marked marks b) → ⊥)) s r walk in (
      λ e. record {
        live = λ x c. (each.0 e x c).0;
        apart = λ b a from to h. (each.0 e a to).1 ((m.marked a).1 (b, from, h));
      },
      λ free. each.1 (λ a c. (
        free.live a c,
        λ t. let w = (m.marked a).0 t in free.apart w.0 a w.1 c w.2,
      )),
    )

-- each attacker of an argument is marked where a walk along them meets none that isn't
pub attackers_walk : (f : Af) (a : ℕ) (pairs : List (ℕ × ℕ)) (marks : List Bool) (r : Bool) → ListsAttackers f a pairs
    → WalkedAll (λ p. IsTrue (is_marked marks p.1)) pairs r → IsTrue r
    ↔ ((b : ℕ) → Attacks f b a → IsTrue (is_marked marks b))
attackers_walk f a pairs marks r lists walk =
    let each = all_members (λ (p : ℕ × ℕ). IsTrue (is_marked marks p.1)) pairs r walk in (
      λ e b h. each.0 e (a, b) ((lists.attackers a b).1 (refl, h)),
      λ d. each.1 (λ p m. d p.1 ((lists.attackers p.0 p.1).0 m).1),
    )

-- a set defends its members where all their attackers are marked
pub defended_walk : (f : Af) (s : List ℕ) (marks : List Bool) (r : Bool) → AreMarked (IsAttackedBy f s) marks
    → WalkedAll (λ a. (b : ℕ) → Attacks f b a → IsTrue (is_marked marks b)) s r → IsTrue r
    ↔ ((a : ℕ) → Contains s a → Defends f s a)
defended_walk f s marks r m walk =
    let each = all_members (λ a. (b : ℕ) → Attacks f b a → IsTrue (is_marked marks b)) s r walk in (
      λ e a c b h. (m.marked b).0 (each.0 e a c b h),
      λ d. each.1 (λ a c b h. (m.marked b).1 (d a c b h)),
    )

-- a set attacks the live arguments outside it where all of them are marked
pub others_walk : (f : Af) (s : List ℕ) (marks : List Bool) (r : Bool) → AreMarked (IsAttackedBy f s) marks
    → WalkedAll (λ a. (Contains s a → ⊥) → IsTrue (is_marked marks a)) f.live r → IsTrue r
    ↔ ((a : ℕ) → Contains f.live a → (Contains s a → ⊥) → IsAttackedBy f s a)
others_walk f s marks r m walk =
    let each = all_members (λ a. (Contains s a → ⊥) → IsTrue (is_marked marks a)) f.live r walk in (
      λ e a c out. (m.marked a).0 (each.0 e a c out),
      λ d. each.1 (λ a c out. (m.marked a).1 (d a c out)),
    )
