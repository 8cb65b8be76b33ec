-- The cone of a set decides whether the set defends its members.
use Rattle.std.proofs.Common.{◌≡◌, ℕ, ◌+◌, ◌-◌, ◌<◌, ◌≤◌, Bool, true, false, cond, List, [], ◌∷◌, ◌++◌, length, get_or, set, map, filter, replicate, arith, refl, subst, sym, ap, ◌∙◌, inl, inr, ⊎_elim, eqb, eq-eqb}
use Rattle.std.specs.Prelude.{◌↔◌, ◌⊎◌, Contains, IsTrue}
use Rattle.std.proofs.lemmas.Bool.{cases_eq, false≢true}
use Rattle.std.proofs.lemmas.List.{append-nil, append_assoc, length-append, length-set, length-replicate, get_or-set_other, get_or_default, get_or_append_left}
use Rattle.std.proofs.lemmas.List.Elements.{Contains-get_or, Contains-append_left, Contains-append_right}
use Rattle.std.proofs.lemmas.List.Sums.{sum_by-set}
use Rattle.lists.specs.Members.{IsWithin}
use Rattle.lists.proofs.Filters.{Contains-filter}
use Rattle.lists.proofs.Images.{image_from, image_there}
use Rattle.lists.proofs.Membership.{Contains-head}
use Rattle.semantics.specs.Rules.{Rule, Derives, given, by_rule}
use Rattle.semantics.specs.Collectives.{IsUnattacked, IsConflictFree, IsAdmissible}
use Rattle.semantics.specs.AbaFrameworks.{Aba, AttacksAssumption, IsNumberedAba, collective_of}
use Rattle.aba_laws.proofs.AbaLemmas.{aba_lawful}
use Rattle.aba_laws.proofs.CollectiveSets.{IsLawful, rest_of, defends_by_rest}
use Rattle.aba_notions.specs.Storage.{no_rule, rule_at}
use Rattle.marked_sets.specs.Marks.{is_marked}
use Rattle.marked_sets.proofs.MarkLemmas.{IsSecond, none_marked}
use Rattle.marked_rules.specs.declared.cone.Cone.{Cone}
use Rattle.marked_rules.specs.declared.rule_uses.RuleUses.{RuleUses}
use Rattle.marked_rules.specs.Cone.{AreListed, HasContraries, IsCone, IsFollowed, IsUsedFor, Reaches, StandsSecond, unmarked}
use Rattle.marked_rules.specs.Search.{AreOf}

-- what follows within the cone follows from what is given of the cone
pub cone_enough : (f : Aba) (s atoms kept : List ℕ) (Quiet : ℕ → Type 0) → IsCone f s atoms
    → ((x : ℕ) → Contains atoms x → Quiet x → Contains kept x)
    → (x : ℕ) → Contains atoms x → Derives f.rules Quiet x → Derives f.rules (Contains kept) x
cone_enough f s atoms kept Quiet cone keep x c (given _ q) = given x (keep x c q)
cone_enough f s atoms kept Quiet cone keep x c (by_rule r _ there is body) =
    by_rule r x there is (λ y k. cone_enough f s atoms kept Quiet cone keep y
    (cone.bodies r there (subst (λ z. Contains atoms z) (sym is) c) y k) (body y k))

-- a conflict-free set is admissible where those of the cone that it doesn't attack attack no member
pub admissible_by_cone : (f : Aba) (s atoms kept : List ℕ) (r : Bool) → IsConflictFree (collective_of f) s
    → IsCone f s atoms
    → ((x : ℕ) → Contains kept x ↔ (Contains atoms x × IsUnattacked (collective_of f) s x))
    → IsTrue r ↔ ((a : ℕ) → Contains s a → AttacksAssumption f kept a → ⊥)
    → IsTrue r ↔ IsAdmissible (collective_of f) s
admissible_by_cone f s atoms kept r free cone exact test =
    let d = collective_of f in
    let lawful : IsLawful d = aba_lawful f in
    let rest = rest_of d lawful s in
    let by = λ (a : ℕ). defends_by_rest d lawful s rest.0 a rest.1 in (
      λ e. record {
        conflict_free = free;
        defended = λ a c. (by a).1 (λ (h : AttacksAssumption f rest.0 a). test.0 e a c (record {
          contrary = h.contrary;
          is = h.is;
          derived = cone_enough f s atoms kept (Contains rest.0) cone
              (λ x k q. (exact x).1 (k, (rest.1 x).0 q)) h.contrary (cone.contraries a h.contrary c h.is) h.derived;
        }));
      },
      λ ok. test.1 (λ a c h. (by a).0 (ok.defended a c)
          (lawful.more kept rest.0 a (λ x k. (rest.1 x).1 ((exact x).0 k).1) h)),
    )

-- ---- atoms are reached

pub fresh_by : (b r : Bool) → r ≡ false → (IsTrue b → IsTrue r) → b ≡ false
fresh_by false r no_r sub = refl
fresh_by true r no_r sub = absurd (false≢true (sym no_r ∙ sub refl))

pub reaches_not : (P : ℕ → Type 0) (c : Cone) → AreListed c → ((x : ℕ) → P x → Contains c.atoms.items x) → Reaches P c c
reaches_not P c listed there = record {
  long = refl;
  listed = listed;
  added = [];
  atoms_are = sym (append-nil c.atoms.items);
  gains = there;
  spent = refl;
}

abbrev count_open : Bool → ℕ
count_open m = cond m 0 1

-- an atom that is not marked is added
pub reaches_one : (atom : ℕ) (old new : Cone) → AreListed old → atom < length old.reached
    → is_marked old.reached atom ≡ false → new.reached ≡ set old.reached atom true
    → new.atoms.items ≡ old.atoms.items ++ atom ∷ [] → Reaches (λ x. x ≡ atom) old new
reaches_one atom old new listed lt fresh marks is =
    let falls = sum_by-set count_open old.reached atom true false lt in
    let one : count_open (get_or old.reached atom false) ≡ 1 = ap count_open fresh in
    let more : length new.atoms.items ≡ length old.atoms.items + 1 =
    ap length is ∙ length-append old.atoms.items (atom ∷ []) in
    record {
      long = ap length marks ∙ length-set old.reached atom true;
      listed = λ x t. subst (λ l. Contains l x) (sym is) (⊎_elim
          (λ (e : x ≡ atom). Contains-append_right old.atoms.items (atom ∷ []) x (Contains-head atom [] x (sym e)))
          (λ ne. Contains-append_left old.atoms.items (atom ∷ []) x
          (listed x (sym (get_or-set_other old.reached atom x true false ne)
          ∙ subst (λ m. is_marked m x ≡ true) marks t)))
          (cases_eq x atom));
      added = atom ∷ [];
      atoms_are = is;
      gains = λ x e. subst (λ l. Contains l x) (sym is)
          (Contains-append_right old.atoms.items (atom ∷ []) x (Contains-head atom [] x (sym e)));
      spent = rw marks (omega (arith, falls, one, more));
    }

-- one step after another
pub reaches_then : (P Q R : ℕ → Type 0) (first old new : Cone) → ((x : ℕ) → R x → P x ⊎ Q x) → Reaches P first old
    → Reaches Q old new → Reaches R first new
reaches_then P Q R first old new split before after = record {
  long = after.long ∙ before.long;
  listed = after.listed;
  added = before.added ++ after.added;
  atoms_are = after.atoms_are ∙ ap (λ l. l ++ after.added) before.atoms_are
      ∙ append_assoc first.atoms.items before.added after.added;
  gains = λ x r. ⊎_elim
      (λ p. subst (λ l. Contains l x) (sym after.atoms_are)
      (Contains-append_left old.atoms.items after.added x (before.gains x p)))
      (λ q. after.gains x q) (split x r);
  spent = after.spent ∙ before.spent;
}

pub reaches_fewer : (P R : ℕ → Type 0) (old new : Cone) → ((x : ℕ) → R x → P x) → Reaches P old new → Reaches R old new
reaches_fewer P R old new sub h = record {
  long = h.long;
  listed = h.listed;
  added = h.added;
  atoms_are = h.atoms_are;
  gains = λ x r. h.gains x (sub x r);
  spent = h.spent;
}

-- what was reached stays
pub stays_reached : (P : ℕ → Type 0) (old new : Cone) → Reaches P old new → IsWithin old.atoms.items new.atoms.items
stays_reached P old new h x c =
    subst (λ l. Contains l x) (sym h.atoms_are) (Contains-append_left old.atoms.items h.added x c)

-- ---- second numbers of pairs

pub second_next : (pairs : List (ℕ × ℕ)) (n x : ℕ) → IsSecond pairs (n + 1) x
    → IsSecond pairs n x ⊎ (x ≡ (get_or pairs n (0, 0)).1)
second_next pairs n x w =
    ⊎_elim (λ (e : w.at ≡ n). inr (sym w.is ∙ ap (λ k. (get_or pairs k (0, 0)).1) e))
    (λ ne. inl (record { at = w.at; first = omega (arith, w.first, ne); within = w.within; is = w.is }))
    (cases_eq w.at n)

pub second_all : (pairs : List (ℕ × ℕ)) (n x : ℕ) → length pairs ≤ n → StandsSecond pairs x → IsSecond pairs n x
second_all pairs n x end h =
    let c = h.1 in record {
      at = c.0;
      first = omega (arith, c.1, end);
      within = c.1;
      is = ap (λ (p : ℕ × ℕ). p.1) (get_or_default pairs c.0 (0, 0) (h.0, x) c.1 ∙ c.2);
    }

-- ---- bodies of rules

-- x is in the body of one of the rules whose indices stand second in the first n pairs
pub record IsInFirst (f : Aba) (pairs : List (ℕ × ℕ)) (n x : ℕ) : Type 0 where
  pub at : ℕ
  pub first : at < n
  pub within : at < length pairs
  pub body : Contains (rule_at f.rules (get_or pairs at (0, 0)).1).body x

pub bodies_next : (f : Aba) (pairs body : List (ℕ × ℕ)) (n x : ℕ)
    → map (λ (p : ℕ × ℕ). p.1) body ≡ (rule_at f.rules (get_or pairs n (0, 0)).1).body
    → IsInFirst f pairs (n + 1) x → IsInFirst f pairs n x ⊎ StandsSecond body x
bodies_next f pairs body n x is w =
    ⊎_elim
    (λ (e : w.at ≡ n).
    let there : Contains (map (λ (p : ℕ × ℕ). p.1) body) x =
    subst (λ l. Contains l x) (sym is) (subst (λ k. Contains (rule_at f.rules (get_or pairs k (0, 0)).1).body x) e w.body) in
    let from = image_from (λ (p : ℕ × ℕ). p.1) body x there in
    inr (from.0.0, subst (λ y. Contains body (from.0.0, y)) from.2 from.1))
    (λ ne. inl (record { at = w.at; first = omega (arith, w.first, ne); within = w.within; body = w.body }))
    (cases_eq w.at n)

-- the atoms of a body are of the framework
pub body_low : (f : Aba) (body : List (ℕ × ℕ)) (k : ℕ) → IsNumberedAba f → k < length f.rules
    → map (λ (p : ℕ × ℕ). p.1) body ≡ (rule_at f.rules k).body → (p : ℕ × ℕ) → Contains body p → p.1 ≤ f.atoms
body_low f body k form lt is p c =
    ((form.form.rules_are (rule_at f.rules k) (Contains-get_or f.rules k no_rule lt)).body p.1
    (subst (λ l. Contains l p.1) is (image_there (λ (q : ℕ × ℕ). q.1) body p c))).high

pub bodies_all : (f : Aba) (pairs : List (ℕ × ℕ)) (atom n x : ℕ) → length pairs ≤ n
    → ((h k : ℕ) → Contains pairs (h, k)
    ↔ ((h ≡ atom) × (k < length f.rules) × ((rule_at f.rules k).head ≡ atom)))
    → IsUsedFor f atom x → IsInFirst f pairs n x
bodies_all f pairs atom n x end lists w =
    let k = w.there.0 in
    let same : rule_at f.rules k ≡ w.rule = get_or_default f.rules k no_rule w.rule w.there.1 ∙ w.there.2 in
    let c = (lists atom k).1 (refl, w.there.1, ap (λ (r : Rule). r.head) same ∙ w.head) in
    let here : (get_or pairs c.0 (0, 0)).1 ≡ k =
    ap (λ (p : ℕ × ℕ). p.1) (get_or_default pairs c.0 (0, 0) (atom, k) c.1 ∙ c.2) in
    record {
      at = c.0;
      first = omega (arith, c.1, end);
      within = c.1;
      body = subst (λ j. Contains (rule_at f.rules j).body x) (sym here)
          (subst (λ (r : Rule). Contains r.body x) (sym same) w.body);
    }

-- ---- the whole cone

-- the contraries of the first n members are reached
pub record HasFirst (f : Aba) (s : List ℕ) (n : ℕ) (c : Cone) : Type 0 where
  pub long : f.atoms < length c.reached
  pub listed : AreListed c
  pub each : (j : ℕ) → j < n → (x : ℕ) → Contains f.contraries (get_or s j 0, x) → Contains c.atoms.items x

pub first_none : (f : Aba) (s : List ℕ) (c : Cone) → c.reached ≡ replicate (f.atoms + 1) false → HasFirst f s 0 c
first_none f s c marks = record {
  long = rw marks (omega (arith, length-replicate (f.atoms + 1) false));
  listed = λ x t. absurd (none_marked (f.atoms + 1) x (subst (λ m. IsTrue (is_marked m x)) marks t));
  each = λ j lt. absurd (omega (arith, lt));
}

pub first_next : (f : Aba) (u : RuleUses) (s : List ℕ) (n : ℕ) (pairs : List (ℕ × ℕ)) (old new : Cone) → AreOf f u
    → pairs ≡ filter (λ p. eqb p.0 (get_or s n 0)) u.contraries.pairs → HasFirst f s n old
    → Reaches (StandsSecond pairs) old new → HasFirst f s (n + 1) new
first_next f u s n pairs old new of cut before reaches = record {
  long = omega (arith, before.long, reaches.long);
  listed = reaches.listed;
  each = λ j lt x c. ⊎_elim
      (λ (e : j ≡ n). reaches.gains x (
        get_or s n 0,
        subst (λ l. Contains l (get_or s n 0, x)) (sym cut)
            ((Contains-filter (λ (q : ℕ × ℕ). eqb q.0 (get_or s n 0)) u.contraries.pairs (get_or s n 0, x)).1 (
              (of.contraries_are (get_or s n 0, x)).1 (subst (λ k. Contains f.contraries (get_or s k 0, x)) e c),
              eq-eqb (get_or s n 0) (get_or s n 0) refl,
            )),
      ))
      (λ ne. stays_reached (StandsSecond pairs) old new reaches x (before.each j (omega (arith, lt, ne)) x c))
      (cases_eq j n);
}

-- a contrary is an atom
pub contrary_low : (f : Aba) (u : RuleUses) (a : ℕ) (pairs : List (ℕ × ℕ)) → AreOf f u
    → pairs ≡ filter (λ p. eqb p.0 a) u.contraries.pairs → (p : ℕ × ℕ) → Contains pairs p → p.1 ≤ f.atoms
contrary_low f u a pairs of cut p c =
    (of.form.form.contraries_are p.0 p.1 ((of.contraries_are p).0
    ((Contains-filter (λ (q : ℕ × ℕ). eqb q.0 a) u.contraries.pairs p).0 (subst (λ l. Contains l p) cut c)).0)).1.high

pub first_all : (f : Aba) (s : List ℕ) (n : ℕ) (c : Cone) → length s ≤ n → HasFirst f s n c
    → HasContraries f s c.atoms.items
first_all f s n c end has a x m there =
    has.each m.0 (omega (arith, m.1, end)) x
    (subst (λ b. Contains f.contraries (b, x)) (sym (get_or_default s m.0 0 a m.1 ∙ m.2)) there)

-- the bodies of the rules that the first n atoms head are reached
pub record HasFollowed (f : Aba) (first : Cone) (n : ℕ) (c : Cone) : Type 0 where
  pub within : n ≤ length c.atoms.items
  pub long : f.atoms < length c.reached
  pub listed : AreListed c
  pub kept : IsWithin first.atoms.items c.atoms.items
  pub each : (j : ℕ) → j < n → (x : ℕ) → IsUsedFor f (get_or c.atoms.items j 0) x → Contains c.atoms.items x

pub followed_none : (f : Aba) (c : Cone) → f.atoms < length c.reached → AreListed c → HasFollowed f c 0 c
followed_none f c long listed = record {
  within = omega arith;
  long = long;
  listed = listed;
  kept = λ x m. m;
  each = λ j lt. absurd (omega (arith, lt));
}

pub followed_next : (f : Aba) (first : Cone) (n : ℕ) (old new : Cone) → n < length old.atoms.items
    → HasFollowed f first n old → Reaches (IsUsedFor f (get_or old.atoms.items n 0)) old new
    → HasFollowed f first (n + 1) new
followed_next f first n old new lt before reaches =
    let stays = stays_reached (IsUsedFor f (get_or old.atoms.items n 0)) old new reaches in
    let grown : length new.atoms.items ≡ length old.atoms.items + length reaches.added =
    ap length reaches.atoms_are ∙ length-append old.atoms.items reaches.added in
    let same : (j : ℕ) → j < n + 1 → get_or new.atoms.items j 0 ≡ get_or old.atoms.items j 0 =
    λ j low. ap (λ l. get_or l j 0) reaches.atoms_are
    ∙ get_or_append_left old.atoms.items reaches.added 0 j (omega (arith, low, lt)) in
    record {
      within = omega (arith, lt, grown);
      long = omega (arith, before.long, reaches.long);
      listed = reaches.listed;
      kept = λ x m. stays x (before.kept x m);
      each = λ j low x w. ⊎_elim
          (λ (e : j ≡ n). reaches.gains x (subst (λ a. IsUsedFor f a x)
          (same j low ∙ ap (λ k. get_or old.atoms.items k 0) e) w))
          (λ ne. stays x (before.each j (omega (arith, low, ne)) x (subst (λ a. IsUsedFor f a x) (same j low) w)))
          (cases_eq j n);
    }

-- the numbers that are left fall
pub left_falls : (P : ℕ → Type 0) (n : ℕ) (old new : Cone) → n < length old.atoms.items → Reaches P old new
    → unmarked new.reached + (length new.atoms.items - (n + 1)) < unmarked old.reached + (length old.atoms.items - n)
left_falls P n old new lt reaches =
    let grown : length new.atoms.items ≡ length old.atoms.items + length reaches.added =
    ap length reaches.atoms_are ∙ length-append old.atoms.items reaches.added in
    omega (arith, lt, grown, reaches.spent)

pub followed_all : (f : Aba) (first : Cone) (n : ℕ) (c : Cone) → length c.atoms.items ≤ n → HasFollowed f first n c
    → IsFollowed f first.atoms.items c.atoms.items
followed_all f first n c end has = record {
  kept = has.kept;
  bodies = λ r there m x b. has.each m.0 (omega (arith, m.1, end)) x (record {
    rule = r;
    there = there;
    head = sym (get_or_default c.atoms.items m.0 0 r.head m.1 ∙ m.2);
    body = b;
  });
}

pub cone_by : (f : Aba) (s first atoms : List ℕ) → HasContraries f s first → IsFollowed f first atoms → IsCone f s atoms
cone_by f s first atoms has followed = record {
  contraries = λ a c m there. followed.kept c (has a c m there);
  bodies = followed.bodies;
}
