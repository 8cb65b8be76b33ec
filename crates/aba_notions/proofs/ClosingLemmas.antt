-- The steps of a search for what a set derives, over plain lists.
use Rattle.std.proofs.Common.{◌≡◌, ℕ, ◌+◌, ◌-◌, ◌<◌, ◌≤◌, List, [], ◌∷◌, ◌++◌, length, get_or, set, replicate, arith, ap, subst, sym, ◌∙◌, refl, eqb, Bool, true, false, inl, inr, ⊎_elim}
use Rattle.std.specs.Prelude.{◌⊎◌, ◌↔◌, Contains, filter, count_by, sum}
use Rattle.std.proofs.lemmas.Bool.{cases_Bool, cases_eq, cases_lt, both_ways}
use Rattle.std.proofs.lemmas.List.{length-set, length-replicate, get_or-set_same, get_or-set_other, get_or-replicate, get_or_past, get_or_default, set-get_or, set_past}
use Rattle.std.proofs.lemmas.List.Elements.{Contains-append_cases, Contains-append_left, Contains-push_cases, Contains-get_or}
use Rattle.std.proofs.lemmas.List.Sums.{sum_by-set}
use Rattle.lists.specs.Members.{IsSetOf}
use Rattle.set_lists.proofs.Rising.{rises_append}
use Rattle.lists.proofs.Filters.{Contains-filter}
use Rattle.lists.proofs.Membership.{Contains-pushed}
use Rattle.dung_notions.specs.attack_index.specs.PairOrder.{PairsRise, reversed}
use Rattle.dung_notions.specs.attack_index.proofs.OffsetLemmas.{count_reversed}
use Rattle.aba_laws.specs.semantics.specs.Framework.{Af}
use Rattle.dung_notions.specs.Search.{reaching}
use Rattle.dung_notions.proofs.SearchLemmas.{all_out, none_open}
use Rattle.dung_notions.proofs.UndefeatedLemmas.{open_at_first, open_when_marked, reaching_here, reaching_else, reaching_both}
use Rattle.semantics.specs.Rules.{Rule, Derives, given, by_rule}
use Rattle.aba_laws.proofs.DerivationLemmas.{derives_from}
use Rattle.aba_notions.specs.Storage.{no_rule, rule_at, AreTabled}
use Rattle.aba_notions.specs.Closing.{is_derived, count_open, IsMarked, IsClosing, Enters, Fires, GoesOn, IsClosed, ListsDerived}

-- ---- one atom more is marked

stays_set : (derived : List Bool) (a x : ℕ) → is_derived derived x ≡ true → is_derived (set derived a true) x ≡ true
stays_set derived a x was =
    ⊎_elim (λ (e : x ≡ a). ⊎_elim (λ lt. rw e (get_or-set_same derived a true true lt))
    (λ past. rw (set_past derived a true past) was) (cases_lt a (length derived)))
    (λ ne. get_or-set_other derived a x true true ne ∙ was) (cases_eq x a)

now_set : (derived : List Bool) (a : ℕ) → is_derived (set derived a true) a ≡ true
now_set derived a =
    ⊎_elim (λ lt. get_or-set_same derived a true true lt)
    (λ past. get_or_past (set derived a true) a true (omega (arith, past, length-set derived a true)))
    (cases_lt a (length derived))

unchanged : (derived : List Bool) (a : ℕ) → is_derived derived a ≡ true → set derived a true ≡ derived
unchanged derived a was = ap (λ b. set derived a b) (sym was) ∙ set-get_or derived a true

-- what is marked after one atom was
marked_before : (derived : List Bool) (a x : ℕ) → IsMarked (set derived a true) x → (x ≡ a) ⊎ IsMarked derived x
marked_before derived a x m =
    ⊎_elim (λ e. inl e)
    (λ ne. inr (record {
      within = omega (arith, m.within, length-set derived a true);
      marked = sym (get_or-set_other derived a x true true ne) ∙ m.marked;
    }))
    (cases_eq x a)

-- the attacks that the pairs of atoms and rules would be
abbrev uses_af : List (ℕ × ℕ) → Af
uses_af uses = record { live = []; attacks = uses }

module _ (rules : List Rule) (heads : List ℕ) (uses : List (ℕ × ℕ)) where
  -- the beginning
  pub begins : (n : ℕ) (open_atoms : List ℕ) → AreTabled rules heads uses
      → ((k : ℕ) → k < length heads → get_or heads k 0 < n) → ((y k : ℕ) → Contains uses (y, k) → y < n)
      → length heads ≤ length open_atoms → ((k : ℕ) → get_or open_atoms k 0 ≡ reaching k uses)
      → IsClosing rules heads uses (IsMarked (replicate n false)) 0 (replicate n false) open_atoms []
  begins n open_atoms tabled heads_low uses_low long counted =
      let wide : length (replicate n false) ≡ n = length-replicate n false in
      record {
        tabled = tabled;
        heads_within = λ k lt. rw wide (heads_low k lt);
        uses_within = λ y k c. rw wide (uses_low y k c);
        long = long;
        counted = λ k lt. omega (
          arith,
          counted k,
          open_at_first n k uses (λ i d small. uses_low _ _ (Contains-get_or uses i d small)),
        );
        sound = λ x m. given x m;
        fired = λ k lt due. absurd (omega (arith, due));
        pending_are = λ p c. absurd (omega (arith, c.1));
      }

  pub none_marked : (n x : ℕ) → IsMarked (replicate n false) x → ⊥
  none_marked n x m =
      both_ways (is_derived (replicate n false) x)
      (get_or-replicate n x false true (omega (arith, m.within, length-replicate n false))) m.marked

  -- an atom that follows enters
  entered_now : (Given : ℕ → Type 0) (derived : List Bool) (open_atoms : List ℕ) (pending : List (ℕ × ℕ)) (a : ℕ)
      → IsClosing rules heads uses Given 0 derived open_atoms pending → Derives rules Given a
      → is_derived derived a ≡ false
      → IsClosing rules heads uses Given 0 (set derived a true) open_atoms
      (pending ++ filter (λ p. eqb p.0 a) uses)
  entered_now Given derived open_atoms pending a h follows fresh =
      let wide : length (set derived a true) ≡ length derived = length-set derived a true in
      let lt : a < length derived =
      ⊎_elim (λ small. small)
      (λ past. absurd (both_ways (is_derived derived a) fresh (get_or_past derived a true past)))
      (cases_lt a (length derived)) in
      record {
        tabled = h.tabled;
        heads_within = λ k small. rw wide (h.heads_within k small);
        uses_within = λ y k c. rw wide (h.uses_within y k c);
        long = h.long;
        counted = λ k small. omega (
          arith,
          h.counted k small,
          open_when_marked derived a k uses lt fresh,
          reaching_both k pending (filter (λ p. eqb p.0 a) uses),
        );
        sound = λ x m. ⊎_elim (λ e. subst (λ y. Derives rules Given y) (sym e) follows) (λ old. h.sound x old)
            (marked_before derived a x m);
        fired = λ k small due. absurd (omega (arith, due));
        pending_are = λ p c. ⊎_elim (λ old. h.pending_are p old)
            (λ new. ((Contains-filter (λ (q : ℕ × ℕ). eqb q.0 a) uses p).0 new).0)
            (Contains-append_cases pending (filter (λ p. eqb p.0 a) uses) p c);
      }

  pub entered : (Given : ℕ → Type 0) (derived : List Bool) (open_atoms : List ℕ) (pending : List (ℕ × ℕ)) (a : ℕ)
      (derived' : List Bool) (pending' : List (ℕ × ℕ))
      → IsClosing rules heads uses Given 0 derived open_atoms pending → Derives rules Given a
      → Enters uses a derived pending derived' pending'
      → IsClosing rules heads uses Given 0 derived' open_atoms pending'
  entered Given derived open_atoms pending a derived' pending' h follows e =
      ⊎_elim
      (λ was.
      let same : derived' ≡ derived = e.derived_is ∙ unchanged derived a was in
      let still : pending' ≡ pending = e.pending_is ∙ rw was refl in
      rw (same, still) h)
      (λ fresh.
      let more : pending' ≡ pending ++ filter (λ p. eqb p.0 a) uses = e.pending_is ∙ rw fresh refl in
      rw (e.derived_is, more) (entered_now Given derived open_atoms pending a h follows fresh))
      (cases_Bool (is_derived derived a))

  -- forgets which rules have fired
  undue : (Given : ℕ → Type 0) (due : ℕ) (derived : List Bool) (open_atoms : List ℕ) (pending : List (ℕ × ℕ))
      → IsClosing rules heads uses Given due derived open_atoms pending
      → IsClosing rules heads uses Given 0 derived open_atoms pending
  undue Given due derived open_atoms pending h = record {
    tabled = h.tabled;
    heads_within = h.heads_within;
    uses_within = h.uses_within;
    long = h.long;
    counted = h.counted;
    sound = h.sound;
    fired = λ k lt none. absurd (omega (arith, none));
    pending_are = h.pending_are;
  }

  -- which rules have fired
  due_to : (Given : ℕ → Type 0) (due : ℕ) (derived : List Bool) (open_atoms : List ℕ) (pending : List (ℕ × ℕ))
      → IsClosing rules heads uses Given 0 derived open_atoms pending
      → ((k : ℕ) → k < length heads → k < due → get_or open_atoms k 0 ≡ 0
      → is_derived derived (get_or heads k 0) ≡ true)
      → IsClosing rules heads uses Given due derived open_atoms pending
  due_to Given due derived open_atoms pending h fired = record {
    tabled = h.tabled;
    heads_within = h.heads_within;
    uses_within = h.uses_within;
    long = h.long;
    counted = h.counted;
    sound = h.sound;
    fired = fired;
    pending_are = h.pending_are;
  }

  -- what is derived may be taken as given
  pub afresh : (Given : ℕ → Type 0) (due : ℕ) (derived : List Bool) (open_atoms : List ℕ) (pending : List (ℕ × ℕ))
      → IsClosing rules heads uses Given due derived open_atoms pending
      → IsClosing rules heads uses (IsMarked derived) due derived open_atoms pending
  afresh Given due derived open_atoms pending h = record {
    tabled = h.tabled;
    heads_within = h.heads_within;
    uses_within = h.uses_within;
    long = h.long;
    counted = h.counted;
    sound = λ x m. given x m;
    fired = h.fired;
    pending_are = h.pending_are;
  }

  -- where nothing is derived, anything may be given
  pub given_none : (Given : ℕ → Type 0) (derived : List Bool) (open_atoms : List ℕ) (pending : List (ℕ × ℕ))
      → IsClosing rules heads uses (IsMarked derived) 0 derived open_atoms pending
      → ((x : ℕ) → IsMarked derived x → ⊥)
      → IsClosing rules heads uses Given 0 derived open_atoms pending
  given_none Given derived open_atoms pending h none = record {
    tabled = h.tabled;
    heads_within = h.heads_within;
    uses_within = h.uses_within;
    long = h.long;
    counted = h.counted;
    sound = λ x m. absurd (none x m);
    fired = h.fired;
    pending_are = h.pending_are;
  }

  -- the head of a rule follows where no atom of its body is open
  head_follows : (Given : ℕ → Type 0) (due : ℕ) (derived : List Bool) (open_atoms : List ℕ) (pending : List (ℕ × ℕ))
      (k : ℕ) → IsClosing rules heads uses Given due derived open_atoms pending → k < length heads
      → get_or open_atoms k 0 ≡ 0 → Derives rules Given (get_or heads k 0)
  head_follows Given due derived open_atoms pending k h lt none =
      let count : count_open derived k uses ≡ 0 = omega (arith, h.counted k lt, none) in
      by_rule (rule_at rules k) (get_or heads k 0)
      (Contains-get_or rules k no_rule (omega (arith, lt, h.tabled.long)))
      (h.tabled.heads_are k lt)
      (λ y c. let used = (h.tabled.bodies_are k y lt).0 c in
      h.sound y (record { within = h.uses_within y k used; marked = all_out (uses_af uses) derived k y count used }))

  -- what a rule that fires leaves derived
  fires_stays : (k : ℕ) (open_atoms : List ℕ) (derived : List Bool) (pending : List (ℕ × ℕ)) (derived' : List Bool)
      (pending' : List (ℕ × ℕ)) → Fires heads uses k open_atoms derived pending derived' pending' → (x : ℕ)
      → is_derived derived x ≡ true → is_derived derived' x ≡ true
  fires_stays k open_atoms derived pending derived' pending' f x was =
      ⊎_elim (λ none. rw (f.fires none).derived_is (stays_set derived (get_or heads k 0) x was))
      (λ some. rw (f.waits some).0 was) (cases_eq (get_or open_atoms k 0) 0)

  pub fires_wide : (k : ℕ) (open_atoms : List ℕ) (derived : List Bool) (pending : List (ℕ × ℕ)) (derived' : List Bool)
      (pending' : List (ℕ × ℕ)) → Fires heads uses k open_atoms derived pending derived' pending'
      → length derived' ≡ length derived
  fires_wide k open_atoms derived pending derived' pending' f =
      ⊎_elim (λ none. ap length (f.fires none).derived_is ∙ length-set derived (get_or heads k 0) true)
      (λ some. ap length (f.waits some).0) (cases_eq (get_or open_atoms k 0) 0)

  -- a rule fires, whatever other rules have done
  fires_alone : (Given : ℕ → Type 0) (derived : List Bool) (open_atoms : List ℕ) (pending : List (ℕ × ℕ)) (k : ℕ)
      (derived' : List Bool) (pending' : List (ℕ × ℕ))
      → IsClosing rules heads uses Given 0 derived open_atoms pending → k < length heads
      → Fires heads uses k open_atoms derived pending derived' pending'
      → IsClosing rules heads uses Given 0 derived' open_atoms pending'
  fires_alone Given derived open_atoms pending k derived' pending' h lt f =
      ⊎_elim
      (λ none. entered Given derived open_atoms pending (get_or heads k 0) derived' pending' h
      (head_follows Given 0 derived open_atoms pending k h lt none) (f.fires none))
      (λ some. rw ((f.waits some).0, (f.waits some).1) h) (cases_eq (get_or open_atoms k 0) 0)

  fires_head : (k : ℕ) (open_atoms : List ℕ) (derived : List Bool) (pending : List (ℕ × ℕ)) (derived' : List Bool)
      (pending' : List (ℕ × ℕ)) → Fires heads uses k open_atoms derived pending derived' pending'
      → get_or open_atoms k 0 ≡ 0 → is_derived derived' (get_or heads k 0) ≡ true
  fires_head k open_atoms derived pending derived' pending' f none =
      rw (f.fires none).derived_is (now_set derived (get_or heads k 0))

  -- one rule more has fired
  pub fired_next : (Given : ℕ → Type 0) (derived : List Bool) (open_atoms : List ℕ) (pending : List (ℕ × ℕ)) (k : ℕ)
      (derived' : List Bool) (pending' : List (ℕ × ℕ))
      → IsClosing rules heads uses Given k derived open_atoms pending → k < length heads
      → Fires heads uses k open_atoms derived pending derived' pending'
      → IsClosing rules heads uses Given (k + 1) derived' open_atoms pending'
  fired_next Given derived open_atoms pending k derived' pending' h lt f =
      due_to Given (k + 1) derived' open_atoms pending'
      (fires_alone Given derived open_atoms pending k derived' pending'
      (undue Given k derived open_atoms pending h) lt f)
      (λ j small due none. ⊎_elim
      (λ (e : j ≡ k). rw e (fires_head k open_atoms derived pending derived' pending' f (rw e at none)))
      (λ ne. fires_stays k open_atoms derived pending derived' pending' f (get_or heads j 0)
      (h.fired j small (omega (arith, due, ne)) none))
      (cases_eq j k))

  -- a pending use counts at its rule
  pub counts_it : (Given : ℕ → Type 0) (due : ℕ) (derived : List Bool) (open_atoms : List ℕ)
      (pending front : List (ℕ × ℕ)) (p : ℕ × ℕ) → IsClosing rules heads uses Given due derived open_atoms pending
      → pending ≡ front ++ p ∷ []
      → (p.1 < length heads) × (p.1 < length open_atoms) × (0 < get_or open_atoms p.1 0)
  counts_it Given due derived open_atoms pending front p h is =
      let lt : p.1 < length heads =
      h.tabled.within p.0 p.1 (h.pending_are p (rw is (Contains-pushed front p p refl))) in
      let counted : get_or open_atoms p.1 0 ≡ count_open derived p.1 uses + reaching p.1 (front ++ p ∷ []) =
      rw is at (h.counted p.1 lt) in (
        lt,
        omega (arith, lt, h.long),
        omega (arith, counted, reaching_both p.1 front (p ∷ []), reaching_here p []),
      )

  -- a use is taken off the count of its rule, which fires where that comes to 0
  pub settled : (Given : ℕ → Type 0) (derived : List Bool) (open_atoms : List ℕ) (pending front : List (ℕ × ℕ))
      (p : ℕ × ℕ) (derived' : List Bool) (pending' : List (ℕ × ℕ))
      → IsClosing rules heads uses Given (length heads) derived open_atoms pending → pending ≡ front ++ p ∷ []
      → Fires heads uses p.1 (set open_atoms p.1 (get_or open_atoms p.1 0 - 1)) derived front derived' pending'
      → IsClosing rules heads uses Given (length heads) derived'
      (set open_atoms p.1 (get_or open_atoms p.1 0 - 1)) pending'
  settled Given derived open_atoms pending front p derived' pending' h is f =
      let counts = counts_it Given (length heads) derived open_atoms pending front p h is in
      let less : List ℕ = set open_atoms p.1 (get_or open_atoms p.1 0 - 1) in
      let here : get_or less p.1 0 ≡ get_or open_atoms p.1 0 - 1 =
      get_or-set_same open_atoms p.1 (get_or open_atoms p.1 0 - 1) 0 counts.1 in
      let else' : (j : ℕ) → (j ≡ p.1 → ⊥) → get_or less j 0 ≡ get_or open_atoms j 0 =
      λ j ne. get_or-set_other open_atoms p.1 j (get_or open_atoms p.1 0 - 1) 0 ne in
      let counted : (j : ℕ) → j < length heads
      → get_or open_atoms j 0 ≡ count_open derived j uses + reaching j (front ++ p ∷ []) =
      λ j lt. rw is at (h.counted j lt) in
      let taken : IsClosing rules heads uses Given 0 derived less front =
      record {
        tabled = h.tabled;
        heads_within = h.heads_within;
        uses_within = h.uses_within;
        long = omega (arith, h.long, length-set open_atoms p.1 (get_or open_atoms p.1 0 - 1));
        counted = λ j lt. ⊎_elim
            (λ (e : j ≡ p.1). rw e (omega (
              arith,
              here,
              counted p.1 counts.0,
              reaching_both p.1 front (p ∷ []),
              reaching_here p [],
            )))
            (λ ne. omega (
              arith,
              else' j ne,
              counted j lt,
              reaching_both j front (p ∷ []),
              reaching_else p [] j ne,
            ))
            (cases_eq j p.1);
        sound = h.sound;
        fired = λ k lt none. absurd (omega (arith, none));
        pending_are = λ q c. h.pending_are q (rw is (Contains-append_left front (p ∷ []) q c));
      } in
      due_to Given (length heads) derived' less pending'
      (fires_alone Given derived less front p.1 derived' pending' taken counts.0 f)
      (λ j small due none. ⊎_elim
      (λ (e : j ≡ p.1). rw e (fires_head p.1 less derived front derived' pending' f (rw e at none)))
      (λ ne. fires_stays p.1 less derived front derived' pending' f (get_or heads j 0)
      (h.fired j small small (sym (else' j ne) ∙ none)))
      (cases_eq j p.1))

  -- the counts fall
  pub falls : (open_atoms : List ℕ) (k : ℕ) → k < length open_atoms → 0 < get_or open_atoms k 0
      → sum (set open_atoms k (get_or open_atoms k 0 - 1)) < sum open_atoms
  falls open_atoms k lt some =
      omega (arith, some, sum_by-set (λ (x : ℕ). x) open_atoms k (get_or open_atoms k 0 - 1) 0 lt)

  -- the end: all rules have fired, and nothing is pending
  pub closes : (Given : ℕ → Type 0) (derived : List Bool) (open_atoms : List ℕ)
      → IsClosing rules heads uses Given (length heads) derived open_atoms [] → IsClosed heads uses derived
  closes Given derived open_atoms h = record {
    closed = λ k lt body.
        let none : count_open derived k uses ≡ 0 = none_open (uses_af uses) derived k (λ y c. body y c) in
        h.fired k lt lt (omega (arith, h.counted k lt, none));
  }

  -- a step of a search, from its beginning on
  pub goes_on : (old derived : List Bool) (due : ℕ) (open_atoms : List ℕ) (pending : List (ℕ × ℕ))
      → IsClosing rules heads uses (IsMarked old) due derived open_atoms pending → length derived ≡ length old
      → ((x : ℕ) → is_derived old x ≡ true → is_derived derived x ≡ true) → GoesOn rules old derived
  goes_on old derived due open_atoms pending h wide stays = record { wide = wide; stays = stays; sound = h.sound }

  pub fires_on : (old derived : List Bool) (k : ℕ) (open_atoms : List ℕ) (pending : List (ℕ × ℕ))
      (derived' : List Bool) (pending' : List (ℕ × ℕ))
      → Fires heads uses k open_atoms derived pending derived' pending'
      → (length derived ≡ length old) × ((x : ℕ) → is_derived old x ≡ true → is_derived derived x ≡ true)
      → (length derived' ≡ length old) × ((x : ℕ) → is_derived old x ≡ true → is_derived derived' x ≡ true)
  fires_on old derived k open_atoms pending derived' pending' f before = (
    fires_wide k open_atoms derived pending derived' pending' f ∙ before.0,
    λ x was. fires_stays k open_atoms derived pending derived' pending' f x (before.1 x was),
  )

  -- one given atom more is marked
  pub given_more : (set' : List ℕ) (n : ℕ) (derived : List Bool) (open_atoms : List ℕ) (pending : List (ℕ × ℕ))
      (derived' : List Bool) (pending' : List (ℕ × ℕ))
      → Enters uses (get_or set' n 0) derived pending derived' pending'
      → ((j : ℕ) → j < n → is_derived derived (get_or set' j 0) ≡ true)
      → (j : ℕ) → j < n + 1 → is_derived derived' (get_or set' j 0) ≡ true
  given_more set' n derived open_atoms pending derived' pending' e before j lt =
      rw e.derived_is (⊎_elim (λ (same : j ≡ n). rw same (now_set derived (get_or set' n 0)))
      (λ ne. stays_set derived (get_or set' n 0) (get_or set' j 0) (before j (omega (arith, lt, ne))))
      (cases_eq j n))

  -- fewer rules are due
  pub due_less : (Given : ℕ → Type 0) (due less : ℕ) (derived : List Bool) (open_atoms : List ℕ)
      (pending : List (ℕ × ℕ)) → less ≤ due → IsClosing rules heads uses Given due derived open_atoms pending
      → IsClosing rules heads uses Given less derived open_atoms pending
  due_less Given due less derived open_atoms pending le h =
      due_to Given less derived open_atoms pending (undue Given due derived open_atoms pending h)
      (λ k lt small none. h.fired k lt (omega (arith, small, le)) none)

-- all given atoms are marked
pub given_all : (set' : List ℕ) (n : ℕ) (derived : List Bool) → length set' ≤ n
    → ((j : ℕ) → j < n → is_derived derived (get_or set' j 0) ≡ true) → (x : ℕ) → Contains set' x
    → is_derived derived x ≡ true
given_all set' n derived past all x c =
    subst (λ y. is_derived derived y ≡ true) (get_or_default set' c.0 0 x c.1 ∙ c.2)
    (all c.0 (omega (arith, c.1, past)))

-- ---- the counts at the beginning

-- as many pairs begin with a rule among the bodies as end in it among the uses
pub counts_uses : (bodies uses : List (ℕ × ℕ)) → PairsRise bodies → PairsRise uses
    → ((p : ℕ × ℕ) → Contains uses (reversed p) ↔ Contains bodies p) → (k : ℕ)
    → count_by (λ p. eqb p.0 k) bodies ≡ reaching k uses
counts_uses bodies uses up back same k =
    count_reversed uses bodies k back up (λ p. let turn = same (reversed p) in (turn.1, turn.0))

-- ---- the end

-- what follows is derived, where what is given is and the rules have fired
all_there : (rules : List Rule) (heads : List ℕ) (uses : List (ℕ × ℕ)) (Given : ℕ → Type 0) (derived : List Bool)
    → AreTabled rules heads uses → IsClosed heads uses derived
    → ((x : ℕ) → Given x → is_derived derived x ≡ true) → (x : ℕ) → Derives rules Given x → is_derived derived x ≡ true
all_there rules heads uses Given derived tabled closed sub x (given _ c) = sub x c
all_there rules heads uses Given derived tabled closed sub x (by_rule r _ there is body) =
    let lt : there.0 < length heads = omega (arith, there.1, tabled.long) in
    let same : rule_at rules there.0 ≡ r = get_or_default rules there.0 no_rule r there.1 ∙ there.2 in
    let head : get_or heads there.0 0 ≡ x =
    sym (tabled.heads_are there.0 lt) ∙ ap (λ (q : Rule). q.head) same ∙ is in
    subst (λ y. is_derived derived y ≡ true) head
    (closed.closed there.0 lt (λ y used. all_there rules heads uses Given derived tabled closed sub y
    (body y (subst (λ (q : Rule). Contains q.body y) same ((tabled.bodies_are there.0 y lt).1 used)))))

-- what a search has derived is what follows from the set, among the atoms of the table
pub derived_exactly : (atoms : ℕ) (rules : List Rule) (heads : List ℕ) (uses : List (ℕ × ℕ)) (s : List ℕ)
    (first second third : List Bool) → AreTabled rules heads uses
    → length first ≡ atoms + 1 → ((x : ℕ) → IsMarked first x → Derives rules (Contains s) x)
    → ((x : ℕ) → Contains s x → is_derived first x ≡ true)
    → GoesOn rules first second → GoesOn rules second third → IsClosed heads uses third
    → (x : ℕ) → ((x < length third) × (is_derived third x ≡ true)) ↔ ((x ≤ atoms) × Derives rules (Contains s) x)
derived_exactly atoms rules heads uses s first second third tabled long sound entered one two closed x =
    let size : length third ≡ atoms + 1 = two.wide ∙ one.wide ∙ long in
    let back : (y : ℕ) → IsMarked second y → Derives rules (Contains s) y =
    λ y m. derives_from rules (IsMarked first) (Contains s) sound y (one.sound y m) in
    let there : (y : ℕ) → Derives rules (Contains s) y → is_derived third y ≡ true =
    all_there rules heads uses (Contains s) third tabled closed
    (λ y c. two.stays y (one.stays y (entered y c))) in (
      λ w. (
        omega (arith, w.0, size),
        derives_from rules (IsMarked second) (Contains s) back x
            (two.sound x (record { within = w.0; marked = w.1 })),
      ),
      λ w. (omega (arith, w.0, size), there x w.1),
    )

-- ---- the list of what is derived

pub lists_more : (derived : List Bool) (n at : ℕ) (old new : List ℕ) → ListsDerived derived n old → at ≡ n
    → is_derived derived n ≡ true → new ≡ old ++ at ∷ [] → ListsDerived derived (n + 1) new
lists_more derived n at old new h is marked made = rw made (record {
  rises = rises_append old (at ∷ []) h.rises (λ k lt. absurd (omega arith))
      (λ x y c d. ⊎_elim (λ none. absurd (omega (arith, none.1)))
      (λ (e : at ≡ y). omega (arith, ((h.members x).0 c).0, is, e)) (Contains-push_cases [] at y d));
  members = λ x. (
    λ c. ⊎_elim (λ k. let w = (h.members x).0 k in (omega (arith, w.0), w.1))
        (λ (e : at ≡ x). let same : n ≡ x = sym is ∙ e in (omega (arith, same), rw (← same) marked))
        (Contains-push_cases old at x c),
    λ w. ⊎_elim (λ (e : x ≡ n). Contains-pushed old at x (is ∙ sym e))
        (λ ne. Contains-append_left old (at ∷ []) x ((h.members x).1 (omega (arith, w.0, ne), w.1))) (cases_eq x n),
  );
})

pub lists_same : (derived : List Bool) (n : ℕ) (found : List ℕ) → ListsDerived derived n found
    → is_derived derived n ≡ false → ListsDerived derived (n + 1) found
lists_same derived n found h fresh = record {
  rises = h.rises;
  members = λ x. (
    λ c. let w = (h.members x).0 c in (omega (arith, w.0), w.1),
    λ w. (h.members x).1 (
      ⊎_elim (λ (e : x ≡ n). absurd (both_ways (is_derived derived n) fresh (rw e at w.1)))
          (λ ne. omega (arith, w.0, ne)) (cases_eq x n),
      w.1,
    ),
  );
}

-- the list of what a search has derived is what follows from the set, among the atoms of the table
pub lists_closure : (atoms : ℕ) (rules : List Rule) (heads : List ℕ) (uses : List (ℕ × ℕ)) (s : List ℕ)
    (first second third shown : List Bool) (found : List ℕ) → AreTabled rules heads uses
    → length first ≡ atoms + 1 → ((x : ℕ) → IsMarked first x → Derives rules (Contains s) x)
    → ((x : ℕ) → Contains s x → is_derived first x ≡ true)
    → GoesOn rules first second → GoesOn rules second third → IsClosed heads uses third
    → shown ≡ third → ListsDerived shown (length shown) found
    → IsSetOf (λ x. (x ≤ atoms) × Derives rules (Contains s) x) found
lists_closure atoms rules heads uses s first second third shown found tabled long sound entered one two closed is
    lists =
    let h : ListsDerived third (length third) found = rw is at lists in
    record {
      rises = h.rises;
      members = λ x. let exact = derived_exactly atoms rules heads uses s first second third tabled long sound entered
          one two closed x in (
            λ c. exact.0 ((h.members x).0 c),
            λ w. (h.members x).1 (exact.1 w),
          );
    }
