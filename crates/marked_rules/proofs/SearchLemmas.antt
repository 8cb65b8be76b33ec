-- The steps of a search for what a set derives, from the common start.
use Rattle.std.proofs.Common.{◌≡◌, ℕ, ◌+◌, ◌-◌, ◌<◌, ◌≤◌, Bool, true, false, not, cond, List, [], ◌∷◌, ◌++◌, length, get_or, set, replicate, filter, arith, refl, sym, ap, subst, ◌∙◌, ⊎_elim, eqb}
use Rattle.std.specs.Prelude.{◌↔◌, Contains, IsTrue, sum}
use Rattle.std.proofs.lemmas.Bool.{cases_Bool, cases_eq, cases_lt, false≢true}
use Rattle.std.proofs.lemmas.List.{length-set, get_or-set_same, get_or-set_other, get_or_default, get_or_past, set_past, set-get_or}
use Rattle.semantics.specs.Rules.{Rule, Derives, given}
use Rattle.semantics.specs.AbaFrameworks.{Aba}
use Rattle.aba_laws.proofs.DerivationLemmas.{derives_from}
use Rattle.aba_notions.specs.Closing.{is_derived, IsMarked, IsClosing, Enters, Fires, GoesOn, IsClosed}
use Rattle.aba_notions.proofs.ClosingLemmas.{entered, due_less, afresh, fired_next, fires_on, counts_it, settled, falls, closes, derived_exactly, given_more}
use Rattle.marked_sets.specs.Marks.{is_marked}
use Rattle.marked_rules.specs.declared.closing.Closing.{Closing}
use Rattle.marked_rules.specs.declared.rule_uses.RuleUses.{RuleUses}
use Rattle.marked_rules.specs.Overlaid.{AreCounts, derived_of, open_of}
use Rattle.marked_rules.specs.Search.{IsState, IsUsesOf, IsBegun, IsSearch, IsAtStart, EntersClosing, FiresClosing, GoesOnTo, HasDerived, IsOpen, Fits, Nothing, heads_of, derived_in, open_in}
use Rattle.marked_rules.proofs.OverlaidLemmas.{length_overlaid, derived_next, derived_at}

-- ---- which atoms are derived

pub not_open : (derived : List Bool) (x : ℕ) → (IsOpen derived x → ⊥) → is_derived derived x ≡ true
not_open derived x closed =
    ⊎_elim (λ t. t)
    (λ (o : is_derived derived x ≡ false). ⊎_elim (λ lt. absurd (closed (record { within = lt; is_open = o })))
    (λ past. get_or_past derived x true past) (cases_lt x (length derived)))
    (cases_Bool (is_derived derived x))

-- a number past the table is no atom
past_table : (read base marks : List Bool) (x : ℕ) → read ≡ base → length read ≤ x
    → x < length (derived_of base marks) → ⊥
past_table read base marks x is past lt =
    omega (arith, past, ap length is, lt, length_overlaid true base marks (λ j. true))

in_table : (read base marks : List Bool) (x : ℕ) → read ≡ base → x < length read → x < length (derived_of base marks)
in_table read base marks x is lt = omega (arith, lt, ap length is, length_overlaid true base marks (λ j. true))

-- what is derived at first stays so
based : (read base marks : List Bool) (x : ℕ) → read ≡ base → x < length read → get_or read x false ≡ true
    → is_derived (derived_of base marks) x ≡ true
based read base marks x is lt was =
    let low : x < length base = omega (arith, lt, ap length is) in
    let first : get_or base x true ≡ true =
    ap (λ l. get_or l x true) (sym is) ∙ get_or_default read x true false lt ∙ was in
    derived_at base marks x low
    ∙ ⊎_elim (λ (t : is_marked marks x ≡ true). ap (λ b. cond b true (get_or base x true)) t)
    (λ (o : is_marked marks x ≡ false). ap (λ b. cond b true (get_or base x true)) o ∙ first)
    (cases_Bool (is_marked marks x))

-- the rest is derived where it is marked
by_mark : (read base marks : List Bool) (x : ℕ) → read ≡ base → x < length read → get_or read x false ≡ false
    → is_derived (derived_of base marks) x ≡ is_marked marks x
by_mark read base marks x is lt not_first =
    let low : x < length base = omega (arith, lt, ap length is) in
    let first : get_or base x true ≡ false =
    ap (λ l. get_or l x true) (sym is) ∙ get_or_default read x true false lt ∙ not_first in
    derived_at base marks x low
    ∙ ⊎_elim (λ (t : is_marked marks x ≡ true). ap (λ b. cond b true (get_or base x true)) t ∙ sym t)
    (λ (o : is_marked marks x ≡ false). ap (λ b. cond b true (get_or base x true)) o ∙ first ∙ sym o)
    (cases_Bool (is_marked marks x))

pub known_past : (read base marks : List Bool) (x : ℕ) → read ≡ base → length read ≤ x
    → IsTrue false ↔ IsMarked (derived_of base marks) x
known_past read base marks x is past =
    (λ e. absurd (false≢true e), λ m. absurd (past_table read base marks x is past m.within))

pub known_first : (read base marks : List Bool) (x : ℕ) → read ≡ base → x < length read → get_or read x false ≡ true
    → IsTrue true ↔ IsMarked (derived_of base marks) x
known_first read base marks x is lt was = (
  λ e. record { within = in_table read base marks x is lt; marked = based read base marks x is lt was },
  λ m. refl,
)

pub known_marked : (read base marks : List Bool) (x : ℕ) (r : Bool) → read ≡ base → x < length read
    → get_or read x false ≡ false → (IsTrue r ↔ IsTrue (is_marked marks x))
    → IsTrue r ↔ IsMarked (derived_of base marks) x
known_marked read base marks x r is lt not_first test = (
  λ e. record {
    within = in_table read base marks x is lt;
    marked = by_mark read base marks x is lt not_first ∙ test.0 e;
  },
  λ m. test.1 (sym (by_mark read base marks x is lt not_first) ∙ m.marked),
)

pub open_past : (read base marks : List Bool) (x : ℕ) → read ≡ base → length read ≤ x
    → IsTrue false ↔ IsOpen (derived_of base marks) x
open_past read base marks x is past =
    (λ e. absurd (false≢true e), λ m. absurd (past_table read base marks x is past m.within))

pub open_first : (read base marks : List Bool) (x : ℕ) → read ≡ base → x < length read → get_or read x false ≡ true
    → IsTrue false ↔ IsOpen (derived_of base marks) x
open_first read base marks x is lt was = (
  λ e. absurd (false≢true e),
  λ o. absurd (false≢true (sym o.is_open ∙ based read base marks x is lt was)),
)

pub open_marked : (read base marks : List Bool) (x : ℕ) (r : Bool) → read ≡ base → x < length read
    → get_or read x false ≡ false → (IsTrue r ↔ IsTrue (is_marked marks x))
    → IsTrue (not r) ↔ IsOpen (derived_of base marks) x
open_marked read base marks x true is lt not_first test = (
  λ e. absurd (false≢true e),
  λ o. absurd (false≢true (sym o.is_open ∙ by_mark read base marks x is lt not_first ∙ test.0 refl)),
)
open_marked read base marks x false is lt not_first test = (
  λ e. record {
    within = in_table read base marks x is lt;
    is_open = by_mark read base marks x is lt not_first
        ∙ ⊎_elim (λ (t : is_marked marks x ≡ true). absurd (false≢true (test.1 t))) (λ o. o)
        (cases_Bool (is_marked marks x));
  },
  λ o. refl,
)

-- ---- an atom enters

pub enters_not : (uses : List (ℕ × ℕ)) (atom : ℕ) (derived : List Bool) (pending : List (ℕ × ℕ))
    → is_derived derived atom ≡ true → Enters uses atom derived pending derived pending
enters_not uses atom derived pending was = record {
  derived_is = sym (ap (λ b. set derived atom b) (sym was) ∙ set-get_or derived atom true);
  pending_is = rw was refl;
}

pub enters_now : (uses : List (ℕ × ℕ)) (atom : ℕ) (derived derived' : List Bool) (pending pending' : List (ℕ × ℕ))
    → is_derived derived atom ≡ false → derived' ≡ set derived atom true
    → pending' ≡ pending ++ filter (λ p. eqb p.0 atom) uses → Enters uses atom derived pending derived' pending'
enters_now uses atom derived derived' pending pending' fresh is more = record {
  derived_is = is;
  pending_is = more ∙ rw fresh refl;
}

stays_set : (derived : List Bool) (a x : ℕ) → is_derived derived x ≡ true → is_derived (set derived a true) x ≡ true
stays_set derived a x was =
    ⊎_elim (λ (e : x ≡ a). ⊎_elim (λ lt. rw e (get_or-set_same derived a true true lt))
    (λ past. rw (set_past derived a true past) was) (cases_lt a (length derived)))
    (λ ne. get_or-set_other derived a x true true ne ∙ was) (cases_eq x a)

-- ---- a state

module _ (rules : List Rule) (heads : List ℕ) (uses : List (ℕ × ℕ)) where
  -- an atom that follows enters, whatever rules have fired
  pub entered_due : (Given : ℕ → Type 0) (due : ℕ) (derived : List Bool) (open_atoms : List ℕ)
      (pending : List (ℕ × ℕ)) (a : ℕ) (derived' : List Bool) (pending' : List (ℕ × ℕ))
      → IsClosing rules heads uses Given due derived open_atoms pending → Derives rules Given a
      → Enters uses a derived pending derived' pending'
      → IsClosing rules heads uses Given due derived' open_atoms pending'
  entered_due Given due derived open_atoms pending a derived' pending' h follows e =
      let none = due_less rules heads uses Given due 0 derived open_atoms pending (omega arith) h in
      let after = entered rules heads uses Given derived open_atoms pending a derived' pending' none follows e in
      record {
        tabled = after.tabled;
        heads_within = after.heads_within;
        uses_within = after.uses_within;
        long = after.long;
        counted = after.counted;
        sound = after.sound;
        fired = λ k lt small closed. rw e.derived_is (stays_set derived a (get_or heads k 0) (h.fired k lt small closed));
        pending_are = after.pending_are;
      }

  -- more may be given
  pub gives_more : (P Q : ℕ → Type 0) (due : ℕ) (derived : List Bool) (open_atoms : List ℕ)
      (pending : List (ℕ × ℕ)) → ((x : ℕ) → P x → Derives rules Q x)
      → IsClosing rules heads uses P due derived open_atoms pending
      → IsClosing rules heads uses Q due derived open_atoms pending
  gives_more P Q due derived open_atoms pending sub h = record {
    tabled = h.tabled;
    heads_within = h.heads_within;
    uses_within = h.uses_within;
    long = h.long;
    counted = h.counted;
    sound = λ x m. derives_from rules P Q sub x (h.sound x m);
    fired = h.fired;
    pending_are = h.pending_are;
  }

-- ---- a search

module _ (f : Aba) (u : RuleUses) where
  -- a search begins at the start
  pub begins_at : (Given : ℕ → Type 0) (due : ℕ) (c : Closing) → IsAtStart u c
      → IsState f u Given due u.start.base.items u.start.open.items [] → IsSearch f u Given due c
  begins_at Given due c at state = record {
    fits = at.fits;
    state = rw (at.derived, at.counts, at.pending) state;
  }

  -- a given atom has entered
  pub enters_search : (given' : List ℕ) (due n : ℕ) (old new : Closing) → n < length given'
      → IsSearch f u (Contains given') due old → Derives f.rules (Contains given') (get_or given' n 0)
      → EntersClosing u (get_or given' n 0) old new → IsSearch f u (Contains given') due new
  enters_search given' due n old new lt h follows e = record {
    fits = e.fits;
    state = rw e.counts (entered_due f.rules (heads_of f) u.uses.pairs (Contains given') due (derived_in u old)
        (open_in u old) old.pending.items (get_or given' n 0) (derived_in u new) new.pending.items h.state follows
        e.entered);
  }

  -- what is derived may be taken as given
  pub starts_afresh : (Given : ℕ → Type 0) (due : ℕ) (c : Closing) → IsSearch f u Given due c
      → IsSearch f u (IsMarked (derived_in u c)) due c
  starts_afresh Given due c h = record {
    fits = h.fits;
    state = afresh f.rules (heads_of f) u.uses.pairs Given due (derived_in u c) (open_in u c) c.pending.items h.state;
  }

  pub goes_not : (due : ℕ) (c : Closing) → IsSearch f u (IsMarked (derived_in u c)) due c → GoesOnTo f u due c c
  goes_not due c h = record { search = h; wide = refl; stays = λ x was. was }

  -- there is a count for each rule
  pub rule_counted : (Given : ℕ → Type 0) (due : ℕ) (c : Closing) (k : ℕ) → k < length (heads_of f)
      → IsSearch f u Given due c → k < length u.start.open.items
  rule_counted Given due c k lt h =
      omega (
        arith,
        lt,
        h.state.long,
        length_overlaid 0 u.start.open.items c.open.changed (λ j. get_or c.open.left.items j 0),
      )

  -- a rule more has fired
  pub fires_next : (k : ℕ) (first old new : Closing) → k < length (heads_of f) → GoesOnTo f u k first old
      → FiresClosing f u k old new → GoesOnTo f u (k + 1) first new
  fires_next k first old new lt h fires =
      let on = fires_on f.rules (heads_of f) u.uses.pairs (derived_in u first) (derived_in u old) k (open_in u old)
      old.pending.items (derived_in u new) new.pending.items fires.fired (h.wide, h.stays) in
      record {
        search = record {
          fits = fires.fits;
          state = rw fires.counts (fired_next f.rules (heads_of f) u.uses.pairs (IsMarked (derived_in u first))
              (derived_in u old) (open_in u old) old.pending.items k (derived_in u new) new.pending.items
              h.search.state lt fires.fired);
        };
        wide = on.0;
        stays = on.1;
      }

  -- all rules have fired
  pub fires_all : (k : ℕ) (first new : Closing) → length (heads_of f) ≤ k → GoesOnTo f u k first new
      → GoesOnTo f u (length (heads_of f)) first new
  fires_all k first new end h = record {
    search = record {
      fits = h.search.fits;
      state = due_less f.rules (heads_of f) u.uses.pairs (IsMarked (derived_in u first)) k (length (heads_of f))
          (derived_in u new) (open_in u new) new.pending.items end h.search.state;
    };
    wide = h.wide;
    stays = h.stays;
  }

  -- a pending use counts at its rule
  pub counts_use : (Given : ℕ → Type 0) (due : ℕ) (c : Closing) (front : List (ℕ × ℕ)) (p : ℕ × ℕ)
      → IsSearch f u Given due c → c.pending.items ≡ front ++ p ∷ []
      → (p.1 < length (heads_of f)) × (p.1 < length u.start.open.items) × (0 < get_or (open_in u c) p.1 0)
  counts_use Given due c front p h is =
      let n = counts_it f.rules (heads_of f) u.uses.pairs Given due (derived_in u c) (open_in u c) c.pending.items
      front p h.state is in (
        n.0,
        omega (arith, n.1, length_overlaid 0 u.start.open.items c.open.changed (λ j. get_or c.open.left.items j 0)),
        n.2,
      )

  -- the counts fall with each
  pub use_falls : (Given : ℕ → Type 0) (due : ℕ) (c : Closing) (front : List (ℕ × ℕ)) (p : ℕ × ℕ)
      → IsSearch f u Given due c → c.pending.items ≡ front ++ p ∷ []
      → sum (set (open_in u c) p.1 (get_or (open_in u c) p.1 0 - 1)) < sum (open_in u c)
  use_falls Given due c front p h is =
      let n = counts_it f.rules (heads_of f) u.uses.pairs Given due (derived_in u c) (open_in u c) c.pending.items
      front p h.state is in
      falls f.rules (heads_of f) u.uses.pairs (open_in u c) p.1 n.1 n.2

  -- a pending use has been taken off, and its rule has fired
  pub settles : (first old between new : Closing) (front : List (ℕ × ℕ)) (p : ℕ × ℕ)
      → GoesOnTo f u (length (heads_of f)) first old → old.pending.items ≡ front ++ p ∷ []
      → between.derived ≡ old.derived → between.pending.items ≡ front
      → open_in u between ≡ set (open_in u old) p.1 (get_or (open_in u old) p.1 0 - 1)
      → FiresClosing f u p.1 between new → GoesOnTo f u (length (heads_of f)) first new
  settles first old between new front p h is same rest less fires =
      let fired : Fires (heads_of f) u.uses.pairs p.1 (set (open_in u old) p.1 (get_or (open_in u old) p.1 0 - 1))
      (derived_in u old) front (derived_in u new) new.pending.items = rw (less, same, rest) at fires.fired in
      let on = fires_on f.rules (heads_of f) u.uses.pairs (derived_in u first) (derived_in u old) p.1
      (set (open_in u old) p.1 (get_or (open_in u old) p.1 0 - 1))
      front (derived_in u new) new.pending.items fired (h.wide, h.stays) in
      record {
        search = record {
          fits = fires.fits;
          state = rw (fires.counts, less) (settled f.rules (heads_of f) u.uses.pairs (IsMarked (derived_in u first))
              (derived_in u old) (open_in u old) old.pending.items front p (derived_in u new) new.pending.items
              h.search.state is fired);
        };
        wide = on.0;
        stays = on.1;
      }

  -- an empty list of pending uses for another
  pub goes_same : (due : ℕ) (first c new : Closing) → new.derived ≡ c.derived → new.open ≡ c.open
      → new.pending.items ≡ c.pending.items → GoesOnTo f u due first c → GoesOnTo f u due first new
  goes_same due first c new derived counts pending h = record {
    search = record {
      fits = record {
        wide = ap length derived ∙ h.search.fits.wide;
        counts = subst (λ k. AreCounts u.start.open.items k) (sym counts) h.search.fits.counts;
      };
      state = rw (derived, counts, pending) h.search.state;
    };
    wide = rw derived h.wide;
    stays = rw derived h.stays;
  }

  -- what follows from what is given has been derived
  pub derives_all : (given' : List ℕ) (first new : Closing) → IsUsesOf f u
      → IsSearch f u (Contains given') (length (heads_of f)) first
      → ((x : ℕ) → Contains given' x → is_derived (derived_in u first) x ≡ true)
      → GoesOnTo f u (length (heads_of f)) first new → new.pending.items ≡ [] → HasDerived f u given' new
  derives_all given' first new of begun entered' on done =
      let rules = f.rules in
      let heads = heads_of f in
      let one : GoesOn rules (derived_in u first) (derived_in u first) =
      record { wide = refl; stays = λ x was. was; sound = λ x m. given x m } in
      let two : GoesOn rules (derived_in u first) (derived_in u new) =
      record { wide = on.wide; stays = on.stays; sound = on.search.state.sound } in
      let closed : IsClosed heads u.uses.pairs (derived_in u new) =
      closes rules heads u.uses.pairs (IsMarked (derived_in u first)) (derived_in u new) (open_in u new)
      (rw done at on.search.state) in
      let long : length (derived_in u first) ≡ f.atoms + 1 =
      length_overlaid true u.start.base.items first.derived (λ j. true) ∙ of.of.wide in
      record {
        fits = on.search.fits;
        exact = λ x.
            let by = derived_exactly f.atoms rules heads u.uses.pairs given' (derived_in u first) (derived_in u first)
            (derived_in u new) begun.state.tabled long begun.state.sound entered' one two closed x in (
              λ m. by.0 (m.within, m.marked),
              λ h. let w = by.1 h in record { within = w.0; marked = w.1 },
            );
      }
