use Rattle.std.proofs.Common.{◌≡◌, ℕ, ◌+◌, ◌-◌, ◌*◌, ◌≤◌, true, false, List, []}
use Rattle.std.proofs.Common.{◌∷◌, ◌++◌, length, refl, ap, sym, subst, ◌∙◌, arith}
use Rattle.std.specs.Prelude.{Contains, Option, Some, None, Result, Ok, Err, IfOk}
use Rattle.std.proofs.lemmas.Bool.{false≢true}
use Rattle.std.proofs.lemmas.List.{length-append}
use Rattle.lists.proofs.Membership.{Contains-nil, Contains-head}
use Rattle.plain_lits.specs.declared.halt.Halt.{Halt}
use Rattle.semantics.specs.declared.mode.Mode.{Mode}
use Rattle.semantics.specs.Frameworks.{Framework, af, aba}
use Rattle.meaning_atoms.specs.declared.atom.Atom.{Atom}
use Rattle.meaning_atoms.specs.Literals.{affirmed}
use Rattle.meaning_atoms.specs.Worlds.{IsTrueAlone, world_of}
use Rattle.certificate_claims.specs.Claims.{mode_atom, range_listed}
use Rattle.certificate_claims.specs.Claims.{range_widest}
use Rattle.certificate_claims.specs.SetLiterals.{is_range_within, members}
use Rattle.certificate_claims.specs.SetLiterals.{wider}
use Rattle.certificate_claims.proofs.GoalLists.{asks_nil}
use Rattle.certificate_claims.proofs.Modes.{mode_plain}
use Rattle.oracle_face.specs.declared.face.Found.{Found}
use Rattle.oracle_face.specs.declared.face.Found.TheVariants.{Set, Refuted}
use Rattle.oracle_face.specs.Growing.{Grows, IsFound, Making}
use Rattle.oracle_face.specs.Kinds.{is_assumption_based}
use Rattle.oracle_face.specs.Logs.{IsKept, IsLog, OracleLog}
use Rattle.oracle_face.proofs.Refuting.{refutes_grown}
use Rattle.enumerate_block.specs.goal_lists.specs.Asking.{goals_of, IsAskable}
use Rattle.enumerate_block.specs.goal_lists.proofs.AskedGoals.{not_range_within, wider_speaks}
use Rattle.enumerate_block.specs.goal_lists.proofs.Calls.{asks_fit, found_mode}
use Rattle.enumerate_block.specs.goal_lists.proofs.GoalKinds.{atom_is_mode}
use Rattle.enumerate_block.specs.goal_lists.proofs.Measures.{left_open}
use Rattle.enumerate_block.specs.goal_lists.proofs.SideLemmas.{HasWanted, asks_kept}
use Rattle.enumerate_block.specs.goal_lists.proofs.SideLemmas.{asks_none, asks_refuted, asks_speak, asks_true}
use Rattle.semi_stable.specs.Widest.{IsRangeIn}
use Rattle.enumerate_block.specs.declared.ranges.Ranges.{Ranges}
use Rattle.enumerate_block.specs.Ranges.{AreFound, IsMark}
use Rattle.enumerate_block.specs.Ranges.{IsShownWidest, IsUncovered}

-- What is known of the ranges that were found, and what is asked for the next.

-- ---- ranges

-- how many sets have a range that lies in none of the sets'
abbrev pub open_ranges : Framework → List (List ℕ) → ℕ
open_ranges f sets = left_open (is_range_within f) (members f) sets

pub not_in_range : (f : Framework) (e set : List ℕ) → is_assumption_based f ≡ false
    → IsTrueAlone (world_of f set) (wider f e) → IsRangeIn f set e → ⊥
not_in_range (af f) e set kind t sub = not_range_within f e set t sub
not_in_range (aba f) e set kind t sub = false≢true (sym kind)

-- ---- numbers of side clauses

pub two_more : (asks new : List ℕ) (n : ℕ) → new ≡ asks ++ n ∷ [] → 2 * length asks + 2 ≤ 2 * length new
two_more asks new n e = omega (arith, ap length e, length-append asks (n ∷ []))

pub log_kept : (f h : Framework) (log : OracleLog) → h ≡ f → IsKept h log → IsLog f log
log_kept f h log same kept = subst (λ (x : Framework). IsLog x log) same kept.form

module _ (mode : Mode) where
  -- ---- sets found

  pub found_none : (f : Framework) (log : OracleLog) (found : Ranges) → is_assumption_based f ≡ false
      → found.sets.items ≡ [] → found.marks.items ≡ [] → found.asks ≡ [] → AreFound f log mode found
  found_none f log found kind sets marks asks =
      let none : (e : List ℕ) → Contains found.sets.items e → ⊥ =
      λ e c. Contains-nil e (subst (λ (xs : List (List ℕ)). Contains xs e) sets c) in
      record {
        kind = kind;
        each = λ e c. absurd (none e c);
        asks = asks_none (wider f) log.sides found.sets.items found.asks sets asks;
        apart = record { apart = λ i j lt high e. absurd (omega (arith, ap length asks)) };
        rise = λ i j lt high. absurd (omega (arith, ap length sets));
        one_form = λ s t c d same. absurd (none s c);
        marked = ap length marks ∙ sym (ap length sets);
        marks = λ s mark p. absurd (let lt = p.1 in omega (arith, ap length sets));
      }

  mark_grown : (f : Framework) (P : Making) (old new : OracleLog) (sets : List (List ℕ)) (s : List ℕ) → IsLog f old
      → Grows P old new → (mark : Option ℕ) → IsMark f old mode sets s mark → IsMark f new mode sets s mark
  mark_grown f P old new sets s form grows (Some step) h =
      (refutes_grown f P old new (range_listed f mode sets s) step form grows h.0, h.1)
  mark_grown f P old new sets s form grows None h = h

  -- what shows a set shows it while the log grows
  pub shown_grown : (f : Framework) (P : Making) (old new : OracleLog) (e : List ℕ) → IsLog f old → Grows P old new
      → IsShownWidest f old mode e → IsShownWidest f new mode e
  shown_grown f P old new e form grows h = record {
    is_widest = h.is_widest;
    number = h.number;
    refuted = refutes_grown f P old new (range_widest f mode e) h.number form grows h.refuted;
  }

  pub found_grown : (f : Framework) (P : Making) (old new : OracleLog) (found : Ranges) → IsLog f old → Grows P old new
      → AreFound f old mode found → AreFound f new mode found
  found_grown f P old new found form grows h = record {
    kind = h.kind;
    each = λ e c. shown_grown f P old new e form grows (h.each e c);
    asks = asks_kept (wider f) P old new found.sets.items found.asks grows h.asks;
    apart = h.apart;
    rise = h.rise;
    one_form = h.one_form;
    marked = h.marked;
    marks = λ s mark p. mark_grown f P old new found.sets.items s form grows mark (h.marks s mark p);
  }

  pub found_kept : (f g h : Framework) (P : Making) (old new : OracleLog) (found : Ranges) → g ≡ f → h ≡ g
      → IsKept g old
      → Grows P old new → AreFound f old mode found → AreFound h new mode found
  found_kept f g h P old new found left right kept grows is =
      subst (λ (x : Framework). AreFound x new mode found) (sym (right ∙ left))
      (found_grown f P old new found (subst (λ (x : Framework). IsLog x old) left kept.form) grows is)

  -- two closing steps for each range, and two more, are no more than the side clauses allow
  pub few_closings : (f : Framework) (P : Making) (old new : OracleLog) (found : Ranges) → AreFound f old mode found
      → Grows P old new → 2 * length found.asks + 2 ≤ 2 * length new.sides + 2
  few_closings f P old new found h grows =
      let few = asks_fit found.asks old.sides h.apart (λ n c. (h.asks.each n c).2.number) in
      let more : length new.sides ≡ length (old.sides ++ grows.more_sides.0) = ap length grows.more_sides.1 in
      omega (arith, few, more, length-append old.sides grows.more_sides.0)

  -- ---- what is asked, and what is found

  pub may_ask_uncovered : (f : Framework) (log : OracleLog) (found : Ranges) (asks : List ℕ) (atom : Atom)
      → asks ≡ found.asks → atom ≡ mode_atom mode → AreFound f log mode found
      → IsAskable f log.sides atom [] [] [] asks
  may_ask_uncovered f log found asks atom is of_mode h =
      subst (λ (a : Atom). IsAskable f log.sides a [] [] [] asks) (sym of_mode)
      (subst (λ (xs : List ℕ). IsAskable f log.sides (mode_atom mode) [] [] [] xs) (sym is) (record {
        moded = atom_is_mode mode;
        in_members = λ a c. absurd (Contains-nil a c);
        out_members = λ a c. absurd (Contains-nil a c);
        ranged_members = λ a c. absurd (Contains-nil a c);
        apart = λ a c d. absurd (Contains-nil a c);
        asked = asks_speak f (wider f) log.sides found.sets.items found.asks (λ e c. wider_speaks f e) h.asks;
      }))

  pub wanted : HasWanted (affirmed (mode_atom mode) ∷ []) (mode_atom mode) [] [] []
  wanted = record {
    plain = mode_plain mode [] asks_nil;
    has_mode = Contains-head (affirmed (mode_atom mode)) [] (affirmed (mode_atom mode)) refl;
    has_ins = λ a c. absurd (Contains-nil a c);
    has_outs = λ a c. absurd (Contains-nil a c);
    has_ranged = λ a c. absurd (Contains-nil a c);
  }

  found_uncovered : (f : Framework) (log : OracleLog) (ranges : Ranges) → AreFound f log mode ranges → (found : Found)
      → IsFound f log (goals_of (mode_atom mode) [] [] [] ranges.asks) found → IsUncovered f log mode ranges found
  found_uncovered f log ranges h (Set set) makes = (
    found_mode f log (mode_atom mode) [] [] [] ranges.asks set (atom_is_mode mode) makes,
    λ e c. not_in_range f e set h.kind
        (asks_true f log (wider f) ranges.sets.items (mode_atom mode) [] [] [] ranges.asks set h.asks makes e c),
  )
  found_uncovered f log ranges h (Refuted step) refuted =
      asks_refuted f log (wider f) ranges.sets.items (affirmed (mode_atom mode) ∷ []) (mode_atom mode) [] [] []
      ranges.asks step wanted h.asks refuted

  pub if_uncovered : (f : Framework) (P : Making) (old log : OracleLog) (ranges : Ranges) (asks : List ℕ) (atom : Atom)
      → asks ≡ ranges.asks → atom ≡ mode_atom mode → IsLog f old → Grows P old log → AreFound f old mode ranges
      → (r : Result Found Halt) → IfOk r (IsFound f log (goals_of atom [] [] [] asks))
      → IfOk r (IsUncovered f log mode ranges)
  if_uncovered f P old log ranges asks atom is of_mode form grows h (Ok found) k =
      found_uncovered f log ranges (found_grown f P old log ranges form grows h) found
      (subst (λ (xs : List ℕ). IsFound f log (goals_of (mode_atom mode) [] [] [] xs) found) is
      (subst (λ (a : Atom). IsFound f log (goals_of a [] [] [] asks) found) of_mode k))
  if_uncovered f P old log ranges asks atom is of_mode form grows h (Err halt) k = k
