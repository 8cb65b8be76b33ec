use Rattle.std.proofs.Common.{◌≡◌, inl, inr, ℕ, ◌+◌, ◌-◌, ◌≤◌, true, false, Bool, List, []}
use Rattle.std.proofs.Common.{◌∷◌, length, map, filter, ap, sym, subst, ◌∙◌, Vec, Global, arith}
use Rattle.std.specs.Prelude.{Contains, Option}
use Rattle.std.proofs.lemmas.Bool.{false≢true}
use Rattle.lists.specs.Members.{IsWithin}
use Rattle.plain_lits.specs.declared.halt.Halt.{Halt}
use Rattle.plain_lits.specs.Units.{Units}
use Rattle.plain_lits.proofs.HintCheckLemmas.{Contains-mapped, Contains-from_mapped}
use Rattle.semantics.specs.declared.mode.Mode.{Mode}
use Rattle.semantics.specs.Framework.{Af}
use Rattle.semantics.specs.Frameworks.{Framework, af, aba, IsNumbered}
use Rattle.meaning_atoms.specs.declared.atom.AtomLit.{AtomLit}
use Rattle.meaning_atoms.specs.Literals.{affirmed}
use Rattle.certificate_claims.specs.Acceptance.{NoRangeWithin}
use Rattle.certificate_claims.specs.Claims.{first_ranged, mode_atom, range_cover, range_listed}
use Rattle.certificate_claims.specs.Claims.{range_widest, widest_semantics}
use Rattle.certificate_claims.specs.Refutations.{IsPlain}
use Rattle.certificate_claims.specs.Rights.{IsExtension}
use Rattle.certificate_claims.specs.SetLiterals.{are_ranged, differs, members, range_of}
use Rattle.certificate_claims.specs.SetLiterals.{same_range, wider}
use Rattle.certificate_claims.proofs.SetTests.{firsts_within}
use Rattle.certificate_claims.proofs.GoalLists.{plain_mapped}
use Rattle.certificate_claims.proofs.Modes.{mode_members, mode_plain, widest_extension}
use Rattle.certificate_claims.proofs.SideClauses.{differs_plain, ranged_plain, wider_plain}
use Rattle.certificate_claims.proofs.WidestSets.{all_widest}
use Rattle.oracle_face.specs.declared.face.Found.{Found}
use Rattle.oracle_face.specs.declared.face.Found.TheVariants.{Set, Refuted}
use Rattle.oracle_face.specs.Goals.{Refutes}
use Rattle.oracle_face.specs.Growing.{Grows, Making}
use Rattle.oracle_face.specs.Kinds.{is_assumption_based}
use Rattle.oracle_face.specs.Logs.{IsKept, IsLog, OracleLog}
use Rattle.oracle_face.proofs.GrowingLemmas.{Makes}
use Rattle.oracle_face.proofs.Refuting.{claim_excluded, refutes_grown}
use Rattle.semi_stable.specs.declared.widest.Widest.{Widest}
use Rattle.semi_stable.specs.Widest.{IsWidestFrom, MadeWider}
use Rattle.semi_stable.proofs.WidestLemmas.{range_within}
use Rattle.enumerate_block.specs.declared.with_mode.Listed.{Listed}
use Rattle.enumerate_block.specs.declared.with_mode.Listed.TheVariants.{Whole, TooMany}
use Rattle.enumerate_block.specs.Modes.{IsAllOf, IsAllOrMore as IsListedOrMore, IsAmong, MadeDiffers}
use Rattle.enumerate_block.specs.Ordered.{HasMore}
use Rattle.enumerate_block.specs.declared.ranges.Ranges.{Ranges}
use Rattle.enumerate_block.specs.Marks.{GainsFirst, marked_steps}
use Rattle.enumerate_block.specs.Ranges.{AreFound, AreRefuted, Gains, GrowsRange, IsAllWidest}
use Rattle.enumerate_block.specs.Ranges.{IsShownWidest, IsUncovered, MadeForRanges, Records}
use Rattle.enumerate_block.proofs.StepLemmas.{first_of, firsts_refuted, refuted_first, refuted_member}
use Rattle.oracle_face.specs.declared.oracle.Oracle.{Ghosts as OracleWords}
use Rattle.goal_lists.specs.Runs.{Ran}
use Rattle.goal_lists.proofs.RunLemmas.{ran_as}
use Rattle.enumerate_block.proofs.ModeLemmas.{base_holds}
use Rattle.enumerate_block.proofs.WidthLemmas.{widest_has_mode}
use Rattle.enumerate_block.proofs.WidthLemmas.{alike_gives, wider_alike}
use Rattle.enumerate_block.proofs.FoundRanges.{found_grown, wanted}
use Rattle.enumerate_block.proofs.NewRanges.{IsNewRange, apart_from_old, gains_range, has_more}
use Rattle.enumerate_block.proofs.NewRanges.{new_range, range_grown, refutes_more}

-- One turn of the search for ranges after the other, and its end.

module _ (mode : Mode) where
  -- ---- the end

  -- of two sets with widest ranges none has a range that is part of the other's
  pub no_range_within : (f : Af) (sets : List (List ℕ))
      → ((e : List ℕ) → Contains sets e → IsExtension (af f) (widest_semantics mode) e) → NoRangeWithin (af f) sets
  no_range_within f sets each = λ s t c d sub.
      ((widest_extension mode f s).0 (each s c)).widest t ((widest_extension mode f t).0 (each t d)).has_mode sub

  claim_plain : (f : Framework) (sets : List (List ℕ)) (e : List ℕ) → IsPlain (range_listed f mode sets e)
  claim_plain f sets e = plain_mapped (affirmed (mode_atom mode) ∷ are_ranged (range_of f e)) (differs f) (filter
      (same_range f e) sets)
      (mode_plain mode (are_ranged (range_of f e)) (ranged_plain (range_of f e))) (differs_plain f)

  -- what covers the ranges of the sets, covers them by the first sets with their ranges
  cover_firsts : (f : Framework) (log : OracleLog) (sets : List (List ℕ)) (step : ℕ) → is_assumption_based f ≡ false
      → IsNumbered f → ((e : List ℕ) → Contains sets e → IsExtension f (widest_semantics mode) e)
      → Refutes f log (range_cover f mode [] sets) step
      → Refutes f log (range_cover f mode [] (first_ranged f sets)) step
  cover_firsts f log sets step kind ok each refuted =
      refutes_more f log (affirmed (mode_atom mode) ∷ []) (map (wider f) sets) (map (wider f) (first_ranged f sets))
      step
      (λ side c.
      let m = Contains-from_mapped (wider f) sets side c in
      let first = first_of f sets m.0 m.1 in
      let left = widest_has_mode mode f first.0 (each first.0 (firsts_within f sets first.0 first.1)) in
      let right = widest_has_mode mode f m.0 (each m.0 m.1) in
      let both = alike_gives mode f first.0 m.0 kind ok left right first.2 in
      subst (λ (x : List AtomLit). Contains (map (wider f) (first_ranged f sets)) x)
      (wider_alike mode f first.0 m.0 kind ok left right both.0 both.1 ∙ m.2)
      (Contains-mapped (wider f) (first_ranged f sets) first.0 first.1))
      refuted

  pub all_found : (f : Framework) (log : OracleLog) (limit : ℕ) (found : Ranges) (step : ℕ) (steps : List ℕ)
      → IsKept f log → AreFound f log mode found → length found.sets.items ≤ limit
      → steps ≡ step ∷ marked_steps found.marks.items → Refutes f log (range_cover f mode [] found.sets.items) step
      → IsAllWidest f log mode limit found.sets.items steps
  all_found (aba f) log limit found step steps kept h room is refuted = absurd (false≢true (sym h.kind))
  all_found (af f) log limit found step steps kept h room is refuted =
      let sets = found.sets.items in
      let firsts = first_ranged (af f) sets in
      let each : (e : List ℕ) → Contains sets e
      → IsExtension (af f) (widest_semantics mode) e = λ e c. (h.each e c).is_widest in
      let cover = cover_firsts (af f) log sets step h.kind kept.numbered each refuted in
      let listed = firsts_refuted mode (af f) log sets found.marks.items h.rise h.marked h.marks in
      let exact = all_widest mode f sets kept.numbered (λ e c. widest_has_mode mode (af f) e (each e c))
      (no_range_within f sets each)
      (claim_excluded (af f) log (range_cover (af f) mode [] firsts) step kept.form
      (plain_mapped (affirmed (mode_atom mode) ∷ []) (wider (af f)) firsts (wanted mode).plain (wider_plain (af f))) cover)
      (λ e c.
      let r = refuted_member (af f) log (map (range_listed (af f) mode sets) firsts) (marked_steps found.marks.items)
      (range_listed (af f) mode sets e) listed (Contains-mapped (range_listed (af f) mode sets) firsts e c) in
      claim_excluded (af f) log (range_listed (af f) mode sets e) r.0 kept.form (claim_plain (af f) sets e) r.1) in
      record {
        each = each;
        all = λ e is. exact.all e ((widest_extension mode f e).0 is);
        rise = h.rise;
        one_form = h.one_form;
        within = room;
        refuted = subst
            (λ (xs : List ℕ). AreRefuted (af f) log
            (range_cover (af f) mode [] firsts ∷ map (range_listed (af f) mode sets) firsts) xs) (sym is)
            (refuted_first (af f) log (range_cover (af f) mode [] firsts) step (map (range_listed (af f) mode sets)
            firsts)
            (marked_steps found.marks.items) cover listed);
      }

  pub all_refuted : (f g h : Framework) (log : OracleLog) (limit : ℕ) (found : Ranges) (r : Found) (step : ℕ)
      (steps : List ℕ) → g ≡ f → h ≡ f → IsKept h log → AreFound f log mode found → length found.sets.items ≤ limit
      → r ≡ Refuted step → IsUncovered g log mode found r → steps ≡ step ∷ marked_steps found.marks.items
      → IsAllWidest f log mode limit found.sets.items steps
  all_refuted f g h log limit found r step steps left right kept are room is last made =
      all_found f log limit found step steps (subst (λ (x : Framework). IsKept x log) right kept) are room made
      (subst (λ (x : Framework). IsUncovered x log mode found (Refuted step)) left
      (subst (IsUncovered g log mode found) is last))

  pub recorded : (f g : Framework) (log : OracleLog) (limit : ℕ) (old new : Ranges) (room : Bool) → g ≡ f
      → room ≡ true → Records g log mode limit old new room → Gains f log mode limit old new
  recorded f g log limit old new room same is h =
      subst (λ (x : Framework). Gains x log mode limit old new) same (subst (Records g log mode limit old new) is h)

  pub not_recorded : (f g : Framework) (log : OracleLog) (limit : ℕ) (old new : Ranges) (room : Bool) → g ≡ f
      → room ≡ false → Records g log mode limit old new room → HasMore (IsShownWidest f log mode) limit
  not_recorded f g log limit old new room same is h =
      subst (λ (x : Framework). HasMore (IsShownWidest x log mode) limit) same
      (subst (Records g log mode limit old new) is h)

  -- ---- one call after the other

  makes_differs : (f : Framework) → Makes (MadeDiffers f (mode_atom mode)) (MadeForRanges f mode)
  makes_differs f literals set h = (base_holds mode f set h.1, inr h.0)

  widest_makes : (f : Framework) → Makes (MadeWider f mode) (MadeForRanges f mode)
  widest_makes f literals set h = (h.0, inl h.1)

  -- ---- a turn of the search

  -- what is known after a range has been grown, and sets have been searched for
  record IsGrown (f : Framework) (log : OracleLog) (old : Ranges) (widest : Widest) (n : ℕ) : Type 0 where
    pub found : AreFound f log mode old
    pub range : IsNewRange mode f log old widest.set widest.range n

  grown : (f h : Framework) (P : Making) (first log after : OracleLog) (old mid : Ranges) (set : List ℕ)
      (widest : Widest) → h ≡ f → IsKept f first → IsKept h log → IsUncovered f first mode old (Set set)
      → AreFound f first mode old → Grows (MadeForRanges f mode) first log → Grows P log after
      → (g : GrowsRange f log mode set old mid widest) → IsGrown f after old widest g.number
  grown f h P first log after old mid set widest same kept later_kept open_set are grows more g =
      let now = subst (λ (x : Framework). IsKept x log) same later_kept in
      record {
        found = found_grown mode f P log after old now.form more
            (found_grown mode f (MadeForRanges f mode) first log old kept.form grows are);
        range = range_grown mode f P log after old widest.set widest.range g.number now.form more
            (new_range mode f first log old mid set widest are.kind now open_set g);
      }

  pub range_fits : (f h : Framework) (log : OracleLog) (set range : List ℕ) (widest : Widest)
      → is_assumption_based f ≡ false → h ≡ f → IsKept h log → range ≡ widest.range → IsWidestFrom f log mode set widest
      → IsWithin range (members h)
  range_fits f h log set range widest kind same kept is found =
      subst (λ (x : Framework). IsWithin range (members x)) (sym same)
      (subst (λ (r : List ℕ). IsWithin r (members f)) (sym is)
      (range_within f widest.set widest.range kind (subst (λ (x : Framework). IsKept x log) same kept).numbered
      (mode_members mode f widest.set found.has_mode) found.range))

  listed_all : (f h : Framework) (log : OracleLog) (range list : List ℕ) (room step : ℕ) (sets : Vec (List ℕ) Global)
      (r : Listed) → h ≡ f → range ≡ list → r ≡ Whole sets step → IsListedOrMore h log (mode_atom mode) range room r
      → IsAllOf f log (mode_atom mode) list room sets.items step
  listed_all f h log range list room step sets r same is whole all =
      subst (λ (x : Framework). IsAllOf x log (mode_atom mode) list room sets.items step) same
      (subst (λ (xs : List ℕ). IsAllOf h log (mode_atom mode) xs room sets.items step) is
      (subst (IsListedOrMore h log (mode_atom mode) range room) whole all))

  listed_more : (f h : Framework) (log : OracleLog) (range list : List ℕ) (room : ℕ) (r : Listed) → h ≡ f → range ≡ list
      → r ≡ TooMany → IsListedOrMore h log (mode_atom mode) range room r
      → HasMore (IsAmong f (mode_atom mode) list) room
  listed_more f h log range list room r same is more all =
      subst (λ (x : Framework). HasMore (IsAmong x (mode_atom mode) list) room) same
      (subst (λ (xs : List ℕ). HasMore (IsAmong h (mode_atom mode) xs) room) is
      (subst (IsListedOrMore h log (mode_atom mode) range room) more all))

  -- none of the sets with the new range was found before
  pub apart_grown : (f h : Framework) (first log after : OracleLog) (old mid : Ranges) (set range : List ℕ)
      (widest : Widest) (room step : ℕ) (sets : Vec (List ℕ) Global) (more : List (List ℕ)) (r : Listed) → h ≡ f
      → IsKept f first → IsKept h log → IsUncovered f first mode old (Set set) → AreFound f first mode old
      → Grows (MadeForRanges f mode) first log → Grows (MadeDiffers h (mode_atom mode)) log after
      → GrowsRange f log mode set old mid widest
      → range ≡ widest.range → r ≡ Whole sets step → IsListedOrMore h after (mode_atom mode) range room r
      → more ≡ sets.items
      → (s : List ℕ) → Contains mid.sets.items s → Contains more s → ⊥
  apart_grown f h first log after old mid set range widest room step sets more r same kept later_kept open_set are grows
      later g is whole all list s c d =
      let state = grown f h (MadeDiffers h (mode_atom mode)) first log after old mid set widest same kept later_kept
      open_set are grows
      later g in
      apart_from_old mode f after old widest.set widest.range g.number sets.items state.range
      (listed_all f h after range widest.range room step sets r same is whole all).each s
      (subst (λ (v : Vec (List ℕ) Global). Contains v.items s) g.sets c)
      (subst (λ (xs : List (List ℕ)). Contains xs s) list d)

  pub gains_grown : (f h : Framework) (first log after : OracleLog) (limit : ℕ) (old mid new : Ranges) (set
      range : List ℕ)
      (widest : Widest) (room step : ℕ) (sets : Vec (List ℕ) Global) (more : List (List ℕ)) (r : Listed) → h ≡ f
      → IsKept f first → IsKept h log → IsUncovered f first mode old (Set set) → AreFound f first mode old
      → Grows (MadeForRanges f mode) first log → Grows (MadeDiffers h (mode_atom mode)) log after
      → GrowsRange f log mode set old mid widest
      → range ≡ widest.range → r ≡ Whole sets step → IsListedOrMore h after (mode_atom mode) range room r
      → more ≡ sets.items
      → length mid.sets.items + room ≤ limit
      → GainsFirst more (length more) step mid.sets.items new.sets.items mid.marks.items new.marks.items
      → new.asks ≡ mid.asks → Gains f after mode limit old new
  gains_grown f h first log after limit old mid new set range widest room step sets more r same kept later_kept open_set
      are
      grows later g is whole all list fits gains asks =
      let state = grown f h (MadeDiffers h (mode_atom mode)) first log after old mid set widest same kept later_kept
      open_set are grows
      later g in
      gains_range mode f after limit room old new widest.set widest.range g.number step sets.items state.range state.found
      (listed_all f h after range widest.range room step sets r same is whole all)
      (omega (arith, ap (λ (v : Vec (List ℕ) Global). length v.items) g.sets, fits))
      (subst (λ (xs : List (List ℕ)).
      GainsFirst xs (length xs) step old.sets.items new.sets.items old.marks.items new.marks.items) list
      (subst (λ (v : Vec (List ℕ) Global).
      GainsFirst more (length more) step v.items new.sets.items old.marks.items new.marks.items) g.sets
      (subst (λ (v : Vec (Option ℕ) Global).
      GainsFirst more (length more) step mid.sets.items new.sets.items v.items new.marks.items) g.marks gains)))
      (asks ∙ g.asks)

  pub more_grown : (f h : Framework) (first log after : OracleLog) (limit : ℕ) (old mid : Ranges) (set range : List ℕ)
      (widest : Widest) (room : ℕ) (r : Listed) → h ≡ f
      → IsKept f first → IsKept h log → IsUncovered f first mode old (Set set) → AreFound f first mode old
      → Grows (MadeForRanges f mode) first log → Grows (MadeDiffers h (mode_atom mode)) log after
      → GrowsRange f log mode set old mid widest
      → range ≡ widest.range → r ≡ TooMany → IsListedOrMore h after (mode_atom mode) range room r
      → limit ≤ length mid.sets.items + room → HasMore (IsShownWidest f after mode) limit
  more_grown f h first log after limit old mid set range widest room r same kept later_kept open_set are grows later g
      is
      many
      all fits =
      let state = grown f h (MadeDiffers h (mode_atom mode)) first log after old mid set widest same kept later_kept
      open_set are grows
      later g in
      has_more mode f after limit room old widest.set widest.range g.number state.range state.found
      (omega (arith, ap (λ (v : Vec (List ℕ) Global). length v.items) g.sets, fits))
      (listed_more f h after range widest.range room r same is many all)

  -- a set with a widest range stays one while the log grows
  pub widest_kept : (f : Framework) (before after : OracleLog) (P : Making) (h : Framework) (set : List ℕ)
      (widest : Widest)
      → h ≡ f → IsKept h before → Grows P before after → IsWidestFrom f before mode set widest
      → IsWidestFrom f after mode set widest
  widest_kept f before after P h set widest same kept grows is = record {
    has_mode = is.has_mode;
    range = is.range;
    holds = is.holds;
    refuted = refutes_grown f P before after (range_widest f mode widest.set) widest.refutation
        (subst (λ (x : Framework). IsLog x before) same kept.form) grows is.refuted;
  }

-- calls that grow a range or list its sets, as calls of the search for ranges
module _ {S : Type 0} {o : OracleWords S} (mode : Mode) where
  pub as_widest : {m : ℕ} {a b : S} {u v : Units} {halt : Option Halt}
      → Ran o (λ f. MadeWider f mode) m a b u v halt → Ran o (λ f. MadeForRanges f mode) m a b u v halt
  as_widest h = ran_as (widest_makes mode _) (omega arith) h

  pub as_listed : {m : ℕ} {a b : S} {u v : Units} {halt : Option Halt}
      → Ran o (λ f. MadeDiffers f (mode_atom mode)) m a b u v halt → Ran o (λ f. MadeForRanges f mode) m a b u v halt
  as_listed h = ran_as (makes_differs mode _) (omega arith) h
