use Rattle.std.proofs.Common.{◌≡◌, inl, inr, ⊎_elim, ℕ, zero, suc, ◌+◌, ◌-◌, ◌<◌, ◌≤◌, true, false, Bool, List, []}
use Rattle.std.proofs.Common.{◌∷◌, ◌++◌, length, map, filter, refl, sym, subst, ◌∙◌, arith}
use Rattle.std.specs.Prelude.{◌⊎◌, ◌↔◌, Contains, slice_index_or, Option, Some, None}
use Rattle.std.proofs.lemmas.Bool.{cases_lt, false≢true}
use Rattle.std.proofs.lemmas.List.{get_or_append_left, get_or-append_right, get_or_default, length-append}
use Rattle.std.proofs.lemmas.List.Elements.{Contains-append_left, Contains-append_cases}
use Rattle.lists.specs.Members.{IsSetOf, IsWithin}
use Rattle.lists.proofs.Filters.{Contains-filter}
use Rattle.lists.proofs.Membership.{Contains-pushed}
use Rattle.plain_lits.proofs.HintCheckLemmas.{Contains-mapped, Contains-from_mapped}
use Rattle.semantics.specs.declared.mode.Mode.{Mode}
use Rattle.semantics.specs.Frameworks.{Framework, af, aba, IsNumbered}
use Rattle.semantics.specs.Laws.{HasSameMembers}
use Rattle.meaning_atoms.specs.declared.atom.Atom.{Atom}
use Rattle.meaning_atoms.specs.declared.atom.Atom.TheVariants.{Ask}
use Rattle.meaning_atoms.specs.declared.atom.AtomLit.{AtomLit}
use Rattle.meaning_atoms.specs.Literals.{affirmed}
use Rattle.certificate_claims.specs.Claims.{claim_of, mode_atom, range_listed}
use Rattle.certificate_claims.specs.Claims.{range_widest, widest_semantics}
use Rattle.certificate_claims.specs.Refutations.{IsPlain}
use Rattle.certificate_claims.specs.Rights.{IsExtension, SetsRise}
use Rattle.certificate_claims.specs.SetLiterals.{are_ranged, differs, has, is_range_within, members, range_of}
use Rattle.certificate_claims.specs.SetLiterals.{same_range, wider}
use Rattle.certificate_claims.proofs.RangeLists.{equal_ranges}
use Rattle.certificate_claims.proofs.GoalLists.{only_one, plain_mapped}
use Rattle.certificate_claims.proofs.Modes.{mode_members, mode_plain, widest_extension}
use Rattle.certificate_claims.proofs.SideClauses.{ranged_plain, wider_plain}
use Rattle.certificate_claims.proofs.WidestSets.{widest_is}
use Rattle.oracle_face.specs.declared.face.Found.TheVariants.{Set}
use Rattle.oracle_face.specs.Goals.{DeniesSide, Refutes}
use Rattle.oracle_face.specs.Growing.{Grows, Making}
use Rattle.oracle_face.specs.Kinds.{IsRanged, is_assumption_based}
use Rattle.oracle_face.specs.Logs.{IsKept, IsLog, OracleLog, SideClause}
use Rattle.oracle_face.proofs.Refuting.{claim_excluded}
use Rattle.enumerate_block.specs.goal_lists.specs.Asking.{AreApart}
use Rattle.enumerate_block.specs.goal_lists.specs.Sides.{AreAsksOf, IsAskOf}
use Rattle.enumerate_block.specs.goal_lists.proofs.Calls.{apart_pushed}
use Rattle.enumerate_block.specs.goal_lists.proofs.Measures.{fewer_left, kept_is_set, same_as_kept}
use Rattle.enumerate_block.specs.goal_lists.proofs.SideLemmas.{ask_grown, asks_again, asks_more}
use Rattle.enumerate_block.specs.goal_lists.proofs.SideLemmas.{same_number}
use Rattle.semi_stable.specs.declared.widest.Widest.{Widest}
use Rattle.semi_stable.specs.Widest.{IsRangeIn, IsWidestFrom}
use Rattle.semi_stable.proofs.WidestLemmas.{range_list}
use Rattle.enumerate_block.specs.Modes.{IsAllOf, IsAmong}
use Rattle.enumerate_block.specs.Ordered.{HasMore, Precedes, TheyDiffer}
use Rattle.enumerate_block.proofs.OrderedLemmas.{not_both_ways, not_itself, they_differ}
use Rattle.enumerate_block.specs.declared.ranges.Ranges.{Ranges}
use Rattle.enumerate_block.specs.Marks.{GainsFirst, IsPaired, mark_at}
use Rattle.enumerate_block.specs.Ranges.{AreFound, Gains, GrowsRange, IsMark}
use Rattle.enumerate_block.specs.Ranges.{IsShownWidest, IsUncovered}
use Rattle.enumerate_block.proofs.WidthLemmas.{widest_has_mode, same_width, widest_too, range_more, alike_from}
use Rattle.enumerate_block.proofs.WidthLemmas.{alike_gives, in_from, in_gives, wider_alike, same_clause_range}
use Rattle.enumerate_block.proofs.FoundRanges.{open_ranges, shown_grown}

-- The sets with a new widest range, beside those with the ranges before.

-- ---- claims with more side clauses

denies_more : (sides : List SideClause) (goals : List AtomLit) (few more : List (List AtomLit))
    → ((side : List AtomLit) → Contains few side → Contains more side) → (atom : Atom) (positive : Bool)
    → DeniesSide sides (claim_of goals few) atom positive → DeniesSide sides (claim_of goals more) atom positive
denies_more sides goals few more all (Ask n) false h =
    record { number = h.number; side = h.side; there = all h.side h.there; same = h.same }
denies_more sides goals few more all _ _ h = absurd h

pub refutes_more : (f : Framework) (log : OracleLog) (goals : List AtomLit) (few more : List (List AtomLit)) (n : ℕ)
    → ((side : List AtomLit) → Contains few side → Contains more side) → Refutes f log (claim_of goals few) n
    → Refutes f log (claim_of goals more) n
refutes_more f log goals few more n all h = record {
  step = h.step;
  closed = λ l c. ⊎_elim (λ fact. inl fact)
      (λ rest. inr (⊎_elim (λ goal. inl goal)
      (λ denies. inr (denies_more log.sides goals few more all l.atom l.positive denies)) rest))
      (h.closed l c);
  own_sides = λ k m reach is.
      let s = h.own_sides k m reach is in
      record { number = s.number; side = s.side; there = all s.side s.there; same = s.same };
}

-- ---- lists of sets

in_list : (more : List (List ℕ)) (k : ℕ) (s : List ℕ) → k < length more → slice_index_or more k [] ≡ s → Contains more s
in_list more k s lt is = (k, lt, get_or_default more k s [] lt ∙ is)

at_list : (more : List (List ℕ)) (s : List ℕ) → Contains more s
    → (k : ℕ) × k < length more × (slice_index_or more k [] ≡ s)
at_list more s c = (c.0, c.1, get_or_default more c.0 [] s c.1 ∙ c.2)

-- what is in the new list was in the old one, or has the new range
pub record IsMerged (old new more : List (List ℕ)) : Type 0 where
  pub cases : (s : List ℕ) → Contains new s → Contains old s ⊎ Contains more s
  pub keeps : (s : List ℕ) → Contains old s → Contains new s
  pub gains : (s : List ℕ) → Contains more s → Contains new s

merged : (more : List (List ℕ)) (step : ℕ) (old new : List (List ℕ)) (old_marks marks : List (Option ℕ))
    → GainsFirst more (length more) step old new old_marks marks → IsMerged old new more
merged more step old new old_marks marks h = record {
  cases = λ s c. ⊎_elim (λ o. inl o) (λ k. inr (in_list more k.0 s k.1 k.2)) ((h.members s).0 c);
  keeps = λ s c. (h.members s).1 (inl c);
  gains = λ s c. (h.members s).1 (inr (at_list more s c));
}

-- none of a list that rises comes before its first
first_least : (more : List (List ℕ)) (k : ℕ) (t s : List ℕ) → SetsRise more → k < length more
    → slice_index_or more k [] ≡ t → slice_index_or more 0 [] ≡ s → Precedes t s → ⊥
first_least more zero t s rise lt at is less = not_itself s (subst (λ (x : List ℕ). Precedes x s) (sym at ∙ is) less)
first_least more (suc k) t s rise lt at is less =
    not_both_ways t s less
    (subst (λ (x : List ℕ). Precedes s x) at
    (subst (λ (x : List ℕ). Precedes x (slice_index_or more (suc k) [])) is (rise 0 (suc k) (omega arith) lt)))

pair_there : (sets : List (List ℕ)) (marks : List (Option ℕ)) (s : List ℕ) (mark : Option ℕ)
    → IsPaired sets marks s mark → Contains sets s
pair_there sets marks s mark p = in_list sets p.0 s p.1 p.2

pushed : (xs : List (List ℕ)) (x s : List ℕ) → Contains (xs ++ x ∷ []) s ↔ (Contains xs s ⊎ (s ≡ x))
pushed xs x s = (
  λ c. ⊎_elim (λ k. inl k) (λ k. inr (sym (only_one x s k))) (Contains-append_cases xs (x ∷ []) s c),
  λ h. ⊎_elim (λ k. Contains-append_left xs (x ∷ []) s k)
      (λ e. subst (λ (y : List ℕ). Contains (xs ++ x ∷ []) y) (sym e) (Contains-pushed xs x x refl)) h,
)

differ_across : (xs ys : List (List ℕ)) → TheyDiffer xs → TheyDiffer ys
    → ((s t : List ℕ) → Contains xs s → Contains ys t → HasSameMembers s t → ⊥) → TheyDiffer (xs ++ ys)
differ_across xs ys left right across i j lt high same =
    let long = length-append xs ys in
    let low : (k : ℕ) → k < length xs → slice_index_or (xs ++ ys) k [] ≡ slice_index_or xs k [] =
    λ k early. get_or_append_left xs ys [] k early in
    let up : (k : ℕ) → length xs ≤ k → slice_index_or (xs ++ ys) k [] ≡ slice_index_or ys (k - length xs) [] =
    λ k late. get_or-append_right xs ys (length xs) k [] refl late in
    let move : (s t u v : List ℕ) → s ≡ u → t ≡ v → HasSameMembers s t → HasSameMembers u v =
    λ s t u v a b h. subst (λ (x : List ℕ). HasSameMembers x v) a (subst (λ (y : List ℕ). HasSameMembers s y) b h) in
    ⊎_elim
    (λ j_low. left i j lt j_low (move _ _ _ _ (low i (omega arith)) (low j j_low) same))
    (λ j_high. ⊎_elim
    (λ i_low. across (slice_index_or xs i []) (slice_index_or ys (j - length xs) [])
    (in_list xs i (slice_index_or xs i []) i_low refl)
    (in_list ys (j - length xs) (slice_index_or ys (j - length xs) []) (omega arith) refl)
    (move _ _ _ _ (low i i_low) (up j j_high) same))
    (λ i_high. right (i - length xs) (j - length xs) (omega arith) (omega arith)
    (move _ _ _ _ (up i i_high) (up j j_high) same))
    (cases_lt i (length xs)))
    (cases_lt j (length xs))

module _ (mode : Mode) where
  -- ---- a new range

  widest_plain : (f : Framework) (e : List ℕ) → IsPlain (range_widest f mode e)
  widest_plain f e = plain_mapped (affirmed (mode_atom mode) ∷ are_ranged (range_of f e)) (wider f) (e ∷ [])
      (mode_plain mode (are_ranged (range_of f e)) (ranged_plain (range_of f e))) (wider_plain f)

  pub grown_widest : (f : Framework) (log : OracleLog) (given : List ℕ) (widest : Widest)
      → is_assumption_based f ≡ false → IsKept f log → IsWidestFrom f log mode given widest
      → IsExtension f (widest_semantics mode) widest.set
  grown_widest (aba f) log given widest kind kept h = absurd (false≢true (sym kind))
  grown_widest (af f) log given widest kind kept h =
      (widest_extension mode f widest.set).1 (widest_is mode f widest.set kept.numbered h.has_mode
      (claim_excluded (af f) log (range_widest (af f) mode widest.set) widest.refutation kept.form
      (widest_plain (af f) widest.set) h.refuted))

  -- the widest range that lies in none of the sets', with its side clause
  pub record IsNewRange (f : Framework) (log : OracleLog) (old : Ranges) (w range : List ℕ) (n : ℕ) : Type 0 where
    pub kind : is_assumption_based f ≡ false
    pub numbered : IsNumbered f
    pub shown : IsShownWidest f log mode w
    pub is_range : IsSetOf (IsRanged f w) range
    pub outside_all : (d : List ℕ) → Contains old.sets.items d → IsRangeIn f w d → ⊥
    pub ask : IsAskOf log.sides (wider f w) n

  pub new_range : (f : Framework) (first log : OracleLog) (old new : Ranges) (set : List ℕ) (widest : Widest)
      → is_assumption_based f ≡ false → IsKept f log → IsUncovered f first mode old (Set set)
      → (h : GrowsRange f log mode set old new widest)
      → IsNewRange f log old widest.set widest.range h.number
  new_range f first log old new set widest kind kept open_set h = record {
    kind = kind;
    numbered = kept.numbered;
    shown = record {
      is_widest = grown_widest f log set widest kind kept h.is_widest;
      number = widest.refutation;
      refuted = h.is_widest.refuted;
    };
    is_range = h.is_widest.range;
    outside_all = λ d c sub. open_set.1 d c (λ a k. sub a (h.is_widest.holds a k));
    ask = h.ask;
  }

  pub range_grown : (f : Framework) (P : Making) (before after : OracleLog) (old : Ranges) (w range : List ℕ) (n : ℕ)
      → IsLog f before → Grows P before after → IsNewRange f before old w range n → IsNewRange f after old w range n
  range_grown f P before after old w range n form grows h = record {
    kind = h.kind;
    numbered = h.numbered;
    shown = shown_grown mode f P before after w form grows h.shown;
    is_range = h.is_range;
    outside_all = h.outside_all;
    ask = ask_grown P before after (wider f w) n grows h.ask;
  }

  -- ---- sets with the range

  among_in : (f : Framework) (w range x : List ℕ) → is_assumption_based f ≡ false → IsSetOf (IsRanged f w) range
      → IsAmong f (mode_atom mode) range x → IsRangeIn f w x
  among_in (af f) w range x kind is among a h = among.ranged a ((is.members a).1 h)
  among_in (aba f) w range x kind is among a h = absurd (false≢true (sym kind))

  -- none of them is one of the sets before
  pub not_among : (f : Framework) (log : OracleLog) (old : Ranges) (w range : List ℕ) (n : ℕ)
      → IsNewRange f log old w range n → (s x : List ℕ) → Contains old.sets.items s → IsAmong f (mode_atom mode) range x
      → IsRangeIn f x s → ⊥
  not_among f log old w range n h s x c among sub =
      h.outside_all s c (λ a k. sub a (among_in f w range x h.kind h.is_range among a k))

  pub apart_from_old : (f : Framework) (log : OracleLog) (old : Ranges) (w range : List ℕ) (n : ℕ)
      (more : List (List ℕ)) → IsNewRange f log old w range n → ((x : List ℕ) → Contains more x → IsAmong f (mode_atom
      mode) range x)
      → (s : List ℕ) → Contains old.sets.items s → Contains more s → ⊥
  apart_from_old f log old w range n more h each s c d =
      not_among f log old w range n h s s c (each s d) (λ a k. k)

  group_alike : (f : Framework) (log : OracleLog) (old : Ranges) (w range x y : List ℕ) (n : ℕ)
      → IsNewRange f log old w range n → IsAmong f (mode_atom mode) range x → IsAmong f (mode_atom mode) range y
      → IsRangeIn f x y
  group_alike f log old w range x y n h left right a k =
      among_in f w range y h.kind h.is_range right a
      (same_width mode f w x h.kind h.shown.is_widest left.has_mode (among_in f w range x h.kind h.is_range left) a k)

  group_same : (f : Framework) (log : OracleLog) (old : Ranges) (w range x y : List ℕ) (n : ℕ)
      → IsNewRange f log old w range n → IsAmong f (mode_atom mode) range x → IsAmong f (mode_atom mode) range y
      → same_range f x y ≡ true
  group_same f log old w range x y n h left right =
      alike_from mode f x y h.kind h.numbered left.has_mode right.has_mode
      (group_alike f log old w range x y n h left right) (group_alike f log old w range y x n h right left)

  own_among : (f : Framework) (log : OracleLog) (old : Ranges) (w range : List ℕ) (n : ℕ)
      → IsNewRange f log old w range n → IsAmong f (mode_atom mode) range w
  own_among (aba f) log old w range n h = absurd (false≢true (sym h.kind))
  own_among (af f) log old w range n h = record {
    has_mode = widest_has_mode mode (af f) w h.shown.is_widest;
    ranged = λ a c. (h.is_range.members a).0 c;
  }

  -- each set with the range is shown by the step that shows the one: their claims are the same
  range_shown : (f : Framework) (log : OracleLog) (old : Ranges) (w range x : List ℕ) (n : ℕ)
      → IsNewRange f log old w range n → IsAmong f (mode_atom mode) range x → IsShownWidest f log mode x
  range_shown f log old w range x n h among =
      let own = own_among f log old w range n h in
      let side = wider_alike mode f w x h.kind h.numbered own.has_mode among.has_mode
      (group_alike f log old w range w x n h own among) (group_alike f log old w range x w n h among own) in
      let list = equal_ranges f w x (group_same f log old w range w x n h own among) in
      record {
        is_widest = widest_too mode f w x h.kind h.shown.is_widest among.has_mode
            (among_in f w range x h.kind h.is_range among);
        number = h.shown.number;
        refuted = subst
            (λ (r : List ℕ). Refutes f log (claim_of (affirmed (mode_atom mode) ∷ are_ranged r) (wider f x ∷ []))
            h.shown.number) list
            (subst (λ (clause : List AtomLit).
            Refutes f log (claim_of (affirmed (mode_atom mode) ∷ are_ranged (range_of f w)) (clause ∷ []))
            h.shown.number) side
            h.shown.refuted);
      }

  -- the step that refutes that there is another set with the range does so for each set with it
  group_refuted : (f : Framework) (log : OracleLog) (old : Ranges) (w range s : List ℕ) (n room step : ℕ)
      (more new : List (List ℕ)) → IsNewRange f log old w range n → IsAllOf f log (mode_atom mode) range room more step
      → ((x : List ℕ) → Contains more x → Contains new x) → Contains more s
      → Refutes f log (range_listed f mode new s) step
  group_refuted f log old w range s n room step more new h all there c =
      let among = all.each s c in
      let same = group_same f log old w range w s n h (own_among f log old w range n h) among in
      let list : range ≡ range_of f s =
      range_list f w range h.kind h.numbered (mode_members mode f w (widest_has_mode mode f w h.shown.is_widest))
      h.is_range
      ∙ equal_ranges f w s same in
      refutes_more f log (affirmed (mode_atom mode) ∷ are_ranged (range_of f s)) (map (differs f) more)
      (map (differs f) (filter (same_range f s) new)) step
      (λ side k.
      let m = Contains-from_mapped (differs f) more side k in
      subst (λ (x : List AtomLit). Contains (map (differs f) (filter (same_range f s) new)) x) m.2
      (Contains-mapped (differs f) (filter (same_range f s) new) m.0
      ((Contains-filter (same_range f s) new m.0).1
      (there m.0 m.1, group_same f log old w range s m.0 n h among (all.each m.0 m.1)))))
      (subst (λ (r : List ℕ). Refutes f log (claim_of (affirmed (mode_atom mode) ∷ are_ranged r) (map (differs f) more))
      step) list
      all.refuted)

  -- ---- the lists afterwards

  old_mark : (f : Framework) (log : OracleLog) (old : Ranges) (w range : List ℕ) (n : ℕ) (new more : List (List ℕ))
      (s : List ℕ) → IsNewRange f log old w range n → AreFound f log mode old → IsMerged old.sets.items new more
      → ((x : List ℕ) → Contains more x → IsAmong f (mode_atom mode) range x) → Contains old.sets.items s
      → (mark : Option ℕ)
      → IsMark f log mode old.sets.items s mark → IsMark f log mode new s mark
  old_mark f log old w range n new more s h are m each c (Some step) is = (
    refutes_more f log (affirmed (mode_atom mode) ∷ are_ranged (range_of f s)) (map (differs f) (filter (same_range f s)
        old.sets.items))
        (map (differs f) (filter (same_range f s) new)) step
        (λ side k.
        let from = Contains-from_mapped (differs f) (filter (same_range f s) old.sets.items) side k in
        let kept = (Contains-filter (same_range f s) old.sets.items from.0).0 from.1 in
        subst (λ (x : List AtomLit). Contains (map (differs f) (filter (same_range f s) new)) x) from.2
        (Contains-mapped (differs f) (filter (same_range f s) new) from.0
        ((Contains-filter (same_range f s) new from.0).1 (m.keeps from.0 kept.0, kept.1))))
        is.0,
    λ t d same less. ⊎_elim (λ o. is.1 t o same less)
        (λ k. not_among f log old w range n h s t c (each t k)
        (alike_gives mode f t s h.kind h.numbered (each t k).has_mode (widest_has_mode mode f s (are.each s
        c).is_widest) same).0)
        (m.cases t d),
  )
  old_mark f log old w range n new more s h are m each c None is = (is.0, m.keeps is.0 is.1, is.2, is.3)

  new_mark : (f : Framework) (log : OracleLog) (old : Ranges) (w range : List ℕ) (n room step : ℕ)
      (new more : List (List ℕ)) (s : List ℕ) → IsNewRange f log old w range n → AreFound f log mode old
      → IsMerged old.sets.items new more → IsAllOf f log (mode_atom mode) range room more step → (k : ℕ)
      → k < length more
      → slice_index_or more k [] ≡ s → IsMark f log mode new s (mark_at k step)
  new_mark f log old w range n room step new more s h are m all zero lt is =
      let c = in_list more 0 s lt is in (
        group_refuted f log old w range s n room step more new h all m.gains c,
        λ t d same less. ⊎_elim
            (λ o. not_among f log old w range n h t s o (all.each s c)
            (alike_gives mode f t s h.kind h.numbered (widest_has_mode mode f t (are.each t o).is_widest) (all.each s
            c).has_mode
            same).1)
            (λ k.
            let at = at_list more t k in
            first_least more at.0 t s all.rise at.1 at.2 is less)
            (m.cases t d),
      )
  new_mark f log old w range n room step new more s h are m all (suc k) lt is =
      let first = slice_index_or more 0 [] in
      let low : 0 < length more = omega arith in
      let c = in_list more 0 first low refl in
      let d = in_list more (suc k) s lt is in (
        first,
        m.gains first c,
        group_same f log old w range first s n h (all.each first c) (all.each s d),
        subst (λ (x : List ℕ). Precedes first x) is (all.rise 0 (suc k) (omega arith) lt),
      )

  -- the number of the new range's side clause serves each set with that range
  range_asks : (f : Framework) (log : OracleLog) (old : Ranges) (w range x : List ℕ) (n : ℕ)
      (new more : List (List ℕ)) (asks : List ℕ) → IsNewRange f log old w range n → AreFound f log mode old
      → IsMerged old.sets.items new more → ((y : List ℕ) → Contains more y → IsAmong f (mode_atom mode) range y)
      → Contains more x
      → asks ≡ old.asks ++ n ∷ [] → AreAsksOf (wider f) log.sides new asks
  range_asks f log old w range x n new more asks h are m each c is =
      let sets = old.sets.items in
      let own = own_among f log old w range n h in
      let alike : (y : List ℕ) → IsAmong f (mode_atom mode) range y → wider f w ≡ wider f y = λ y among.
      wider_alike mode f w y h.kind h.numbered own.has_mode among.has_mode (group_alike f log old w range w y n h own
      among)
      (group_alike f log old w range y w n h among own) in
      let ask : IsAskOf log.sides (wider f x) n =
      subst (λ (clause : List AtomLit). IsAskOf log.sides clause n) (alike x (each x c)) h.ask in
      let middle = asks_more (wider f) log.sides sets (sets ++ x ∷ []) x old.asks asks n (pushed sets x) is ask are.asks
      in
      asks_again (wider f) log.sides (sets ++ x ∷ []) new asks
      (λ s k. ⊎_elim (λ o. m.keeps s o)
      (λ e. subst (λ (y : List ℕ). Contains new y) (sym e) (m.gains x c)) ((pushed sets x s).0 k))
      (λ s k. ⊎_elim (λ o. (s, (pushed sets x s).1 (inl o), refl))
      (λ d. (x, (pushed sets x x).1 (inr refl), sym (alike x (each x c)) ∙ alike s (each s d))) (m.cases s k))
      middle

  not_asked : (f : Framework) (log : OracleLog) (old : Ranges) (w range : List ℕ) (n : ℕ)
      → IsNewRange f log old w range n → AreFound f log mode old → Contains old.asks n → ⊥
  not_asked f log old w range n h are c =
      let m = are.asks.each n c in
      h.outside_all m.0 m.1
      (same_clause_range mode f m.0 w h.kind h.numbered (widest_has_mode mode f w h.shown.is_widest)
      (same_number log.sides (wider f m.0) (wider f w) n m.2 h.ask))

  merged_form : (f : Framework) (log : OracleLog) (old : Ranges) (w range : List ℕ) (n : ℕ)
      (new more : List (List ℕ)) → IsNewRange f log old w range n → AreFound f log mode old
      → IsMerged old.sets.items new more → ((y : List ℕ) → Contains more y → IsAmong f (mode_atom mode) range y)
      → ((s t : List ℕ) → Contains more s → Contains more t → HasSameMembers s t → s ≡ t)
      → (s t : List ℕ) → Contains new s → Contains new t → HasSameMembers s t → s ≡ t
  merged_form f log old w range n new more h are m each one s t c d same =
      ⊎_elim
      (λ left. ⊎_elim (λ right. are.one_form s t left right same)
      (λ right. absurd (not_among f log old w range n h s t left (each t right) (range_more f t s h.kind same.back)))
      (m.cases t d))
      (λ left. ⊎_elim
      (λ right. absurd (not_among f log old w range n h t s right (each s left) (range_more f s t h.kind same.there)))
      (λ right. one s t left right same)
      (m.cases t d))
      (m.cases s c)

  pub gains_range : (f : Framework) (log : OracleLog) (limit room : ℕ) (old new : Ranges) (w range : List ℕ) (n step :
      ℕ)
      (more : List (List ℕ)) → IsNewRange f log old w range n → AreFound f log mode old
      → IsAllOf f log (mode_atom mode) range room more step → length old.sets.items + room ≤ limit
      → GainsFirst more (length more) step old.sets.items new.sets.items old.marks.items new.marks.items
      → new.asks ≡ old.asks ++ n ∷ [] → Gains f log mode limit old new
  gains_range f log limit room old new w range n step more h are all fits gains asks =
      let m = merged more step old.sets.items new.sets.items old.marks.items new.marks.items gains in
      let own = own_among f log old w range n h in
      let listed = all.all w own in
      let x = listed.set in
      let c = listed.member in
      record {
        set = x;
        number = n;
        member = m.gains x c;
        keeps = m.keeps;
        outside_all = λ e d sub. not_among f log old w range n h e x d (all.each x c) sub;
        asks = asks;
        found = record {
          kind = h.kind;
          each = λ s d. ⊎_elim (λ o. are.each s o)
              (λ k. range_shown f log old w range s n h (all.each s k))
              (m.cases s d);
          asks = range_asks f log old w range x n new.sets.items more new.asks h are m all.each c asks;
          apart = subst AreApart (sym asks) (apart_pushed old.asks n are.apart (not_asked f log old w range n h are));
          rise = gains.rise;
          one_form = merged_form f log old w range n new.sets.items more h are m all.each all.one_form;
          marked = gains.marked;
          marks = λ s mark p. ⊎_elim
              (λ q.
              let o = pair_there old.sets.items old.marks.items s mark q in
              old_mark f log old w range n new.sets.items more s h are m all.each o mark (are.marks s mark q))
              (λ k. subst (λ (x : Option ℕ). IsMark f log mode new.sets.items s x) k.3
              (new_mark f log old w range n room step new.sets.items more s h are m all k.0 k.1 k.2))
              (gains.pairs s mark p);
        };
        room = omega (arith, fits, all.within, gains.longer);
      }

  -- ---- more than the limit

  pub has_more : (f : Framework) (log : OracleLog) (limit room : ℕ) (old : Ranges) (w range : List ℕ) (n : ℕ)
      → IsNewRange f log old w range n → AreFound f log mode old → limit ≤ length old.sets.items + room
      → HasMore (IsAmong f (mode_atom mode) range) room → HasMore (IsShownWidest f log mode) limit
  has_more f log limit room old w range n h are fits more = record {
    sets = old.sets.items ++ more.sets;
    each = λ e c. ⊎_elim (λ o. are.each e o)
        (λ k. range_shown f log old w range e n h (more.each e k))
        (Contains-append_cases old.sets.items more.sets e c);
    differ = differ_across old.sets.items more.sets (they_differ old.sets.items are.rise are.one_form) more.differ
        (λ s t c d same. not_among f log old w range n h s t c (more.each t d) (range_more f t s h.kind same.back));
    more = omega (arith, fits, more.more, length-append old.sets.items more.sets);
  }

  -- ---- how many are left

  pub fewer_open : (f : Framework) (log : OracleLog) (limit : ℕ) (old new : Ranges) → IsNumbered f
      → Gains f log mode limit old new → open_ranges f new.sets.items < open_ranges f old.sets.items
  fewer_open f log limit old new ok h =
      let kind = h.found.kind in
      let e = h.set in
      let live = mode_members mode f e (widest_has_mode mode f e (h.found.each e h.member).is_widest) in
      let s = filter (has e) (members f) in
      let same = same_as_kept (members f) e live in
      let s_live : IsWithin s (members f) = λ x c. live x (same.0 x c) in
      fewer_left (is_range_within f) (members f) old.sets.items new.sets.items e s h.keeps h.member
      (kept_is_set (has e) (members f)) (in_from f s e kind ok s_live (range_more f s e kind same.0))
      (λ d c sub. h.outside_all d c (λ a k. in_gives f s d kind ok s_live sub a (range_more f e s kind same.1 a k)))
