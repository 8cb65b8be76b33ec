use Rattle.std.proofs.Common.{◌≡◌, inl, inr, ⊎_elim, ℕ, ◌+◌, ◌*◌, ◌<◌, ◌≤◌, true, false, Bool, List, [], ◌∷◌}
use Rattle.std.proofs.Common.{◌++◌, length, map, filter, refl, ap, sym, subst, ◌∙◌, arith}
use Rattle.std.specs.Prelude.{◌⊎◌, ◌↔◌, Contains, slice_index_or, Option, Some, None, Result, Ok, Err, IfOk}
use Rattle.std.proofs.lemmas.Bool.{false≢true}
use Rattle.std.proofs.lemmas.List.{length-append, map-append}
use Rattle.std.proofs.lemmas.List.Elements.{Contains-append_left, Contains-append_cases}
use Rattle.lists.specs.Members.{IsSetOf, IsWithin}
use Rattle.lists.proofs.Membership.{Contains-nil, Contains-head, Contains-tail, Contains-pushed}
use Rattle.plain_lits.specs.declared.halt.Halt.{Halt}
use Rattle.plain_lits.proofs.HintCheckLemmas.{Contains-mapped}
use Rattle.semantics.specs.declared.mode.Mode.{Mode}
use Rattle.semantics.specs.Frameworks.{Framework, af, aba, IsNumbered}
use Rattle.semantics.proofs.SameMembers.{range_more}
use Rattle.meaning_atoms.specs.declared.atom.Atom.{Atom}
use Rattle.meaning_atoms.specs.declared.atom.Atom.TheVariants.{Member, Range}
use Rattle.meaning_atoms.specs.Literals.{affirmed, denied}
use Rattle.meaning_atoms.specs.Worlds.{HoldsOf, Says}
use Rattle.certificate_claims.specs.Acceptance.{no_claim}
use Rattle.certificate_claims.specs.Claims.{claim_of, claims, mode_atom, range_cover, range_free, range_widest}
use Rattle.certificate_claims.specs.Claims.{widest_semantics}
use Rattle.certificate_claims.specs.declared.row.Row.TheVariants.{Ranged}
use Rattle.certificate_claims.specs.Refutations.{Claim, IsPlain}
use Rattle.certificate_claims.specs.Rights.{IsExtension}
use Rattle.certificate_claims.specs.SetLiterals.{are_ranged, has, is_range_within, members, range_of, wider}
use Rattle.certificate_claims.proofs.GoalLists.{asks_cons, only_one, plain_mapped}
use Rattle.certificate_claims.proofs.Modes.{mode_members, mode_plain, widest_extension}
use Rattle.certificate_claims.proofs.SetTests.{tests_range_within}
use Rattle.certificate_claims.proofs.SideClauses.{ranged_plain, wider_plain}
use Rattle.certificate_claims.proofs.WidestSets.{ranged_out}
use Rattle.oracle_face.specs.declared.face.Found.{Found}
use Rattle.oracle_face.specs.declared.face.Found.TheVariants.{Set, Refuted}
use Rattle.oracle_face.specs.Goals.{MakesTrue, Refutes, SpeaksOf}
use Rattle.oracle_face.specs.Growing.{Grows, IsFound, Making}
use Rattle.oracle_face.specs.Kinds.{IsRanged, is_assumption_based}
use Rattle.oracle_face.specs.Logs.{IsKept, IsLog, IsNumberOf, OracleLog, SideClause, side_at}
use Rattle.oracle_face.proofs.Refuting.{claim_excluded, refutes_grown}
use Rattle.goal_lists.specs.Asking.{AreApart, IsAskable, goals_of}
use Rattle.goal_lists.specs.Sides.{IsAskOf}
use Rattle.goal_lists.proofs.AskedGoals.{wider_speaks}
use Rattle.goal_lists.proofs.Calls.{apart_pushed, asks_fit, found_in, found_mode, found_out}
use Rattle.goal_lists.proofs.Calls.{found_ranged}
use Rattle.goal_lists.proofs.GoalKinds.{atom_is_mode}
use Rattle.goal_lists.proofs.Lacking.{lacks_range}
use Rattle.goal_lists.proofs.Measures.{fewer_left, kept_is_set, same_as_kept}
use Rattle.goal_lists.proofs.SideLemmas.{HasWanted, asks_kept, asks_more, asks_none, asks_refuted, asks_speak}
use Rattle.goal_lists.proofs.SideLemmas.{asks_true, same_number}
use Rattle.enumerate_block.specs.semi_stable.specs.declared.widest.Widest.{Widest}
use Rattle.enumerate_block.specs.semi_stable.specs.Widest.{HasRange, IsRangeIn, IsWidestFrom}
use Rattle.enumerate_block.specs.semi_stable.proofs.WidestLemmas.{range_list, range_within}
use Rattle.enumerate_block.specs.Ranges.{AreRefuted}
use Rattle.enumerate_block.proofs.FoundRanges.{log_kept, not_in_range, open_ranges}
use Rattle.enumerate_block.proofs.NewRanges.{grown_widest}
use Rattle.enumerate_block.proofs.RangeTurns.{widest_kept}
use Rattle.enumerate_block.proofs.StepLemmas.{refuted_first, refuted_last, refuted_member, refuted_none}
use Rattle.enumerate_block.proofs.WidthLemmas.{same_clause_range, same_width, widest_too}
use Rattle.enumerate_block.specs.declared.deciding.RangeCover.{RangeCover}
use Rattle.enumerate_block.specs.Witnesses.{AreWanted, Extends, IsCover, IsExtended, IsMadeWithin, IsNoWitness}
use Rattle.enumerate_block.specs.Witnesses.{IsUncovered, IsWitness, MakesIt, Takes, ins_of, literal_of, outs_of}

-- Covers of ranges by sets of which none has a set in its range that makes the literal true.

-- ---- lists of steps

refuted_grown : (f : Framework) (P : Making) (old new : OracleLog) (list : List Claim) (steps : List ℕ) → IsLog f old
    → Grows P old new → AreRefuted f old list steps → AreRefuted f new list steps
refuted_grown f P old new list steps form grows h = record {
  number = h.number;
  each = λ k lt. refutes_grown f P old new (slice_index_or list k no_claim) (slice_index_or steps k 0) form grows
      (h.each k lt);
}

-- ---- sets and ranges

says_it : (f : Framework) (q : ℕ) (accepted : Bool) (e : List ℕ) → is_assumption_based f ≡ false
    → MakesIt f q accepted e → Says (literal_of f q accepted).positive (HoldsOf f e (literal_of f q accepted).atom)
says_it (af f) q true e kind h = h
says_it (af f) q false e kind h = h
says_it (aba f) q accepted e kind h = absurd (false≢true (sym kind))

range_too : (f : Framework) (e t r : List ℕ) → IsRangeIn f e t → IsRangeIn f t e → IsSetOf (IsRanged f e) r
    → IsSetOf (IsRanged f t) r
range_too f e t r sub back h = record {
  rises = h.rises;
  members = λ x. (λ c. sub x ((h.members x).0 c), λ k. (h.members x).1 (back x k));
}

set_more : (old new : RangeCover) (e : List ℕ) → new.sets ≡ old.sets ++ e ∷ [] → (s : List ℕ)
    → Contains new.sets s ↔ (Contains old.sets s ⊎ (s ≡ e))
set_more old new e is s = (
  λ c. ⊎_elim (λ k. inl k) (λ k. inr (sym (only_one e s k)))
      (Contains-append_cases old.sets (e ∷ []) s (subst (λ (xs : List (List ℕ)). Contains xs s) is c)),
  λ h. subst (λ (xs : List (List ℕ)). Contains xs s) (sym is)
      (⊎_elim (λ k. Contains-append_left old.sets (e ∷ []) s k)
      (λ k. Contains-pushed old.sets e s (sym k)) h),
)

module _ (mode : Mode) where
  -- ---- the literal

  askable : (f : Framework) (sides : List SideClause) (q : ℕ) (accepted : Bool) (ranged asks : List ℕ)
      → Contains (members f) q → IsWithin ranged (members f)
      → ((n : ℕ) → Contains asks n → IsNumberOf sides n × SpeaksOf f (side_at sides n).literals)
      → IsAskable f sides (mode_atom mode) (ins_of accepted (q ∷ [])) (outs_of accepted (q ∷ [])) ranged asks
  askable f sides q true ranged asks live within asked = record {
    moded = atom_is_mode mode;
    in_members = λ a c. subst (Contains (members f)) (only_one q a c) live;
    out_members = λ a c. absurd (Contains-nil a c);
    ranged_members = within;
    apart = λ a c d. absurd (Contains-nil a d);
    asked = asked;
  }
  askable f sides q false ranged asks live within asked = record {
    moded = atom_is_mode mode;
    in_members = λ a c. absurd (Contains-nil a c);
    out_members = λ a c. subst (Contains (members f)) (only_one q a c) live;
    ranged_members = within;
    apart = λ a c d. absurd (Contains-nil a c);
    asked = asked;
  }

  pub askable_as : (f : Framework) (sides : List SideClause) (q : ℕ) (accepted : Bool) (ranged asks : List ℕ)
      (atom : Atom) (ins outs these numbers : List ℕ) → atom ≡ mode_atom mode
      → AreWanted accepted (q ∷ []) ranged asks ins outs these numbers
      → IsAskable f sides (mode_atom mode) (ins_of accepted (q ∷ [])) (outs_of accepted (q ∷ [])) ranged asks
      → IsAskable f sides atom ins outs these numbers
  askable_as f sides q accepted ranged asks atom ins outs these numbers atom_is are h =
      let own = mode_atom mode in
      subst (λ (a : Atom). IsAskable f sides a ins outs these numbers) (sym atom_is)
      (subst (λ (xs : List ℕ). IsAskable f sides own xs outs these numbers) (sym are.ins_are)
      (subst (λ (xs : List ℕ). IsAskable f sides own (ins_of accepted (q ∷ [])) xs these numbers) (sym are.outs_are)
      (subst (λ (xs : List ℕ). IsAskable f sides own (ins_of accepted (q ∷ [])) (outs_of accepted (q ∷ [])) xs numbers)
      (sym are.ranged_are)
      (subst (λ (xs : List ℕ). IsAskable f sides own (ins_of accepted (q ∷ [])) (outs_of accepted (q ∷ [])) ranged xs)
      (sym are.asks_are) h))))

  pub goals_as : (q : ℕ) (accepted : Bool) (ranged asks : List ℕ) (atom : Atom) (ins outs these numbers : List ℕ)
      → atom ≡ mode_atom mode → AreWanted accepted (q ∷ []) ranged asks ins outs these numbers
      → goals_of atom ins outs these numbers
      ≡ goals_of (mode_atom mode) (ins_of accepted (q ∷ [])) (outs_of accepted (q ∷ [])) ranged asks
  goals_as q accepted ranged asks atom ins outs these numbers atom_is are =
      let own = mode_atom mode in
      ap (λ (a : Atom). goals_of a ins outs these numbers) atom_is
      ∙ (ap (λ xs. goals_of own xs outs these numbers) are.ins_are
      ∙ (ap (λ xs. goals_of own (ins_of accepted (q ∷ [])) xs these numbers) are.outs_are
      ∙ (ap (λ xs. goals_of own (ins_of accepted (q ∷ [])) (outs_of accepted (q ∷ [])) xs numbers) are.ranged_are
      ∙ ap (λ xs. goals_of own (ins_of accepted (q ∷ [])) (outs_of accepted (q ∷ [])) ranged xs) are.asks_are)))

  -- the claims' goals have what is asked
  wanted : (f : Framework) (q : ℕ) (accepted : Bool) (ranged numbers : List ℕ) → is_assumption_based f ≡ false
      → IsWithin ranged numbers
      → HasWanted (affirmed (mode_atom mode) ∷ literal_of f q accepted ∷ are_ranged numbers) (mode_atom mode)
      (ins_of accepted (q ∷ [])) (outs_of accepted (q ∷ [])) ranged
  wanted (aba f) q accepted ranged numbers kind sub = absurd (false≢true (sym kind))
  wanted (af f) q true ranged numbers kind sub =
      let lit = affirmed (Member q) in
      let rest = are_ranged numbers in
      record {
        plain = mode_plain mode (lit ∷ rest) (asks_cons lit rest (λ x. x) (ranged_plain numbers));
        has_mode = Contains-head (affirmed (mode_atom mode)) (lit ∷ rest) (affirmed (mode_atom mode)) refl;
        has_ins = λ a c. Contains-tail (affirmed (mode_atom mode)) (lit ∷ rest) (affirmed (Member a))
            (Contains-head lit rest (affirmed (Member a)) (ap (λ x. affirmed (Member x)) (only_one q a c)));
        has_outs = λ a c. absurd (Contains-nil a c);
        has_ranged = λ a c. Contains-tail (affirmed (mode_atom mode)) (lit ∷ rest) (affirmed (Range a))
            (Contains-tail lit rest (affirmed (Range a))
            (Contains-mapped (λ x. affirmed (Range x)) numbers a (sub a c)));
      }
  wanted (af f) q false ranged numbers kind sub =
      let lit = denied (Member q) in
      let rest = are_ranged numbers in
      record {
        plain = mode_plain mode (lit ∷ rest) (asks_cons lit rest (λ x. x) (ranged_plain numbers));
        has_mode = Contains-head (affirmed (mode_atom mode)) (lit ∷ rest) (affirmed (mode_atom mode)) refl;
        has_ins = λ a c. absurd (Contains-nil a c);
        has_outs = λ a c. Contains-tail (affirmed (mode_atom mode)) (lit ∷ rest) (denied (Member a))
            (Contains-head lit rest (denied (Member a)) (ap (λ x. denied (Member x)) (only_one q a c)));
        has_ranged = λ a c. Contains-tail (affirmed (mode_atom mode)) (lit ∷ rest) (affirmed (Range a))
            (Contains-tail lit rest (affirmed (Range a))
            (Contains-mapped (λ x. affirmed (Range x)) numbers a (sub a c)));
      }

  -- a set that is found makes it true
  found_it : (f : Framework) (log : OracleLog) (q : ℕ) (accepted : Bool) (ranged asks set : List ℕ)
      → is_assumption_based f ≡ false
      → MakesTrue f log (goals_of (mode_atom mode) (ins_of accepted (q ∷ [])) (outs_of accepted (q ∷ [])) ranged asks)
      set
      → MakesIt f q accepted set
  found_it (aba f) log q accepted ranged asks set kind makes = absurd (false≢true (sym kind))
  found_it (af f) log q true ranged asks set kind makes =
      found_in (af f) log (mode_atom mode) (q ∷ []) [] ranged asks set makes q (Contains-head q [] q refl)
  found_it (af f) log q false ranged asks set kind makes =
      found_out (af f) log (mode_atom mode) [] (q ∷ []) ranged asks set makes q (Contains-head q [] q refl)

  -- ---- covers

  pub cover_empty : (f : Framework) (log : OracleLog) (q : ℕ) (accepted : Bool) (cover : RangeCover)
      → is_assumption_based f ≡ false → cover.sets ≡ [] → cover.steps ≡ [] → cover.asks ≡ []
      → IsCover f log mode q accepted cover
  cover_empty f log q accepted cover kind sets steps asks =
      let free = range_free f mode (literal_of f q accepted) in
      record {
        kind = kind;
        each = λ e c. absurd (Contains-nil e (subst (λ (xs : List (List ℕ)). Contains xs e) sets c));
        free = subst (λ (xs : List (List ℕ)). AreRefuted f log (map free xs) cover.steps) (sym sets)
            (subst (λ (xs : List ℕ). AreRefuted f log [] xs) (sym steps) (refuted_none f log));
        asks = asks_none (wider f) log.sides cover.sets cover.asks sets asks;
        apart = record { apart = λ i j lt high e. absurd (omega (arith, ap length asks)) };
      }

  pub cover_grown : (f : Framework) (P : Making) (old new : OracleLog) (q : ℕ) (accepted : Bool) (cover : RangeCover)
      → IsLog f old → Grows P old new → IsCover f old mode q accepted cover → IsCover f new mode q accepted cover
  cover_grown f P old new q accepted cover form grows h = record {
    kind = h.kind;
    each = h.each;
    free = refuted_grown f P old new (map (range_free f mode (literal_of f q accepted)) cover.sets) cover.steps form
        grows
        h.free;
    asks = asks_kept (wider f) P old new cover.sets cover.asks grows h.asks;
    apart = h.apart;
  }

  pub cover_kept : (f g h : Framework) (P : Making) (old new : OracleLog) (q : ℕ) (accepted : Bool) (cover : RangeCover)
      → g ≡ f → h ≡ g → IsKept g old → Grows P old new → IsCover f old mode q accepted cover
      → IsCover h new mode q accepted cover
  cover_kept f g h P old new q accepted cover left right kept grows is =
      subst (λ (x : Framework). IsCover x new mode q accepted cover) (sym (right ∙ left))
      (cover_grown f P old new q accepted cover (log_kept f g old left kept) grows is)

  -- two closing steps for each set, and two more, are no more than the side clauses allow
  pub few_closings : (f : Framework) (P : Making) (old new : OracleLog) (q : ℕ) (accepted : Bool) (cover : RangeCover)
      → IsCover f old mode q accepted cover → Grows P old new → 2 * length cover.asks + 2 ≤ 2 * length new.sides + 2
  few_closings f P old new q accepted cover h grows =
      let few = asks_fit cover.asks old.sides h.apart (λ n c. (h.asks.each n c).2.number) in
      let more : length new.sides ≡ length (old.sides ++ grows.more_sides.0) = ap length grows.more_sides.1 in
      omega (arith, few, more, length-append old.sides grows.more_sides.0)

  -- ---- a set that is not covered

  pub may_ask_uncovered : (f : Framework) (log : OracleLog) (q : ℕ) (accepted : Bool) (cover : RangeCover)
      (asks : List ℕ) → asks ≡ cover.asks → Contains (members f) q → IsCover f log mode q accepted cover
      → IsAskable f log.sides (mode_atom mode) (ins_of accepted (q ∷ [])) (outs_of accepted (q ∷ [])) [] asks
  may_ask_uncovered f log q accepted cover asks is live h =
      askable f log.sides q accepted [] asks live (λ a c. absurd (Contains-nil a c))
      (subst (λ (xs : List ℕ). (n : ℕ) → Contains xs n → IsNumberOf log.sides n
      × SpeaksOf f (side_at log.sides n).literals) (sym is)
      (asks_speak f (wider f) log.sides cover.sets cover.asks (λ e c. wider_speaks f e) h.asks))

  found_uncovered : (f : Framework) (log : OracleLog) (q : ℕ) (accepted : Bool) (cover : RangeCover)
      → IsCover f log mode q accepted cover → (found : Found)
      → IsFound f log (goals_of (mode_atom mode) (ins_of accepted (q ∷ [])) (outs_of accepted (q ∷ [])) [] cover.asks)
      found
      → IsUncovered f log mode q accepted cover found
  found_uncovered f log q accepted cover h (Set set) makes =
      let ins = ins_of accepted (q ∷ []) in
      let outs = outs_of accepted (q ∷ []) in (
        found_mode f log (mode_atom mode) ins outs [] cover.asks set (atom_is_mode mode) makes,
        found_it f log q accepted [] cover.asks set h.kind makes,
        λ e c. not_in_range f e set h.kind
            (asks_true f log (wider f) cover.sets (mode_atom mode) ins outs [] cover.asks set h.asks makes e c),
      )
  found_uncovered f log q accepted cover h (Refuted step) refuted =
      asks_refuted f log (wider f) cover.sets (affirmed (mode_atom mode) ∷ literal_of f q accepted ∷ []) (mode_atom
      mode)
      (ins_of accepted (q ∷ [])) (outs_of accepted (q ∷ [])) [] cover.asks step
      (wanted f q accepted [] [] h.kind (λ a c. c)) h.asks refuted

  pub if_uncovered : (f : Framework) (P : Making) (old log : OracleLog) (q : ℕ) (accepted : Bool) (cover : RangeCover)
      (asks : List ℕ) → asks ≡ cover.asks → IsLog f old → Grows P old log → IsCover f old mode q accepted cover
      → (r : Result Found Halt) → IfOk r (IsFound f log (goals_of (mode_atom mode) (ins_of accepted (q ∷ []))
      (outs_of accepted (q ∷ [])) [] asks))
      → IfOk r (IsUncovered f log mode q accepted cover)
  if_uncovered f P old log q accepted cover asks is form grows h (Ok found) k =
      let ins = ins_of accepted (q ∷ []) in
      let outs = outs_of accepted (q ∷ []) in
      found_uncovered f log q accepted cover (cover_grown f P old log q accepted cover form grows h) found
      (subst (λ (xs : List ℕ). IsFound f log (goals_of (mode_atom mode) ins outs [] xs) found) is k)
  if_uncovered f P old log q accepted cover asks is form grows h (Err halt) k = k

  -- ---- a set with all of a range

  pub may_ask_within : (f : Framework) (log : OracleLog) (q : ℕ) (accepted : Bool) (widest : Widest)
      (range : List ℕ) → range ≡ widest.range → IsNumbered f → Contains (members f) q → HasRange f mode widest
      → IsAskable f log.sides (mode_atom mode) (ins_of accepted (q ∷ [])) (outs_of accepted (q ∷ [])) range []
  may_ask_within f log q accepted widest range is ok live h =
      askable f log.sides q accepted range [] live
      (subst (λ (xs : List ℕ). IsWithin xs (members f)) (sym is)
      (range_within f widest.set widest.range h.kind ok (mode_members mode f widest.set h.has_mode) h.range))
      (λ n c. absurd (Contains-nil n c))

  all_ranged : (f : Framework) (log : OracleLog) (ins outs e r asks set : List ℕ) → is_assumption_based f ≡ false
      → IsSetOf (IsRanged f e) r → MakesTrue f log (goals_of (mode_atom mode) ins outs r asks) set → IsRangeIn f e set
  all_ranged (aba f) log ins outs e r asks set kind range makes a h = absurd (false≢true (sym kind))
  all_ranged (af f) log ins outs e r asks set kind range makes a h =
      found_ranged f log (mode_atom mode) ins outs r asks set makes a ((range.members a).1 h)

  found_within : (f : Framework) (log : OracleLog) (q : ℕ) (accepted : Bool) (widest : Widest) → IsNumbered f
      → HasRange f mode widest → (found : Found)
      → IsFound f log (goals_of (mode_atom mode) (ins_of accepted (q ∷ [])) (outs_of accepted (q ∷ [])) widest.range [])
      found
      → IsMadeWithin f log mode q accepted widest.set found
  found_within f log q accepted widest ok h (Set set) makes =
      let ins = ins_of accepted (q ∷ []) in
      let outs = outs_of accepted (q ∷ []) in (
        found_mode f log (mode_atom mode) ins outs widest.range [] set (atom_is_mode mode) makes,
        found_it f log q accepted widest.range [] set h.kind makes,
        all_ranged f log ins outs widest.set widest.range [] set h.kind h.range makes,
      )
  found_within f log q accepted widest ok h (Refuted step) refuted =
      let list = range_list f widest.set widest.range h.kind ok (mode_members mode f widest.set h.has_mode) h.range in
      asks_refuted f log (wider f) []
      (affirmed (mode_atom mode) ∷ literal_of f q accepted ∷ are_ranged (range_of f widest.set)) (mode_atom mode)
      (ins_of accepted (q ∷ [])) (outs_of accepted (q ∷ [])) widest.range [] step
      (wanted f q accepted widest.range (range_of f widest.set) h.kind
      (λ a c. subst (λ (xs : List ℕ). Contains xs a) list c))
      (asks_none (wider f) log.sides [] [] refl refl) refuted

  pub if_within : (f : Framework) (log : OracleLog) (q : ℕ) (accepted : Bool) (widest : Widest)
      (range : List ℕ) → range ≡ widest.range → IsNumbered f → HasRange f mode widest → (r : Result Found Halt)
      → IfOk r (IsFound f log (goals_of (mode_atom mode) (ins_of accepted (q ∷ [])) (outs_of accepted (q ∷ [])) range
      []))
      → IfOk r (IsMadeWithin f log mode q accepted widest.set)
  if_within f log q accepted widest range is ok h (Ok found) k =
      let ins = ins_of accepted (q ∷ []) in
      let outs = outs_of accepted (q ∷ []) in
      found_within f log q accepted widest ok h found
      (subst (λ (xs : List ℕ). IsFound f log (goals_of (mode_atom mode) ins outs xs []) found) is k)
  if_within f log q accepted widest range is ok h (Err halt) k = k

  -- ---- a witness

  -- sets with one range have the same claim
  same_claim : (f : Framework) (e t r : List ℕ) → is_assumption_based f ≡ false → IsNumbered f
      → HoldsOf f e (mode_atom mode)
      → HoldsOf f t (mode_atom mode)
      → IsSetOf (IsRanged f e) r → IsSetOf (IsRanged f t) r → range_widest f mode e ≡ range_widest f mode t
  same_claim f e t r kind ok left right h k =
      let ranges : range_of f e ≡ range_of f t =
      sym (range_list f e r kind ok (mode_members mode f e left) h)
      ∙ range_list f t r kind ok (mode_members mode f t right) k in
      let sides : wider f e ≡ wider f t = sym (lacks_range f e r kind h) ∙ lacks_range f t r kind k in
      let own = affirmed (mode_atom mode) in
      ap (λ xs. claim_of (own ∷ are_ranged xs) (wider f e ∷ [])) ranges
      ∙ ap (λ clause. claim_of (own ∷ are_ranged (range_of f t)) (clause ∷ [])) sides

  is_witness : (f : Framework) (log : OracleLog) (q : ℕ) (accepted : Bool) (given t : List ℕ) (widest : Widest)
      → is_assumption_based f ≡ false → IsKept f log → IsWidestFrom f log mode given widest
      → IsMadeWithin f log mode q accepted widest.set (Set t)
      → IsWitness f log mode q accepted (record { set = t; range = widest.range; refutation = widest.refutation })
  is_witness f log q accepted given t widest kind kept h found =
      let e = widest.set in
      let wide = grown_widest mode f log given widest kind kept h in
      let range = range_too f e t widest.range found.2 (same_width mode f e t kind wide found.0 found.2) h.range in
      record {
        has_range = record { kind = kind; has_mode = found.0; range = range };
        makes_it = found.1;
        refuted = subst (λ (claim : Claim). Refutes f log claim widest.refutation)
            (same_claim f e t widest.range kind kept.numbered h.has_mode found.0 h.range range) h.refuted;
        is_widest = widest_too mode f e t kind wide found.0 found.2;
      }

  -- ---- one set more

  pub has_range : (f h : Framework) (log : OracleLog) (given : List ℕ) (widest : Widest)
      → is_assumption_based f ≡ false → h ≡ f → IsWidestFrom f log mode given widest → HasRange h mode widest
  has_range f h log given widest kind same is =
      subst (λ (x : Framework). HasRange x mode widest) (sym same)
      (record { kind = kind; has_mode = is.has_mode; range = is.range })

  not_asked : (f : Framework) (log : OracleLog) (q : ℕ) (accepted : Bool) (old new : RangeCover) (e : List ℕ)
      (step n : ℕ) → IsNumbered f → IsCover f log mode q accepted old → IsExtended f log mode q accepted old new e step
      n
      → Contains old.asks n → ⊥
  not_asked f log q accepted old new e step n ok cover h c =
      let m = cover.asks.each n c in
      h.outside_all m.0 m.1
      (same_clause_range mode f m.0 e cover.kind ok h.has_mode
      (same_number log.sides (wider f m.0) (wider f e) n m.2 h.ask))

  pub cover_extended : (f : Framework) (log : OracleLog) (q : ℕ) (accepted : Bool) (old new : RangeCover) (e : List ℕ)
      (step n : ℕ) → IsNumbered f → IsCover f log mode q accepted old → IsExtended f log mode q accepted old new e step
      n
      → IsCover f log mode q accepted new
  cover_extended f log q accepted old new e step n ok cover h =
      let free = range_free f mode (literal_of f q accepted) in
      let more = set_more old new e h.sets in
      record {
        kind = cover.kind;
        each = λ d c. ⊎_elim (λ k. cover.each d k)
            (λ k. subst (λ (s : List ℕ). HoldsOf f s (mode_atom mode)) (sym k) h.has_mode) ((more d).0 c);
        free = subst (λ (xs : List Claim). AreRefuted f log xs new.steps)
            (sym (ap (map free) h.sets ∙ map-append free old.sets (e ∷ [])))
            (subst (λ (xs : List ℕ). AreRefuted f log (map free old.sets ++ free e ∷ []) xs) (sym h.steps)
            (refuted_last f log (free e) step (map free old.sets) old.steps h.free cover.free));
        asks = asks_more (wider f) log.sides old.sets new.sets e old.asks new.asks n more h.asks h.ask cover.asks;
        apart = subst AreApart (sym h.asks)
            (apart_pushed old.asks n cover.apart (not_asked f log q accepted old new e step n ok cover h));
      }

  pub fewer_open : (f : Framework) (log : OracleLog) (q : ℕ) (accepted : Bool) (old new : RangeCover) (e : List ℕ)
      (step n : ℕ) → is_assumption_based f ≡ false → IsNumbered f → IsExtended f log mode q accepted old new e step n
      → open_ranges f new.sets < open_ranges f old.sets
  fewer_open (aba f) log q accepted old new e step n kind ok h = absurd (false≢true (sym kind))
  fewer_open (af f) log q accepted old new e step n kind ok h =
      let same = same_as_kept f.live e (mode_members mode (af f) e h.has_mode) in
      let s = filter (has e) f.live in
      let live : IsWithin s f.live = λ x c. mode_members mode (af f) e h.has_mode x (same.0 x c) in
      let more = set_more old new e h.sets in
      fewer_left (is_range_within (af f)) f.live old.sets new.sets e s (λ d c. (more d).1 (inl c)) ((more e).1 (inr
      refl))
      (kept_is_set (has e) f.live) ((tests_range_within f s e ok.form live).1 (range_more f s e same.0))
      (λ d c sub. h.outside_all d c
      (λ a k. (tests_range_within f s d ok.form live).0 sub a (range_more f e s same.1 a k)))

  -- ---- a turn of the search

  pub taken : (f g h : Framework) (before first mid log : OracleLog) (P : Making) (q : ℕ) (accepted : Bool)
      (old new : RangeCover) (given : List ℕ) (widest : Widest) (found : Found) (step : ℕ) → g ≡ f → h ≡ g → IsKept h
      mid
      → Grows P mid log
      → IsUncovered f before mode q accepted old (Set given) → IsWidestFrom f first mode given widest
      → found ≡ Refuted step → IsMadeWithin g mid mode q accepted widest.set found → Takes h log widest step old new
      → Extends f log mode q accepted old new None
  taken f g h before first mid log P q accepted old new given widest found step left right kept grows open_set is last
      made takes =
      let same = right ∙ left in
      let free : Refutes f mid (range_free f mode (literal_of f q accepted) widest.set) step =
      subst (λ (x : Framework). IsMadeWithin x mid mode q accepted widest.set (Refuted step)) left
      (subst (IsMadeWithin g mid mode q accepted widest.set) last made) in (
        widest.set,
        step,
        takes.number,
        record {
          sets = takes.sets;
          steps = takes.steps;
          asks = takes.asks;
          has_mode = is.has_mode;
          free = refutes_grown f P mid log (range_free f mode (literal_of f q accepted) widest.set) step
              (log_kept f h mid same kept) grows free;
          ask = subst (λ (x : Framework). IsAskOf log.sides (wider x widest.set) takes.number) same takes.ask;
          outside_all = λ d c sub. open_set.2 d c (λ a k. sub a (is.holds a k));
        },
      )

  pub extended_of : (f g : Framework) (log : OracleLog) (q : ℕ) (accepted : Bool) (old new : RangeCover)
      (r : Option Widest)
      → g ≡ f → r ≡ None → Extends g log mode q accepted old new r
      → (e : List ℕ) × (step : ℕ) × (n : ℕ) × IsExtended f log mode q accepted old new e step n
  extended_of f g log q accepted old new r same is h =
      subst (λ (x : Framework). Extends x log mode q accepted old new None) same
      (subst (Extends g log mode q accepted old new) is h)

  pub witness_of : (f g : Framework) (log : OracleLog) (q : ℕ) (accepted : Bool) (old new : RangeCover)
      (r : Option Widest)
      (found : Widest) → g ≡ f → r ≡ Some found → Extends g log mode q accepted old new r → IsWitness f log mode q
      accepted found
  witness_of f g log q accepted old new r found same is h =
      subst (λ (x : Framework). IsWitness x log mode q accepted found) same
      (subst (Extends g log mode q accepted old new) is h)

  pub found_witness : (f g h : Framework) (mid log : OracleLog) (P : Making) (q : ℕ) (accepted : Bool) (given t : List
      ℕ)
      (widest : Widest) (found : Found) → is_assumption_based f ≡ false → g ≡ f → h ≡ g → IsKept g mid → IsKept h log
      → Grows P mid log → IsWidestFrom f mid mode given widest → found ≡ Set t
      → IsMadeWithin g log mode q accepted widest.set found
      → IsWitness f log mode q accepted (record { set = t; range = widest.range; refutation = widest.refutation })
  found_witness f g h mid log P q accepted given t widest found kind left right before kept grows is last made =
      is_witness f log q accepted given t widest kind (subst (λ (x : Framework). IsKept x log) (right ∙ left) kept)
      (widest_kept mode f mid log P g given widest left before grows is)
      (subst (λ (x : Framework). IsMadeWithin x log mode q accepted widest.set (Set t)) left
      (subst (IsMadeWithin g log mode q accepted widest.set) last made))

  -- ---- the end

  cover_plain : (f : Framework) (q : ℕ) (accepted : Bool) (sets : List (List ℕ)) → is_assumption_based f ≡ false
      → IsPlain (range_cover f mode (literal_of f q accepted ∷ []) sets)
  cover_plain f q accepted sets kind =
      plain_mapped (affirmed (mode_atom mode) ∷ literal_of f q accepted ∷ []) (wider f) sets
      (wanted f q accepted [] [] kind (λ a c. c)).plain (wider_plain f)

  free_plain : (f : Framework) (q : ℕ) (accepted : Bool) (e : List ℕ) → is_assumption_based f ≡ false
      → IsPlain (range_free f mode (literal_of f q accepted) e)
  free_plain f q accepted e kind =
      plain_mapped (affirmed (mode_atom mode) ∷ literal_of f q accepted ∷ are_ranged (range_of f e)) (wider f) []
      (wanted f q accepted [] (range_of f e) kind (λ a c. absurd (Contains-nil a c))).plain (wider_plain f)

  none_makes_it : (f : Framework) (log : OracleLog) (q : ℕ) (accepted : Bool) (cover : RangeCover) (step : ℕ) → IsKept f
      log
      → IsCover f log mode q accepted cover
      → Refutes f log (range_cover f mode (literal_of f q accepted ∷ []) cover.sets) step
      → (e : List ℕ) → IsExtension f (widest_semantics mode) e → MakesIt f q accepted e → ⊥
  none_makes_it (aba f) log q accepted cover step kept h refuted e wide makes = false≢true (sym h.kind)
  none_makes_it (af f) log q accepted cover step kept h refuted e wide makes =
      let bad = literal_of (af f) q accepted in
      ranged_out mode f bad cover.sets kept.numbered h.each
      (claim_excluded (af f) log (range_cover (af f) mode (bad ∷ []) cover.sets) step kept.form
      (cover_plain (af f) q accepted cover.sets h.kind) refuted)
      (λ d c.
      let r = refuted_member (af f) log (map (range_free (af f) mode bad) cover.sets) cover.steps (range_free (af f)
      mode bad d)
      h.free (Contains-mapped (range_free (af f) mode bad) cover.sets d c) in
      claim_excluded (af f) log (range_free (af f) mode bad d) r.0 kept.form (free_plain (af f) q accepted d h.kind)
      r.1)
      e ((widest_extension mode f e).0 wide) (says_it (af f) q accepted e h.kind makes)

  pub no_witness : (f g h : Framework) (log : OracleLog) (q : ℕ) (accepted : Bool) (cover : RangeCover) (r : Found)
      (step : ℕ)
      (steps : List ℕ) → g ≡ f → h ≡ f → IsKept h log → IsCover f log mode q accepted cover → r ≡ Refuted step
      → IsUncovered g log mode q accepted cover r → steps ≡ step ∷ cover.steps
      → IsNoWitness f log mode q accepted cover.sets steps
  no_witness f g h log q accepted cover r step steps left right kept is last found made =
      let bad = literal_of f q accepted in
      let refuted : Refutes f log (range_cover f mode (bad ∷ []) cover.sets) step =
      subst (λ (x : Framework). IsUncovered x log mode q accepted cover (Refuted step)) left
      (subst (IsUncovered g log mode q accepted cover) last found) in
      record {
        each = is.each;
        refuted = subst (λ (xs : List ℕ). AreRefuted f log (claims f (Ranged mode bad) cover.sets) xs) (sym made)
            (refuted_first f log (range_cover f mode (bad ∷ []) cover.sets) step (map (range_free f mode bad)
            cover.sets)
            cover.steps refuted is.free);
        none_makes_it = none_makes_it f log q accepted cover step
            (subst (λ (x : Framework). IsKept x log) right kept) is refuted;
      }
