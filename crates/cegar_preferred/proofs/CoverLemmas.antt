-- Covers by sets that accept a query.
use Rattle.std.proofs.Common.{◌≡◌, ⊎_elim, ℕ, ◌+◌, ◌*◌, ◌<◌, ◌≤◌, Bool, true, false, List, [], ◌∷◌, ◌++◌, length, filter, refl, ap, sym, subst, ◌∙◌, arith}
use Rattle.std.specs.Prelude.{◌↔◌, ◌⊎◌, Contains, IsTrue, Option, None, Result, Ok, Err, IfOk}
use Rattle.std.proofs.lemmas.List.{length-append}
use Rattle.std.proofs.lemmas.List.Elements.{Contains-append_left}
use Rattle.lists.specs.Members.{IsWithin}
use Rattle.lists.proofs.Membership.{Contains-nil, Contains-pushed}
use Rattle.plain_lits.specs.declared.halt.Halt.{Halt}
use Rattle.semantics.specs.Frameworks.{Framework}
use Rattle.meaning_atoms.specs.declared.atom.Atom.TheVariants.{Ad}
use Rattle.meaning_atoms.specs.Literals.{affirmed, negated}
use Rattle.meaning_atoms.specs.Worlds.{HoldsOf}
use Rattle.iccma_tasks.specs.declared.task.Semantics.TheVariants.{Preferred}
use Rattle.certificate_claims.specs.Refutations.{IsPlain}
use Rattle.certificate_claims.specs.Rights.{Accepts, IsExtension}
use Rattle.certificate_claims.specs.SetLiterals.{goal, has, members, outside}
use Rattle.certificate_claims.proofs.GoalLists.{plain_mapped}
use Rattle.certificate_claims.proofs.LargestSets.{covered_accepts}
use Rattle.certificate_claims.proofs.SideClauses.{outside_plain}
use Rattle.oracle_face.specs.declared.face.Found.{Found}
use Rattle.oracle_face.specs.declared.face.Found.TheVariants.{Set, Refuted}
use Rattle.oracle_face.specs.Goals.{Refutes}
use Rattle.oracle_face.specs.Growing.{Grows, Making, IsFound}
use Rattle.oracle_face.specs.Logs.{IsKept, OracleLog}
use Rattle.oracle_face.proofs.Refuting.{claim_excluded}
use Rattle.goal_lists.specs.AllSets.{is_part}
use Rattle.edit_rules.specs.Fitting.{IsKnown}
use Rattle.goal_lists.specs.Asking.{AreApart, query_goals, IsAskableAbout}
use Rattle.goal_lists.specs.Sides.{IsAskOf}
use Rattle.goal_lists.proofs.AskedGoals.{not_within, outside_speaks, same_outside}
use Rattle.goal_lists.proofs.Calls.{admissible_members, apart_pushed, asks_fit}
use Rattle.goal_lists.proofs.Measures.{fewer_left, kept_is_set, left_open, part_from, part_gives, same_as_kept}
use Rattle.goal_lists.proofs.QueryGoals.{query_asks, query_mode, query_plain, query_refuted, query_said}
use Rattle.goal_lists.proofs.SideLemmas.{asks_kept, asks_more, asks_none, asks_speak, pushed, same_number}
use Rattle.cegar_preferred.specs.declared.accepting.Accepting.TheVariants.{Cover as Covered}
use Rattle.cegar_preferred.specs.declared.accepting.Cover.{Cover}
use Rattle.cegar_preferred.specs.declared.maximal.Maximal.{Maximal}
use Rattle.cegar_preferred.specs.Covers.{Extends, IsAccepting, IsCover, IsCovering, IsExtended, IsUncovered, cover_claim}

-- ---- covers

pub cover_empty : (f : Framework) (log : OracleLog) (q : ℕ) (cover : Cover) → cover.sets ≡ [] → cover.asks ≡ []
    → IsCover f log q cover
cover_empty f log q cover sets asks = record {
  each = λ e c. absurd (Contains-nil e (subst (λ (xs : List (List ℕ)). Contains xs e) sets c));
  asks = asks_none (outside f) log.sides cover.sets cover.asks sets asks;
  apart = record { apart = λ i j lt high e. absurd (omega (arith, ap length asks)) };
}

pub cover_grown : (f : Framework) (P : Making) (old new : OracleLog) (q : ℕ) (cover : Cover) → Grows P old new
    → IsCover f old q cover → IsCover f new q cover
cover_grown f P old new q cover grows h = record {
  each = h.each;
  asks = asks_kept (outside f) P old new cover.sets cover.asks grows h.asks;
  apart = h.apart;
}

not_asked : (f : Framework) (log : OracleLog) (q : ℕ) (old new : Cover) (e : List ℕ) (n : ℕ) → IsCover f log q old
    → IsExtended f log q old new e n → Contains old.asks n → ⊥
not_asked f log q old new e n cover h c =
    let m = cover.asks.each n c in
    h.outside_all m.0 m.1
    (same_outside f m.0 e (same_number log.sides (outside f m.0) (outside f e) n m.2 h.asks_it)
    (admissible_members f e h.covering.admissible))

pub cover_extended : (f : Framework) (log : OracleLog) (q : ℕ) (old new : Cover) (e : List ℕ) (n : ℕ)
    → IsCover f log q old → IsExtended f log q old new e n → IsCover f log q new
cover_extended f log q old new e n cover h =
    let gains : (s : List ℕ) → Contains new.sets s ↔ (Contains old.sets s ⊎ (s ≡ e)) = λ s.
    subst (λ (xs : List (List ℕ)). Contains xs s ↔ (Contains old.sets s ⊎ (s ≡ e))) (sym h.sets) (pushed old.sets e s)
    in
    record {
      each = λ d c. ⊎_elim (λ k. cover.each d k) (λ same. subst (IsCovering f q) (sym same) h.covering) ((gains d).0 c);
      asks = asks_more (outside f) log.sides old.sets new.sets e old.asks new.asks n gains h.asks h.asks_it cover.asks;
      apart = subst AreApart (sym h.asks)
          (apart_pushed old.asks n cover.apart (not_asked f log q old new e n cover h));
    }

-- ---- how many there are

pub few_closings : (f : Framework) (P : Making) (old new : OracleLog) (q : ℕ) (cover : Cover) → IsCover f old q cover
    → Grows P old new → length cover.asks + 1 ≤ 2 * length new.sides + 2
few_closings f P old new q cover h grows =
    let few = asks_fit cover.asks old.sides h.apart (λ n c. (h.asks.each n c).2.number) in
    let more : length new.sides ≡ length (old.sides ++ grows.more_sides.0) = ap length grows.more_sides.1 in
    omega (arith, few, more, length-append old.sides grows.more_sides.0)

-- how many sets lie in no set of the cover
abbrev pub open_sets : Framework → List (List ℕ) → ℕ
open_sets f sets = left_open is_part (members f) sets

pub fewer_open : (f : Framework) (log : OracleLog) (q : ℕ) (old new : Cover) (e : List ℕ) (n : ℕ)
    → IsExtended f log q old new e n → open_sets f new.sets < open_sets f old.sets
fewer_open f log q old new e n h =
    let s = filter (has e) (members f) in
    let same = same_as_kept (members f) e (admissible_members f e h.covering.admissible) in
    let last : Contains new.sets e = subst (λ (xs : List (List ℕ)). Contains xs e) (sym h.sets)
    (Contains-pushed old.sets e e refl) in
    fewer_left is_part (members f) old.sets new.sets e s
    (λ d c. subst (λ (xs : List (List ℕ)). Contains xs d) (sym h.sets) (Contains-append_left old.sets (e ∷ []) d c))
    last (kept_is_set (has e) (members f)) (part_from s e same.0)
    (λ d c part. h.outside_all d c (λ x k. part_gives s d part x (same.1 x k)))

-- ---- what is asked, and what is found

pub may_ask_uncovered : (f : Framework) (log : OracleLog) (q : ℕ) (cover : Cover) (asks : List ℕ)
    → asks ≡ cover.asks → IsKnown f q → IsCover f log q cover → IsAskableAbout f log.sides Ad q asks
may_ask_uncovered f log q cover asks is known h =
    subst (IsAskableAbout f log.sides Ad q) (sym is) (record {
      moded = tt;
      known = known;
      asked = asks_speak f (outside f) log.sides cover.sets cover.asks (λ e c. outside_speaks f e) h.asks;
    })

pub cover_plain : (f : Framework) (q : ℕ) (sets : List (List ℕ)) → IsPlain (cover_claim f q sets)
cover_plain f q sets =
    plain_mapped (affirmed Ad ∷ negated (goal f q) ∷ []) (outside f) sets (query_plain f Ad q false tt)
    (outside_plain f)

found_uncovered : (f : Framework) (log : OracleLog) (q : ℕ) (cover : Cover) → IsCover f log q cover → (found : Found)
    → IsFound f log (query_goals f Ad q false cover.asks) found → IsUncovered f log q cover found
found_uncovered f log q cover h (Set set) makes = (
  query_mode f log Ad q false cover.asks set tt makes,
  query_said f log Ad q false cover.asks set makes,
  λ e c. not_within f e set (query_asks f log (outside f) cover.sets Ad q false cover.asks set h.asks makes e c),
)
found_uncovered f log q cover h (Refuted step) refuted =
    query_refuted f log (outside f) cover.sets Ad q false cover.asks step tt h.asks refuted

pub if_uncovered : (f : Framework) (P : Making) (old log : OracleLog) (q : ℕ) (cover : Cover) (asks : List ℕ)
    → asks ≡ cover.asks → Grows P old log → IsCover f old q cover
    → (r : Result Found Halt) → IfOk r (IsFound f log (query_goals f Ad q false asks))
    → IfOk r (IsUncovered f log q cover)
if_uncovered f P old log q cover asks is grows h (Ok found) k =
    found_uncovered f log q cover (cover_grown f P old log q cover grows h) found
    (subst (λ (xs : List ℕ). IsFound f log (query_goals f Ad q false xs) found) is k)
if_uncovered f P old log q cover asks is grows h (Err halt) k = k

-- ---- all preferred sets accept the query

pub all_accept : (f : Framework) (log : OracleLog) (q : ℕ) (sets : List (List ℕ)) (step : ℕ) → IsKept f log
    → ((e : List ℕ) → Contains sets e → IsCovering f q e) → Refutes f log (cover_claim f q sets) step
    → (p : List ℕ) → IsExtension f Preferred p → Accepts f p q
all_accept f log q sets step kept each refuted p pref =
    covered_accepts f q sets kept.numbered (λ e c. let h = each e c in (h.admissible, h.accepts))
    (claim_excluded f log (cover_claim f q sets) step kept.form (cover_plain f q sets) refuted) p pref

-- ---- a set more

pub extended : (f g : Framework) (log : OracleLog) (q : ℕ) (old new : Cover) (set e : List ℕ) (n : ℕ) (accepts : Bool)
    → g ≡ f → IsUncovered f log q old (Set set) → IsWithin set e → HoldsOf f e Ad
    → (IsTrue accepts ↔ Accepts g e q) → accepts ≡ true → IsAskOf log.sides (outside f e) n
    → new.sets ≡ old.sets ++ e ∷ [] → new.asks ≡ old.asks ++ n ∷ [] → IsExtended f log q old new e n
extended f g log q old new set e n accepts same open_set sub ok test said asks sets numbers = record {
  sets = sets;
  asks = numbers;
  covering = record {
    admissible = ok;
    accepts = subst (λ (x : Framework). Accepts x e q) same (test.0 said);
  };
  asks_it = asks;
  outside_all = λ d c inside. open_set.2 d c (λ x k. inside x (sub x k));
}

pub extended_of : (f g : Framework) (log : OracleLog) (q : ℕ) (old new : Cover) (r : Option Maximal) → g ≡ f → r ≡ None
    → Extends g log q old new r → (e : List ℕ) × (n : ℕ) × IsExtended f log q old new e n
extended_of f g log q old new r same is h =
    subst (λ (x : Framework). Extends x log q old new None) same (subst (Extends g log q old new) is h)

pub accepting_found : (f g h : Framework) (log : OracleLog) (q : ℕ) (cover : Cover) (r : Found) (step : ℕ) → g ≡ f
    → h ≡ f → IsKept h log → ((e : List ℕ) → Contains cover.sets e → IsCovering f q e) → r ≡ Refuted step
    → IsUncovered g log q cover r → IsAccepting f log q (Covered cover.sets step)
accepting_found f g h log q cover r step left right kept each is found =
    let refuted : Refutes f log (cover_claim f q cover.sets) step = subst
    (λ (x : Framework). IsUncovered x log q cover (Refuted step)) left (subst (IsUncovered g log q cover) is found) in (
      each,
      refuted,
      all_accept f log q cover.sets step (subst (λ (x : Framework). IsKept x log) right kept) each
          refuted,
    )

pub cover_kept : (f g h : Framework) (P : Making) (old new : OracleLog) (q : ℕ) (cover : Cover) → g ≡ f → h ≡ g
    → Grows P old new → IsCover f old q cover → IsCover h new q cover
cover_kept f g h P old new q cover left right grows is =
    subst (λ (x : Framework). IsCover x new q cover) (sym (right ∙ left)) (cover_grown f P old new q cover grows is)

pub one_more : (asks new : List ℕ) (n : ℕ) → new ≡ asks ++ n ∷ [] → length asks + 1 ≤ length new
one_more asks new n e = omega (arith, ap length e, length-append asks (n ∷ []))
