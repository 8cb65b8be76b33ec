-- The refutations of an answer's claims make up an accepted certificate.
use Rattle.std.proofs.Common.{◌≡◌, ◌∙◌, ◌⊎◌, inl, inr, ⊎_elim, ℕ, ◌+◌, ◌-◌, ◌<◌, ◌≤◌, ◌^◌, zero, suc, Bool, true, false, List, [], ◌∷◌, ◌++◌, length, map, refl, sym, ap, subst, arith, Option, None, Some}
use Rattle.std.specs.Prelude.{All, Contains, IfOk, Result, Ok, Err, slice_index_or}
use Rattle.lists.specs.declared.memory.Memory.{Memory}
use Rattle.std.proofs.lemmas.Bool.{cases_lt}
use Rattle.std.proofs.lemmas.List.{get_or_append_left, get_or-append-add, get_or-map, get_or_default, length-append, length-map}
use Rattle.std.proofs.lemmas.List.Elements.{Contains-get_or, Contains-push_cases}
use Rattle.lists.proofs.Membership.{Contains-nil}
use Rattle.lists.specs.Members.{IsWithin}
use Rattle.semantics.specs.Arguments.{IsArgument}
use Rattle.semantics.specs.declared.mode.Mode.{Mode}
use Rattle.semantics.specs.declared.mode.Mode.TheVariants.{Ad}
use Rattle.semantics.specs.Framework.{Af}
use Rattle.semantics.specs.Frameworks.{Framework, af, aba, IsNumbered}
use Rattle.meaning_atoms.specs.declared.atom.AtomLit.{AtomLit}
use Rattle.meaning_atoms.specs.Worlds.{HoldsOf}
use Rattle.iccma_tasks.specs.declared.answer.Answer.{Answer}
use Rattle.iccma_tasks.specs.Tasks.{Asked}
use Rattle.iccma_tasks.specs.WrittenText.{HasArguments}
use Rattle.certificate_claims.specs.declared.certificate.Certificate.{Certificate}
use Rattle.certificate_claims.specs.declared.certificate.Refutation.{Refutation}
use Rattle.certificate_claims.specs.declared.row.Row.{Row}
use Rattle.certificate_claims.specs.declared.row.Row.TheVariants.{Misshapen, Tested, Largest, Widest, Excluded, ByGrounded, Covered, Ranged, Ideal, AllTested, AllLargest, AllWidest}
use Rattle.certificate_claims.specs.Acceptance.{IsAccepted, PassesSet, PassesTest, TakesSets, Tests, no_claim, no_refutation}
use Rattle.certificate_claims.specs.Claims.{all_row, all_shown, claims, credulous_row, each_accepts, mode_atom, none_accepts, row_for, row_of, row_where, sceptical_row, sets_of, shown as shown_row, some_row, there_is_none}
use Rattle.iccma_tasks.specs.declared.answer.Answer.TheVariants.{Yes, No, Sets}
use Rattle.iccma_tasks.specs.declared.task.Problem.{Problem}
use Rattle.iccma_tasks.specs.declared.task.Problem.TheVariants.{Credulous, Sceptical, SomeExtension, AllExtensions}
use Rattle.iccma_tasks.specs.declared.task.Semantics.{Semantics}
use Rattle.iccma_tasks.specs.declared.task.Semantics.TheVariants.{Complete, Grounded, Preferred, Stable, SemiStable, Ideal as IdealSets, Stage}
use Rattle.certificate_claims.specs.Refutations.{Claim as TableClaim, IsPlain, IsRefutationOf}
use Rattle.certificate_claims.proofs.KindFacts.{numbered_members}
use Rattle.certificate_claims.proofs.Modes.{mode_members}
use Rattle.certificate_text.specs.Written.{IsWritable, IsWritableStep}
use Rattle.oracle_face.specs.Goals.{Refutes}
use Rattle.oracle_face.specs.Logs.{OracleLog, SideClause, IsLog, IsNumberOf}
use Rattle.session_log.specs.Guards.{IsGuarded}
use Rattle.certificate_making.specs.Refuted.{AreRefuting, IsRefutingStep}
use Rattle.certificate_making.specs.Trimmed.{ArePositions}
use Rattle.certificate_making.proofs.PlainClaims.{claims_plain}
use Rattle.certificate_making.specs.ClaimSides.{AreAsksOf, ArePositionsIn, AreWithin, IsAskOf}
use Rattle.certificate_making.specs.Cuts.{AreCut, IsCut, IsCutAt}
use Rattle.answer_claims.specs.declared.claim.Claim.{Claim}
use Rattle.answer_claims.specs.declared.sides.SideKind.{SideKind}
use Rattle.answer_claims.specs.ClaimParts.{AreClaims, IsClaimOf}
use Rattle.answer_claims.specs.SetFacts.{AreSetsOf, HasSetsOf}
use Rattle.answer_claims.specs.SideClauses.{side_of, sides_of}
use Rattle.enumerate_block.specs.Ranges.{AreRefuted}
use Rattle.certificate_making.specs.Making.{AreAsks, AreMade, IsMade}
use Rattle.answer_claims.proofs.ClaimLemmas.{same_length}

-- ---- one item more

-- an item of a list that was pushed to, at an index below or at its end
pushed_at : {X : Type 0} (P : X → Type 0) (old new : List X) (x d : X) (i : ℕ) → new ≡ old ++ x ∷ []
    → i < length old + 1 → ((i < length old) → P (slice_index_or old i d)) → ((i ≡ length old) → P x)
    → P (slice_index_or new i d)
pushed_at P old new x d i is lt before here =
    subst (λ xs. P (slice_index_or xs i d)) (sym is)
    (⊎_elim
    (λ less. subst P (sym (get_or_append_left old (x ∷ []) d i less)) (before less))
    (λ ge.
    let at : i ≡ length old + 0 = omega arith in
    subst P (sym (ap (λ k. slice_index_or (old ++ x ∷ []) k d) at ∙ get_or-append-add old (x ∷ []) 0 d)) (here (omega arith)))
    (cases_lt i (length old)))

-- ---- the numbers of side clauses

pub record AsksUpTo (sides : List SideClause) (f : Framework) (kind : SideKind) (sets : List (List ℕ)) (count : ℕ)
    (asks : List (Option ℕ)) : Type 0 where
  pub long : length asks ≡ count
  pub each : (i : ℕ) → i < count
      → IsAskOf sides (side_of f kind (slice_index_or sets i [])) (slice_index_or asks i None)

pub asks_none : (sides : List SideClause) (f : Framework) (kind : SideKind) (sets : List (List ℕ))
    → AsksUpTo sides f kind sets 0 []
asks_none sides f kind sets = record { long = refl; each = λ i lt. absurd (omega arith) }

pub asks_more : (sides : List SideClause) (f : Framework) (kind : SideKind) (sets : List (List ℕ)) (count : ℕ)
    (set : List ℕ) (ask : Option ℕ) (old new : List (Option ℕ)) → AsksUpTo sides f kind sets count old
    → set ≡ slice_index_or sets count set → count < length sets
    → IsAskOf sides (side_of f kind set) ask → new ≡ old ++ ask ∷ [] → AsksUpTo sides f kind sets (count + 1) new
asks_more sides f kind sets count set ask old new so_far is lt asked pushed =
    let same : slice_index_or sets count [] ≡ set =
    sym (is ∙ (get_default sets count set [] lt)) in
    record {
      long = omega (arith, ap length pushed, length-append old (ask ∷ []), so_far.long);
      each = λ i low. pushed_at (IsAskOf sides (side_of f kind (slice_index_or sets i []))) old new ask None i pushed
          (omega (arith, so_far.long)) (λ less. so_far.each i (omega (arith, so_far.long)))
          (λ here. subst (λ s. IsAskOf sides (side_of f kind s) ask)
          (sym (ap (λ k. slice_index_or sets k []) (here ∙ so_far.long) ∙ same)) asked);
    }
  where
    get_default : (xs : List (List ℕ)) (i : ℕ) (d e : List ℕ) → i < length xs
        → slice_index_or xs i d ≡ slice_index_or xs i e
    get_default [] i d e h = absurd (omega arith)
    get_default (x ∷ xs) zero d e h = refl
    get_default (x ∷ xs) (suc i) d e h = get_default xs i d e (omega arith)

pub asks_all : (sides : List SideClause) (f : Framework) (kind : SideKind) (sets : List (List ℕ)) (count : ℕ)
    (asks : List (Option ℕ)) → AsksUpTo sides f kind sets count asks → count ≡ length sets
    → AreAsks sides (sides_of f kind sets) asks
asks_all sides f kind sets count asks so_far all = record {
  long = so_far.long ∙ all ∙ sym (length-map sets (side_of f kind));
  each = λ i lt. subst (λ clause. IsAskOf sides clause (slice_index_or asks i None))
      (sym (get_or-map (side_of f kind) sets i [] [] (omega (arith, so_far.long))))
      (so_far.each i (omega (arith, so_far.long)));
}

named_ask : (sides : List SideClause) (clause : List AtomLit) (ask : Option ℕ) (n : ℕ) → IsAskOf sides clause ask
    → ask ≡ Some n → (0 < n) × (n ≤ length sides)
named_ask sides clause None n is e = cc
named_ask sides clause (Some m) n is e =
    let same : m ≡ n = cc in
    subst (λ k. (0 < k) × (k ≤ length sides)) same (is.0.from_one, is.0.within)

pub asks_within : (sides : List SideClause) (clauses : List (List AtomLit)) (asks : List (Option ℕ))
    → AreAsks sides clauses asks → AreWithin asks (length sides)
asks_within sides clauses asks are = record {
  each = λ n there. named_ask sides (slice_index_or clauses there.0 []) (slice_index_or asks there.0 None) n
      (are.each there.0 there.1) (at there.0 n there.1 there.2);
}
  where
    at : (i n : ℕ) → i < length asks → slice_index_or asks i (Some n) ≡ Some n → slice_index_or asks i None ≡ Some n
    at i n lt is = get_default asks i None (Some n) lt ∙ is
      where
        get_default : (xs : List (Option ℕ)) (i : ℕ) (d e : Option ℕ) → i < length xs
            → slice_index_or xs i d ≡ slice_index_or xs i e
        get_default [] i d e h = absurd (omega arith)
        get_default (x ∷ xs) zero d e h = refl
        get_default (x ∷ xs) (suc i) d e h = get_default xs i d e (omega arith)

-- ---- one refutation

asks_of_claim : (sides : List SideClause) (clauses : List (List AtomLit)) (claim : TableClaim) (asks : List (Option ℕ))
    → AreAsks sides clauses asks → claim.sides ≡ clauses → AreAsksOf sides claim asks
asks_of_claim sides clauses claim asks are same = record {
  long = are.long ∙ ap length (sym same);
  each = λ i lt. subst (λ list. IsAskOf sides (slice_index_or list i []) (slice_index_or asks i None)) (sym same)
      (are.each i lt);
}

-- a step that refutes a claim is one of which a refutation is made
pub may_make : (f : Framework) (log : OracleLog) (parts : Claim) (claim : TableClaim) (step : ℕ)
    (asks : List (Option ℕ)) (positions : List ℕ) → IsLog f log → IsGuarded log
    → AreAsks log.sides (sides_of f parts.kind parts.sides) asks → ArePositionsIn asks positions
    → IsClaimOf f parts claim → IsPlain claim → Refutes f log claim step
    → IsRefutingStep f log claim step positions
may_make f log parts claim step asks positions form guards are stand of plain refutes = record {
  form = form;
  guards = guards;
  plain = plain;
  refutes = refutes;
  stands = stand f log claim form
      (asks_of_claim log.sides (sides_of f parts.kind parts.sides) claim asks are of.sides);
}

pub made_of : (f g : Framework) (log : OracleLog) (parts : Claim) (step : ℕ) (asks : List (Option ℕ))
    (positions : List ℕ) (made : Refutation) → f ≡ g → IsLog g log → IsGuarded log
    → AreAsks log.sides (sides_of f parts.kind parts.sides) asks → ArePositionsIn asks positions
    → ((claim : TableClaim) → IsRefutingStep g log claim step positions → AreRefuting g claim made.steps)
    → ((claim : TableClaim) → IsRefutingStep g log claim step positions → All IsWritableStep made.steps)
    → IsMade g log parts step made
made_of f g log parts step asks positions made same form guards are stand refutes fits =
    let are_here : AreAsks log.sides (sides_of g parts.kind parts.sides) asks =
    subst (λ h. AreAsks log.sides (sides_of h parts.kind parts.sides) asks) same are in
    λ claim of plain refuted.
    let may = may_make g log parts claim step asks positions form guards are_here stand of plain refuted in
    (refutes claim may, fits claim may)

pub made_if : (f g : Framework) (log : OracleLog) (parts : Claim) (step : ℕ) (sets : List (List ℕ))
    (asks read_asks : List (Option ℕ)) (positions read_positions : List ℕ) (r : Result Refutation Memory) → f ≡ g
    → IsLog g log → IsGuarded log → sets ≡ parts.sides → read_asks ≡ asks → read_positions ≡ positions
    → AreAsks log.sides (sides_of f parts.kind sets) asks → ArePositionsIn read_asks positions
    → IfOk r (λ made. (claim : TableClaim) → IsRefutingStep g log claim step read_positions
    → AreRefuting g claim made.steps)
    → IfOk r (λ made. (claim : TableClaim) → IsRefutingStep g log claim step read_positions
    → All IsWritableStep made.steps)
    → IfOk r (IsMade g log parts step)
made_if f g log parts step sets asks read_asks positions read_positions (Err e) same form guards of_sets of_asks
    of_positions are stand refutes fits = tt
made_if f g log parts step sets asks read_asks positions read_positions (Ok made) same form guards of_sets of_asks
    of_positions are stand refutes fits =
    made_of f g log parts step asks positions made same form guards
    (subst (λ list. AreAsks log.sides (sides_of f parts.kind list) asks) of_sets are)
    (subst (λ list. ArePositionsIn list positions) of_asks stand)
    (λ claim may. refutes claim (subst (λ list. IsRefutingStep g log claim step list) (sym of_positions) may))
    (λ claim may. fits claim (subst (λ list. IsRefutingStep g log claim step list) (sym of_positions) may))

-- ---- all refutations

pub record MadeUpTo (f : Framework) (log : OracleLog) (parts : List Claim) (steps : List ℕ) (count : ℕ)
    (made : List Refutation) : Type 0 where
  pub long : length made ≡ count
  pub each : (k : ℕ) (d : Claim) → k < count
      → IsMade f log (slice_index_or parts k d) (slice_index_or steps k 0) (slice_index_or made k no_refutation)
  pub cut : AreCut log made

pub made_none : (f : Framework) (log : OracleLog) (parts : List Claim) (steps : List ℕ)
    → MadeUpTo f log parts steps 0 []
made_none f log parts steps = record {
  long = refl;
  each = λ k d lt. absurd (omega arith);
  cut = λ one c. absurd (Contains-nil one c);
}

parts_default : (xs : List Claim) (i : ℕ) (d e : Claim) → i < length xs → slice_index_or xs i d ≡ slice_index_or xs i e
parts_default [] i d e h = absurd (omega arith)
parts_default (x ∷ xs) zero d e h = refl
parts_default (x ∷ xs) (suc i) d e h = parts_default xs i d e (omega arith)

pub made_more : (f : Framework) (log : OracleLog) (parts : List Claim) (steps : List ℕ) (count : ℕ) (part e : Claim)
    (step d : ℕ) (one : Refutation) (old new : List Refutation) → MadeUpTo f log parts steps count old
    → count < length parts → part ≡ slice_index_or parts count e → step ≡ slice_index_or steps count d
    → count < length steps → IsMade f log part step one → IsCutAt log step one.steps → new ≡ old ++ one ∷ []
    → MadeUpTo f log parts steps (count + 1) new
made_more f log parts steps count part e step d one old new so_far lt part_is step_is low made at pushed = record {
  long = omega (arith, ap length pushed, length-append old (one ∷ []), so_far.long);
  each = λ k other less. pushed_at
      (IsMade f log (slice_index_or parts k other) (slice_index_or steps k 0)) old new one no_refutation k pushed
      (omega (arith, so_far.long)) (λ before. so_far.each k other (omega (arith, so_far.long)))
      (λ here.
      let at : k ≡ count = here ∙ so_far.long in
      let same_part : part ≡ slice_index_or parts k other =
      part_is ∙ parts_default parts count e other lt ∙ ap (λ i. slice_index_or parts i other) (sym at) in
      let same_step : step ≡ slice_index_or steps k 0 =
      step_is ∙ steps_default steps count d 0 low ∙ ap (λ i. slice_index_or steps i 0) (sym at) in
      subst (λ p. IsMade f log p (slice_index_or steps k 0) one) same_part
      (subst (λ s. IsMade f log part s one) same_step made));
  cut = λ other c.
      ⊎_elim (λ before. so_far.cut other before)
      (λ (here : one ≡ other). subst (IsCut log) here (record { step = step; at = at }))
      (Contains-push_cases old one other (subst (λ xs. Contains xs other) pushed c));
}
  where
    steps_default : (xs : List ℕ) (i d e : ℕ) → i < length xs → slice_index_or xs i d ≡ slice_index_or xs i e
    steps_default [] i d e h = absurd (omega arith)
    steps_default (x ∷ xs) zero d e h = refl
    steps_default (x ∷ xs) (suc i) d e h = steps_default xs i d e (omega arith)

pub made_all : (f : Framework) (log : OracleLog) (parts : List Claim) (steps : List ℕ) (count : ℕ)
    (made : List Refutation) → MadeUpTo f log parts steps count made → count ≡ length parts
    → AreMade f log parts steps made
made_all f log parts steps count made so_far all = record {
  long = so_far.long ∙ all;
  each = λ k d lt. so_far.each k d (omega (arith, all));
}

-- ---- the claims of a row, by their parts

claim_at : (f : Framework) (parts : List Claim) (list : List TableClaim) (k : ℕ) (d : Claim) → AreClaims f parts list
    → k < length list → IsClaimOf f (slice_index_or parts k d) (slice_index_or list k no_claim)
claim_at f [] [] k d are lt = absurd (omega arith)
claim_at f (c ∷ cs) (claim ∷ list) zero d are lt = are.0
claim_at f (c ∷ cs) (claim ∷ list) (suc k) d are lt = claim_at f cs list k d are.1 (omega arith)
claim_at f [] (claim ∷ list) k d are lt = absurd are
claim_at f (c ∷ cs) [] k d are lt = absurd are

some_part : (parts : List Claim) → 0 < length parts → Claim
some_part [] lt = absurd (omega arith)
some_part (c ∷ cs) lt = c

-- ---- the sets

mode_arguments : (mode : Mode) (f : Framework) (e : List ℕ) → IsNumbered f → HoldsOf f e (mode_atom mode)
    → HasArguments e
mode_arguments mode f e numbered holds = λ k d lt.
    numbered_members f numbered (slice_index_or e k d)
    (mode_members mode f e holds (slice_index_or e k d) (k, lt, get_or_default e k (slice_index_or e k d) d lt))

no_set : (sets : List (List ℕ)) (k : ℕ) → length sets ≡ 0 → k < length sets → ⊥
no_set sets k none lt = omega arith

set_arguments : (f : Framework) (asked : Asked) (row : Row) (sets : List (List ℕ)) (k : ℕ) → IsNumbered f
    → TakesSets row (length sets) → k < length sets → PassesSet f asked row k (slice_index_or sets k [])
    → HasArguments (slice_index_or sets k [])
set_arguments f asked (Covered q) sets k numbered takes lt passes =
    mode_arguments Ad f (slice_index_or sets k []) numbered passes.0
set_arguments f asked (Ranged mode bad) sets k numbered takes lt passes =
    mode_arguments mode f (slice_index_or sets k []) numbered passes
set_arguments f asked (Ideal shown accepts) sets zero numbered takes lt passes =
    mode_arguments Ad f (slice_index_or sets 0 []) numbered passes.0
set_arguments f asked (Ideal shown accepts) sets (suc k) numbered takes lt passes =
    mode_arguments Ad f (slice_index_or sets (suc k) []) numbered passes
set_arguments f asked Misshapen sets k numbered takes lt passes = absurd (no_set sets k takes lt)
set_arguments f asked (Tested e) sets k numbered takes lt passes = absurd (no_set sets k takes lt)
set_arguments f asked (Largest e) sets k numbered takes lt passes = absurd (no_set sets k takes lt)
set_arguments f asked (Widest mode e) sets k numbered takes lt passes = absurd (no_set sets k takes lt)
set_arguments f asked (Excluded goals) sets k numbered takes lt passes = absurd (no_set sets k takes lt)
set_arguments f asked (ByGrounded accepts) sets k numbered takes lt passes = absurd (no_set sets k takes lt)
set_arguments f asked (AllTested mode all) sets k numbered takes lt passes = absurd (no_set sets k takes lt)
set_arguments f asked (AllLargest all) sets k numbered takes lt passes = absurd (no_set sets k takes lt)
set_arguments f asked (AllWidest mode all) sets k numbered takes lt passes = absurd (no_set sets k takes lt)

sets_default : (xs : List (List ℕ)) (i : ℕ) (d e : List ℕ) → i < length xs
    → slice_index_or xs i d ≡ slice_index_or xs i e
sets_default [] i d e h = absurd (omega arith)
sets_default (x ∷ xs) zero d e h = refl
sets_default (x ∷ xs) (suc i) d e h = sets_default xs i d e (omega arith)

-- ---- the certificate

module _ (f : Framework) (asked : Asked) (answer : Answer) (log : OracleLog) (sets : List (List ℕ))
    (steps : List ℕ) (parts : List Claim) (made : List Refutation) (numbered : IsNumbered f)
    (tests : Tests f asked (row_of f asked answer) (sets_of answer) sets)
    (refuted : AreRefuted f log (claims f (row_of f asked answer) sets) steps)
    (are : AreClaims f parts (claims f (row_of f asked answer) sets)) (all : AreMade f log parts steps made) where
  abbrev list : List TableClaim
  list = claims f (row_of f asked answer) sets

  same_long : length parts ≡ length list
  same_long = same_length f parts list are

  -- the refutation at a place refutes the claim there, and a text can hold it
  made_at : (k : ℕ) → k < length made
      → AreRefuting f (slice_index_or list k no_claim) (slice_index_or made k no_refutation).steps
      × All IsWritableStep (slice_index_or made k no_refutation).steps
  made_at k lt =
      let long = all.long in
      let same = same_long in
      let within : k < length list = omega arith in
      let d = some_part parts (omega arith) in
      all.each k d (omega arith) (slice_index_or list k no_claim) (claim_at f parts list k d are within)
      (claims_plain f asked answer sets (slice_index_or list k no_claim) (Contains-get_or list k no_claim within))
      (refuted.each k (omega (arith, refuted.number)))

  pub accepted : IsAccepted f asked answer (record { sets = sets; refutations = made })
  accepted = record {
    tests = tests;
    number = all.long ∙ same_long;
    refutations = λ k lt. (made_at k lt).0.refutation;
  }

  pub writable : IsWritable (record { sets = sets; refutations = made })
  writable = record {
    sets = λ k d lt. subst HasArguments (sets_default sets k [] d lt)
        (set_arguments f asked (row_of f asked answer) sets k numbered tests.count lt (tests.each_set k lt));
    steps = λ k d lt. subst (λ (one : Refutation). All IsWritableStep one.steps)
        (made_default made k no_refutation d lt) (made_at k lt).1;
  }
    where
      made_default : (xs : List Refutation) (i : ℕ) (d e : Refutation) → i < length xs
          → slice_index_or xs i d ≡ slice_index_or xs i e
      made_default [] i d e h = absurd (omega arith)
      made_default (x ∷ xs) zero d e h = refl
      made_default (x ∷ xs) (suc i) d e h = made_default xs i d e (omega arith)

-- a row whose sets are all the extensions by their ranges has the sets that the answer shows, and is one of answers by
-- semi-stable or stage sets
abbrev IsOfShown : Row → Semantics → List (List ℕ) → Type 0
IsOfShown (AllWidest mode all) SemiStable shown = all ≡ shown
IsOfShown (AllWidest mode all) Stage shown = all ≡ shown
IsOfShown (AllWidest mode all) _ shown = ⊥
IsOfShown _ semantics shown = Unit {0}

-- and one of answers on abstract frameworks
abbrev IsShownIn : Row → Framework → List (List ℕ) → Type 0
IsShownIn (AllWidest mode all) (af f) shown = all ≡ shown
IsShownIn (AllWidest mode all) (aba f) shown = ⊥
IsShownIn _ f shown = Unit {0}

shown_of : (semantics : Semantics) (e shown : List ℕ) (listed : List (List ℕ)) (accepts : Option Bool)
    → IsOfShown (shown_row semantics e accepts) semantics listed
shown_of Complete e shown listed accepts = tt
shown_of Grounded e shown listed accepts = tt
shown_of Preferred e shown listed accepts = tt
shown_of Stable e shown listed accepts = tt
shown_of SemiStable e shown listed accepts = tt
shown_of IdealSets e shown listed accepts = tt
shown_of Stage e shown listed accepts = tt

none_of : (f : Framework) (semantics : Semantics) (q : ℕ) (listed : List (List ℕ))
    → IsOfShown (none_accepts f semantics q) semantics listed
none_of f Complete q listed = tt
none_of f Grounded q listed = tt
none_of f Preferred q listed = tt
none_of f Stable q listed = tt
none_of f SemiStable q listed = tt
none_of f IdealSets q listed = tt
none_of f Stage q listed = tt

each_of : (f : Framework) (semantics : Semantics) (q : ℕ) (listed : List (List ℕ))
    → IsOfShown (each_accepts f semantics q) semantics listed
each_of f Complete q listed = tt
each_of f Grounded q listed = tt
each_of f Preferred q listed = tt
each_of f Stable q listed = tt
each_of f SemiStable q listed = tt
each_of f IdealSets q listed = tt
each_of f Stage q listed = tt

no_of : (semantics : Semantics) (listed : List (List ℕ)) → IsOfShown (there_is_none semantics) semantics listed
no_of Complete listed = tt
no_of Grounded listed = tt
no_of Preferred listed = tt
no_of Stable listed = tt
no_of SemiStable listed = tt
no_of IdealSets listed = tt
no_of Stage listed = tt

all_of : (semantics : Semantics) (sets : List (List ℕ)) → IsOfShown (all_shown semantics sets) semantics sets
all_of Complete sets = tt
all_of Grounded sets = tt
all_of Preferred sets = tt
all_of Stable sets = tt
all_of SemiStable sets = refl
all_of IdealSets sets = tt
all_of Stage sets = refl

credulous_of : (f : Framework) (semantics : Semantics) (q : ℕ) (answer : Answer)
    → IsOfShown (credulous_row f semantics q answer) semantics (sets_of answer)
credulous_of f semantics q (Yes (Some e)) = shown_of semantics e e (e ∷ []) (Some true)
credulous_of f semantics q (Yes None) = tt
credulous_of f semantics q (No None) = none_of f semantics q []
credulous_of f semantics q (No (Some e)) = tt
credulous_of f semantics q (Sets sets) = tt

sceptical_of : (f : Framework) (semantics : Semantics) (q : ℕ) (answer : Answer)
    → IsOfShown (sceptical_row f semantics q answer) semantics (sets_of answer)
sceptical_of f semantics q (Yes None) = each_of f semantics q []
sceptical_of f semantics q (Yes (Some e)) = tt
sceptical_of f semantics q (No (Some e)) = shown_of semantics e e (e ∷ []) (Some false)
sceptical_of f semantics q (No None) = tt
sceptical_of f semantics q (Sets sets) = tt

some_of : (semantics : Semantics) (answer : Answer) → IsOfShown (some_row semantics answer) semantics (sets_of answer)
some_of semantics (Sets (e ∷ [])) = shown_of semantics e e (e ∷ []) None
some_of semantics (Sets []) = tt
some_of semantics (Sets (e ∷ next ∷ more)) = tt
some_of semantics (No None) = no_of semantics []
some_of semantics (No (Some e)) = tt
some_of semantics (Yes e) = tt

all_row_of : (semantics : Semantics) (answer : Answer)
    → IsOfShown (all_row semantics answer) semantics (sets_of answer)
all_row_of semantics (Sets (e ∷ more)) = all_of semantics (e ∷ more)
all_row_of semantics (Sets []) = tt
all_row_of semantics (No None) = no_of semantics []
all_row_of semantics (No (Some e)) = tt
all_row_of semantics (Yes e) = tt

row_of_shown : (f : Framework) (problem : Problem) (semantics : Semantics) (number : Option ℕ) (answer : Answer)
    → IsOfShown (row_for f problem semantics number answer) semantics (sets_of answer)
row_of_shown f Credulous semantics (Some q) answer = credulous_of f semantics q answer
row_of_shown f Credulous semantics None answer = tt
row_of_shown f Sceptical semantics (Some q) answer = sceptical_of f semantics q answer
row_of_shown f Sceptical semantics None answer = tt
row_of_shown f SomeExtension semantics None answer = some_of semantics answer
row_of_shown f SomeExtension semantics (Some q) answer = tt
row_of_shown f AllExtensions semantics None answer = all_row_of semantics answer
row_of_shown f AllExtensions semantics (Some q) answer = tt

-- answers on assumption-based frameworks have no row by semi-stable and stage sets
where_shown : (semantics : Semantics) (f : Framework) (row : Row) (shown : List (List ℕ))
    → IsOfShown row semantics shown
    → IsShownIn (row_where semantics f row) f shown
where_shown SemiStable (af f) (AllWidest mode all) shown h = h
where_shown SemiStable (af f) _ shown h = tt
where_shown SemiStable (aba f) row shown h = tt
where_shown Stage (af f) (AllWidest mode all) shown h = h
where_shown Stage (af f) _ shown h = tt
where_shown Stage (aba f) row shown h = tt
where_shown _ f (AllWidest mode all) shown h = absurd h
where_shown _ f _ shown h = tt

tested_within : (f : Framework) (asked : Asked) (row : Row) (shown : List (List ℕ)) → IsShownIn row f shown
    → ((k : ℕ) → k < length shown → PassesTest f asked row (slice_index_or shown k [])) → HasSetsOf f row
tested_within (aba f) asked (AllWidest mode all) shown same passes = absurd same
tested_within (af f) asked (AllWidest mode all) shown same passes = λ s there.
    let lt : there.0 < length shown = subst (λ list. there.0 < length list) same there.1 in
    subst (λ x. IsWithin x f.live)
    (sets_default shown there.0 [] s lt ∙ ap (λ list. slice_index_or list there.0 s) (sym same) ∙ there.2)
    (mode_members mode (af f) (slice_index_or shown there.0 []) (passes there.0 lt))
tested_within f asked Misshapen shown same passes = tt
tested_within f asked (Tested e) shown same passes = tt
tested_within f asked (Largest e) shown same passes = tt
tested_within f asked (Widest mode e) shown same passes = tt
tested_within f asked (Excluded goals) shown same passes = tt
tested_within f asked (ByGrounded says) shown same passes = tt
tested_within f asked (Covered q) shown same passes = tt
tested_within f asked (Ranged mode bad) shown same passes = tt
tested_within f asked (Ideal e says) shown same passes = tt
tested_within f asked (AllTested mode sets) shown same passes = tt
tested_within f asked (AllLargest sets) shown same passes = tt

-- the sets of the row have members alone
pub row_sets : (f : Framework) (asked : Asked) (answer : Answer) (sets : List (List ℕ))
    → Tests f asked (row_of f asked answer) (sets_of answer) sets → HasSetsOf f (row_of f asked answer)
row_sets f asked answer sets tests =
    tested_within f asked (row_of f asked answer) (sets_of answer)
    (where_shown asked.task.semantics f (row_for f asked.task.problem asked.task.semantics asked.number answer)
    (sets_of answer) (row_of_shown f asked.task.problem asked.task.semantics asked.number answer)) tests.witnesses

-- ---- what the calls ask

pub refuted_named : (f : Framework) (log : OracleLog) (list : List TableClaim) (steps : List ℕ)
    → AreRefuted f log list steps → (k : ℕ) → Contains steps k → IsNumberOf log.steps k
refuted_named f log list steps refuted k there =
    subst (λ n. IsNumberOf log.steps n) (steps_at steps there.0 0 k there.1 ∙ there.2)
    (refuted.each there.0 there.1).step
  where
    steps_at : (xs : List ℕ) (i d e : ℕ) → i < length xs → slice_index_or xs i d ≡ slice_index_or xs i e
    steps_at [] i d e h = absurd (omega arith)
    steps_at (x ∷ xs) zero d e h = refl
    steps_at (x ∷ xs) (suc i) d e h = steps_at xs i d e (omega arith)

pub steps_long : (f : Framework) (log : OracleLog) (list : List TableClaim) (steps : List ℕ) (parts : List Claim)
    → AreClaims f parts list → AreRefuted f log list steps → length steps ≡ length parts
steps_long f log list steps parts are refuted = refuted.number ∙ sym (same_length f parts list are)
