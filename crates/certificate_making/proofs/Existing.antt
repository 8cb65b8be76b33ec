-- A refuting step has a refutation, and a shown answer an accepted certificate.
use Rattle.std.proofs.Common.{◌≡◌, inl, inr, ⊎_elim, ℕ, zero, suc, ◌+◌, ◌-◌, ◌<◌, ◌≤◌, List, [], ◌∷◌, ◌++◌, length, map}
use Rattle.std.proofs.Common.{refl, ap, sym, subst, ◌∙◌, arith}
use Rattle.std.specs.Prelude.{◌⊎◌, ◌↔◌, Contains, slice_index_or, replicate}
use Rattle.std.specs.List.Sorted.{IsStrictlyIncreasing}
use Rattle.std.proofs.Math.ListN.{length-replicate, set}
use Rattle.std.proofs.lemmas.Bool.{cases_eq, cases_lt}
use Rattle.std.proofs.lemmas.List.{get_or_append_left, get_or_default, get_or_push, length-append, length_push}
use Rattle.std.proofs.Math.Seq.{get_or-append_seam}
use Rattle.std.proofs.lemmas.List.Elements.{Contains-append_left, Contains-get_or, Contains-push_cases}
use Rattle.lists.specs.Members.{IsSetOf}
use Rattle.lists.proofs.Membership.{Contains-nil, Contains-head, Contains-tail, Contains-cons_cases}
use Rattle.lists.proofs.Membership.{Contains-pushed}
use Rattle.set_lists.proofs.Rising.{rises_append}
use Rattle.semantics.specs.Frameworks.{Framework}
use Rattle.semantics.proofs.Decided.{Decided, decide_contains, decide_each, search_list}
use Rattle.meaning_atoms.specs.declared.atom.AtomLit.{AtomLit}
use Rattle.meaning_atoms.proofs.SameAtoms.{same_literal}
use Rattle.iccma_tasks.specs.declared.answer.Answer.{Answer}
use Rattle.iccma_tasks.specs.Tasks.{Asked}
use Rattle.certificate_claims.specs.declared.certificate.Refutation.{Refutation}
use Rattle.certificate_claims.specs.declared.certificate.Step.{Step}
use Rattle.certificate_claims.specs.declared.certificate.Step.TheVariants.{Axiom, Side, Derived}
use Rattle.certificate_claims.specs.Acceptance.{no_claim, no_refutation}
use Rattle.certificate_claims.specs.Claims.{claims, row_of}
use Rattle.certificate_claims.specs.Refutations.{Claim, no_step as no_cert_step}
use Rattle.oracle_face.specs.Goals.{IsClaimSide}
use Rattle.oracle_face.specs.Logs.{OracleLog, LogStep, SideClause, Source, by_axiom, by_side, by_hints, IsLog}
use Rattle.oracle_face.specs.Logs.{IsNumberOf, IsSameClause, Reaches, itself, by_hint, hints_of, side_at, step_at}
use Rattle.session_log.specs.Ends.{IsShownBy}
use Rattle.session_log.specs.Guards.{IsGuarded}
use Rattle.session_log.proofs.StepLemmas.{hint_before, reached_before}
use Rattle.certificate_making.specs.Accepted.{HasAccepted}
use Rattle.certificate_making.specs.Refuted.{AreAllReached, AreRefuting, IsRefutingStep}
use Rattle.certificate_making.specs.Trimmed.{IsNumbering, StandsAt, ArePositions, AreMoved, IsMovedStep, moved_lit}
use Rattle.certificate_making.specs.Trimmed.{number_in, position_of}
use Rattle.certificate_making.proofs.PlainClaims.{claims_plain}
use Rattle.certificate_making.proofs.Numbering.{kept_bounds, numbering_next}
use Rattle.certificate_making.proofs.TrimmedLemmas.{trimmed_refutes}

-- ---- lists of what there is

-- values at the indices below a number
record AreChosen {X : Type 0} (d : X) (Q : ℕ → X → Type 0) (n : ℕ) : Type 0 where
  items : List X
  long : length items ≡ n
  each : (i : ℕ) → i < n → Q i (slice_index_or items i d)

choose : {X : Type 0} (d : X) (Q : ℕ → X → Type 0) (n : ℕ) → ((i : ℕ) → i < n → (x : X) × Q i x) → AreChosen d Q n
choose d Q zero each = record { items = []; long = refl; each = λ i lt. absurd (omega arith) }
choose d Q (suc n) each =
    let front = choose d Q n (λ i lt. each i (omega arith)) in
    let last = each n (omega arith) in
    let long = front.long in
    record {
      items = front.items ++ last.0 ∷ [];
      long = omega (arith, length_push front.items last.0, front.long);
      each = λ i lt. ⊎_elim
          (λ early. subst (λ x. Q i x) (sym (get_or_append_left front.items (last.0 ∷ []) d i (omega arith)))
          (front.each i early))
          (λ late.
          let same : n ≡ i = omega arith in
          subst (λ j. Q j (slice_index_or (front.items ++ last.0 ∷ []) j d)) same
          (subst (λ x. Q n x) (sym (get_or_push front.items last.0 d n long)) last.1))
          (cases_lt i n);
    }

-- the numbers below one of which a decided fact holds, in rising order
record IsSetBelow (P : ℕ → Type 0) (n : ℕ) : Type 0 where
  items : List ℕ
  rises : IsStrictlyIncreasing items
  members : (j : ℕ) → Contains items j ↔ ((j < n) × P j)

single_rises : (n : ℕ) → IsStrictlyIncreasing (n ∷ [])
single_rises n = λ k lt. absurd (omega arith)

set_below : (P : ℕ → Type 0) → ((j : ℕ) → Decided (P j)) → (n : ℕ) → IsSetBelow P n
set_below P decide zero = record {
  items = [];
  rises = λ k lt. absurd (omega arith);
  members = λ j. (λ c. absurd (Contains-nil j c), λ h. let lt = h.0 in absurd (omega arith));
}
set_below P decide (suc n) =
    let front = set_below P decide n in
    ⊎_elim
    (λ here. record {
      items = front.items ++ n ∷ [];
      rises = rises_append front.items (n ∷ []) front.rises (single_rises n) (λ x y cx cy.
          let low = ((front.members x).0 cx).0 in
          let e : n ≡ y = ⊎_elim (λ h. h) (λ none. absurd (Contains-nil y none)) (Contains-cons_cases n [] y cy) in
          omega arith);
      members = λ j. (
        λ c. ⊎_elim
            (λ old. let h = (front.members j).0 old in let lt = h.0 in (omega arith, h.1))
            (λ (e : n ≡ j). (omega arith, subst (λ (k : ℕ). P k) e here)) (Contains-push_cases front.items n j c),
        λ h. let lt = h.0 in ⊎_elim
            (λ (e : j ≡ n). Contains-pushed front.items n j (sym e))
            (λ ne. Contains-append_left front.items (n ∷ []) j ((front.members j).1 (omega arith, h.1)))
            (cases_eq j n),
      );
    })
    (λ none. record {
      items = front.items;
      rises = front.rises;
      members = λ j. (
        λ c. let h = (front.members j).0 c in let lt = h.0 in (omega arith, h.1),
        λ h. let lt = h.0 in ⊎_elim (λ (e : j ≡ n). absurd (none (subst (λ (k : ℕ). P k) e h.1)))
            (λ ne. (front.members j).1 (omega arith, h.1)) (cases_eq j n),
      );
    })
    (decide n)

-- ---- what a step reaches

some_member : (P : ℕ → Type 0) (xs : List ℕ) → ((x : ℕ) → Contains xs x → Decided (P x))
    → Decided ((x : ℕ) × Contains xs x × P x)
some_member P [] decide = inr (λ w. Contains-nil w.0 w.1)
some_member P (x ∷ xs) decide =
    ⊎_elim (λ here. inl (x, Contains-head x xs x refl, here))
    (λ none. ⊎_elim (λ w. inl (w.0, Contains-tail x xs w.0 w.1, w.2))
    (λ no_later. inr (λ w. ⊎_elim (λ (e : x ≡ w.0). none (subst (λ (y : ℕ). P y) (sym e) w.2))
    (λ later. no_later (w.0, later, w.2)) (Contains-cons_cases x xs w.0 w.1)))
    (some_member P xs (λ y c. decide y (Contains-tail x xs y c))))
    (decide x (Contains-head x xs x refl))

reach_split : (steps : List LogStep) (number k : ℕ) → Reaches steps number k
    → (number ≡ k) ⊎ ((hint : ℕ) × Contains (hints_of (step_at steps number).source) hint × Reaches steps hint k)
reach_split steps number k (itself m) = inl refl
reach_split steps number k (by_hint m hint reached c more) = inr (hint, c, more)

decide_reaches : (f : Framework) (log : OracleLog) → IsLog f log → (n number k : ℕ) → number ≤ n
    → IsNumberOf log.steps number → Decided (Reaches log.steps number k)
decide_reaches f log form zero number k le is = absurd (let low = is.from_one in omega arith)
decide_reaches f log form (suc n) number k le is =
    ⊎_elim
    (λ (e : number ≡ k). inl (subst (λ (m : ℕ). Reaches log.steps number m) e (itself number)))
    (λ ne. ⊎_elim
    (λ w. inl (by_hint number w.0 k w.1 w.2))
    (λ none. inr (λ reach. ⊎_elim (λ e. ne e) (λ w. none w) (reach_split log.steps number k reach)))
    (some_member (λ (hint : ℕ). Reaches log.steps hint k) (hints_of (step_at log.steps number).source) (λ hint c.
    let order = hint_before f log number hint form is c in
    let low = order.0 in
    let below = order.1 in
    let within = is.within in
    decide_reaches f log form n hint k (omega arith) (record { from_one = low; within = omega arith }))))
    (cases_eq number k)

kept_exists : (f : Framework) (log : OracleLog) (step : ℕ) → IsLog f log → IsNumberOf log.steps step
    → (kept : List ℕ) × IsSetOf (Reaches log.steps step) kept
kept_exists f log step form is =
    let below = set_below (λ (j : ℕ). Reaches log.steps step j)
    (λ j. decide_reaches f log form step step j (omega arith) is) (step + 1) in (
      below.items,
      record {
        rises = below.rises;
        members = λ j. (
          λ c. ((below.members j).0 c).1,
          λ reach. (below.members j).1 (
            (let high = (reached_before f log step j form is reach).1 in omega arith),
            reach,
          ),
        );
      },
    )

-- ---- numbers and positions

numbers_exist : (kept : List ℕ) (last count : ℕ) → IsStrictlyIncreasing kept
    → ((k : ℕ) → Contains kept k → (0 < k) × (k ≤ last)) → count ≤ length kept
    → (numbers : List ℕ) × IsNumbering kept last count numbers
numbers_exist kept last zero rises within le = (
  replicate (last + 1) 0,
  record { room = length-replicate (last + 1) 0; so_far = record { each = λ i lt. absurd (omega arith) } },
)
numbers_exist kept last (suc count) rises within le =
    let front = numbers_exist kept last count rises within (omega arith) in
    let k = slice_index_or kept count 0 in
    let high = (within k (Contains-get_or kept count 0 (omega arith))).1 in
    let room = front.1.room in
    let next = numbering_next kept front.0 (set front.0 k (count + 1)) last count k 0 rises (omega arith) refl
    (omega arith) front.1 refl in
    let more : count + 1 ≡ suc count = omega arith in (
      set front.0 k (count + 1),
      subst (λ (n : ℕ). IsNumbering kept last n (set front.0 k (count + 1))) more next,
    )

decide_same : (a b : List AtomLit) → Decided (IsSameClause a b)
decide_same a b =
    ⊎_elim
    (λ there. ⊎_elim (λ back. inl (record { there = there; back = back })) (λ no. inr (λ h. no h.back))
    (decide_each (λ (l : AtomLit). Contains a l) (decide_contains same_literal a) b))
    (λ no. inr (λ h. no h.there))
    (decide_each (λ (l : AtomLit). Contains b l) (decide_contains same_literal b) a)

-- what the position of a side clause has to be
record IsPositionAt (sides : List SideClause) (claim : Claim) (n p : ℕ) : Type 0 where
  stands : 0 < p → StandsAt claim (side_at sides n).literals p
  found : IsClaimSide sides claim n → 0 < p

position_exists : (sides : List SideClause) (claim : Claim) (n : ℕ) → (p : ℕ) × IsPositionAt sides claim n p
position_exists sides claim n =
    ⊎_elim
    (λ w.
    let at : slice_index_or claim.sides (length w.before + 1 - 1) [] ≡ w.item =
    ap (λ (i : ℕ). slice_index_or claim.sides i []) (omega arith)
    ∙ (ap (λ (xs : List (List AtomLit)). slice_index_or xs (length w.before) []) w.parts
    ∙ get_or-append_seam w.before w.item w.after []) in (
      length w.before + 1,
      record {
        stands = λ pos. record {
          named = record {
            from_one = omega arith;
            within = omega (arith, ap length w.parts, length-append w.before (w.item ∷ w.after));
          };
          same = subst (λ (side : List AtomLit). IsSameClause (side_at sides n).literals side) (sym at) w.holds;
        };
        found = λ is. omega arith;
      },
    ))
    (λ none. (
      0,
      record { stands = λ pos. absurd (omega arith); found = λ is. absurd (none is.side is.there is.same) },
    ))
    (search_list (λ (side : List AtomLit). IsSameClause (side_at sides n).literals side)
    (decide_same (side_at sides n).literals) claim.sides)

positions_exist : (sides : List SideClause) (claim : Claim) → (positions : List ℕ) × ArePositions sides claim positions
positions_exist sides claim =
    let all = choose 0 (λ (i p : ℕ). IsPositionAt sides claim (i + 1) p) (length sides)
    (λ i lt. position_exists sides claim (i + 1)) in
    let at : (n : ℕ) → IsNumberOf sides n → IsPositionAt sides claim n (position_of all.items n) =
    λ n is.
    let low = is.from_one in
    let high = is.within in
    let same : n - 1 + 1 ≡ n = omega arith in
    subst (λ (m : ℕ). IsPositionAt sides claim m (position_of all.items n)) same (all.each (n - 1) (omega arith)) in (
      all.items,
      record {
        stands = λ n is pos. (at n is).stands pos;
        found = λ n is. (at n is.number).found is;
      },
    )

-- ---- steps

step_exists : (positions numbers : List ℕ) (source : Source) (clause : List AtomLit)
    → (step : Step) × IsMovedStep positions numbers source clause step
step_exists positions numbers (by_axiom name) clause = (Axiom name, refl)
step_exists positions numbers (by_side n) clause = (Side (position_of positions n), refl)
step_exists positions numbers (by_hints hints) clause = (
  Derived (map (moved_lit positions) clause) (map (number_in numbers) hints),
  record {
    literals = map (moved_lit positions) clause;
    same = record { there = λ l c. c; back = λ l c. c };
    is = refl;
  },
)

steps_exist : (log : OracleLog) (positions kept numbers : List ℕ)
    → (steps : List Step) × AreMoved log positions kept numbers (length kept) steps
steps_exist log positions kept numbers =
    let all = choose no_cert_step (λ (i : ℕ) (step : Step). IsMovedStep positions numbers
    (step_at log.steps (slice_index_or kept i 0)).source (step_at log.steps (slice_index_or kept i 0)).clause step)
    (length kept)
    (λ i lt. step_exists positions numbers (step_at log.steps (slice_index_or kept i 0)).source
    (step_at log.steps (slice_index_or kept i 0)).clause) in
    (all.items, record { long = all.long; each = all.each })

-- a step that refutes a claim has a refutation
pub refutation_exists : (f : Framework) (log : OracleLog) (claim : Claim) (step : ℕ) (positions : List ℕ)
    → IsRefutingStep f log claim step positions → (steps : List Step) × AreRefuting f claim steps
refutation_exists f log claim step positions refuting =
    let is = refuting.refutes.step in
    let kept = kept_exists f log step refuting.form is in
    let numbers = numbers_exist kept.0 step (length kept.0) kept.1.rises
    (kept_bounds f log step kept.0 refuting.form is kept.1) (omega arith) in
    let steps = steps_exist log positions kept.0 numbers.0 in (
      steps.0,
      trimmed_refutes f log claim step positions kept.0 numbers.0 steps.0 refuting
          (record { reached = kept.1; numbered = numbers.1.so_far; moved = steps.1 }),
    )

-- ---- certificates

pub shown_is_accepted : (f : Framework) (asked : Asked) (answer : Answer) (sets : List (List ℕ)) (log : OracleLog)
    → IsLog f log → IsGuarded log → IsShownBy f asked answer sets log → HasAccepted f asked answer sets
shown_is_accepted f asked answer sets log form guards shown =
    let list = claims f (row_of f asked answer) sets in
    let all = choose no_refutation (λ (k : ℕ) (r : Refutation). AreRefuting f (slice_index_or list k no_claim) r.steps)
    (length list) (λ k lt.
    let claim = slice_index_or list k no_claim in
    let has = shown.refuted k lt in
    let positions = positions_exist log.sides claim in
    let made = refutation_exists f log claim has.number positions.0 (record {
      form = form;
      guards = guards;
      plain = claims_plain f asked answer sets claim (Contains-get_or list k no_claim lt);
      refutes = has.refutes;
      stands = positions.1;
    }) in
    (record { steps = made.0 }, made.1)) in
    let long = all.long in
    record {
      refutations = all.items;
      accepted = record {
        tests = shown.tests;
        number = all.long;
        refutations = λ k lt. (all.each k (omega arith)).refutation;
      };
      reached = λ one c.
          let lt = c.1 in
          let at = get_or_default all.items c.0 no_refutation one c.1 ∙ c.2 in
          subst (λ (r : Refutation). AreAllReached r.steps) at (all.each c.0 (omega arith)).reached;
    }
