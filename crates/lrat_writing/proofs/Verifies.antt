-- The lines that stand for a log come to `Verified`.
use Rattle.std.proofs.Common.{◌≡◌, ◌⊎◌, ℕ, Bool, zero, suc, ◌+◌, ◌-◌, ◌<◌, ◌≤◌, true, false, not, List, [], ◌∷◌, ◌++◌, length, length-append, get_or, map, take, drop, fold, refl, sym, ap, subst, ◌∙◌, arith, append_assoc, inl, inr, ⊎_elim}
use Rattle.std.specs.Prelude.{Contains, Result, Ok}
use Rattle.std.specs.List.{range_with_len, flat_map}
use Rattle.std.specs.List.Sorted.{IsStrictlyIncreasing}
use Rattle.std.proofs.Math.Seq.{take-length}
use Rattle.std.proofs.lemmas.Bool.{cases_lt, false≢true}
use Rattle.std.proofs.lemmas.Grind.{flat_map-append}
use Rattle.std.proofs.lemmas.List.{append-nil, length-map, length-take-le, map-append, get_or-map, get_or_append_left, get_or-append-add, take_more, take-append-drop}
use Rattle.std.proofs.lemmas.List.FromFn.{length-range_with_len, get_or-range_with_len}
use Rattle.std.proofs.lemmas.List.Sums.{fold_more}
use Rattle.lists.proofs.Membership.{Contains-nil, Contains-head, Contains-cons_cases}
use Rattle.plain_lits.specs.declared.lit.Lit.{Lit}
use Rattle.plain_lits.specs.Literals.{negation, IsLitBefore, LitsRise}
use Rattle.plain_lits.specs.HintCheck.{Checks, Propagates, IsNamed, IsFalsified, clause_at}
use Rattle.plain_lits.specs.CheckLaws.{Renames, IsImage, IsMovedHint, IsMovedCheck}
use Rattle.plain_lits.proofs.HintCheckLemmas.{Contains-mapped, Contains-from_mapped, taken_sound}
use Rattle.plain_lits.proofs.LitOrder.{lit_same}
use Rattle.plain_lits.proofs.OneOutcome.{cases_lit, cases_member}
use Rattle.plain_lits.proofs.Renaming.{checks_moved}
use Rattle.hinted_log.specs.Logs.{Step, clauses_of, no_step, step_at, IsGiven, IsProof}
use Rattle.hinted_log.specs.declared.step_kind.StepKind.{StepKind}
use Rattle.hinted_log.specs.declared.step_kind.StepKind.TheVariants.{Axiom, Side, Derived}
use Rattle.lrat_text.specs.declared.verdict.Verdict.TheVariants.{Verified}
use Rattle.lrat_text.specs.Checking.{StepLine, StepList, step_line, step_list, steps_of, with_line, number_of, IsTaken, Passes, ComesTo}
use Rattle.lrat_text.proofs.NamedSteps.{number_at_index}
use Rattle.lrat_writing.specs.Walks.{shifted, shifted_clause, given_by, given_of, given_clauses, last_clause, unit_of, cnf_clauses, Walk, start, id_in, next_id, with_given, with_derived, walk_on, walk_step, walk, final_line, lines_of, step_lines}

-- ---- shifted literals

abbrev Every : Lit → Type 0
Every l = Unit {0}

shift_apart : (a b : Lit) → shifted a ≡ shifted b → a ≡ b
shift_apart a b e =
    let v : a.var + 1 ≡ b.var + 1 = ap (λ (l : Lit). l.var) e in
    lit_same a b (omega arith) (ap (λ (l : Lit). l.positive) e)

shift_renames : Renames negation negation shifted Every
shift_renames = record {
  closed = λ l h. tt;
  negates = λ l h. refl;
  apart = λ a b h k e. shift_apart a b e;
}

shift_image : (clause : List Lit) → IsImage shifted Every clause (shifted_clause clause)
shift_image clause = record {
  within = λ l c. tt;
  there = λ l c. Contains-mapped shifted clause l c;
  back = λ m c. Contains-from_mapped shifted clause m c;
}

not_twice : (b : Bool) → not (not b) ≡ b
not_twice true = refl
not_twice false = refl

negated_twice : (l : Lit) → negation (negation l) ≡ l
negated_twice l = ap (λ p. record { var = l.var; positive = p }) (not_twice l.positive)

-- no literal comes before itself
not_before_itself : (a : Lit) → IsLitBefore a a → ⊥
not_before_itself a h = ⊎_elim (λ lt. omega arith) (λ w. false≢true (sym w.1 ∙ w.2)) h

apart_from : (done ls : List Lit) (l : Lit) → LitsRise (done ++ l ∷ ls) → Contains done l → ⊥
apart_from done ls l rise c =
    let long = length-append done (l ∷ ls) in
    let before = rise.order c.0 (length done) l c.1 (omega (arith, long)) in
    let left : get_or (done ++ l ∷ ls) c.0 l ≡ l = get_or_append_left done (l ∷ ls) l c.0 c.1 ∙ c.2 in
    let there : length done ≡ length done + 0 = omega arith in
    let right : get_or (done ++ l ∷ ls) (length done) l ≡ l
    = ap (λ n. get_or (done ++ l ∷ ls) n l) there ∙ get_or-append-add done (l ∷ ls) 0 l in
    not_before_itself l (subst (λ x. IsLitBefore x l) left
    (subst (λ x. IsLitBefore (get_or (done ++ l ∷ ls) c.0 l) x) right before))

-- ---- ids in a row

row_rises : (n : ℕ) → IsStrictlyIncreasing (range_with_len 1 n)
row_rises n k within =
    let long = length-range_with_len 1 n in
    let a = get_or-range_with_len 1 n k 0 (omega (arith, long)) in
    let b = get_or-range_with_len 1 n (k + 1) 0 (omega (arith, long)) in
    omega (arith, a, b)

number_itself : (n id : ℕ) → 0 < id → id ≤ n → number_of (range_with_len 1 n) id ≡ id
number_itself n id above le =
    let long = length-range_with_len 1 n in
    let at = get_or-range_with_len 1 n (id - 1) 0 (omega arith) in
    let is = number_at_index (range_with_len 1 n) (id - 1) id (row_rises n) (omega (arith, long)) (omega (arith, at)) in
    omega (arith, is)

pub row_more : (a n : ℕ) → range_with_len a n ++ (a + n) ∷ [] ≡ range_with_len a (n + 1)
row_more a zero = let e : a + 0 ≡ a = omega arith in ap (λ x. x ∷ []) e
row_more a (suc n) =
    let e : a + suc n ≡ (a + 1) + n = omega arith in
    let e' : suc (n + 1) ≡ suc n + 1 = omega arith in
    ap (λ r. a ∷ r) (ap (λ x. range_with_len (a + 1) n ++ x ∷ []) e ∙ row_more (a + 1) n)
    ∙ ap (λ m. range_with_len a m) e'

-- ---- a clause at an id

pub record IsAt (clauses : List (List Lit)) (id : ℕ) (clause : List Lit) : Type 0 where
  pub from_one : 0 < id
  pub within : id ≤ length clauses
  pub is : clause_at clauses id ≡ clause

at_more : (clauses more : List (List Lit)) (id : ℕ) (clause : List Lit) → IsAt clauses id clause
    → IsAt (clauses ++ more) id clause
at_more clauses more id clause h =
    let low = h.from_one in
    let high = h.within in
    let long = length-append clauses more in
    record {
      from_one = low;
      within = omega (arith, long);
      is = get_or_append_left clauses more [] (id - 1) (omega arith) ∙ h.is;
    }

at_index : (front back : List (List Lit)) (clause : List Lit) → IsAt (front ++ clause ∷ back) (length front + 1) clause
at_index front back clause =
    let long = length-append front (clause ∷ back) in
    let there : length front + 1 - 1 ≡ length front + 0 = omega arith in
    record {
      from_one = omega arith;
      within = omega (arith, long);
      is = ap (λ n. get_or (front ++ clause ∷ back) n []) there ∙ get_or-append-add front (clause ∷ back) 0 [];
    }

at_place : (clauses front back : List (List Lit)) (id : ℕ) (clause : List Lit) → clauses ≡ front ++ clause ∷ back
    → id ≡ length front + 1 → IsAt clauses id clause
at_place clauses front back id clause cut e =
    subst (λ n. IsAt clauses n clause) (sym e) (subst (λ cs. IsAt cs (length front + 1) clause) (sym cut)
    (at_index front back clause))

-- ---- the walk

abbrev pub line_clauses : List StepLine → List (List Lit)
line_clauses lines = map (λ (l : StepLine). l.clause) lines

abbrev pub all_clauses : List (List Lit) → List StepLine → List (List Lit)
all_clauses cnf lines = cnf ++ line_clauses lines

abbrev state : List (List Lit) → List StepLine → StepList
state cnf lines = step_list (range_with_len 1 (length cnf + length lines)) (all_clauses cnf lines)

pub all_long : (cnf : List (List Lit)) (lines : List StepLine)
    → length (all_clauses cnf lines) ≡ length cnf + length lines
all_long cnf lines =
    let a = length-append cnf (line_clauses lines) in
    let b = length-map lines (λ (l : StepLine). l.clause) in
    omega (arith, a, b)

all_more : (cnf : List (List Lit)) (lines : List StepLine) (line : StepLine)
    → all_clauses cnf (lines ++ line ∷ []) ≡ all_clauses cnf lines ++ line.clause ∷ []
all_more cnf lines line = ap (λ cs. cnf ++ cs) (map-append (λ (l : StepLine). l.clause) lines (line ∷ []))
    ∙ sym (append_assoc cnf (line_clauses lines) (line.clause ∷ []))

pub record Kept (cnf : List (List Lit)) (steps : List Step) (k : ℕ) (w : Walk) : Type 0 where
  pub long : length w.ids ≡ k
  pub given : w.given ≡ length (given_clauses (take k steps))
  pub named : (number : ℕ) → 0 < number → number ≤ k
      → IsAt (all_clauses cnf w.lines) (id_in w.ids number) (shifted_clause (step_at steps number).clause)
  pub comes : (more : List StepLine) → ComesTo (state cnf w.lines) more Verified
      → ComesTo (steps_of cnf) (w.lines ++ more) Verified

no_more : (n : ℕ) → n + 0 ≡ n
no_more n = omega arith

kept_start : (cnf : List (List Lit)) (steps : List Step) → Kept cnf steps 0 start
kept_start cnf steps = record {
  long = refl;
  given = refl;
  named = λ number above le. absurd (omega arith);
  comes = λ more h. subst (λ st. ComesTo st more Verified)
      (ap (λ n. step_list (range_with_len 1 n) (cnf ++ [])) (no_more (length cnf))
      ∙ ap (λ cs. step_list (range_with_len 1 (length cnf)) cs) (append-nil cnf)) h;
}

named_push : (steps : List Step) (k : ℕ) (ids : List ℕ) (clauses more : List (List Lit)) (x : ℕ) → length ids ≡ k
    → ((number : ℕ) → 0 < number → number ≤ k → IsAt clauses (id_in ids number) (shifted_clause (step_at steps number).clause))
    → IsAt (clauses ++ more) x (shifted_clause (get_or steps k no_step).clause)
    → (number : ℕ) → 0 < number → number ≤ k + 1
    → IsAt (clauses ++ more) (id_in (ids ++ x ∷ []) number) (shifted_clause (step_at steps number).clause)
named_push steps k ids clauses more x long named here number above le = elim (cases_lt k number) [
  | inl new ↦
      let at : number - 1 ≡ k = omega arith in
      let there : number - 1 ≡ length ids + 0 = omega (arith, long) in
      let id : get_or (ids ++ x ∷ []) (number - 1) 0 ≡ x
      = ap (λ n. get_or (ids ++ x ∷ []) n 0) there ∙ get_or-append-add ids (x ∷ []) 0 0 in
      subst (λ n. IsAt (clauses ++ more) n (shifted_clause (step_at steps number).clause)) (sym id)
      (subst (λ n. IsAt (clauses ++ more) x (shifted_clause (get_or steps n no_step).clause)) (sym at) here)
  | inr old ↦
      let id : get_or (ids ++ x ∷ []) (number - 1) 0 ≡ get_or ids (number - 1) 0
      = get_or_append_left ids (x ∷ []) 0 (number - 1) (omega arith) in
      subst (λ n. IsAt (clauses ++ more) n (shifted_clause (step_at steps number).clause)) (sym id)
      (at_more clauses more (id_in ids number) (shifted_clause (step_at steps number).clause)
      (named number above (omega arith)))
]

pushed_long : (ids : List ℕ) (k x : ℕ) → length ids ≡ k → length (ids ++ x ∷ []) ≡ k + 1
pushed_long ids k x long = let a = length-append ids (x ∷ []) in omega (arith, a)

-- the clauses that are given among one step more
given_more : (steps : List Step) (k : ℕ) (kind : StepKind) → k < length steps → (get_or steps k no_step).kind ≡ kind
    → given_clauses (take (k + 1) steps) ≡ given_clauses (take k steps) ++ given_by kind (get_or steps k no_step).clause
given_more steps k kind lt e =
    let s = get_or steps k no_step in
    ap given_clauses (take_more steps k no_step lt) ∙ flat_map-append given_of (take k steps) (s ∷ [])
    ∙ ap (λ x. given_clauses (take k steps) ++ x) (append-nil (given_of s) ∙ ap (λ kd. given_by kd s.clause) e)

-- where such a clause stands
given_cut : (steps : List Step) (k : ℕ) (kind : StepKind) → k < length steps → (get_or steps k no_step).kind ≡ kind
    → given_by kind (get_or steps k no_step).clause ≡ (get_or steps k no_step).clause ∷ []
    → (back : List (List Lit)) × (cnf_clauses steps ≡ map shifted_clause (given_clauses (take k steps))
    ++ shifted_clause (get_or steps k no_step).clause ∷ back)
given_cut steps k kind lt e one =
    let s = get_or steps k no_step in
    let front = given_clauses (take k steps) in
    let behind = given_clauses (drop (k + 1) steps) in
    let units = map unit_of (last_clause steps) in
    let all : given_clauses steps ≡ (front ++ s.clause ∷ []) ++ behind
    = ap given_clauses (sym (take-append-drop (k + 1) steps))
    ∙ flat_map-append given_of (take (k + 1) steps) (drop (k + 1) steps)
    ∙ ap (λ x. x ++ behind) (given_more steps k kind lt e ∙ ap (λ x. front ++ x) one) in
    let whole : given_clauses steps ++ units ≡ front ++ s.clause ∷ (behind ++ units)
    = ap (λ x. x ++ units) (all ∙ append_assoc front (s.clause ∷ []) behind)
    ∙ append_assoc front (s.clause ∷ behind) units in (
      map shifted_clause (behind ++ units),
      ap (map shifted_clause) whole ∙ map-append shifted_clause front (s.clause ∷ (behind ++ units)),
    )

kept_given : (steps : List Step) (k : ℕ) (w : Walk) (kind : StepKind) → k < length steps
    → (get_or steps k no_step).kind ≡ kind
    → given_by kind (get_or steps k no_step).clause ≡ (get_or steps k no_step).clause ∷ []
    → Kept (cnf_clauses steps) steps k w → Kept (cnf_clauses steps) steps (k + 1) (with_given w)
kept_given steps k w kind lt e one h =
    let cnf = cnf_clauses steps in
    let cut = given_cut steps k kind lt e one in
    let counted = h.given in
    let long = length-map (given_clauses (take k steps)) shifted_clause in
    let here : IsAt cnf (w.given + 1) (shifted_clause (get_or steps k no_step).clause)
    = at_place cnf (map shifted_clause (given_clauses (take k steps))) cut.0 (w.given + 1)
    (shifted_clause (get_or steps k no_step).clause) cut.1 (omega (arith, long, counted)) in
    let at : IsAt (all_clauses cnf w.lines ++ []) (w.given + 1) (shifted_clause (get_or steps k no_step).clause)
    = at_more (all_clauses cnf w.lines) [] (w.given + 1) (shifted_clause (get_or steps k no_step).clause)
    (at_more cnf (line_clauses w.lines) (w.given + 1) (shifted_clause (get_or steps k no_step).clause) here) in
    record {
      long = pushed_long w.ids k (w.given + 1) h.long;
      given =
          let a = ap length (given_more steps k kind lt e ∙ ap (λ x. given_clauses (take k steps) ++ x) one) in
          let b = length-append (given_clauses (take k steps)) ((get_or steps k no_step).clause ∷ []) in
          omega (arith, a, b, counted);
      named = λ number above le.
          subst (λ cs. IsAt cs (id_in (w.ids ++ (w.given + 1) ∷ []) number) (shifted_clause (step_at steps number).clause))
          (append-nil (all_clauses cnf w.lines))
          (named_push steps k w.ids (all_clauses cnf w.lines) [] (w.given + 1) h.long h.named at number above le);
      comes = h.comes;
    }

-- ---- a derived step

twice : (f g : ℕ → ℕ) (ns : List ℕ) → map (λ n. f (g n)) ns ≡ map f (map g ns)
twice f g [] = refl
twice f g (n ∷ ns) = ap (λ r. f (g n) ∷ r) (twice f g ns)

taken_clause : (steps : List Step) (k number : ℕ) → k ≤ length steps → 0 < number → number ≤ k
    → clause_at (clauses_of (take k steps)) number ≡ (step_at steps number).clause
taken_clause steps k number within above le =
    let long = length-take-le k steps within in
    get_or-map (λ (s : Step). s.clause) (take k steps) (number - 1) no_step [] (omega (arith, long))
    ∙ ap (λ (s : Step). s.clause)
    (sym (get_or_append_left (take k steps) (drop k steps) no_step (number - 1) (omega (arith, long)))
    ∙ ap (λ ss. get_or ss (number - 1) no_step) (take-append-drop k steps))

-- the hints of a derived step name steps before it
pub hint_named : (steps : List Step) (k : ℕ) (clause : List Lit) (hints : List ℕ) → k ≤ length steps
    → Checks negation (clauses_of (take k steps)) clause hints (Ok (length hints))
    → (hint : ℕ) → Contains hints hint → (0 < hint) × (hint ≤ k)
hint_named steps k clause hints within check hint c =
    let sound = taken_sound negation (clauses_of (take k steps)) clause hints (length hints) check in
    let named = sound.named hint (subst (λ hs. Contains hs hint) (sym (take-length hints)) c) in
    let long = length-map (take k steps) (λ (s : Step). s.clause) in
    let longer = length-take-le k steps within in
    let high = named.within in
    (named.from_one, omega (arith, long, longer))

derived_passes : (cnf : List (List Lit)) (steps : List Step) (k : ℕ) (w : Walk) (clause : List Lit) (hints : List ℕ)
    → k ≤ length steps → Kept cnf steps k w
    → Checks negation (clauses_of (take k steps)) clause hints (Ok (length hints))
    → Passes (state cnf w.lines) (step_line (next_id (length cnf) w) (shifted_clause clause) (map (id_in w.ids) hints))
derived_passes cnf steps k w clause hints within h check =
    let n = length cnf + length w.lines in
    let new = all_clauses cnf w.lines in
    let whole = all_long cnf w.lines in
    let number : ℕ → ℕ = λ hint. number_of (range_with_len 1 n) (id_in w.ids hint) in
    let old = clauses_of (take k steps) in
    let sound = taken_sound negation old clause hints (length hints) check in
    let long : length old ≡ k = length-map (take k steps) (λ (s : Step). s.clause) ∙ length-take-le k steps within in
    let moved : IsMovedCheck shifted Every number old new clause (shifted_clause clause) hints = record {
      clause_image = shift_image clause;
      each = λ hint c.
          let named = sound.named hint (subst (λ hs. Contains hs hint) (sym (take-length hints)) c) in
          let low = named.from_one in
          let high = named.within in
          let le : hint ≤ k = omega (arith, long) in
          let at = h.named hint low le in
          let top = at.within in
          let e : number hint ≡ id_in w.ids hint = number_itself n (id_in w.ids hint) at.from_one (omega (arith, whole)) in
          let is : clause_at new (number hint) ≡ shifted_clause (step_at steps hint).clause
          = ap (clause_at new) e ∙ at.is in
          record {
            named = (
              λ _. subst (λ x. IsNamed new x) (sym e) (record { from_one = at.from_one; within = at.within }),
              λ _. named,
            );
            image = λ _. subst (λ x. IsImage shifted Every x (clause_at new (number hint)))
                (sym (taken_clause steps k hint within low le))
                (subst (λ x. IsImage shifted Every (step_at steps hint).clause x) (sym is)
                (shift_image (step_at steps hint).clause));
          };
    } in (
      length hints,
      subst (λ hs. Checks negation new (shifted_clause clause) hs (Ok (length hints)))
          (twice (number_of (range_with_len 1 n)) (id_in w.ids) hints)
          (checks_moved negation negation shifted Every shift_renames number old new clause (shifted_clause clause) hints
          moved (Ok (length hints)) check),
    )

comes_one : (st next : StepList) (line : StepLine) (more : List StepLine) → Passes st line → next ≡ with_line st line
    → ComesTo next more Verified → ComesTo st (line ∷ more) Verified
comes_one st next line more passes same h = by_clause line.clause refl
  where
    by_clause : (clause : List Lit) → line.clause ≡ clause → ComesTo st (line ∷ more) Verified
    by_clause [] e = inr (inl (passes, e, refl))
    by_clause (l ∷ ls) e = inr (inr (
      passes,
      λ none. Contains-nil l (subst (λ c. Contains c l) (sym e ∙ none) (Contains-head l ls l refl)),
      subst (λ s. ComesTo s more Verified) same h,
    ))

kept_derived : (steps : List Step) (k : ℕ) (w : Walk) → k < length steps → (get_or steps k no_step).kind ≡ Derived
    → Checks negation (clauses_of (take k steps)) (get_or steps k no_step).clause (get_or steps k no_step).hints
    (Ok (length (get_or steps k no_step).hints))
    → Kept (cnf_clauses steps) steps k w
    → Kept (cnf_clauses steps) steps (k + 1)
    (with_derived (length (cnf_clauses steps)) w (get_or steps k no_step).clause (get_or steps k no_step).hints)
kept_derived steps k w lt e check h =
    let cnf = cnf_clauses steps in
    let s = get_or steps k no_step in
    let id = next_id (length cnf) w in
    let line = step_line id (shifted_clause s.clause) (map (id_in w.ids) s.hints) in
    let more_lines = w.lines ++ line ∷ [] in
    let whole = all_long cnf w.lines in
    let counted = h.given in
    let here : IsAt (all_clauses cnf w.lines ++ line.clause ∷ []) id (shifted_clause s.clause)
    = at_place (all_clauses cnf w.lines ++ line.clause ∷ []) (all_clauses cnf w.lines) [] id (shifted_clause s.clause) refl
    (omega (arith, whole)) in
    let added = length-append w.lines (line ∷ []) in
    let n = length cnf + length w.lines in
    let count : length cnf + length more_lines ≡ n + 1 = omega (arith, added) in
    let top : 1 + n ≡ id = omega arith in
    let next : state cnf more_lines ≡ with_line (state cnf w.lines) line
    = ap (λ m. step_list (range_with_len 1 m) (all_clauses cnf more_lines)) count
    ∙ (ap (λ ids. step_list ids (all_clauses cnf more_lines))
    (sym (row_more 1 n) ∙ ap (λ x. range_with_len 1 n ++ x ∷ []) top)
    ∙ ap (λ cs. step_list (range_with_len 1 (length cnf + length w.lines) ++ id ∷ []) cs) (all_more cnf w.lines line)) in
    record {
      long = pushed_long w.ids k id h.long;
      given =
          let a = ap length (given_more steps k Derived lt e) in
          let b = length-append (given_clauses (take k steps)) [] in
          omega (arith, a, b, counted);
      named = λ number above le.
          subst (λ cs. IsAt cs (id_in (w.ids ++ id ∷ []) number) (shifted_clause (step_at steps number).clause))
          (sym (all_more cnf w.lines line))
          (named_push steps k w.ids (all_clauses cnf w.lines) (line.clause ∷ []) id h.long h.named here number above le);
      comes = λ more c.
          subst (λ ls. ComesTo (steps_of cnf) ls Verified) (sym (append_assoc w.lines (line ∷ []) more))
          (h.comes (line ∷ more) (comes_one (state cnf w.lines) (state cnf more_lines) line more
          (derived_passes cnf steps k w s.clause s.hints (omega arith) h check) next c));
    }

kept_next : (steps : List Step) (k : ℕ) (w : Walk) (kind : StepKind) → k < length steps
    → (get_or steps k no_step).kind ≡ kind → IsGiven (take k steps) (get_or steps k no_step) kind
    → Kept (cnf_clauses steps) steps k w
    → Kept (cnf_clauses steps) steps (k + 1)
    (walk_on (length (cnf_clauses steps)) w kind (get_or steps k no_step).clause (get_or steps k no_step).hints)
kept_next steps k w Axiom lt e meets h = kept_given steps k w Axiom lt e refl h
kept_next steps k w Side lt e meets h = kept_given steps k w Side lt e refl h
kept_next steps k w Derived lt e meets h = kept_derived steps k w lt e meets h

abbrev pub walk_to : List Step → ℕ → Walk
walk_to steps k = walk (length (cnf_clauses steps)) (take k steps)

pub kept_all : (steps : List Step) (k : ℕ) → IsProof steps → k ≤ length steps
    → Kept (cnf_clauses steps) steps k (walk_to steps k)
kept_all steps zero proof le = kept_start (cnf_clauses steps) steps
kept_all steps (suc k) proof le =
    let s = get_or steps k no_step in
    let count = length (cnf_clauses steps) in
    let lt : k < length steps = omega arith in
    let next = kept_next steps k (walk_to steps k) s.kind lt refl (proof.each k lt)
    (kept_all steps k proof (omega arith)) in
    let at : k + 1 ≡ suc k = omega arith in
    subst (λ j. Kept (cnf_clauses steps) steps j (walk_to steps j)) at
    (subst (λ w. Kept (cnf_clauses steps) steps (k + 1) w)
    (sym (fold_more (walk_step count) start steps k no_step lt)) next)

-- ---- the line without literals

abbrev AreUnits : List (List Lit) → ℕ → List Lit → Type 0
AreUnits clauses first [] = Unit {0}
AreUnits clauses first (l ∷ ls) = IsAt clauses first (negation (shifted l) ∷ []) × AreUnits clauses (first + 1) ls

abbrev denials : List Lit → List Lit
denials ls = map negation (map shifted ls)

denials_more : (done : List Lit) (l : Lit) → denials (done ++ l ∷ []) ≡ denials done ++ negation (shifted l) ∷ []
denials_more done l = ap (map negation) (map-append shifted done (l ∷ []))
    ∙ map-append negation (map shifted done) (shifted l ∷ [])

not_denied : (done ls : List Lit) (l : Lit) → LitsRise (done ++ l ∷ ls)
    → Contains (denials done) (negation (shifted l)) → ⊥
not_denied done ls l rise c =
    let w = Contains-from_mapped negation (map shifted done) (negation (shifted l)) c in
    let v = Contains-from_mapped shifted done w.0 w.1 in
    let same : shifted v.0 ≡ shifted l
    = v.2 ∙ (sym (negated_twice w.0) ∙ (ap negation w.2 ∙ negated_twice (shifted l))) in
    apart_from done ls l rise (subst (λ x. Contains done x) (shift_apart v.0 l same) v.1)

units_go : (clauses : List (List Lit)) (f : ℕ → ℕ) (done ls : List Lit) (first place : ℕ) (tail : List ℕ)
    → ((id : ℕ) → 0 < id → id ≤ length clauses → f id ≡ id) → AreUnits clauses first ls → LitsRise (done ++ ls)
    → ((p : ℕ) → (n : ℕ) × Propagates negation clauses (denials (done ++ ls)) p (map f tail) (Ok n))
    → (n : ℕ) × Propagates negation clauses (denials done) place (map f (range_with_len first (length ls) ++ tail)) (Ok n)
units_go clauses f done [] first place tail itself units rise h =
    subst (λ ds. (n : ℕ) × Propagates negation clauses (denials ds) place (map f tail) (Ok n)) (append-nil done) (h place)
units_go clauses f done (l ∷ ls) first place tail itself units rise h =
    let u = negation (shifted l) in
    let at = units.0 in
    let e : f first ≡ first = itself first at.from_one at.within in
    let named : IsNamed clauses (f first) = subst (λ x. IsNamed clauses x) (sym e)
    (record { from_one = at.from_one; within = at.within }) in
    let is : clause_at clauses (f first) ≡ u ∷ [] = ap (clause_at clauses) e ∙ at.is in
    elim (cases_member cases_lit (denials done) (negation u)) [
      | inl false_one ↦ (
        place,
        inl (
          record {
            named = named;
            all_false = record {
              each = λ m c. ⊎_elim (λ (q : u ≡ m). subst (λ x. Contains (denials done) (negation x)) q false_one)
                  (λ rest. absurd (Contains-nil m rest))
                  (Contains-cons_cases u [] m (subst (λ x. Contains x m) is c));
            };
          },
          refl,
        ),
      )
      | inr unset ↦
          let rest = units_go clauses f (done ++ l ∷ []) ls (first + 1) (place + 1) tail itself units.1
          (subst (λ x. LitsRise x) (sym (append_assoc done (l ∷ []) ls)) rise)
          (λ p. subst (λ x. (n : ℕ) × Propagates negation clauses (denials x) p (map f tail) (Ok n))
          (sym (append_assoc done (l ∷ []) ls)) (h p)) in (
            rest.0,
            inr (inl (
              u,
              record {
                named = named;
                unit = record {
                  there = subst (λ x. Contains x u) (sym is) (Contains-head u [] u refl);
                  not_true = not_denied done ls l rise;
                  not_false = unset;
                  others = λ m c ne. ⊎_elim (λ (q : u ≡ m). absurd (ne (sym q))) (λ more. absurd (Contains-nil m more))
                      (Contains-cons_cases u [] m (subst (λ x. Contains x m) is c));
                };
              },
              subst (λ ts. Propagates negation clauses ts (place + 1) (map f (range_with_len (first + 1) (length ls) ++ tail))
                  (Ok rest.0)) (denials_more done l) rest.1,
            )),
          )
    ]

are_units : (clauses front back : List (List Lit)) (ls : List Lit)
    → clauses ≡ front ++ (map shifted_clause (map unit_of ls) ++ back) → AreUnits clauses (length front + 1) ls
are_units clauses front back [] cut = tt
are_units clauses front back (l ∷ ls) cut =
    let u = negation (shifted l) ∷ [] in
    let rest = map shifted_clause (map unit_of ls) ++ back in
    let long = length-append front (u ∷ []) in
    let next : length (front ++ u ∷ []) + 1 ≡ length front + 1 + 1 = omega (arith, long) in (
      at_place clauses front rest (length front + 1) u cut refl,
      subst (λ n. AreUnits clauses n ls) next
          (are_units clauses (front ++ u ∷ []) back ls (cut ∙ sym (append_assoc front (u ∷ []) rest))),
    )

final_passes : (steps : List Step) (w : Walk) → 0 < length steps → LitsRise (last_clause steps)
    → Kept (cnf_clauses steps) steps (length steps) w
    → Passes (state (cnf_clauses steps) w.lines) (final_line (length (cnf_clauses steps)) steps w)
final_passes steps w some rise h =
    let cnf = cnf_clauses steps in
    let clauses = all_clauses cnf w.lines in
    let n = length cnf + length w.lines in
    let whole = all_long cnf w.lines in
    let f : ℕ → ℕ = number_of (range_with_len 1 n) in
    let last = last_clause steps in
    let given = given_clauses steps in
    let front = map shifted_clause given in
    let long = length-map given shifted_clause in
    let itself : (id : ℕ) → 0 < id → id ≤ length clauses → f id ≡ id
    = λ id above le. number_itself n id above (omega (arith, whole)) in
    let cut : clauses ≡ front ++ (map shifted_clause (map unit_of last) ++ line_clauses w.lines)
    = ap (λ x. x ++ line_clauses w.lines) (map-append shifted_clause given (map unit_of last))
    ∙ append_assoc front (map shifted_clause (map unit_of last)) (line_clauses w.lines) in
    let units : AreUnits clauses (length given + 1) last
    = subst (λ m. AreUnits clauses (m + 1) last) long (are_units clauses front (line_clauses w.lines) last cut) in
    let at = h.named (length steps) some (omega arith) in
    let id = id_in w.ids (length steps) in
    let e : f id ≡ id = itself id at.from_one at.within in
    let falsified : IsFalsified negation (denials last) (clause_at clauses (f id)) = record {
      each = λ m c. Contains-mapped negation (shifted_clause last) m
          (subst (λ x. Contains x m) (ap (clause_at clauses) e ∙ at.is) c);
    } in
    let end : (p : ℕ) → (m : ℕ) × Propagates negation clauses (denials last) p (map f (id ∷ [])) (Ok m)
    = λ p. (
      p,
      inl (
        record {
          named = subst (λ x. IsNamed clauses x) (sym e) (record { from_one = at.from_one; within = at.within });
          all_false = falsified;
        },
        refl,
      ),
    ) in
    let go = units_go clauses f [] last (length given + 1) 1 (id ∷ []) itself units rise end in
    (go.0, inr (λ t. Contains-nil t.0 t.1, go.1))

pub log_verified : (steps : List Step) → IsProof steps → 0 < length steps → LitsRise (last_clause steps)
    → ComesTo (steps_of (cnf_clauses steps)) (step_lines steps) Verified
log_verified steps proof some rise =
    let count = length (cnf_clauses steps) in
    let all : Kept (cnf_clauses steps) steps (length steps) (walk count steps)
    = subst (λ ss. Kept (cnf_clauses steps) steps (length steps) (walk count ss)) (take-length steps)
    (kept_all steps (length steps) proof (omega arith)) in
    let w = walk count steps in
    all.comes (final_line count steps w ∷ []) (inr (inl (final_passes steps w some rise all, refl, refl)))
