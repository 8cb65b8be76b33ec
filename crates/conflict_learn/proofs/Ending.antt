-- What a walk to its end proves of the clause.
use Rattle.std.proofs.Common.{◌≡◌, ℕ, ◌<◌, ◌≤◌, ◌+◌, ◌-◌, true, List, [], ◌∷◌, ◌++◌}
use Rattle.std.proofs.Common.{length, get_or}
use Rattle.std.proofs.Common.{map, reverse, arith, ap, sym, subst, ◌∙◌, ⊎_elim, inl, inr, Ok, Err, Result, IfOk}
use Rattle.std.specs.Prelude.{◌⊎◌, Contains}
use Rattle.std.proofs.lemmas.Bool.{cases_Bool, ltb-true, eqb-true}
use Rattle.std.proofs.lemmas.List.Elements.{Contains-append_left}
use Rattle.lists.proofs.Membership.{Contains-pushed}
use Rattle.plain_lits.specs.declared.lit.Lit.{Lit}
use Rattle.plain_lits.specs.Literals.{negation, IsClauseOf}
use Rattle.plain_lits.specs.HintCheck.{clause_at, Propagates, Checks}
use Rattle.unit_propagate.specs.Search.{Search, IsSearch, IsConflict}
use Rattle.clause_watches.proofs.Fronts.{pushed_cases, consistent}
use Rattle.conflict_learn.specs.declared.workspace.Border.{Border}
use Rattle.conflict_learn.specs.declared.learner.Core.{Core}
use Rattle.conflict_learn.specs.declared.workspace.Border.TheVariants.{Below, Assumed}
use Rattle.conflict_learn.specs.Learning.{StandsAt, IsSettled, IsLearned}
use Rattle.conflict_learn.specs.Learning.{IsAssumed, last_start}
use Rattle.conflict_learn.specs.Analyses.{Analysis, IsCounted, IsAt, IsFirstUip}
use Rattle.conflict_learn.specs.Analyses.{AreLeft, HasMetAll}
use Rattle.conflict_learn.specs.Analyses.{is_kept, is_open}
use Rattle.conflict_learn.proofs.Literally.{stands_same, stands_contains}
use Rattle.conflict_learn.proofs.Literally.{stands_front, but_is}
use Rattle.conflict_learn.proofs.Walking.{HasOpen, open_some}
use Rattle.lists.proofs.Images.{image_there, image_from}
use Rattle.plain_lits.proofs.CheckingLemmas.{negation-negation, negation_same}

-- a clause has the literals of the walk's clause, and the negations of the open ones
pub record Concludes (s : Search) (border : Border) (a : Analysis) (clause : List Lit) : Type 0 where
  pub kept_in : (l : Lit) → Contains a.clause l → Contains clause l
  pub open_in : (k : ℕ) (l : Lit) → is_open border s.reasons a.marks k ≡ true → StandsAt s.lits k (negation l)
      → Contains clause l
  pub back : (l : Lit) → Contains clause l
      → Contains a.clause l ⊎ HasOpen s.lits (is_open border s.reasons a.marks) l

pub concluded_false : (s : Search) (border : Border) (a : Analysis) (clause : List Lit) → IsCounted s border a
    → Concludes s border a clause → (l : Lit) → Contains clause l → Contains s.lits (negation l)
concluded_false s border a clause h c l m =
    ⊎_elim (λ kept. let k = h.kept l kept in stands_contains s.lits k.0 (negation l) k.1)
    (λ o. stands_contains s.lits o.0 (negation l) o.1)
    (c.back l m)

from_negated : (x l : Lit) → negation x ≡ l → x ≡ negation l
from_negated x l e = sym (negation-negation x) ∙ ap negation e

is_negated : (x l : Lit) → negation x ≡ l → negation x ≡ l
is_negated x l e = e

concluded_taken : (s : Search) (border : Border) (a : Analysis) (index : ℕ) (clause : List Lit) → IsSearch s
    → IsAt s border a index → Concludes s border a clause
    → Checks negation s.clauses clause (reverse a.hints) (Ok (length (reverse a.hints)))
concluded_taken s border a index clause form at c =
    let truths = map negation clause in
    let all_false = concluded_false s border a clause at.counted c in
    let leads = at.walk.leads truths
    (λ k l marked st. subst (Contains truths) (negation-negation l)
    (image_there negation clause (negation l) (c.open_in k (negation l) marked
    (subst (StandsAt s.lits k) (sym (negation-negation l)) st))))
    (λ l kept. image_there negation clause l (c.kept_in l kept))
    (λ l t. let m = image_from negation clause l t in ⊎_elim
    (λ kept. inr (subst (Contains a.clause) (from_negated m.0 l m.2) kept))
    (λ o. inl (stands_front s.lits o.0 index l (subst (StandsAt s.lits o.0) (is_negated m.0 l m.2) o.1)
    (at.below o.0 o.2)))
    (c.back m.0 m.1))
    1 in
    let same : 1 + length (reverse a.hints) - 1 ≡ length (reverse a.hints) = omega arith in
    inr (
      λ t. consistent s.lits (negation t.0) form.apart (all_false t.0 t.1) (all_false (negation t.0) t.2),
      subst (λ (n : ℕ). Propagates negation s.clauses truths 1 (reverse a.hints) (Ok n)) same leads,
    )

-- what the walk has shown of a clause
pub concluded : (s : Search) (border : Border) (a : Analysis) (index : ℕ) (clause : List Lit) (hints : List ℕ)
    → IsSearch s → IsAt s border a index → Concludes s border a clause → hints ≡ reverse a.hints
    → IsLearned s.clauses s.lits clause hints
concluded s border a index clause hints form at c hints_are =
    subst (IsLearned s.clauses s.lits clause) (sym hints_are) (record {
      taken = concluded_taken s border a index clause form at c;
      used = record {
        each = λ hint l h m. ⊎_elim
            (λ kept. inl (c.kept_in l kept))
            (λ rest. ⊎_elim (λ o. inl (c.open_in o.0 l o.2 o.1)) (λ other. inr other) rest)
            (at.walk.used hint l h m);
      };
      from_hints = record {
        each = λ l m. ⊎_elim (λ kept. at.walk.kept_come l kept) (λ o. at.walk.open_come o.0 l o.2 o.1) (c.back l m);
      };
      all_false = record { each = concluded_false s border a clause at.counted c };
    })

-- where nothing is open the clause is the walk's
pub concludes_none : (s : Search) (border : Border) (a : Analysis) (clause : List Lit) → IsCounted s border a
    → a.open_count ≡ 0 → IsClauseOf a.clause clause → Concludes s border a clause
concludes_none s border a clause h none is = record {
  kept_in = λ l c. (is.members l).1 c;
  open_in = λ k l e. let some = open_some s border a k h e in absurd (omega (arith, some, none));
  back = λ l c. inl ((is.members l).0 c);
}

pub left_none : (s : Search) (border : Border) (a : Analysis) → IsCounted s border a → a.open_count ≡ 0
    → AreLeft s.lits a.clause a.marks 0
left_none s border a h none = record {
  within = h.within;
  each = λ k l e st. ⊎_elim
      (λ kept. let c = h.in_clause k l e kept st in (c.0, omega arith, c.1, c.2))
      (λ unkept. let some = open_some s border a k h (but_is _ _ e unkept) in absurd (omega (arith, some, none)))
      (cases_Bool (is_kept border s.reasons k));
  long = h.long;
}

pub kept_false : (s : Search) (border : Border) (a : Analysis) → IsCounted s border a → (l : Lit)
    → Contains a.clause l → Contains s.lits (negation l)
kept_false s border a h l c = let k = h.kept l c in stands_contains s.lits k.0 (negation l) k.1

-- and its literals are negated assumptions, where these are kept
pub concluded_assumed : (s : Search) (a : Analysis) (clause : List Lit) → IsCounted s Assumed a → a.open_count ≡ 0
    → IsClauseOf a.clause clause → (l : Lit) → Contains clause l → IsAssumed s l
concluded_assumed s a clause h none is l c =
    let k = h.kept l ((is.members l).0 c) in
    record { index = k.0; stands = k.1; free = eqb-true (get_or s.reasons k.0 0) 0 k.2 }

-- where a level was settled, a false clause has a literal of it
pub settled_open : (s : Search) (a : Analysis) (conflict : ℕ) → IsConflict s.clauses s.lits conflict
    → IsAt s (Below (last_start s)) a (length s.lits)
    → HasMetAll s (Below (last_start s)) a (clause_at s.clauses conflict) → a.open_count ≡ 0 → IsSettled s → ⊥
settled_open s a conflict bad at met none settled =
    settled.not_false conflict bad.named (record {
      each = λ l c. ⊎_elim
          (λ kept. let k = at.counted.kept l kept in
          stands_front s.lits k.0 (last_start s) (negation l) k.1 (ltb-true k.0 (last_start s) k.2))
          (λ o. let some = open_some s (Below (last_start s)) a o.0 at.counted o.2 in
          absurd (omega (arith, some, none)))
          (met.each l c);
    })

-- the clause with the negation of the implication point
pub concludes_uip : (s : Search) (start index : ℕ) (a : Analysis) (u : Lit) (more clause : List Lit)
    → IsFirstUip s start a index → StandsAt s.lits index (negation u) → more ≡ a.clause ++ u ∷ []
    → IsClauseOf more clause → Concludes s (Below start) a clause
concludes_uip s start index a u more clause f at e is =
    let into : (l : Lit) → Contains (a.clause ++ u ∷ []) l → Contains clause l =
    λ l c. (is.members l).1 (subst (λ (xs : List Lit). Contains xs l) (sym e) c) in
    record {
      kept_in = λ l c. into l (Contains-append_left a.clause (u ∷ []) l c);
      open_in = λ k l o st. into l (Contains-pushed a.clause u l (negation_same u l
          (stands_same s.lits index (negation u) (negation l) at
          (subst (λ n. StandsAt s.lits n (negation l)) (f.last.alone k o) st))));
      back = λ l c. ⊎_elim
          (λ old. inl old)
          (λ same. inr (index, subst (λ (y : Lit). StandsAt s.lits index (negation y)) same at, f.last.is))
          (pushed_cases a.clause u l (subst (λ (xs : List Lit). Contains xs l) e ((is.members l).0 c)));
    }

pub left_uip : (s : Search) (start index : ℕ) (a : Analysis) (u : Lit) (more : List Lit)
    → IsFirstUip s start a index → StandsAt s.lits index (negation u) → more ≡ a.clause ++ u ∷ []
    → AreLeft s.lits more a.marks 0
left_uip s start index a u more f at e =
    let h = f.at.counted in
    let from : (l : Lit) → Contains more l
    → (k : ℕ) × (0 ≤ k) × (k < length more) × (get_or more k l ≡ l) = λ l c. (c.0, omega arith, c.1, c.2) in
    let into : (l : Lit) → Contains (a.clause ++ u ∷ []) l → Contains more l =
    λ l c. subst (λ (xs : List Lit). Contains xs l) (sym e) c in
    record {
      within = h.within;
      each = λ k l m st. ⊎_elim
          (λ kept. from l (into l (Contains-append_left a.clause (u ∷ []) l (h.in_clause k l m kept st))))
          (λ unkept. from l (into l (Contains-pushed a.clause u l (negation_same u l
          (stands_same s.lits index (negation u) (negation l) at
          (subst (λ n. StandsAt s.lits n (negation l)) (f.last.alone k (but_is _ _ m unkept)) st))))))
          (cases_Bool (is_kept (Below start) s.reasons k));
      long = h.long;
    }

pub more_false : (s : Search) (start index : ℕ) (a : Analysis) (u : Lit) (more : List Lit)
    → IsFirstUip s start a index → StandsAt s.lits index (negation u) → more ≡ a.clause ++ u ∷ [] → (l : Lit)
    → Contains more l → Contains s.lits (negation l)
more_false s start index a u more f at e l c =
    ⊎_elim (λ old. kept_false s (Below start) a f.at.counted l old)
    (λ same. subst (λ (y : Lit). Contains s.lits (negation y)) same (stands_contains s.lits index (negation u) at))
    (pushed_cases a.clause u l (subst (λ (xs : List Lit). Contains xs l) e c))

-- the answer of a whole analysis that keeps assumptions
pub core_learned : {E : Type 0} (s : Search) (a : Analysis) (index : ℕ) (r : Result Core E) → IsSearch s
    → IsAt s Assumed a index → a.open_count ≡ 0 → IfOk r (λ (c : Core). IsClauseOf a.clause c.clause)
    → IfOk r (λ (c : Core). c.hints ≡ reverse a.hints)
    → IfOk r (λ (c : Core). IsLearned s.clauses s.lits c.clause c.hints)
core_learned s a index (Ok c) form at none is hints =
    concluded s Assumed a index c.clause c.hints form at
    (concludes_none s Assumed a c.clause at.counted none is) hints
core_learned s a index (Err e) form at none is hints = tt

pub core_assumed : {E : Type 0} (s : Search) (a : Analysis) (r : Result Core E) → IsCounted s Assumed a
    → a.open_count ≡ 0 → IfOk r (λ (c : Core). IsClauseOf a.clause c.clause)
    → IfOk r (λ (c : Core). (l : Lit) → Contains c.clause l → IsAssumed s l)
core_assumed s a (Ok c) h none is = concluded_assumed s a c.clause h none is
core_assumed s a (Err e) h none is = tt
