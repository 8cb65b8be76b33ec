-- Unit propagation by all steps that searches use tells whether hints could take a clause.
use Rattle.std.proofs.Common.{◌≡◌, ◌∙◌, ℕ, ◌+◌, ◌-◌, ◌<◌, Bool, true, false, not, List, [], ◌∷◌, ◌++◌, append_assoc, length, get_or, map, set, arith, ap, sym, subst, refl, inl, inr, ⊎_elim}
use Rattle.std.specs.Prelude.{◌⊎◌, Contains, IsTrue, Ok, Err, Result}
use Rattle.std.proofs.lemmas.Bool.{cases_eq, false≢true}
use Rattle.std.proofs.lemmas.List.{get_or-map, get_or-set_other, length-append, length-map, length-set}
use Rattle.std.proofs.lemmas.List.Elements.{Contains-append_left, Contains-push, Contains-push_cases}
use Rattle.lists.proofs.Membership.{Contains-head, Contains-nil, Contains-tail}
use Rattle.plain_lits.specs.HintCheck.{IsFalseHint, IsFalsified, IsNamed, IsTautology, IsUnit, IsUnitHint, Propagates, clause_at}
use Rattle.plain_lits.proofs.OneOutcome.{cases_member}
use Rattle.meaning_atoms.specs.declared.atom.Atom.{Atom}
use Rattle.meaning_atoms.specs.declared.atom.AtomLit.{AtomLit}
use Rattle.meaning_atoms.specs.Literals.{negated}
use Rattle.meaning_atoms.proofs.SameAtoms.{same_literal}
use Rattle.oracle_face.specs.Logs.{LogStep, clauses_of, no_step, step_at}
use Rattle.session_log.specs.Ends.{IsTakenByNone}
use Rattle.core_logs.specs.declared.checking.Status.TheVariants.{Falsified, Unit as Single, Other}
use Rattle.core_logs.specs.Tests.{IsOther}
use Rattle.core_answers.specs.Parts.{HasMarks, IsWorking, StatusAt}
use Rattle.core_answers.proofs.ReachLemmas.{still_set}
use Rattle.lists.proofs.Images.{image_from}
use Rattle.lists.proofs.TruthValues.{not_not}

-- ---- literals

abbrev lit : Atom → Bool → AtomLit
lit atom positive = record { atom = atom; positive = positive }

pub negated_twice : (l : AtomLit) → negated (negated l) ≡ l
negated_twice l = ap (λ b. lit l.atom b) (not_not l.positive)

no_fixed : (b : Bool) → not b ≡ b → ⊥
no_fixed true e = false≢true e
no_fixed false e = false≢true (sym e)

never_own : (l : AtomLit) → negated l ≡ l → ⊥
never_own l e = no_fixed l.positive (ap (λ (x : AtomLit). x.positive) e)

-- no literal is true beside its negation at the start
plain_start : (clause : List AtomLit) → (IsTautology negated clause → ⊥) → IsTautology negated (map negated clause) → ⊥
plain_start clause plain t =
    let a = image_from negated clause t.0 t.1 in
    let b = image_from negated clause (negated t.0) t.2 in
    let same : b.0 ≡ negated a.0 =
    sym (negated_twice b.0) ∙ (ap negated b.2 ∙ (negated_twice t.0 ∙ sym a.2)) in
    plain (a.0, a.1, subst (λ x. Contains clause x) same b.1)

-- and none where a literal comes that was neither true nor false
plain_more : (truths clause : List AtomLit) (unset : AtomLit) → (IsTautology negated truths → ⊥)
    → IsUnit negated truths clause unset → IsTautology negated (truths ++ unset ∷ []) → ⊥
plain_more truths clause unset plain unit t =
    ⊎_elim
    (λ (old : Contains truths t.0). ⊎_elim
    (λ (back : Contains truths (negated t.0)). plain (t.0, old, back))
    (λ (e : unset ≡ negated t.0). unit.not_false (subst (λ x. Contains truths x)
    (sym (ap negated e ∙ negated_twice t.0)) old))
    (Contains-push_cases truths unset (negated t.0) t.2))
    (λ (e : unset ≡ t.0). ⊎_elim
    (λ (back : Contains truths (negated t.0)). unit.not_false (subst (λ x. Contains truths (negated x)) (sym e) back))
    (λ (f : unset ≡ negated t.0). never_own t.0 (sym f ∙ e))
    (Contains-push_cases truths unset (negated t.0) t.2))
    (Contains-push_cases truths unset t.0 t.1)

-- ---- the hints so far

-- hints that lead from the literals at the start to those that are true
pub record HasWay (steps : List LogStep) (start truths : List AtomLit) : Type 0 where
  pub hints : List ℕ
  pub working : (hint : ℕ) → Contains hints hint → (step_at steps hint).closing ≡ false
  pub leads : (rest : List ℕ) (outcome : Result ℕ ℕ)
      → Propagates negated (clauses_of steps) truths (length hints + 1) rest outcome
      → Propagates negated (clauses_of steps) start 1 (hints ++ rest) outcome

way_begins : (steps : List LogStep) (start : List AtomLit) → HasWay steps start start
way_begins steps start = record {
  hints = [];
  working = λ hint c. absurd (Contains-nil hint c);
  leads = λ rest outcome h. h;
}

-- the step at an index by its number
named_here : (steps : List LogStep) (k : ℕ) → k < length steps → IsNamed (clauses_of steps) (k + 1)
named_here steps k lt = record {
  from_one = omega arith;
  within = omega (arith, length-map steps (λ (s : LogStep). s.clause));
}

clause_here : (steps : List LogStep) (k : ℕ) → k < length steps
    → clause_at (clauses_of steps) (k + 1) ≡ (get_or steps k no_step).clause
clause_here steps k lt =
    let at : k + 1 - 1 ≡ k = omega arith in
    ap (λ i. get_or (clauses_of steps) i []) at ∙ get_or-map (λ (s : LogStep). s.clause) steps k no_step [] lt

working_here : (steps : List LogStep) (k : ℕ) → IsWorking (get_or steps k no_step)
    → (step_at steps (k + 1)).closing ≡ false
working_here steps k is =
    let at : k ≡ k + 1 - 1 = omega arith in
    subst (λ i. (get_or steps i no_step).closing ≡ false) at is.works

working_more : (steps : List LogStep) (hints : List ℕ) (k : ℕ) → IsWorking (get_or steps k no_step)
    → ((hint : ℕ) → Contains hints hint → (step_at steps hint).closing ≡ false)
    → (hint : ℕ) → Contains (hints ++ (k + 1) ∷ []) hint → (step_at steps hint).closing ≡ false
working_more steps hints k is all hint c =
    ⊎_elim (λ old. all hint old)
    (λ (e : k + 1 ≡ hint). subst (λ h. (step_at steps h).closing ≡ false) e (working_here steps k is))
    (Contains-push_cases hints (k + 1) hint c)

way_goes_on : (steps : List LogStep) (start truths : List AtomLit) (k : ℕ) (unset : AtomLit) → k < length steps
    → IsWorking (get_or steps k no_step) → IsUnit negated truths (get_or steps k no_step).clause unset
    → HasWay steps start truths → HasWay steps start (truths ++ unset ∷ [])
way_goes_on steps start truths k unset lt is unit way = record {
  hints = way.hints ++ (k + 1) ∷ [];
  working = working_more steps way.hints k is way.working;
  leads = λ rest outcome h.
      let there : IsUnitHint negated (clauses_of steps) truths (k + 1) unset = record {
        named = named_here steps k lt;
        unit = subst (λ (c : List AtomLit). IsUnit negated truths c unset) (sym (clause_here steps k lt)) unit;
      } in
      subst (λ hints. Propagates negated (clauses_of steps) start 1 hints outcome)
      (sym (append_assoc way.hints ((k + 1) ∷ []) rest))
      (way.leads ((k + 1) ∷ rest) outcome (inr (inl (
        unset,
        there,
        subst (λ place. Propagates negated (clauses_of steps) (truths ++ unset ∷ []) place rest outcome)
            (omega (arith, length-append way.hints ((k + 1) ∷ []))) h,
      ))));
}

-- a false clause at the end of the way
way_ends : (steps : List LogStep) (clause truths : List AtomLit) (k : ℕ) → k < length steps
    → IsWorking (get_or steps k no_step) → IsFalsified negated truths (get_or steps k no_step).clause
    → (IsTautology negated clause → ⊥) → HasWay steps (map negated clause) truths → IsTakenByNone steps clause → ⊥
way_ends steps clause truths k lt is low plain way none =
    let hints = way.hints ++ (k + 1) ∷ [] in
    let there : IsFalseHint negated (clauses_of steps) truths (k + 1) = record {
      named = named_here steps k lt;
      all_false = subst (λ (c : List AtomLit). IsFalsified negated truths c) (sym (clause_here steps k lt)) low;
    } in
    let long : length hints ≡ length way.hints + 1 = length-append way.hints ((k + 1) ∷ []) in
    none.none hints (working_more steps way.hints k is way.working)
    (inr (plain, way.leads ((k + 1) ∷ []) (Ok (length hints)) (inl (there, ap Ok long))))

-- ---- at rest

-- no clause of a step that searches use is false or unit
abbrev pub AreAtRest : List LogStep → List AtomLit → Type 0
AreAtRest steps truths =
    (k : ℕ) → k < length steps → IsWorking (get_or steps k no_step) → IsOther truths (get_or steps k no_step).clause

more_false : (truths all clause : List AtomLit) → ((l : AtomLit) → Contains truths l → Contains all l)
    → IsFalsified negated truths clause → IsFalsified negated all clause
more_false truths all clause more h = record { each = λ l c. more (negated l) (h.each l c) }

-- a clause that is unit by a literal under some of the literals that are true is false, or makes the literal true
more_unit : (truths all clause : List AtomLit) (unset : AtomLit)
    → ((l : AtomLit) → Contains truths l → Contains all l) → IsOther all clause
    → IsUnit negated truths clause unset → Contains all unset
more_unit truths all clause unset more rest unit =
    ⊎_elim (λ is. is)
    (λ not_true. ⊎_elim
    (λ (low : Contains all (negated unset)). absurd (rest.not_false (record {
      each = λ l c. ⊎_elim (λ (e : l ≡ unset). subst (λ x. Contains all (negated x)) (sym e) low)
          (λ ne. more (negated l) (unit.others l c ne)) (same_literal l unset);
    })))
    (λ not_false. absurd (rest.not_unit unset (record {
      there = unit.there;
      not_true = not_true;
      not_false = not_false;
      others = λ l c ne. more (negated l) (unit.others l c ne);
    })))
    (cases_member same_literal all (negated unset)))
    (cases_member same_literal all unset)

-- the step of a hint that names one
step_of_hint : (steps : List LogStep) (hint : ℕ) → IsNamed (clauses_of steps) hint → hint - 1 < length steps
step_of_hint steps hint named =
    let low = named.from_one in
    let high = named.within in
    omega (arith, length-map steps (λ (s : LogStep). s.clause))

hint_clause : (steps : List LogStep) (hint : ℕ) → hint - 1 < length steps
    → clause_at (clauses_of steps) hint ≡ (step_at steps hint).clause
hint_clause steps hint lt = get_or-map (λ (s : LogStep). s.clause) steps (hint - 1) no_step [] lt

not_both : (n place : ℕ) → Ok n ≡ Err place → ⊥
not_both n place e = cc

push_within : (truths all : List AtomLit) (unset : AtomLit) → ((l : AtomLit) → Contains truths l → Contains all l)
    → Contains all unset → (l : AtomLit) → Contains (truths ++ unset ∷ []) l → Contains all l
push_within truths all unset more is l c =
    ⊎_elim (λ old. more l old) (λ (e : unset ≡ l). subst (λ x. Contains all x) e is)
    (Contains-push_cases truths unset l c)

-- at rest no hints lead to a false clause
none_pass : (steps : List LogStep) (all : List AtomLit) → AreAtRest steps all → (hints : List ℕ)
    (truths : List AtomLit) (place n : ℕ) → ((l : AtomLit) → Contains truths l → Contains all l)
    → ((hint : ℕ) → Contains hints hint → (step_at steps hint).closing ≡ false)
    → Propagates negated (clauses_of steps) truths place hints (Ok n) → ⊥
none_pass steps all rest [] truths place n more working h = not_both n place h
none_pass steps all rest (hint ∷ hints) truths place n more working h =
    let is : IsWorking (step_at steps hint) = record { works = working hint (Contains-head hint hints hint refl) } in
    ⊎_elim
    (λ low.
    let lt = step_of_hint steps hint low.0.named in
    (rest (hint - 1) lt is).not_false (more_false truths all (step_at steps hint).clause more
    (subst (λ (c : List AtomLit). IsFalsified negated truths c) (hint_clause steps hint lt) low.0.all_false)))
    (λ other. ⊎_elim
    (λ one.
    let lt = step_of_hint steps hint one.1.named in
    let unit : IsUnit negated truths (step_at steps hint).clause one.0 =
    subst (λ (c : List AtomLit). IsUnit negated truths c one.0) (hint_clause steps hint lt) one.1.unit in
    none_pass steps all rest hints (truths ++ one.0 ∷ []) (place + 1) n
    (push_within truths all one.0 more
    (more_unit truths all (step_at steps hint).clause one.0 more (rest (hint - 1) lt is) unit))
    (λ later c. working later (Contains-tail hint hints later c)) one.2)
    (λ no. not_both n place no.1) other) h

pub none_at_rest : (steps : List LogStep) (clause truths : List AtomLit)
    → ((l : AtomLit) → Contains (map negated clause) l → Contains truths l) → AreAtRest steps truths
    → IsTakenByNone steps clause
none_at_rest steps clause truths more rest = record {
  none = λ hints working taken. ⊎_elim
      (λ no. not_both (length hints) 0 no.1)
      (λ h. none_pass steps truths rest hints (map negated clause) 1 (length hints) more working h.1) taken;
}

pub none_of_tautology : (steps : List LogStep) (clause : List AtomLit) → IsTautology negated clause
    → IsTakenByNone steps clause
none_of_tautology steps clause t = record {
  none = λ hints working taken. ⊎_elim (λ no. not_both (length hints) 0 no.1) (λ h. h.0 t) taken;
}

-- ---- the search

-- the literals that are true so far, and the marks of steps that weren't used yet
pub record IsSpreading (steps : List LogStep) (clause truths : List AtomLit) (marks : List Bool) : Type 0 where
  pub long : length marks ≡ length steps
  pub plain : IsTautology negated truths → ⊥
  pub more : (l : AtomLit) → Contains (map negated clause) l → Contains truths l
  pub low : (k : ℕ) → k < length steps → IsTrue (get_or marks k true) → IsWorking (get_or steps k no_step)
  pub done : (k : ℕ) → k < length steps → IsWorking (get_or steps k no_step)
      → IsTrue (get_or marks k true)
      ⊎ ((l : AtomLit) × Contains (get_or steps k no_step).clause l × Contains truths l)
  pub way : HasWay steps (map negated clause) truths

pub spreading_begins : (steps : List LogStep) (clause truths : List AtomLit) (marks : List Bool)
    → (IsTautology negated clause → ⊥) → truths ≡ map negated clause → HasMarks IsWorking steps marks
    → IsSpreading steps clause truths marks
spreading_begins steps clause truths marks plain e h =
    subst (λ t. IsSpreading steps clause t marks) (sym e) (record {
      long = h.long;
      plain = plain_start clause plain;
      more = λ l c. c;
      low = λ k lt is. (h.each k lt).0 is;
      done = λ k lt is. inl ((h.each k lt).1 is);
      way = way_begins steps (map negated clause);
    })

pub spreading_goes_on : (steps : List LogStep) (clause truths after : List AtomLit) (marks : List Bool) (k : ℕ)
    (unset : AtomLit) → IsSpreading steps clause truths marks → k < length steps
    → StatusAt steps marks truths k (Single unset) → after ≡ truths ++ unset ∷ []
    → IsSpreading steps clause after (set marks k false)
spreading_goes_on steps clause truths after marks k unset h less status e =
    let lt : k < length marks = omega (arith, h.long, less) in
    let grown : (l : AtomLit) → Contains truths l → Contains (truths ++ unset ∷ []) l =
    λ l c. Contains-append_left truths (unset ∷ []) l c in
    subst (λ t. IsSpreading steps clause t (set marks k false)) (sym e) (record {
      long = length-set marks k false ∙ h.long;
      plain = plain_more truths (get_or steps k no_step).clause unset h.plain status.1;
      more = λ l c. grown l (h.more l c);
      low = λ j small is. h.low j small (still_set marks k j lt is);
      done = λ j small is. ⊎_elim
          (λ (same : j ≡ k). inr (
            unset,
            subst (λ i. Contains (get_or steps i no_step).clause unset) (sym same) status.1.there,
            Contains-push truths unset,
          ))
          (λ ne. ⊎_elim (λ left. inl (get_or-set_other marks k j false true ne ∙ left))
          (λ met. inr (met.0, met.1, grown met.0 met.2)) (h.done j small is))
          (cases_eq j k);
      way = way_goes_on steps (map negated clause) truths k unset less (h.low k less status.0) status.1 h.way;
    })

-- a clause with a true literal is neither false nor unit
met_is_other : (truths clause : List AtomLit) (l : AtomLit) → (IsTautology negated truths → ⊥) → Contains clause l
    → Contains truths l → IsOther truths clause
met_is_other truths clause l plain there is = record {
  not_false = λ low. plain (l, is, low.each l there);
  not_unit = λ unset unit.
      plain (l, is, unit.others l there (λ (e : l ≡ unset). unit.not_true (subst (λ x. Contains truths x) e is)));
}

pub spreading_rests : (steps : List LogStep) (clause truths : List AtomLit) (marks : List Bool)
    → IsSpreading steps clause truths marks
    → ((k : ℕ) → k < length steps → StatusAt steps marks truths k Other) → IsTakenByNone steps clause
spreading_rests steps clause truths marks h rest =
    none_at_rest steps clause truths h.more (λ k lt is. ⊎_elim (λ left. rest k lt left)
    (λ met. met_is_other truths (get_or steps k no_step).clause met.0 h.plain met.1 met.2) (h.done k lt is))

pub spreading_fails : (steps : List LogStep) (clause truths : List AtomLit) (marks : List Bool) (k : ℕ)
    → IsSpreading steps clause truths marks → (IsTautology negated clause → ⊥) → k < length steps
    → StatusAt steps marks truths k Falsified → IsTakenByNone steps clause → ⊥
spreading_fails steps clause truths marks k h plain lt status =
    way_ends steps clause truths k lt (h.low k lt status.0) status.1 plain h.way
