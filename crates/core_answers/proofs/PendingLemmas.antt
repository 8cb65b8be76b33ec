-- When a clause in hand would have been a further unit, from its parts and back.
use Rattle.std.proofs.Common.{◌≡◌, ◌≢◌, ◌∙◌, ℕ, ◌+◌, ◌-◌, ◌<◌, Bool, true, false, List, length, get_or, arith, ap, sym, subst, refl}
use Rattle.std.specs.Prelude.{◌↔◌, Contains, IsTrue, Ok}
use Rattle.std.proofs.lemmas.Bool.{false≢true}
use Rattle.std.proofs.lemmas.List.{get_or_default}
use Rattle.std.proofs.lemmas.List.Elements.{Contains-get_or}
use Rattle.plain_lits.specs.HintCheck.{Checks}
use Rattle.semantics.specs.Frameworks.{Framework}
use Rattle.meaning_atoms.specs.declared.atom.AtomLit.{AtomLit}
use Rattle.meaning_atoms.specs.declared.axiom.AxiomName.{AxiomName}
use Rattle.meaning_atoms.specs.Literals.{negated}
use Rattle.certificate_claims.specs.Refutations.{IsAxiomOf, axiom_clause}
use Rattle.iccma_tasks.specs.Tasks.{Asked}
use Rattle.oracle_face.specs.declared.face.Pending.TheVariants.{Learned, Loop, Side}
use Rattle.oracle_face.specs.Growing.{IsFurther}
use Rattle.oracle_face.specs.Logs.{FactsAreFalse, IsNumberOf, IsSameClause, LogStep, OracleLog, SideClause, clauses_of, is_loop, no_side, side_at, step_at}
use Rattle.session_log.specs.Ends.{MadeFor, SideServes}
use Rattle.core_logs.specs.Tests.{IsKeptHint}
use Rattle.core_answers.specs.Parts.{IsFalseIfFact}
use Rattle.core_answers.specs.Serving.{IsFresh, IsOtherSide}

-- ---- side clauses

other_by_number : (sides : List SideClause) (literals : List AtomLit)
    → ((side : SideClause) → Contains sides side → IsOtherSide literals side)
    → (n : ℕ) → IsNumberOf sides n → IsSameClause (side_at sides n).literals literals → ⊥
other_by_number sides literals all n is same =
    let low = is.from_one in
    let high = is.within in
    (all (side_at sides n) (Contains-get_or sides (n - 1) no_side (omega arith))).other same

other_by_member : (sides : List SideClause) (literals : List AtomLit)
    → ((n : ℕ) → IsNumberOf sides n → IsSameClause (side_at sides n).literals literals → ⊥)
    → (side : SideClause) → Contains sides side → IsOtherSide literals side
other_by_member sides literals none side c = record {
  other = λ same.
      let here : side_at sides (c.0 + 1) ≡ side =
      ap (λ k. get_or sides k no_side) (omega arith) ∙ (get_or_default sides c.0 no_side side c.1 ∙ c.2) in
      let lt : c.0 < length sides = c.1 in
      none (c.0 + 1) (record { from_one = omega arith; within = omega (arith, lt) })
      (subst (λ (s : SideClause). IsSameClause s.literals literals) (sym here) same);
}

pub further_side : (f : Framework) (asked : Asked) (log : OracleLog) (literals : List AtomLit) (set : List ℕ)
    (serves : Bool) → ((side : SideClause) → Contains log.sides side → IsOtherSide literals side)
    → IsTrue serves ↔ SideServes f asked literals set
    → IsTrue serves ↔ IsFurther (MadeFor f asked) f log (Side literals set)
further_side f asked log literals set serves all is = (
  λ t. (is.0 t, other_by_number log.sides literals all),
  λ h. is.1 h.0,
)

pub no_further_side : (f : Framework) (asked : Asked) (log : OracleLog) (literals : List AtomLit) (set : List ℕ)
    → (((side : SideClause) → Contains log.sides side → IsOtherSide literals side) → ⊥)
    → IsFurther (MadeFor f asked) f log (Side literals set) → ⊥
no_further_side f asked log literals set not h = not (other_by_member log.sides literals h.1)

-- ---- clauses

pub facts_from : (f : Framework) (clause : List AtomLit) → ((l : AtomLit) → Contains clause l → IsFalseIfFact f l)
    → FactsAreFalse f clause
facts_from f clause all = record { false_there = λ l c. (all l c).is_false }

pub facts_each : (f : Framework) (clause : List AtomLit) → FactsAreFalse f clause → (l : AtomLit) → Contains clause l
    → IsFalseIfFact f l
facts_each f clause h l c = record { is_false = h.false_there l c }

not_true : (b : Bool) → b ≢ true → b ≡ false
not_true true ne = absurd (ne refl)
not_true false ne = refl

never_both : (b : Bool) → b ≡ false → b ≡ true → ⊥
never_both b low high = false≢true (sym low ∙ high)

kept_from : (steps : List LogStep) (hints : List ℕ) → ((h : ℕ) → Contains hints h → IsKeptHint steps h)
    → (h : ℕ) → Contains hints h → (step_at steps h).closing ≢ true
kept_from steps hints all h c = never_both (step_at steps h).closing (all h c).kept

kept_each : (steps : List LogStep) (hints : List ℕ)
    → ((h : ℕ) → Contains hints h → (step_at steps h).closing ≢ true)
    → (h : ℕ) → Contains hints h → IsKeptHint steps h
kept_each steps hints all h c = record { kept = not_true (step_at steps h).closing (all h c) }

pub further_learned : (f : Framework) (asked : Asked) (log : OracleLog) (clause : List AtomLit) (hints : List ℕ)
    (taken : Bool) → IsFresh f log.steps clause → ((h : ℕ) → Contains hints h → IsKeptHint log.steps h)
    → IsTrue taken ↔ Checks negated (clauses_of log.steps) clause hints (Ok (length hints))
    → IsTrue taken ↔ IsFurther (MadeFor f asked) f log (Learned clause hints)
further_learned f asked log clause hints taken fresh kept is = (
  λ t. (fresh.new, facts_from f clause fresh.facts, is.0 t, kept_from log.steps hints kept),
  λ h. is.1 h.2,
)

pub learned_fresh : (f : Framework) (asked : Asked) (log : OracleLog) (clause : List AtomLit) (hints : List ℕ)
    → IsFurther (MadeFor f asked) f log (Learned clause hints) → IsFresh f log.steps clause
learned_fresh f asked log clause hints h = record { new = h.0; facts = facts_each f clause h.1 }

pub learned_kept : (f : Framework) (asked : Asked) (log : OracleLog) (clause : List AtomLit) (hints : List ℕ)
    → IsFurther (MadeFor f asked) f log (Learned clause hints) → (h : ℕ) → Contains hints h → IsKeptHint log.steps h
learned_kept f asked log clause hints h = kept_each log.steps hints h.3

pub further_loop : (f : Framework) (asked : Asked) (log : OracleLog) (name : AxiomName) (clause : List AtomLit)
    (fresh : Bool) → is_loop name ≡ true → IsAxiomOf f name → clause ≡ axiom_clause name
    → IsTrue fresh ↔ IsFresh f log.steps clause
    → IsTrue fresh ↔ IsFurther (MadeFor f asked) f log (Loop name)
further_loop f asked log name clause fresh loop axiom_of e is = (
  λ t. let h = subst (λ (c : List AtomLit). IsFresh f log.steps c) e (is.0 t) in
      (h.new, facts_from f (axiom_clause name) h.facts, axiom_of, loop),
  λ h. is.1 (subst (λ (c : List AtomLit). IsFresh f log.steps c) (sym e)
      (record { new = h.0; facts = facts_each f (axiom_clause name) h.1 })),
)
