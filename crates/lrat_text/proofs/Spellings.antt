-- A check over atoms that stand for variables is one over the variables.
use Rattle.std.proofs.Common.{◌≡◌, ℕ, ◌-◌, ◌≤◌, List, [], ◌∷◌, ◌++◌, length, map, Bool, true, false, Result, Ok, Err, arith, refl, ap, sym, subst, ◌∙◌, ⊎_elim}
use Rattle.std.specs.Prelude.{Contains}
use Rattle.std.proofs.lemmas.List.{length-map, map-append, get_or-map}
use Rattle.std.proofs.lemmas.List.Elements.{Contains-push_cases, Contains-get_or}
use Rattle.plain_lits.specs.declared.lit.Lit.{Lit}
use Rattle.plain_lits.specs.Literals.{negation}
use Rattle.plain_lits.specs.HintCheck.{Checks, clause_at}
use Rattle.plain_lits.specs.CheckLaws.{Renames, IsImage, IsMovedHint, IsMovedCheck}
use Rattle.plain_lits.proofs.HintCheckLemmas.{Contains-mapped, Contains-from_mapped}
use Rattle.plain_lits.proofs.OneOutcome.{one_outcome}
use Rattle.plain_lits.proofs.Renaming.{checks_moved}
use Rattle.meaning_atoms.specs.declared.atom.AtomLit.{AtomLit}
use Rattle.meaning_atoms.specs.Literals.{negated}
use Rattle.meaning_atoms.proofs.SameAtoms.{same_literal}
use Rattle.clause_bench.specs.Benches.{Takes as Bench_takes}
use Rattle.lrat_text.specs.declared.cnf.TheConstants.{MAX_VARIABLE}
use Rattle.lrat_text.specs.CnfText.{formula}
use Rattle.lrat_text.specs.Checking.{IsRejected}
use Rattle.lrat_text.specs.Spelling.{spelled, spelled_clause, spelled_clauses, lit_of, clause_of, clauses_of, IsSpelled, AreSpelled}
use Rattle.lrat_text.specs.Tables.{Takes, IsSpelledTable}

-- ---- what is spelled is read back

pub clause_read : (clause : List Lit) → clause_of (spelled_clause clause) ≡ clause
clause_read [] = refl
clause_read (l ∷ ls) = ap (λ r. l ∷ r) (clause_read ls)

pub clauses_read : (clauses : List (List Lit)) → clauses_of (spelled_clauses clauses) ≡ clauses
clauses_read [] = refl
clauses_read (c ∷ cs) = ap (λ r. r ∷ clauses_of (spelled_clauses cs)) (clause_read c) ∙ ap (λ r. c ∷ r) (clauses_read cs)

-- with one clause more
pub clauses_more : (clauses : List (List AtomLit)) (clause : List Lit)
    → clauses_of (clauses ++ spelled_clause clause ∷ []) ≡ clauses_of clauses ++ clause ∷ []
clauses_more clauses clause = map-append clause_of clauses (spelled_clause clause ∷ [])
    ∙ ap (λ r. clauses_of clauses ++ r ∷ []) (clause_read clause)

clause_spelled : (clause : List Lit) (l : AtomLit) → Contains (spelled_clause clause) l → IsSpelled l
clause_spelled clause l c = let w = Contains-from_mapped spelled clause l c in subst (λ m. IsSpelled m) w.2 refl

pub all_spelled : (clauses : List (List Lit)) → AreSpelled (spelled_clauses clauses)
all_spelled clauses clause l c m =
    let w = Contains-from_mapped spelled_clause clauses clause c in
    clause_spelled w.0 l (subst (λ ls. Contains ls l) (sym w.2) m)

pub more_spelled : (clauses : List (List AtomLit)) (clause : List Lit) → AreSpelled clauses
    → AreSpelled (clauses ++ spelled_clause clause ∷ [])
more_spelled clauses clause all one l c m = ⊎_elim
    (λ old. all one l old m)
    (λ (e : spelled_clause clause ≡ one). clause_spelled clause l (subst (λ ls. Contains ls l) (sym e) m))
    (Contains-push_cases clauses (spelled_clause clause) one c)

-- ---- the check

spelled_renames : Renames negated negation lit_of IsSpelled
spelled_renames = record {
  closed = λ l h. ap negated h;
  negates = λ l h. refl;
  apart = λ a b h k e. sym h ∙ (ap spelled e ∙ k);
}

read_image : (clause : List AtomLit) → ((l : AtomLit) → Contains clause l → IsSpelled l)
    → IsImage lit_of IsSpelled clause (clause_of clause)
read_image clause all = record {
  within = all;
  there = λ l c. Contains-mapped lit_of clause l c;
  back = λ m c. Contains-from_mapped lit_of clause m c;
}

hint_read : (clauses : List (List AtomLit)) (hint : ℕ) → AreSpelled clauses
    → IsMovedHint lit_of IsSpelled clauses (clauses_of clauses) hint hint
hint_read clauses hint all =
    let long : length (clauses_of clauses) ≡ length clauses = length-map clauses clause_of in record {
      named = (
        λ n. let low = n.from_one in let high = n.within in record { from_one = low; within = omega (arith, long) },
        λ n. let low = n.from_one in let high = n.within in record { from_one = low; within = omega (arith, long) },
      );
      image = λ n.
          let low = n.from_one in
          let high = n.within in
          let here : clause_at (clauses_of clauses) hint ≡ clause_of (clause_at clauses hint)
          = get_or-map clause_of clauses (hint - 1) [] [] (omega arith) in
          subst (λ x. IsImage lit_of IsSpelled (clause_at clauses hint) x) (sym here)
          (read_image (clause_at clauses hint)
          (λ l m. all (clause_at clauses hint) l (Contains-get_or clauses (hint - 1) [] (omega arith)) m));
    }

map_itself : (xs : List ℕ) → map (λ x. x) xs ≡ xs
map_itself [] = refl
map_itself (x ∷ xs) = ap (λ r. x ∷ r) (map_itself xs)

checks_read : (clauses : List (List AtomLit)) (clause : List Lit) (hints : List ℕ) (outcome : Result ℕ ℕ)
    → AreSpelled clauses → Checks negated clauses (spelled_clause clause) hints outcome
    → Checks negation (clauses_of clauses) clause hints outcome
checks_read clauses clause hints outcome all h =
    let moved : IsMovedCheck lit_of IsSpelled (λ x. x) clauses (clauses_of clauses) (spelled_clause clause) clause hints
    = record {
      clause_image = subst (λ x. IsImage lit_of IsSpelled (spelled_clause clause) x) (clause_read clause)
          (read_image (spelled_clause clause) (clause_spelled clause));
      each = λ hint c. hint_read clauses hint all;
    } in
    subst (λ x. Checks negation (clauses_of clauses) clause x outcome) (map_itself hints)
    (checks_moved negated negation lit_of IsSpelled spelled_renames (λ x. x) clauses (clauses_of clauses)
    (spelled_clause clause) clause hints moved outcome h)

failed_by : (clauses : List (List AtomLit)) (clause : List Lit) (hints : List ℕ) (outcome : Result ℕ ℕ)
    → AreSpelled clauses → Checks negated clauses (spelled_clause clause) hints outcome
    → (((used : ℕ) × Checks negated clauses (spelled_clause clause) hints (Ok used)) → ⊥)
    → IsRejected (clauses_of clauses) clause hints
failed_by clauses clause hints (Ok used) all h none = absurd (none (used, h))
failed_by clauses clause hints (Err place) all h none = (place, checks_read clauses clause hints (Err place) all h)

-- ---- a clause

-- what the table of clauses over atoms says of a clause is what the check says of it over variables
pub spelled_takes : (vars : ℕ) (before after : List (List AtomLit)) (given : List AtomLit) (clause : List Lit)
    (hints : List ℕ) (passes : Bool) → AreSpelled before → given ≡ spelled_clause clause
    → Bench_takes ((used : ℕ) × Checks negated before given hints (Ok used)) before given after passes
    → Takes (formula vars (clauses_of before)) clause hints (formula vars (clauses_of after)) passes
spelled_takes vars before after given clause hints true all same h =
    let there : Checks negated before (spelled_clause clause) hints (Ok h.0.0)
    = subst (λ x. Checks negated before x hints (Ok h.0.0)) same h.0.1 in
    let more : after ≡ before ++ spelled_clause clause ∷ [] = h.1 ∙ ap (λ x. before ++ x ∷ []) same in (
      (h.0.0, checks_read before clause hints (Ok h.0.0) all there),
      ap (λ cs. formula vars (clauses_of cs)) more ∙ ap (λ cs. formula vars cs) (clauses_more before clause),
    )
spelled_takes vars before after given clause hints false all same h =
    let some = (one_outcome negated same_literal before (spelled_clause clause) hints).some in (
      failed_by before clause hints some.0 all some.1
          (λ g. h.0 (g.0, subst (λ x. Checks negated before x hints (Ok g.0)) (sym same) g.1)),
      ap (λ cs. formula vars (clauses_of cs)) h.1,
    )

-- the clauses stay spelled
pub still_spelled : (vars : ℕ) (before after : List (List AtomLit)) (given : List AtomLit) (clause : List Lit)
    (P : Type 0) (passes : Bool) → vars ≤ MAX_VARIABLE → AreSpelled before → given ≡ spelled_clause clause
    → Bench_takes P before given after passes → IsSpelledTable vars true after
still_spelled vars before after given clause P true few all same h = record {
  few = few;
  spelled = λ e. subst (λ x. AreSpelled x) (sym (h.1 ∙ ap (λ x. before ++ x ∷ []) same))
      (more_spelled before clause all);
}
still_spelled vars before after given clause P false few all same h = record {
  few = few;
  spelled = λ e. subst (λ x. AreSpelled x) (sym h.1) all;
}

-- while a clause is added nothing is told of the clauses
pub cut_off : (vars : ℕ) (clauses : List (List AtomLit)) → vars ≤ MAX_VARIABLE → IsSpelledTable vars false clauses
cut_off vars clauses few = record { few = few; spelled = λ e. let no : false ≡ true = e in absurd (cc) }
