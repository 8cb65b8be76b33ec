-- The variables of the clauses that are read.
use Rattle.std.proofs.Common.{◌≡◌, ℕ, ◌≤◌, ◌==◌, List, [], ◌∷◌, ◌++◌, length, fold, inl, inr, ap, sym, subst, ◌∙◌, arith, ⊎_elim}
use Rattle.std.specs.Prelude.{Contains, Result, Ok, Err}
use Rattle.std.specs.List.{AllZip}
use Rattle.std.proofs.lemmas.Bool.{cases_eq, cond-true, cond-false, eq-eqb, ne_eqb}
use Rattle.std.proofs.lemmas.List.Elements.{Contains-push_cases}
use Rattle.lists.proofs.Membership.{Contains-nil}
use Rattle.num_text.specs.Cuts.{LineText, field_texts}
use Rattle.plain_lits.specs.declared.lit.Lit.{Lit}
use Rattle.lrat_text.specs.declared.fault.CnfCause.{CnfCause}
use Rattle.lrat_text.specs.CnfText.{Cut, adds, cut, no_cut, formula, AreWithin, IsFormula, IsHeader, IsWithin, ReadsTo, SpellsBounded}

-- the literals of a cut are within
pub record CutWithin (vars : ℕ) (c : Cut) : Type 0 where
  pub whole : AreWithin vars c.whole
  pub open_one : (l : Lit) → Contains c.open_one l → IsWithin vars l

adds_within : (vars : ℕ) (c : Cut) (l : Lit) → CutWithin vars c → l.var ≤ vars → CutWithin vars (adds c l)
adds_within vars c l h low = elim (cases_eq l.var 0) [
  | inl e ↦ subst (CutWithin vars) (sym (cond-true (l.var == 0) (cut (c.whole ++ c.open_one ∷ []) [])
      (cut c.whole (c.open_one ++ l ∷ [])) (eq-eqb l.var 0 e))) (record {
        whole = λ clause k m n. ⊎_elim (λ old. h.whole clause k old n)
            (λ (same : c.open_one ≡ clause). h.open_one k (subst (λ ls. Contains ls k) (sym same) n))
            (Contains-push_cases c.whole c.open_one clause m);
        open_one = λ k m. absurd (Contains-nil k m);
      })
  | inr ne ↦ subst (CutWithin vars) (sym (cond-false (l.var == 0) (cut (c.whole ++ c.open_one ∷ []) [])
      (cut c.whole (c.open_one ++ l ∷ [])) (ne_eqb l.var 0 ne))) (record {
        whole = h.whole;
        open_one = λ k m. ⊎_elim (λ old. h.open_one k old)
            (λ (same : l ≡ k). subst (IsWithin vars) same (record { from_one = omega (arith, ne); within = low }))
            (Contains-push_cases c.open_one l k m);
      })
]

fold_within : (vars : ℕ) (fields : List (List ℕ)) (numbers : List Lit) (c : Cut) → CutWithin vars c
    → AllZip (SpellsBounded vars) fields numbers → CutWithin vars (fold adds c numbers)
fold_within vars [] [] c h all = h
fold_within vars [] (n ∷ ns) c h all = absurd all
fold_within vars (f ∷ fs) [] c h all = absurd all
fold_within vars (f ∷ fs) (n ∷ ns) c h all =
    fold_within vars fs ns (adds c n) (adds_within vars c n h all.0.within) all.1

abbrev clauses_of : Result (List (List Lit)) (ℕ × CnfCause) → List (List Lit)
clauses_of (Ok clauses) = clauses
clauses_of (Err fault) = []

reads_within : (end vars count : ℕ) (c : Cut) (lines : List LineText) (clauses : List (List Lit)) → CutWithin vars c
    → ReadsTo end vars count c lines (Ok clauses) → AreWithin vars clauses × (length clauses ≡ count)
reads_within end vars count c [] clauses h (inl whole) =
    let same : clauses ≡ c.whole = ap clauses_of whole.1 in
    (rw same h.whole, ap length same ∙ whole.0.counted)
reads_within end vars count c [] clauses h (inr bad) = absurd (cc bad.1)
reads_within end vars count c (line ∷ lines) clauses h (inl (after, leads, rest)) =
    reads_within end vars count after lines clauses
    (rw leads.leads_to (fold_within vars (field_texts line.text) leads.numbers c h leads.spelled)) rest
reads_within end vars count c (line ∷ lines) clauses h (inr (cause, told, e)) = absurd (cc e)

pub read_formula : (fields : List (List ℕ)) (end vars count : ℕ) (lines : List LineText) (clauses : List (List Lit))
    → IsHeader fields vars count → ReadsTo end vars count no_cut lines (Ok clauses) → IsFormula (formula vars clauses)
read_formula fields end vars count lines clauses header reads =
    let all = reads_within end vars count no_cut lines clauses
    (record { whole = λ clause l m n. absurd (Contains-nil clause m); open_one = λ l m. absurd (Contains-nil l m) })
    reads in
    record {
      few = header.few;
      few_clauses = let le = header.few_clauses in omega (arith, le, all.1);
      clauses = all.0;
    }
