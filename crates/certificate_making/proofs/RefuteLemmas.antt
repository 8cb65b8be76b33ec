-- What a refutation is made of, as the code makes it.
use Rattle.std.proofs.Common.{◌≡◌, ℕ, ◌<◌, List, length, map, ap, sym, subst, ◌∙◌, arith}
use Rattle.std.specs.Prelude.{Contains}
use Rattle.semantics.specs.Frameworks.{Framework}
use Rattle.meaning_atoms.specs.declared.atom.AtomLit.{AtomLit}
use Rattle.certificate_claims.specs.declared.certificate.Step.TheVariants.{Derived}
use Rattle.oracle_face.specs.Logs.{OracleLog, IsLog, IsNumberOf, IsSameClause, hints_of, step_at}
use Rattle.session_log.proofs.StepLemmas.{hint_before}
use Rattle.certificate_making.specs.Trimmed.{IsMovedClause, IsMovedDerived, moved_lit, number_in}
use Rattle.lists.proofs.Images.{image_there, image_from}

-- the hints of a step have their numbers
pub hints_within : (f : Framework) (log : OracleLog) (step : ℕ) (hints numbers : List ℕ) → IsLog f log
    → IsNumberOf log.steps step → hints ≡ hints_of (step_at log.steps step).source → step < length numbers
    → (hint : ℕ) → Contains hints hint → hint < length numbers
hints_within f log step hints numbers form is e within hint c =
    let below = (hint_before f log step hint form is (subst (λ (xs : List ℕ). Contains xs hint) e c)).1 in
    omega arith

same_mapped : (positions : List ℕ) (given clause : List AtomLit) → IsSameClause given clause
    → IsMovedClause positions clause (map (moved_lit positions) given)
same_mapped positions given clause same = record {
  there = λ m c.
      let from = image_from (moved_lit positions) given m c in
      subst (λ (l : AtomLit). Contains (map (moved_lit positions) clause) l) from.2
      (image_there (moved_lit positions) clause from.0 (same.there from.0 from.1));
  back = λ m c.
      let from = image_from (moved_lit positions) clause m c in
      subst (λ (l : AtomLit). Contains (map (moved_lit positions) given) l) from.2
      (image_there (moved_lit positions) given from.0 (same.back from.0 from.1));
}

pub derived_made : (positions numbers listed hints moved : List ℕ) (clause given read made literals : List AtomLit)
    → IsSameClause given clause → read ≡ given → made ≡ map (moved_lit positions) read → literals ≡ made
    → listed ≡ hints → moved ≡ map (number_in numbers) listed
    → IsMovedDerived positions numbers hints clause (Derived literals moved)
derived_made positions numbers listed hints moved clause given read made literals same r m l h n = record {
  literals = literals;
  same = subst (λ (lits : List AtomLit). IsMovedClause positions clause lits)
      (sym (l ∙ (m ∙ ap (map (moved_lit positions)) r))) (same_mapped positions given clause same);
  is = ap (Derived literals) (n ∙ ap (map (number_in numbers)) h);
}
