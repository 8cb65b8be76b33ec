-- The text of a certificate.
use Rattle.std.specs.Prelude.{◌≡◌, ℕ, List, [], ◌∷◌, ◌++◌, codes}
use Rattle.std.specs.List.{AllZip}
use Rattle.iccma_tasks.specs.AnswerText.{IsSetLine}
use Rattle.meaning_atoms.specs.AtomText.{IsLitText}
use Rattle.meaning_atoms.specs.AxiomText.{IsAxiomFields}
use Rattle.meaning_atoms.specs.declared.atom.AtomLit.{AtomLit}
use Rattle.certificate_claims.specs.declared.certificate.Certificate.{Certificate}
use Rattle.certificate_claims.specs.declared.certificate.Refutation.{Refutation}
use Rattle.certificate_claims.specs.declared.certificate.Step.{Step}
use Rattle.certificate_claims.specs.declared.certificate.Step.TheVariants.{Axiom, Side, Derived}
use Rattle.certificate_text.specs.StepFields.{SpellsOrdinal}

-- `d`, literals, a zero, hints
pub record IsDerivedLine (fields : List (List ℕ)) (literals : List AtomLit) (hints : List ℕ) : Type 0 where
  pub literal_fields : List (List ℕ)
  pub hint_fields : List (List ℕ)
  pub fields_are : fields ≡ codes "d" ∷ (literal_fields ++ codes "0" ∷ hint_fields)
  pub literals_are : AllZip IsLitText literal_fields literals
  pub hints_are : AllZip SpellsOrdinal hint_fields hints

-- the line of an axiom, `a` with its name and arguments; of a side clause, `s` with its number; of a derived clause
abbrev pub IsStepLine : List (List ℕ) → Step → Type 0
IsStepLine fields (Axiom which) = (more : List (List ℕ)) × (fields ≡ codes "a" ∷ more) × IsAxiomFields more which
IsStepLine fields (Side n) = (field : List ℕ) × (fields ≡ codes "s" ∷ field ∷ []) × SpellsOrdinal field n
IsStepLine fields (Derived literals hints) = IsDerivedLine fields literals hints

-- for each refutation a line `r`, and behind it the lines of its steps
abbrev pub AreRefutations : List (List (List ℕ)) → List Refutation → Type 0
AreRefutations lines [] = lines ≡ []
AreRefutations lines (one ∷ others) =
    (steps : List (List (List ℕ))) × (more : List (List (List ℕ)))
    × (lines ≡ (codes "r" ∷ []) ∷ (steps ++ more)) × AllZip IsStepLine steps one.steps × AreRefutations more others

-- the lines that are not skipped are the header, those of the sets, those of the refutations, and the end
pub record IsCertText (lines : List (List (List ℕ))) (cert : Certificate) : Type 0 where
  pub sets : List (List (List ℕ))
  pub refutations : List (List (List ℕ))
  pub lines_are :
      lines ≡ (codes "cert" ∷ codes "1" ∷ []) ∷ (sets ++ (refutations ++ (codes "end" ∷ []) ∷ []))
  pub sets_are : AllZip IsSetLine sets cert.sets
  pub refutations_are : AreRefutations refutations cert.refutations
