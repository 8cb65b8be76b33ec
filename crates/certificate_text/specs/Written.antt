-- The text of a certificate as it is written.
use Rattle.std.specs.Prelude.{ℕ, ◌<◌, ◌≤◌, ◌^◌, List, ◌∷◌, ◌++◌, codes, All}
use Rattle.std.specs.List.{flat_map}
use Rattle.std.specs.Fmt.{decimal}
use Rattle.iccma_tasks.specs.WrittenText.{HasArguments, set_line}
use Rattle.meaning_atoms.specs.Atoms.{IsLit}
use Rattle.meaning_atoms.specs.AtomText.{lit_text}
use Rattle.meaning_atoms.specs.AxiomNames.{IsAxiomName}
use Rattle.meaning_atoms.specs.AxiomText.{axiom_text}
use Rattle.certificate_claims.specs.declared.certificate.Certificate.{Certificate}
use Rattle.certificate_claims.specs.declared.certificate.Refutation.{Refutation}
use Rattle.certificate_claims.specs.declared.certificate.Step.{Step}
use Rattle.certificate_claims.specs.declared.certificate.Step.TheVariants.{Axiom, Side, Derived}

-- the line of a step
abbrev pub step_line : Step → List ℕ
step_line (Axiom which) = codes "a " ++ axiom_text which ++ codes "\n"
step_line (Side n) = codes "s " ++ decimal n ++ codes "\n"
step_line (Derived literals hints) =
    codes "d" ++ flat_map (λ l. 32 ∷ lit_text l) literals ++ codes " 0" ++ flat_map (λ n. 32 ∷ decimal n) hints
    ++ codes "\n"

-- `r`, and the lines of the steps
abbrev pub refutation_text : Refutation → List ℕ
refutation_text one = codes "r\n" ++ flat_map step_line one.steps

-- each line with single blanks, and LF behind it
abbrev pub certificate_text : Certificate → List ℕ
certificate_text cert =
    codes "cert 1\n" ++ flat_map set_line cert.sets ++ flat_map refutation_text cert.refutations ++ codes "end\n"

-- ---- what a text can hold

-- a number of 32 bits, counted from 1
pub record IsOrdinal (n : ℕ) : Type 0 where
  pub from_one : 1 ≤ n
  pub fits : n < 2 ^ 32

-- the numbers of the step are within their bounds
abbrev pub IsWritableStep : Step → Type 0
IsWritableStep (Axiom which) = IsAxiomName which
IsWritableStep (Side n) = IsOrdinal n
IsWritableStep (Derived literals hints) = All IsLit literals × All IsOrdinal hints

-- the numbers of the sets and of the steps are within their bounds
pub record IsWritable (cert : Certificate) : Type 0 where
  pub sets : All HasArguments cert.sets
  pub steps : All (λ one. All IsWritableStep one.steps) cert.refutations
