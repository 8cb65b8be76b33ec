-- What is looked at, from each section on.
use Rattle.std.specs.Prelude.{ℕ, List, ◌∷◌, ◌++◌, length, map, flat_map}
use Rattle.semantics.specs.Frameworks.{Framework}
use Rattle.iccma_tasks.specs.Tasks.{Asked}
use Rattle.certificate_claims.specs.declared.certificate.Certificate.{Certificate}
use Rattle.certificate_claims.specs.declared.row.Row.{Row}
use Rattle.certificate_claims.specs.declared.verdict.Verdict.{Verdict}
use Rattle.edit_rules.specs.Kinds.{framework_of}
use Rattle.certificate_check.specs.declared.verdict.Checked.{Checked}
use Rattle.certificate_claims.specs.Verdicts.{Look, Finds, PassesLook, told, indices, refutation_looks, at_witness, at_order, at_set_count, at_set, at_refutation_count}

abbrev pub refutation_section : Certificate → List Look
refutation_section cert = flat_map (refutation_looks cert) (indices (length cert.refutations))

abbrev pub after_sets : Certificate → List Look
after_sets cert = at_refutation_count ∷ refutation_section cert

abbrev pub after_set_count : Certificate → List Look
after_set_count cert = map at_set (indices (length cert.sets)) ++ after_sets cert

abbrev pub after_order : Certificate → List Look
after_order cert = at_set_count ∷ after_set_count cert

abbrev pub after_witnesses : Certificate → List Look
after_witnesses cert = at_order ∷ after_order cert

abbrev pub after_shape : List (List ℕ) → Certificate → List Look
after_shape shown cert = map at_witness (indices (length shown)) ++ after_witnesses cert

-- what is found from there on
abbrev pub FindsFrom : Framework → Asked → Row → List (List ℕ) → Certificate → List Look → Verdict → Type 0
FindsFrom f asked row shown cert list verdict = Finds (PassesLook f asked row shown cert) (told cert) list verdict

abbrev pub FindsIn : Checked → List Look → Verdict → Type 0
FindsIn c list verdict =
    FindsFrom (framework_of c.framework.now) c.query.now c.row.now c.shown.now c.certificate.now list verdict
