use Rattle.std.proofs.Common.{◌≡◌, ◌++◌, ap, sym, subst, ◌∙◌}
use Rattle.num_text.specs.Cuts.{field_texts}
use Rattle.meaning_atoms.specs.AxiomText.{IsAxiomFields, axiom_text}
use Rattle.meaning_atoms.proofs.WrittenAxioms.{axiom_fields_are, axiom_reads}
use Rattle.meaning_atoms.proofs.axiom_text.write_axiom.Goals as goal

pub returns-clause-reads : goal.returns-clause-reads
returns-clause-reads c = λ fits.
    let same : c.from_vec.result ≡ axiom_text c.args.axiom.now
    = c.from_vec.ensures ∙ ap (λ v. v.items) c.into_bytes.ensures.value ∙ c.in_ok-push_axiom.ensures
    ∙ ap (λ b. b ++ axiom_text c.args.axiom.now) c.new-text.ensures.bytes in
    subst (λ text. IsAxiomFields (field_texts text) c.args.axiom.now) (sym same)
    (subst (λ fields. IsAxiomFields fields c.args.axiom.now) (sym (axiom_fields_are c.args.axiom.now fits)) (axiom_reads c.args.axiom.now fits))
