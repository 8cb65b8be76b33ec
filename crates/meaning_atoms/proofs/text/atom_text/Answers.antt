use Rattle.std.proofs.Common.{◌≡◌, ◌++◌, ap, sym, subst, ◌∙◌}
use Rattle.meaning_atoms.specs.AtomText.{IsLitText, lit_text}
use Rattle.meaning_atoms.proofs.WrittenLits.{written_reads}
use Rattle.meaning_atoms.proofs.text.atom_text.Goals as goal

pub returns-clause-reads : goal.returns-clause-reads
returns-clause-reads c = λ fits.
    let same : c.from_vec.result ≡ lit_text c.args.lit.now
    = c.from_vec.ensures ∙ ap (λ v. v.items) c.into_bytes.ensures.value ∙ c.in_ok-push_lit.ensures
    ∙ ap (λ b. b ++ lit_text c.args.lit.now) c.new-text.ensures.bytes in
    subst (λ text. IsLitText text c.args.lit.now) (sym same) (written_reads c.args.lit.now fits)
