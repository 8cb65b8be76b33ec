use Rattle.std.proofs.Common.{◌≡◌, sym, subst, rules, arith}
use Rattle.std.specs.Prelude.{All, Ok}
use Rattle.std.specs.List.Sorted.{IsStrictlyIncreasing}
use Rattle.std.proofs.lemmas.Grind.{common_steps}
use Rattle.certificate_text.specs.Reading.{ReadsAs}
use Rattle.certificate_text.specs.Written.{certificate_text}
use Rattle.certificate_text.proofs.RoundTrip.{written_certificate_reads}
use Rattle.certificate_text.proofs.write.write_certificate.Goals as goal

pub returns-clause-reads : goal.returns-clause-reads
returns-clause-reads c = λ fits.
    let written : c.from_vec.result
    ≡ certificate_text c.args.certificate.now = first_of (search rules, grind (arith, common_steps)) in
    subst (λ text. ReadsAs text (Ok c.args.certificate.now)) (sym written)
    (written_certificate_reads c.args.certificate.now
    (subst (λ sets. All IsStrictlyIncreasing sets) c.as_slice.ensures c.in_ok-push_sets.ensures.rises) fits)
