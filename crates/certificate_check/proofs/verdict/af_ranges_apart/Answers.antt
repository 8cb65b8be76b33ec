use Rattle.certificate_check.proofs.verdict.af_ranges_apart.Goals as goal

pub returns : goal.returns
returns c = record { tells = c.in_ok-apart.ensures }
