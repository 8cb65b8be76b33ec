-- The laws of collective attacks hold of frameworks of both kinds.
use Rattle.semantics.specs.Frameworks.{Framework, af, aba}
use Rattle.aba_laws.specs.AfNotions.{collective_for}
use Rattle.aba_laws.proofs.AbaLemmas.{aba_lawful}
use Rattle.aba_laws.proofs.AfAgreement.{af_lawful}
use Rattle.aba_laws.proofs.CollectiveSets.{IsLawful}

pub lawful_for : (f : Framework) → IsLawful (collective_for f)
lawful_for (af f) = af_lawful f
lawful_for (aba f) = aba_lawful f
