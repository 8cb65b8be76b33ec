-- The names of causes, as they are printed.
use Rattle.std.specs.Prelude.{ℕ, List, codes}
use Rattle.certificate_text.specs.declared.fault.CertCause.{CertCause}
use Rattle.certificate_text.specs.declared.fault.CertCause.TheVariants.{NoHeader, BadLine, BadNumber, NotRising, BadAtom, BadAxiom, NoEnd, AfterEnd}

abbrev pub cause_name : CertCause → List ℕ
cause_name NoHeader = codes "NoHeader"
cause_name BadLine = codes "BadLine"
cause_name BadNumber = codes "BadNumber"
cause_name NotRising = codes "NotRising"
cause_name BadAtom = codes "BadAtom"
cause_name BadAxiom = codes "BadAxiom"
cause_name NoEnd = codes "NoEnd"
cause_name AfterEnd = codes "AfterEnd"
