use Rattle.num_text.specs.Lines.{kept_lines}
use Rattle.certificate_text.specs.Reading.{end_of}
use Rattle.certificate_text.proofs.Exact.{exact}
use Rattle.certificate_text.proofs.laws.reading_is_exact.Goals as goal

pub returns : goal.returns
returns c = λ bytes certificate. exact (end_of bytes) (kept_lines bytes) certificate
