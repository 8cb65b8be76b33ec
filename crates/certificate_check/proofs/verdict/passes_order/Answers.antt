use Rattle.certificate_check.proofs.verdict.passes_order.Goals as goal

pub returns-in-AllLargest : goal.returns-in-AllLargest
returns-in-AllLargest c = rw c.in-AllLargest.is (rw c.as_slice-in-AllLargest.ensures at c.rise_apart.ensures)
