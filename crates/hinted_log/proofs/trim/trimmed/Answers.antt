use Rattle.hinted_log.proofs.trim.trimmed.Goals as goal

pub marked_numbers-requires : goal.marked_numbers-requires
marked_numbers-requires c = rw c.as_slice.ensures.value c.in_ok-marks.ensures.long

pub returns : goal.returns
returns c = record {
  rises = c.in_ok-found.ensures.rises;
  members = λ j. (
    λ h. (c.in_ok-marks.ensures.marked j).0 (rw c.as_slice.ensures.value at ((c.in_ok-found.ensures.members j).0 h)),
    λ h. (c.in_ok-found.ensures.members j).1 (rw c.as_slice.ensures.value ((c.in_ok-marks.ensures.marked j).1 h)),
  );
}
