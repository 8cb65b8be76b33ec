use Rattle.std.proofs.Common.{arith}
use Rattle.meaning_atoms.proofs.PieceLemmas.{none_spelled, others_spelled, some_numbers}
use Rattle.meaning_atoms.proofs.text.numbers_in.Goals as goal

pub returns-in_err-first-clause-read : goal.returns-in_err-first-clause-read
returns-in_err-first-clause-read c = λ numbers all few.
    absurd (none_spelled c.in-Some.text.now numbers (λ n more first. let h = c.in_err-first.ensures.read n more first in
    absurd (cc)) (rw c.in-Some.is at all))

pub returns-in_err-second-clause-read : goal.returns-in_err-second-clause-read
returns-in_err-second-clause-read c = λ numbers all few.
    let first = rw c.in-Some-rest.is at c.in_ok-first.ensures.spelled in
    let left = others_spelled _ _ _ numbers first (rw c.in-Some.is at all) in
    absurd (none_spelled c.in-Some-rest.rest.now left.0 (λ n more found. let h =
    c.in_err-second.ensures.read n more found in absurd (cc)) left.1)

pub returns-in_err-third-clause-read : goal.returns-in_err-third-clause-read
returns-in_err-third-clause-read c = λ numbers all few.
    let first = rw c.in-Some-rest.is at c.in_ok-first.ensures.spelled in
    let second = rw c.in-Some-rest-2.is at c.in_ok-second.ensures.spelled in
    let left = others_spelled _ _ _ numbers first (rw c.in-Some.is at all) in
    let last = others_spelled _ _ _ left.0 second left.1 in
    absurd (none_spelled c.in-Some-rest-2.rest.now last.0 (λ n more found. let h =
    c.in_err-third.ensures.read n more found in absurd (cc)) last.1)

pub returns-in-Some-rest-3-clause-read : goal.returns-in-Some-rest-3-clause-read
returns-in-Some-rest-3-clause-read c = λ numbers all few.
    let first = rw c.in-Some-rest.is at c.in_ok-first.ensures.spelled in
    let second = rw c.in-Some-rest-2.is at c.in_ok-second.ensures.spelled in
    let third = rw c.in-Some-rest-3.is at c.in_ok-third.ensures.spelled in
    let left = others_spelled _ _ _ numbers first (rw c.in-Some.is at all) in
    let middle = others_spelled _ _ _ left.0 second left.1 in
    let last = others_spelled _ _ _ middle.0 third middle.1 in
    let more = some_numbers c.in-Some-rest-3.field-0.now last.0 last.1 in
    let a = left.2 in let b = middle.2 in let d = last.2 in
    absurd (omega arith)
