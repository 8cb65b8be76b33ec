use Rattle.std.proofs.Common.{ap, arith, Some}
use Rattle.meaning_atoms.proofs.LoopNumbers.{empty, not_empty, no_row, no_rest, one_rows, rows_whole}
use Rattle.meaning_atoms.proofs.loop_text.rows_of.Goals as goal

pub returns-in_default-clause-read : goal.returns-in_default-clause-read
returns-in_default-clause-read c = λ rows are.
    let none = rw c.in_default.is at c.in_ok-pairs.ensures.none in
    absurd (no_row c.args.atoms.now c.args.numbers.now c.loop-atom.rest.now c.loop-atom.atom-index c.loop-atom.rows rows
    c.loop-atom.invariant c.loop-atom-test.true none are)

pub returns-then-not-is_empty-clause-read : goal.returns-then-not-is_empty-clause-read
returns-then-not-is_empty-clause-read c = λ rows are.
    let past = c.loop-atom-test.false in
    let none = no_rest c.args.atoms.now c.args.numbers.now c.loop-atom.rest.now c.loop-atom.atom-index c.loop-atom.rows
    rows c.loop-atom.invariant (omega arith) are in
    absurd (not_empty c.loop-atom.rest.now c.if-not-is_empty.ensures none)

pub returns-clause-read : goal.returns-clause-read
returns-clause-read c = λ rows are.
    let past = c.loop-atom-test.false in
    ap Some (one_rows c.args.atoms.now c.args.numbers.now c.loop-atom.rows rows
    (rows_whole c.args.atoms.now c.args.numbers.now c.loop-atom.rest.now c.loop-atom.atom-index c.loop-atom.rows
    c.loop-atom.invariant (omega arith) (empty c.loop-atom.rest.now c.if-not-is_empty.ensures)) are)
