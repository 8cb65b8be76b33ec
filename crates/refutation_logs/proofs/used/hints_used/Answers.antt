use Rattle.std.proofs.Common.{inl, refl}
use Rattle.plain_lits.proofs.CheckingLemmas.{checks_along}
use Rattle.refutation_logs.proofs.used.hints_used.Goals as goal

pub assume_false-requires-clause-plain : goal.assume_false-requires-clause-plain
assume_false-requires-clause-plain c = λ t. c.requires.taken 0 (inl (t, refl))

pub up_to_false-used-requires-clause-taken : goal.up_to_false-used-requires-clause-taken
up_to_false-used-requires-clause-taken c = λ place w.
    c.requires.taken place (checks_along _ _ _ _ _ c.assume_false.ensures.now w)

pub returns-clause-taken : goal.returns-clause-taken
returns-clause-taken c = checks_along _ _ _ _ _ c.assume_false.ensures.now c.up_to_false-used.ensures

pub up_to_false-used-requires-clause-room : goal.up_to_false-used-requires-clause-room
up_to_false-used-requires-clause-room c = rw c.assume_false.ensures.vars c.requires.room
