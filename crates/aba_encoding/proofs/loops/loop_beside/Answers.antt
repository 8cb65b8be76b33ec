use Rattle.std.specs.Prelude.{Contains}
use Rattle.aba_notions.specs.Unfounded.{IsUnfoundedOf}
use Rattle.aba_encoding.proofs.LoopLemmas.{found_there, least_loops, loop_made, none_there}
use Rattle.aba_encoding.proofs.loops.loop_beside.Goals as goal

pub loop_name-requires-clause-some : goal.loop_name-requires-clause-some
loop_name-requires-clause-some c =
    (found_there (IsUnfoundedOf c.args.plain.now (Contains c.args.base.now) c.in_ok-claimed.claimed)
    c.in_ok-found.field-0 c.in-Some.found c.in-Some.is c.in_ok-found.ensures.some).some

pub loop_name-requires-clause-rows : goal.loop_name-requires-clause-rows
loop_name-requires-clause-rows c =
    let f = c.args.plain.now in
    let claimed = c.in_ok-claimed.claimed in
    let are = rw c.atoms-atoms.ensures.value at c.in_ok-claimed.ensures in
    least_loops f c.args.base.now claimed c.in-Some.found c.atoms-atoms.ensures.form
    (λ y there. ((are.members y).0 there).0)
    (found_there (IsUnfoundedOf f (Contains c.args.base.now) claimed) c.in_ok-found.field-0 c.in-Some.found
    c.in-Some.is c.in_ok-found.ensures.some)

pub returns-in-Some-clause-some : goal.returns-in-Some-clause-some
returns-in-Some-clause-some c =
    let f = c.args.plain.now in
    let claimed = c.in_ok-claimed.claimed in
    loop_made f c.args.values.now c.args.base.now claimed c.args.closure c.in-Some.found
    c.in_ok-loop_name-in-Some.field-0 (rw c.atoms-atoms.ensures.value at c.in_ok-claimed.ensures)
    (found_there (IsUnfoundedOf f (Contains c.args.base.now) claimed) c.in_ok-found.field-0 c.in-Some.found
    c.in-Some.is c.in_ok-found.ensures.some)
    c.in_ok-loop_name-in-Some.ensures

pub returns-clause-none : goal.returns-clause-none
returns-clause-none c =
    let are = rw c.atoms-atoms.ensures.value at c.in_ok-claimed.ensures in
    λ x atom told. none_there _ c.in_ok-found.field-0 c.in-None.is c.in_ok-found.ensures.none x
    ((are.members x).1 (atom, told))
