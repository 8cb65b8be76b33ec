use Rattle.std.proofs.Common.{◌+◌, sym, refl, subst}
use Rattle.oracle_face.specs.Entries.{IsShareable}
use Rattle.clause_pool.proofs.ImportLemmas.{IsLook, look_goes_on}
use Rattle.clause_pool.proofs.pool.Pool.import.Goals as goal

pub loop-next-preserved : goal.loop-next-preserved
loop-next-preserved c =
    subst (λ es. IsLook c.args.from es (c.loop-next.next + 1)) (sym c.in_ok-push.ensures.ok)
    (look_goes_on c.args.from c.loop-next.entries c.loop-next.next
    (record { index = c.loop-next.next; entry = c.in_ok-entry.entry }) c.loop-next.invariant refl
    (subst IsShareable (sym c.in_ok-entry.ensures) c.in-Some.ensures))
