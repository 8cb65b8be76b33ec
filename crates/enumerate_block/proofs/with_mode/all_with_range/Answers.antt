use Rattle.std.proofs.Common.{subst, sym, arith}
use Rattle.lists.specs.Members.{IsWithin}
use Rattle.certificate_claims.specs.SetLiterals.{members}
use Rattle.goal_lists.proofs.RunLemmas.{ran_as, ran_handed, ran_then}
use Rattle.enumerate_block.proofs.ModeLemmas.{makes_as}
use Rattle.enumerate_block.proofs.with_mode.all_with_range.Goals as goal

pub list_on-requires-clause-range : goal.list_on-requires-clause-range
list_on-requires-clause-range g c =
    subst (λ f. IsWithin c.args.range.now (members f)) (sym c.in_ok-room.ensures.ran.framework) c.requires.range

pub returns-in_err-room-clause-ran : goal.returns-in_err-room-clause-ran
returns-in_err-room-clause-ran g c =
    ran_as (makes_as _ _ c.args.mode c.mode_atom-atom.ensures) (omega arith)
    (ran_handed {m = 0} _ c.from_residual.ensures c.in_err-room.ensures.ran)

pub returns-then-not-room-clause-ran : goal.returns-then-not-room-clause-ran
returns-then-not-room-clause-ran g c =
    ran_as (makes_as _ _ c.args.mode c.mode_atom-atom.ensures) (omega arith) c.in_ok-room.ensures.ran

pub returns-clause-ran : goal.returns-clause-ran
returns-clause-ran g c =
    ran_as (makes_as _ _ c.args.mode c.mode_atom-atom.ensures) (omega arith)
    (ran_then {most = 1} g.met.O.Oracle.joins (omega arith) c.in_ok-room.ensures.ran c.list_on.ensures.ran)
