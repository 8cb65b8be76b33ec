use Rattle.std.proofs.Common.{◌≡◌, length, arith}
use Rattle.dung_notions.specs.Search.{Grows}
use Rattle.dung_notions.proofs.SearchLemmas.{finishes, round_on}
use Rattle.dung_notions.proofs.af_plain.AfPlain.run_rounds.Goals as goal

pub loop-head-preserved : goal.loop-head-preserved
loop-head-preserved c =
    let defeats = c.in_ok-defeat_targets_from.ensures in
    let releases = c.in_ok-release_targets.ensures in
    let grows : Grows c.loop-head.search.members.items c.loop-head.search.open_attackers.items
    c.release_targets.new.search.members.items c.release_targets.new.search.open_attackers.items
    = rw (defeats.members, defeats.counts) at releases.grows in
    let on = round_on c.args.self.now c.loop-head.search.members.items c.loop-head.search.out.items
    c.defeat_targets_from.new.search.out.items c.loop-head.search.open_attackers.items _ _ c.loop-head.head _
    c.loop-head.invariant.3 defeats.out grows in
    let end : c.len-end.result ≡ length c.loop-head.search.members.items
    = omega (arith, c.len-end.ensures, c.loop-head.search.members.ok.0) in
    rw end (
      releases.state,
      releases.pending,
      on.0,
      rw releases.out on.1,
    )

pub returns : goal.returns
returns c = finishes c.args.self.now _ c.loop-head.search.out.items _
    (rw c.loop-head.invariant.1 at c.loop-head.invariant.0)
    (λ k b lt att. c.loop-head.invariant.3 k b
    (omega (arith, lt, c.loop-head-test.false, c.len.ensures, c.loop-head.search.members.ok.0)) att)
