use Rattle.std.proofs.Common.{◌<◌, length, get_or, arith, ap}
use Rattle.dung_notions.specs.Search.{ReleasesOne}
use Rattle.dung_notions.proofs.SearchLemmas.{next_counts, next_releases, grows_twice, grows_released}
use Rattle.dung_notions.proofs.af_plain.AfPlain.release_targets.Goals as goal

pub release-requires : goal.release-requires
release-requires c =
    let counts = next_counts c.args.self.now c.requires.form.form _ _ _ c.loop-index.search.pending.items
    c.loop-index.index c.loop-index.invariant.0 (omega (
      arith,
      c.loop-index-test.true,
      c.len-index-end.ensures,
      c.args.search.now.pending.ok.0,
      ap length c.loop-index.invariant.2,
    )) in
    record { within = rw c.as_slice.ensures.value counts.0; counted = rw c.as_slice.ensures.value counts.1 }

pub loop-index-preserved : goal.loop-index-preserved
loop-index-preserved c =
    let rest = c.loop-index.search.pending.items in
    let lt : c.loop-index.index < length rest = omega (
      arith,
      c.loop-index-test.true,
      c.len-index-end.ensures,
      c.args.search.now.pending.ok.0,
      ap length c.loop-index.invariant.2,
    ) in
    let counts = next_counts c.args.self.now c.requires.form.form _ _ _ rest c.loop-index.index c.loop-index.invariant.0
    lt in
    let step : ReleasesOne (get_or rest c.loop-index.index (0, 0)).1 c.loop-index.search.members.items
    c.loop-index.search.open_attackers.items c.release.new.search.members.items
    c.release.new.search.open_attackers.items
    = rw c.as_slice.ensures.value at c.in_ok-release.ensures.released in
    rw (c.in_ok-release.ensures.out, c.in_ok-release.ensures.pending) (
      next_releases c.args.self.now c.requires.form.form _ _ _ rest c.loop-index.index _ _ c.loop-index.invariant.0 lt
          step,
      c.loop-index.invariant.1,
      c.loop-index.invariant.2,
      grows_twice _ _ _ _ _ _ c.loop-index.invariant.3 (grows_released _ _ _ _ _ counts.0 counts.1 step),
    )
