use Rattle.certificate_claims.proofs.RangeLists.{apart_where_lists}
use Rattle.certificate_claims.proofs.ranges.no_range_within.Goals as goal

pub returns : goal.returns
returns c = apart_where_lists c.args.plain.now c.args.sets.now c.in_ok-found.found c.none_within.result
    c.live-live.ensures.form c.requires c.in_ok-found.ensures (rw c.as_slice.ensures at c.none_within.ensures)
