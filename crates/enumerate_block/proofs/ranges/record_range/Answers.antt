use Rattle.std.proofs.Common.{◌-◌, ap, length, refl, arith}
use Rattle.enumerate_block.specs.goal_lists.proofs.Calls.{makes_same}
use Rattle.enumerate_block.proofs.KnownRanges.{range_known}
use Rattle.enumerate_block.proofs.RangeTurns.{apart_grown, as_listed, gains_grown, more_grown, range_fits}
use Rattle.goal_lists.proofs.RunLemmas.{ran_as, ran_handed, ran_lost, ran_then, then_handed}
use Rattle.enumerate_block.proofs.ranges.record_range.Goals as goal

pub grow_range-requires-clause-kind : goal.grow_range-requires-clause-kind
grow_range-requires-clause-kind g c = c.requires.found.kind

pub all_with_range-requires-clause-range : goal.all_with_range-requires-clause-range
all_with_range-requires-clause-range g c =
    range_fits c.args.mode (g.O.Oracle.framework c.args.oracle.now) (g.O.Oracle.framework c.grow_range.new.oracle)
    (g.O.Oracle.log c.grow_range.new.oracle) c.args.set.now c.as_slice.result.now c.in_ok-widest.widest
    c.requires.found.kind c.in_ok-widest.ensures.ran.framework c.in_ok-widest.ensures.ran.kept c.as_slice.ensures.value
    c.in_ok-widest.ensures.grows.is_widest

pub all_with_range-requires-clause-known : goal.all_with_range-requires-clause-known
all_with_range-requires-clause-known g c =
    range_known (g.O.Oracle.framework c.args.oracle.now) (g.O.Oracle.framework c.grow_range.new.oracle)
    (g.O.Oracle.log c.grow_range.new.oracle) c.args.mode c.args.set.now c.as_slice.result.now c.in_ok-widest.widest
    c.requires.found.kind c.in_ok-widest.ensures.ran.framework c.as_slice.ensures.value
    c.in_ok-widest.ensures.grows.is_widest

pub returns-in-TooMany-clause-records : goal.returns-in-TooMany-clause-records
returns-in-TooMany-clause-records g c =
    more_grown c.args.mode (g.O.Oracle.framework c.args.oracle.now) (g.O.Oracle.framework c.grow_range.new.oracle)
    (g.O.Oracle.log c.args.oracle.now) (g.O.Oracle.log c.grow_range.new.oracle)
    (g.O.Oracle.log c.all_with_range.new.oracle) c.args.limit c.args.found.now c.grow_range.new.found c.args.set.now
    c.as_slice.result.now c.in_ok-widest.widest (c.args.limit - c.len.result) c.in_ok-all_with_range.field-0
    c.in_ok-widest.ensures.ran.framework c.members-members.ensures.kept c.in_ok-widest.ensures.ran.kept c.requires.set
    c.requires.found c.in_ok-widest.ensures.ran.run.grows c.in_ok-all_with_range.ensures.ran.run.grows
    c.in_ok-widest.ensures.grows c.as_slice.ensures.value c.in-TooMany.is c.in_ok-all_with_range.ensures.listed
    (omega (arith, c.len.ensures))

pub insert_all-requires-clause-apart : goal.insert_all-requires-clause-apart
insert_all-requires-clause-apart g c =
    apart_grown c.args.mode (g.O.Oracle.framework c.args.oracle.now) (g.O.Oracle.framework c.grow_range.new.oracle)
    (g.O.Oracle.log c.args.oracle.now) (g.O.Oracle.log c.grow_range.new.oracle)
    (g.O.Oracle.log c.all_with_range.new.oracle) c.args.found.now c.grow_range.new.found c.args.set.now
    c.as_slice.result.now c.in_ok-widest.widest (c.args.limit - c.len.result) c.in-Whole.step c.in-Whole.sets
    c.as_slice-in-Whole.result.now c.in_ok-all_with_range.field-0
    c.in_ok-widest.ensures.ran.framework c.members-members.ensures.kept c.in_ok-widest.ensures.ran.kept c.requires.set
    c.requires.found c.in_ok-widest.ensures.ran.run.grows c.in_ok-all_with_range.ensures.ran.run.grows
    c.in_ok-widest.ensures.grows c.as_slice.ensures.value c.in-Whole.is c.in_ok-all_with_range.ensures.listed
    c.as_slice-in-Whole.ensures.value

pub returns-clause-records : goal.returns-clause-records
returns-clause-records g c =
    gains_grown c.args.mode (g.O.Oracle.framework c.args.oracle.now) (g.O.Oracle.framework c.grow_range.new.oracle)
    (g.O.Oracle.log c.args.oracle.now) (g.O.Oracle.log c.grow_range.new.oracle)
    (g.O.Oracle.log c.all_with_range.new.oracle) c.args.limit c.args.found.now c.grow_range.new.found
    (record { sets = c.insert_all.new.sets; marks = c.insert_all.new.marks; asks = c.grow_range.new.found.asks })
    c.args.set.now c.as_slice.result.now c.in_ok-widest.widest (c.args.limit - c.len.result) c.in-Whole.step
    c.in-Whole.sets c.as_slice-in-Whole.result.now c.in_ok-all_with_range.field-0
    c.in_ok-widest.ensures.ran.framework c.members-members.ensures.kept c.in_ok-widest.ensures.ran.kept c.requires.set
    c.requires.found c.in_ok-widest.ensures.ran.run.grows c.in_ok-all_with_range.ensures.ran.run.grows
    c.in_ok-widest.ensures.grows c.as_slice.ensures.value c.in-Whole.is c.in_ok-all_with_range.ensures.listed
    c.as_slice-in-Whole.ensures.value
    (omega (arith, c.len.ensures, c.requires.room, ap (λ v. length v.items) c.in_ok-widest.ensures.grows.sets))
    c.in_ok-insert_all-in-Whole.ensures refl

pub grow_range-requires-clause-set : goal.grow_range-requires-clause-set
grow_range-requires-clause-set g c = c.requires.set

pub returns-in_err-widest-clause-ran : goal.returns-in_err-widest-clause-ran
returns-in_err-widest-clause-ran g c =
    ran_handed _ c.from_residual.ensures (ran_as {most = 2} (makes_same _) (omega arith) c.in_err-widest.ensures.ran)

pub returns-in_err-all_with_range-clause-ran : goal.returns-in_err-all_with_range-clause-ran
returns-in_err-all_with_range-clause-ran g c =
    then_handed g.met.O.Oracle.joins _ c.from_residual-in_err-all_with_range.ensures
    (omega arith) c.in_ok-widest.ensures.ran
    (as_listed c.args.mode c.in_err-all_with_range.ensures.ran)

pub returns-in-TooMany-clause-ran : goal.returns-in-TooMany-clause-ran
returns-in-TooMany-clause-ran g c =
    ran_then g.met.O.Oracle.joins (omega arith) c.in_ok-widest.ensures.ran (as_listed c.args.mode
    c.in_ok-all_with_range.ensures.ran)

pub returns-in_err-insert_all-in-Whole-clause-ran : goal.returns-in_err-insert_all-in-Whole-clause-ran
returns-in_err-insert_all-in-Whole-clause-ran g c =
    ran_lost _ c.from_residual-in_err-insert_all-in-Whole.ensures (omega arith)
    (ran_then {most = 2} g.met.O.Oracle.joins (omega arith) c.in_ok-widest.ensures.ran
    (as_listed c.args.mode c.in_ok-all_with_range.ensures.ran))

pub returns-clause-ran : goal.returns-clause-ran
returns-clause-ran g c =
    ran_then g.met.O.Oracle.joins (omega arith) c.in_ok-widest.ensures.ran (as_listed c.args.mode
    c.in_ok-all_with_range.ensures.ran)
