use Rattle.std.proofs.Common.{◌∙◌, subst, sym, arith}
use Rattle.lists.specs.Members.{IsWithin}
use Rattle.certificate_claims.specs.SetLiterals.{members}
use Rattle.enumerate_block.specs.Modes.{MadeDiffers, IsFurtherOf, IsListing}
use Rattle.enumerate_block.proofs.ModeLemmas.{fewer_unlisted, further_refuted, further_set, listing_grown}
use Rattle.enumerate_block.proofs.ModeLemmas.{listing_kept, mode_members, not_recorded, recorded}
use Rattle.std.proofs.lemmas.Result.{IfOk-from_err}
use Rattle.semantics.specs.Frameworks.{Framework}
use Rattle.oracle_face.specs.declared.face.Found.{Found}
use Rattle.goal_lists.proofs.RunLemmas.{ran_none, ran_then, then_found, then_handed, then_none}
use Rattle.enumerate_block.proofs.with_mode.list_on.Goals as goal

pub find_further-requires-clause-range : goal.find_further-requires-clause-range
find_further-requires-clause-range g c =
    subst (λ f. IsWithin c.args.range.now (members f)) (sym c.loop-listing.invariant.ran.framework) c.requires.range

pub returns-in-Refuted-clause-listed : goal.returns-in-Refuted-clause-listed
returns-in-Refuted-clause-listed g c =
    let f = g.O.Oracle.framework c.args.oracle.now in
    let h = g.O.Oracle.framework c.loop-listing.oracle in
    let inv = c.loop-listing.invariant in
    further_refuted f h (g.O.Oracle.framework c.find_further.new.oracle) (g.O.Oracle.log c.find_further.new.oracle)
    c.args.mode
    c.args.range.now c.args.limit c.loop-listing.listing c.in_ok-step.field-0 c.in-Refuted.step inv.ran.framework
    (c.in_ok-step.ensures.ran.framework ∙ inv.ran.framework) c.in_ok-step.ensures.ran.kept c.requires.mode
    (listing_grown f (MadeDiffers h c.args.mode) (g.O.Oracle.log c.loop-listing.oracle) (g.O.Oracle.log c.find_further.new.oracle)
    c.args.mode c.args.range.now c.loop-listing.listing c.in_ok-step.ensures.ran.run.grows inv.listing)
    c.in-Refuted.is c.in_ok-step.ensures.further inv.room

pub record_set-requires-clause-listing : goal.record_set-requires-clause-listing
record_set-requires-clause-listing g c =
    let f = g.O.Oracle.framework c.args.oracle.now in
    let h = g.O.Oracle.framework c.loop-listing.oracle in
    let inv = c.loop-listing.invariant in
    listing_kept f h (g.O.Oracle.framework c.find_further.new.oracle) (MadeDiffers h c.args.mode)
    (g.O.Oracle.log c.loop-listing.oracle)
    (g.O.Oracle.log c.find_further.new.oracle) c.args.mode c.args.range.now c.loop-listing.listing inv.ran.framework
    c.in_ok-step.ensures.ran.framework c.in_ok-step.ensures.ran.run.grows inv.listing

pub returns-then-not-room-clause-listed : goal.returns-then-not-room-clause-listed
returns-then-not-room-clause-listed g c =
    let f = g.O.Oracle.framework c.args.oracle.now in
    let k = g.O.Oracle.framework c.find_further.new.oracle in
    not_recorded f k (g.O.Oracle.log c.record_set.new.oracle) c.args.mode c.args.range.now c.args.limit c.in-Set.set
    c.loop-listing.listing c.record_set.new.listing c.in_ok-room-in-Set.room
    (c.in_ok-step.ensures.ran.framework ∙ c.loop-listing.invariant.ran.framework) c.if-not-room.true
    c.in_ok-room-in-Set.ensures.records

pub loop-listing-smaller : goal.loop-listing-smaller
loop-listing-smaller g c =
    let f = g.O.Oracle.framework c.args.oracle.now in
    let h = g.O.Oracle.framework c.loop-listing.oracle in
    let k = g.O.Oracle.framework c.find_further.new.oracle in
    let inv = c.loop-listing.invariant in
    let found = further_set f h (g.O.Oracle.log c.find_further.new.oracle) c.args.mode c.args.range.now
    c.loop-listing.listing c.in_ok-step.field-0 c.in-Set.set inv.ran.framework c.in-Set.is c.in_ok-step.ensures.further
    in
    let more = recorded f k (g.O.Oracle.log c.record_set.new.oracle) c.args.mode c.args.range.now c.args.limit
    c.in-Set.set c.loop-listing.listing c.record_set.new.listing c.in_ok-room-in-Set.room
    (c.in_ok-step.ensures.ran.framework ∙ inv.ran.framework) c.if-not-room.false c.in_ok-room-in-Set.ensures.records in
    fewer_unlisted f c.in-Set.set c.loop-listing.listing.sets.items c.record_set.new.listing.sets.items
    (mode_members f c.in-Set.set c.args.mode c.members-members.ensures.kept.numbered c.requires.mode found.0.has_mode)
    found.1 more.1

pub loop-listing-preserved : goal.loop-listing-preserved
loop-listing-preserved g c =
    let f = g.O.Oracle.framework c.args.oracle.now in
    let k = g.O.Oracle.framework c.find_further.new.oracle in
    let inv = c.loop-listing.invariant in
    let same = c.in_ok-step.ensures.ran.framework ∙ inv.ran.framework in
    let more = recorded f k (g.O.Oracle.log c.record_set.new.oracle) c.args.mode c.args.range.now c.args.limit
    c.in-Set.set c.loop-listing.listing c.record_set.new.listing c.in_ok-room-in-Set.room same c.if-not-room.false
    c.in_ok-room-in-Set.ensures.records in
    record {
      listing = more.0;
      room = more.2;
      ran = ran_then g.met.O.Oracle.joins (omega arith) (then_found g.met.O.Oracle.joins c.in-Set.is inv.ran
          c.in_ok-step.ensures.ran)
          c.in_ok-room-in-Set.ensures.ran;
    }

pub loop-listing-init : goal.loop-listing-init
loop-listing-init g c =
    record {
      listing = c.requires.start;
      room = c.requires.room;
      ran = ran_none 0 c.members-members.ensures.kept (g.met.O.Oracle.stays _);
    }

pub find_further-requires-clause-mode : goal.find_further-requires-clause-mode
find_further-requires-clause-mode g c = c.requires.mode

pub find_further-requires-clause-listing : goal.find_further-requires-clause-listing
find_further-requires-clause-listing g c =
    subst (λ (x : Framework). IsListing x (g.O.Oracle.log c.loop-listing.oracle) c.args.mode c.args.range.now
    c.loop-listing.listing)
    (sym c.loop-listing.invariant.ran.framework) c.loop-listing.invariant.listing

pub returns-in_err-step-clause-listed : goal.returns-in_err-step-clause-listed
returns-in_err-step-clause-listed g c = IfOk-from_err _ _ c.from_residual.ensures.0

pub record_set-requires-clause-mode : goal.record_set-requires-clause-mode
record_set-requires-clause-mode g c = c.requires.mode

pub record_set-requires-clause-set : goal.record_set-requires-clause-set
record_set-requires-clause-set g c =
    let k = g.O.Oracle.framework c.find_further.new.oracle in
    let log = g.O.Oracle.log c.find_further.new.oracle in
    subst (λ (x : Found). IsFurtherOf k log c.args.mode c.args.range.now c.loop-listing.listing x) c.in-Set.is
    (subst (λ (x : Framework). IsFurtherOf x log c.args.mode c.args.range.now c.loop-listing.listing
    c.in_ok-step.field-0)
    (sym c.in_ok-step.ensures.ran.framework) c.in_ok-step.ensures.further)

pub returns-in_err-room-in-Set-clause-listed : goal.returns-in_err-room-in-Set-clause-listed
returns-in_err-room-in-Set-clause-listed g c = IfOk-from_err _ _ c.from_residual-in_err-room-in-Set.ensures.0

pub returns-in_err-step-clause-ran : goal.returns-in_err-step-clause-ran
returns-in_err-step-clause-ran g c =
    then_handed {n = 0} g.met.O.Oracle.joins _ c.from_residual.ensures (omega arith) c.loop-listing.invariant.ran
    c.in_err-step.ensures.ran

pub returns-in-Refuted-clause-ran : goal.returns-in-Refuted-clause-ran
returns-in-Refuted-clause-ran g c =
    then_none g.met.O.Oracle.joins c.in-Refuted.is (omega arith) c.loop-listing.invariant.ran c.in_ok-step.ensures.ran

pub returns-in_err-room-in-Set-clause-ran : goal.returns-in_err-room-in-Set-clause-ran
returns-in_err-room-in-Set-clause-ran g c =
    then_handed g.met.O.Oracle.joins _ c.from_residual-in_err-room-in-Set.ensures (omega arith)
    (then_found g.met.O.Oracle.joins c.in-Set.is c.loop-listing.invariant.ran c.in_ok-step.ensures.ran)
    c.in_err-room-in-Set.ensures.ran

pub returns-then-not-room-clause-ran : goal.returns-then-not-room-clause-ran
returns-then-not-room-clause-ran g c =
    ran_then g.met.O.Oracle.joins (omega arith)
    (then_found g.met.O.Oracle.joins c.in-Set.is c.loop-listing.invariant.ran c.in_ok-step.ensures.ran)
    c.in_ok-room-in-Set.ensures.ran
