use Rattle.core_events.specs.declared.event.Event.TheVariants.{Answer, Import, Learn, Refresh, Share}
use Rattle.core_events.specs.AtHand.{core_of}
use Rattle.core_events.proofs.EventLemmas.{commit_comes, event_comes, side_comes}
use Rattle.core_events.proofs.at_hand.CoreAtHand.step.Goals as goal

pub returns-in-Commit : goal.returns-in-Commit
returns-in-Commit c =
    commit_comes (core_of c.args.self.now) (core_of c.commit.new.self) c.commit.result c.args.event.now
    c.in-Commit.session c.in-Commit.edits c.as_slice.result.now c.in-Commit.is c.as_slice.ensures c.commit.ensures

pub returns-in-Refresh : goal.returns-in-Refresh
returns-in-Refresh c =
    event_comes (core_of c.args.self.now) (core_of c.look.new.self) c.look.result c.args.event.now
    (Refresh c.in-Refresh.session) c.in-Refresh.is c.look.ensures

pub returns-in-Learn : goal.returns-in-Learn
returns-in-Learn c =
    event_comes (core_of c.args.self.now) (core_of c.learn.new.self) c.learn.result c.args.event.now
    (Learn c.in-Learn.session c.in-Learn.clause c.in-Learn.origin c.in-Learn.closing) c.in-Learn.is c.learn.ensures

pub returns-in-Side : goal.returns-in-Side
returns-in-Side c =
    side_comes (core_of c.args.self.now) (core_of c.keep_side.new.self) c.keep_side.result c.args.event.now
    c.in-Side.session c.in-Side.from c.in-Side.literals c.as_slice-in-Side.result.now c.in-Side.is
    c.as_slice-in-Side.ensures c.keep_side.ensures

pub returns-in-Share : goal.returns-in-Share
returns-in-Share c =
    event_comes (core_of c.args.self.now) (core_of c.share.new.self) c.share.result c.args.event.now
    (Share c.in-Share.session c.in-Share.step c.in-Share.index) c.in-Share.is c.share.ensures

pub returns-in-Import : goal.returns-in-Import
returns-in-Import c =
    event_comes (core_of c.args.self.now) (core_of c.import.new.self) c.import.result c.args.event.now
    (Import c.in-Import.session c.in-Import.index) c.in-Import.is c.import.ensures

pub returns-in-Answer : goal.returns-in-Answer
returns-in-Answer c =
    event_comes (core_of c.args.self.now) (core_of c.answer.new.self) c.answer.result c.args.event.now
    (Answer c.in-Answer.session c.in-Answer.query c.in-Answer.limit c.in-Answer.pending c.in-Answer.result)
    c.in-Answer.is c.answer.ensures
