use Rattle.core_events.specs.AtHand.{core_of}
use Rattle.core_events.proofs.TurnLemmas.{refresh_comes}
use Rattle.core_events.proofs.at_hand.CoreAtHand.look.Goals as goal

pub returns : goal.returns
returns c =
    refresh_comes (core_of c.args.self.now) (core_of c.refresh.new.self) c.args.session c.refresh.result
    c.refresh.ensures
