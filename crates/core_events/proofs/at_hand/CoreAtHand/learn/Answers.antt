use Rattle.std.proofs.Common.{◌∙◌, ap, sym}
use Rattle.oracle_face.specs.Logs.{by_axiom, by_hints}
use Rattle.core_events.specs.Events.{source_by}
use Rattle.core_events.specs.AtHand.{core_of}
use Rattle.core_events.proofs.EventLemmas.{learn_comes}
use Rattle.core_events.proofs.at_hand.CoreAtHand.learn.Goals as goal

pub returns-in-Axiom : goal.returns-in-Axiom
returns-in-Axiom c =
    learn_comes (core_of c.args.self.now) (core_of c.learn_axiom.new.self) c.learn_axiom.result c.args.session
    c.args.closing c.args.clause.now c.as_slice.result.now (source_by c.args.origin.now) (by_axiom c.in-Axiom.name)
    c.as_slice.ensures (ap source_by (sym c.in-Axiom.is)) c.learn_axiom.ensures

pub returns-in-Hints : goal.returns-in-Hints
returns-in-Hints c =
    learn_comes (core_of c.args.self.now) (core_of c.learn_derived.new.self) c.learn_derived.result c.args.session
    c.args.closing c.args.clause.now c.as_slice-in-Hints.result.now (source_by c.args.origin.now)
    (by_hints c.as_slice-in-Hints-2.result.now) c.as_slice-in-Hints.ensures
    (ap by_hints c.as_slice-in-Hints-2.ensures ∙ ap source_by (sym c.in-Hints.is)) c.learn_derived.ensures
