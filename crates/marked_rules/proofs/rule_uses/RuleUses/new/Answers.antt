use Rattle.std.proofs.Common.{length, refl}
use Rattle.aba_notions.specs.Closing.{IsMarked}
use Rattle.marked_rules.specs.Search.{derived_in, heads_of}
use Rattle.marked_rules.proofs.SearchLemmas.{starts_afresh}
use Rattle.marked_rules.proofs.StartLemmas.{begins_with, starts}
use Rattle.marked_rules.proofs.rule_uses.RuleUses.new.Goals as goal

pub fire_all-requires-clause-search : goal.fire_all-requires-clause-search
fire_all-requires-clause-search c = begins_with c.args.plain.now c.in_ok-uses.uses c.restart.new.closing
    c.in_ok-uses.ensures c.in_ok-restart.ensures

pub settle_all-requires : goal.settle_all-requires
settle_all-requires c = starts_afresh c.args.plain.now c.in_ok-uses.uses
    (IsMarked (derived_in c.in_ok-uses.uses c.restart.new.closing)) (length (heads_of c.args.plain.now))
    c.fire_all.new.closing c.in_ok-fire_all.ensures.search

pub returns : goal.returns
returns c = starts c.args.plain.now c.in_ok-uses.uses _ c.restart.new.closing c.fire_all.new.closing
    c.settle_all.new.closing c.in_ok-uses.ensures c.in_ok-restart.ensures c.in_ok-fire_all.ensures
    c.in_ok-settle_all.ensures.on c.in_ok-settle_all.ensures.done refl refl c.in_ok-uses-2.ensures.base
    c.in_ok-uses-2.ensures.counts
