use Rattle.std.proofs.Common.{◌≡◌, ◌-◌, ◌∙◌, [], length, get_or, set, arith, refl, rules, sym}
use Rattle.std.proofs.lemmas.List.{nil_from_length}
use Rattle.marked_rules.specs.Overlaid.{open_of}
use Rattle.marked_rules.specs.Search.{heads_of, open_in}
use Rattle.marked_rules.proofs.SearchLemmas.{goes_not, counts_use, use_falls, settles, goes_same}
use Rattle.marked_rules.proofs.rule_uses.RuleUses.settle_all.Goals as goal

pub loop-rule-init : goal.loop-rule-init
loop-rule-init c = goes_not c.args.plain.now c.args.self.now (length (heads_of c.args.plain.now)) c.args.closing.now
    c.requires

pub lower-requires : goal.lower-requires
lower-requires c =
    let n = counts_use _ _ _ _ c.loop-rule.closing c.pop.new.self.items (c.in-Some.field-0-0, c.in-Some.rule)
    c.loop-rule.invariant.search c.in-Some.ensures.items in
    record {
      within = rw c.as_slice.ensures.value n.1;
      fits = rw c.as_slice.ensures.value c.loop-rule.invariant.search.fits.counts;
      some = rw c.as_slice.ensures.value n.2;
    }

pub fire-requires : goal.fire-requires
fire-requires c =
    let n = counts_use _ _ _ _ c.loop-rule.closing c.pop.new.self.items (c.in-Some.field-0-0, c.in-Some.rule)
    c.loop-rule.invariant.search c.in-Some.ensures.items in
    record {
      within = n.0;
      counted = n.1;
      fits = record {
        wide = c.loop-rule.invariant.search.fits.wide;
        counts = rw c.as_slice.ensures.value at c.lower.ensures.fits;
      };
    }

pub loop-rule-smaller : goal.loop-rule-smaller
loop-rule-smaller c =
    let u = c.args.self.now in
    let old = c.loop-rule.closing in
    let less : open_of u.start.open.items c.lower.new.self
    ≡ set (open_in u old) c.in-Some.rule (get_or (open_in u old) c.in-Some.rule 0 - 1) =
    rw c.as_slice.ensures.value at c.lower.ensures.lowered in
    rw (c.in_ok-fire.ensures.counts, less)
    (use_falls _ _ _ _ old c.pop.new.self.items (c.in-Some.field-0-0, c.in-Some.rule)
    c.loop-rule.invariant.search c.in-Some.ensures.items)

pub loop-rule-preserved : goal.loop-rule-preserved
loop-rule-preserved c =
    let u = c.args.self.now in
    let old = c.loop-rule.closing in
    let less : open_of u.start.open.items c.lower.new.self
    ≡ set (open_in u old) c.in-Some.rule (get_or (open_in u old) c.in-Some.rule 0 - 1) =
    rw c.as_slice.ensures.value at c.lower.ensures.lowered in
    settles c.args.plain.now u c.args.closing.now old
    (record { derived = old.derived; «open» = c.lower.new.self; pending = c.pop.new.self }) c.fire.new.closing
    c.pop.new.self.items (c.in-Some.field-0-0, c.in-Some.rule) c.loop-rule.invariant c.in-Some.ensures.items refl refl
    less c.in_ok-fire.ensures

pub returns-clause-on : goal.returns-clause-on
returns-clause-on c =
    let old = c.loop-rule.closing in
    let none : old.pending.items ≡ [] = nil_from_length old.pending.items
    (omega (arith, c.in_default.ensures.cases.0, old.pending.ok.0)) in
    let gone : c.pop.new.self.items ≡ [] = search rules in
    goes_same c.args.plain.now c.args.self.now (length (heads_of c.args.plain.now)) c.args.closing.now old _ refl refl
    (gone ∙ sym none) c.loop-rule.invariant
