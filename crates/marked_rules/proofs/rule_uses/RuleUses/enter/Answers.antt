use Rattle.std.proofs.Common.{◌∙◌, ◌++◌, true, ap, arith, length, refl}
use Rattle.std.proofs.lemmas.List.{length-set}
use Rattle.marked_rules.specs.Overlaid.{derived_of}
use Rattle.marked_rules.proofs.OverlaidLemmas.{length_overlaid, derived_next}
use Rattle.marked_rules.proofs.SearchLemmas.{enters_now}
use Rattle.marked_rules.proofs.rule_uses.RuleUses.enter.Goals as goal

pub mark-requires : goal.mark-requires
mark-requires c =
    let o = c.lacks-open.ensures.0 c.if-not-open.false in
    omega (
      arith,
      o.within,
      c.requires.wide,
      length_overlaid true c.args.self.now.start.base.items c.args.closing.now.derived (λ j. true),
    )

pub returns : goal.returns
returns c =
    let o = c.lacks-open.ensures.0 c.if-not-open.false in
    let base = c.args.self.now.start.base.items in
    let old = c.args.closing.now in
    record {
      fits = record {
        wide = ap length c.mark.ensures ∙ length-set old.derived c.args.atom true ∙ c.requires.wide;
        counts = c.requires.counts;
      };
      entered = enters_now c.args.self.now.uses.pairs c.args.atom (derived_of base old.derived)
          (derived_of base c.mark.new.self) old.pending.items c.extend_from_slice.new.self.items o.is_open
          (ap (λ m. derived_of base m) c.mark.ensures
          ∙ derived_next base old.derived c.args.atom
          (omega (arith, o.within, length_overlaid true base old.derived (λ j. true))) c.requires.wide)
          (c.in_ok-extend_from_slice.ensures.items ∙ ap (λ l. old.pending.items ++ l) c.of.ensures.value);
      counts = refl;
    }
