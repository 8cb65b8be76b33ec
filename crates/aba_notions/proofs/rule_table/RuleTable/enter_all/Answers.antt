use Rattle.std.proofs.Common.{◌∙◌, ap, arith, length, get_or, refl}
use Rattle.std.specs.Prelude.{Contains}
use Rattle.std.proofs.lemmas.List.{length-set}
use Rattle.std.proofs.lemmas.List.Elements.{Contains-get_or}
use Rattle.semantics.specs.Rules.{given}
use Rattle.aba_notions.specs.Storage.{rules_in}
use Rattle.aba_notions.proofs.ClosingLemmas.{given_none, entered, given_more, given_all}
use Rattle.aba_notions.proofs.rule_table.RuleTable.enter_all.Goals as goal

pub loop-atom-init : goal.loop-atom-init
loop-atom-init c = (
  given_none (rules_in c.args.self.now) c.args.self.now.heads.items c.args.self.now.uses.pairs
      (Contains c.args.given.now) c.args.search.now.derived.items c.args.search.now.open_atoms.items
      c.args.search.now.pending.items c.requires.state c.requires.none,
  λ j lt. absurd (omega (arith, lt)),
  refl,
)

pub loop-atom-preserved : goal.loop-atom-preserved
loop-atom-preserved c =
    let t = c.args.self.now in
    let s = c.loop-atom.search in
    let n = c.enter.new.search in
    let e = c.in_ok-enter.ensures in
    let x = get_or c.args.given.now c.loop-atom.atom-index 0 in
    rw e.counts (
      entered (rules_in t) t.heads.items t.uses.pairs (Contains c.args.given.now) s.derived.items s.open_atoms.items
          s.pending.items x n.derived.items n.pending.items c.loop-atom.invariant.0
          (given x (Contains-get_or c.args.given.now c.loop-atom.atom-index 0 c.loop-atom-test.true)) e.entered,
      given_more (rules_in t) t.heads.items t.uses.pairs c.args.given.now c.loop-atom.atom-index s.derived.items
          s.open_atoms.items s.pending.items n.derived.items n.pending.items e.entered c.loop-atom.invariant.1,
      ap length e.entered.derived_is ∙ length-set s.derived.items x _ ∙ c.loop-atom.invariant.2,
    )

pub returns-clause-entered : goal.returns-clause-entered
returns-clause-entered c =
    given_all c.args.given.now c.loop-atom.atom-index c.loop-atom.search.derived.items c.loop-atom-test.false
    c.loop-atom.invariant.1
