use Rattle.std.proofs.Common.{[], length, get_or, arith}
use Rattle.std.specs.Prelude.{Contains}
use Rattle.std.proofs.lemmas.List.Elements.{Contains-get_or}
use Rattle.semantics.specs.Rules.{given}
use Rattle.aba_notions.proofs.ClosingLemmas.{given_more, given_all}
use Rattle.marked_rules.specs.Search.{Nothing, heads_of, derived_in, open_in}
use Rattle.marked_rules.proofs.SearchLemmas.{gives_more, begins_at, enters_search, starts_afresh, derives_all}
use Rattle.marked_rules.proofs.rule_uses.RuleUses.close.Goals as goal

pub loop-atom-init : goal.loop-atom-init
loop-atom-init c =
    let f = c.args.plain.now in
    let u = c.args.self.now in (
      begins_at f u (Contains c.args.given.now) (length (heads_of f)) c.restart.new.closing c.in_ok-restart.ensures
          (gives_more f.rules (heads_of f) u.uses.pairs Nothing (Contains c.args.given.now) (length (heads_of f))
          u.start.base.items u.start.open.items [] (λ x e. absurd e) c.requires.state),
      λ j lt. absurd (omega (arith, lt)),
    )

pub enter-requires : goal.enter-requires
enter-requires c = c.loop-atom.invariant.0.fits

pub loop-atom-preserved : goal.loop-atom-preserved
loop-atom-preserved c =
    let f = c.args.plain.now in
    let u = c.args.self.now in
    let old = c.loop-atom.closing in
    let new = c.enter.new.closing in
    let n = c.loop-atom.atom-index in
    let s = c.args.given.now in (
      enters_search f u s (length (heads_of f)) n old new c.loop-atom-test.true c.loop-atom.invariant.0
          (given (get_or s n 0) (Contains-get_or s n 0 c.loop-atom-test.true)) c.in_ok-enter.ensures,
      given_more f.rules (heads_of f) u.uses.pairs s n (derived_in u old) (open_in u old) old.pending.items
          (derived_in u new) new.pending.items c.in_ok-enter.ensures.entered c.loop-atom.invariant.1,
    )

pub settle_all-requires : goal.settle_all-requires
settle_all-requires c = starts_afresh c.args.plain.now c.args.self.now (Contains c.args.given.now)
    (length (heads_of c.args.plain.now)) c.loop-atom.closing c.loop-atom.invariant.0

pub returns : goal.returns
returns c = derives_all c.args.plain.now c.args.self.now c.args.given.now c.loop-atom.closing c.settle_all.new.closing
    c.requires c.loop-atom.invariant.0
    (given_all c.args.given.now c.loop-atom.atom-index (derived_in c.args.self.now c.loop-atom.closing)
    c.loop-atom-test.false c.loop-atom.invariant.1)
    c.in_ok-settle_all.ensures.on c.in_ok-settle_all.ensures.done
