use Rattle.std.proofs.Common.{length, arith, ap, get_or, refl}
use Rattle.std.proofs.lemmas.List.{length-map}
use Rattle.std.proofs.lemmas.List.Elements.{Contains-get_or}
use Rattle.semantics.specs.Rules.{Rule}
use Rattle.aba_notions.specs.Unfounded.{IsShared}
use Rattle.aba_notions.proofs.UnfoundedLemmas.{pairs_start, pairs_next, read_number, row_made}
use Rattle.aba_notions.proofs.aba_plain.AbaPlain.row_of.Goals as goal

pub bounds-numbers-rule : goal.bounds-numbers-rule
bounds-numbers-rule c =
    let headed = c.headed_by-rule-items.result.now in
    let p = get_or headed c.loop-rule.rule-index (0, 0) in
    let w = (c.headed_by-rule-items.ensures.rules p.0 p.1).0
    (Contains-get_or headed c.loop-rule.rule-index (0, 0) c.loop-rule-test.true) in
    omega (
      arith,
      w.1,
      ap length c.rule_numbers-numbers.ensures.value,
      length-map c.args.self.now.rules (λ (r : Rule). r.number),
    )

pub shared_atom-requires : goal.shared_atom-requires
shared_atom-requires c =
    let headed = c.headed_by-rule-items.result.now in
    let p = get_or headed c.loop-rule.rule-index (0, 0) in
    ((c.headed_by-rule-items.ensures.rules p.0 p.1).0
    (Contains-get_or headed c.loop-rule.rule-index (0, 0) c.loop-rule-test.true)).1

pub loop-rule-init : goal.loop-rule-init
loop-rule-init c = pairs_start c.args.self.now (IsShared c.args.atoms.now) c.headed_by-rule-items.result.now
    c.new-pairs.result c.new-pairs.ensures

pub loop-rule-preserved : goal.loop-rule-preserved
loop-rule-preserved c =
    let headed = c.headed_by-rule-items.result.now in
    let p = get_or headed c.loop-rule.rule-index (0, 0) in
    let w = (c.headed_by-rule-items.ensures.rules p.0 p.1).0
    (Contains-get_or headed c.loop-rule.rule-index (0, 0) c.loop-rule-test.true) in
    pairs_next c.args.self.now (IsShared c.args.atoms.now) headed c.loop-rule.rule-index _ _ c.loop-rule.pairs
    c.push.new.self c.loop-rule.invariant
    (read_number c.args.self.now c.rule_numbers-numbers.result.now p.1 c.rule_numbers-numbers.ensures.value w.1)
    c.shared_atom.ensures c.in_ok-push.ensures.ok

pub returns-clause-row : goal.returns-clause-row
returns-clause-row c = row_made c.args.self.now (IsShared c.args.atoms.now) c.args.atom c.loop-rule.rule-index
    c.headed_by-rule-items.result.now _ c.rule_numbers-numbers.ensures.form refl c.headed_by-rule-items.ensures.rise
    c.headed_by-rule-items.ensures.rules c.loop-rule-test.false c.loop-rule.auto.rule-index-end c.loop-rule.invariant
