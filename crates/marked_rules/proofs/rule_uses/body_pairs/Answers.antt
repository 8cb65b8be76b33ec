use Rattle.std.proofs.Common.{◌<◌, ◌≤◌, ℕ, length, map, arith}
use Rattle.std.proofs.lemmas.List.{length-map}
use Rattle.semantics.specs.Rules.{Rule}
use Rattle.marked_rules.specs.Search.{heads_of}
use Rattle.marked_rules.proofs.StartLemmas.{few_rules, pairs_none, pairs_more, pairs_all}
use Rattle.marked_rules.proofs.rule_uses.body_pairs.Goals as goal

pub loop-index-init : goal.loop-index-init
loop-index-init c = pairs_none c.args.plain.now _ c.new-pairs.ensures.items

pub overflow_cast-index : goal.overflow_cast-index
overflow_cast-index c =
    let f = c.args.plain.now in
    let lt : c.loop-index.index < length (heads_of f) = rw c.rule_heads-index-end.ensures.value at c.loop-index-test.true in
    omega (arith, lt, length-map f.rules (λ (r : Rule). r.head), few_rules f c.rule_heads-index-end.ensures.form)

pub loop-index-preserved : goal.loop-index-preserved
loop-index-preserved c =
    let f = c.args.plain.now in
    let lt : c.loop-index.index < length (heads_of f) = rw c.rule_heads-index-end.ensures.value at c.loop-index-test.true in
    let low : c.loop-index.index < length f.rules = omega (arith, lt, length-map f.rules (λ (r : Rule). r.head)) in
    pairs_more f c.loop-index.index c.body_of.result.now c.loop-index.pairs.items c.extend_from_slice.new.self.items low
    c.body_of.ensures.value c.body_of.ensures.index c.in_ok-extend_from_slice.ensures.items c.loop-index.invariant

pub returns : goal.returns
returns c =
    let f = c.args.plain.now in
    let past : length (heads_of f) ≤ c.loop-index.index = rw c.rule_heads-index-end.ensures.value at c.loop-index-test.false in
    pairs_all f c.loop-index.index c.loop-index.pairs.items
    (omega (arith, past, length-map f.rules (λ (r : Rule). r.head))) c.loop-index.invariant
