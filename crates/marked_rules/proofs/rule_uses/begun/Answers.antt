use Rattle.std.proofs.Common.{◌≡◌, ◌∙◌, ◌<◌, ◌≤◌, ◌^◌, length, arith, ap}
use Rattle.std.proofs.lemmas.List.{length-map}
use Rattle.semantics.specs.Rules.{Rule}
use Rattle.marked_rules.proofs.StartLemmas.{few_rules, low_contraries, low_pairs, has_begun}
use Rattle.marked_rules.proofs.rule_uses.begun.Goals as goal

pub new-requires-clause-fits : goal.new-requires-clause-fits
new-requires-clause-fits c =
    let f = c.args.plain.now in
    let form = c.atoms-atoms.ensures.form in
    let rules : length c.rule_heads.result.now ≡ length f.rules =
    ap length c.rule_heads.ensures.value ∙ length-map f.rules (λ (r : Rule). r.head) in
    omega (arith, c.max-bound.ensures, rules, c.atoms-atoms.ensures.value, few_rules f form, form.atoms)

pub new-requires-clause-below : goal.new-requires-clause-below
new-requires-clause-below c =
    let f = c.args.plain.now in
    let high : f.atoms < c.max-bound.result = omega (arith, c.max-bound.ensures, c.atoms-atoms.ensures.value) in
    low_contraries f c.max-bound.result c.in_ok-contraries.contraries.items c.atoms-atoms.ensures.form high
    (c.in_ok-contraries.ensures.items ∙ c.contraries.ensures.value)

pub new-requires-2-clause-below : goal.new-requires-2-clause-below
new-requires-2-clause-below c =
    let f = c.args.plain.now in
    let form = c.atoms-atoms.ensures.form in
    let rules : length c.rule_heads.result.now ≡ length f.rules =
    ap length c.rule_heads.ensures.value ∙ length-map f.rules (λ (r : Rule). r.head) in
    let high : f.atoms < c.max-bound.result = omega (arith, c.max-bound.ensures, c.atoms-atoms.ensures.value) in
    let reach : length f.rules ≤ c.max-bound.result = omega (arith, c.max-bound.ensures, rules) in
    low_pairs f c.max-bound.result c.in_ok-pairs.pairs.items form high reach c.in_ok-pairs.ensures

pub returns : goal.returns
returns c =
    let f = c.args.plain.now in
    let form = c.atoms-atoms.ensures.form in
    let rules : length c.rule_heads.result.now ≡ length f.rules =
    ap length c.rule_heads.ensures.value ∙ length-map f.rules (λ (r : Rule). r.head) in
    let reach : length f.rules ≤ c.max-bound.result = omega (arith, c.max-bound.ensures, rules) in
    let low : c.max-bound.result ≤ 2 ^ 32 =
    omega (arith, c.max-bound.ensures, rules, c.atoms-atoms.ensures.value, few_rules f form, form.atoms) in
    has_begun f _ c.max-bound.result c.in_ok-pairs.pairs.items c.in_ok-bodies.bodies.pairs form
    (λ p. let same = c.in_ok-contraries-2.ensures.same p in
    rw (c.in_ok-contraries.ensures.items, c.contraries.ensures.value) at same)
    c.in_ok-pairs.ensures c.in_ok-bodies.ensures.same c.in_ok-bodies.ensures.rise c.in_ok-uses.ensures.same
    c.in_ok-uses.ensures.rise
    (rw c.atoms-atoms.ensures.value at (c.in_ok-base.ensures.items_if_clones_equal (λ y e. e)))
    (c.in_ok-open.ensures.long ∙ c.in_ok-bodies.ensures.bound) reach low c.in_ok-open.ensures.counted
