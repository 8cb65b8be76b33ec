use Rattle.std.proofs.Common.{arith, ap, sym, subst, ◌∙◌, take, length, map, Contains, ◌++◌, ◌∷◌, []}
use Rattle.aba_notions.specs.Storage.{rule_at}
use Rattle.edit_rules.specs.AbaEdits.{rules_but}
use Rattle.edit_rules.specs.Parts.{AreListsOf}
use Rattle.edit_rules.proofs.MadeFrameworks.{few_rules}
use Rattle.edit_rules.proofs.RuleLists.{few_taken, head_at, kept_more, left_out, lists_long, lists_more, number_at}
use Rattle.edit_rules.proofs.makes.add_unless.Goals as goal

pub returns-then-numbers-at : goal.returns-then-numbers-at
returns-then-numbers-at c =
    let at = number_at c.args.plain.now.rules c.args.index c.rule_numbers-numbers.result.now
    c.rule_numbers-numbers.ensures.value c.requires.index in
    subst (λ rs. AreListsOf rs c.args.rules.now)
    (sym (left_out c.args.plain.now.rules c.args.index c.args.number c.requires.index
    (sym at ∙ c.if-numbers-at.true))) c.requires.lists

pub push_rule-requires : goal.push_rule-requires
push_rule-requires c =
    omega (
      arith,
      lists_long _ _ c.requires.lists,
      few_taken c.args.plain.now.rules c.args.index c.args.number c.requires.index,
      few_rules c.args.plain.now c.rule_numbers-numbers.ensures.form,
    )

pub returns : goal.returns
returns c =
    let at = number_at c.args.plain.now.rules c.args.index c.rule_numbers-numbers.result.now
    c.rule_numbers-numbers.ensures.value c.requires.index in
    let head = head_at c.args.plain.now.rules c.args.index c.rule_heads.result.now c.rule_heads.ensures.value
    c.requires.index in
    let rules = rules_but c.args.number (take c.args.index c.args.plain.now.rules) in
    let r = rule_at c.args.plain.now.rules c.args.index in
    subst (λ rs. AreListsOf rs c.push_rule.new.rules)
    (sym (kept_more c.args.plain.now.rules c.args.index c.args.number c.requires.index
    (λ e. c.if-numbers-at.false (at ∙ e))))
    (lists_more rules c.args.rules.now c.push_rule.new.rules r c.in_ok-body.body.items c.requires.lists
    (c.in_ok-push_rule.ensures.numbers ∙ ap (λ n. c.args.rules.now.numbers.items ++ n ∷ []) at)
    (c.in_ok-push_rule.ensures.heads ∙ ap (λ n. c.args.rules.now.heads.items ++ n ∷ []) head)
    (c.in_ok-push_rule.ensures.bodies
    ∙ ap (λ xs. c.args.rules.now.bodies.items ++ map (λ y. (length c.args.rules.now.heads.items, y)) xs)
    c.deref.ensures.value)
    (λ y. (
      λ d. subst (λ xs. Contains xs y) c.in_ok-body.ensures d,
      λ d. subst (λ xs. Contains xs y) (sym c.in_ok-body.ensures) d,
    )))
