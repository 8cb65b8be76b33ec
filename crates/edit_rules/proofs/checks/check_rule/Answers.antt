use Rattle.std.proofs.Common.{◌≡◌, ◌∙◌, ap, sym, [], ◌∷◌, map, arith}
use Rattle.std.specs.Prelude.{nat_lt}
use Rattle.std.proofs.lemmas.Bool.{lt-ltb, ltb-true}
use Rattle.semantics.specs.declared.numbers.TheConstants.{MAX_RULE}
use Rattle.edit_rules.specs.declared.effect.EditFault.TheVariants.{NotFlat, OutOfRange}
use Rattle.edit_rules.specs.Numbers.{has_number}
use Rattle.edit_rules.specs.Refusals.{refused_if, done_unless}
use Rattle.edit_rules.proofs.EditWordTests.{is_false}
use Rattle.edit_rules.proofs.RefusalLemmas.{handed_on, passed, passed_all, stopped, stopped_early}
use Rattle.edit_rules.specs.AbaEdits.{beyond, rule_added}
use Rattle.edit_rules.proofs.checks.check_rule.Goals as goal

pub returns-in_err-check_numbers : goal.returns-in_err-check_numbers
returns-in_err-check_numbers c =
    let numbers = c.args.head ∷ c.args.body.now in
    let rest = refused_if (has_number c.args.plain.now.assumptions c.args.head) (NotFlat c.args.head)
    ∷ refused_if (nat_lt MAX_RULE c.args.plain.now.next) (OutOfRange 1000001) ∷ [] in
    handed_on
    (λ r. r ≡ done_unless (rule_added c.args.plain.now c.args.head c.args.body.now).refusals tt)
    c.from_residual.result c.in_err-check_numbers.field-0.0 c.from_residual.ensures
    (sym (stopped_early (map (beyond 1 c.args.plain.now.atoms) numbers) rest tt c.in_err-check_numbers.field-0.0
    (ap (λ n. done_unless (map (beyond 1 n) numbers) tt) (sym c.atoms.ensures.value)
    ∙ sym c.in_err-check_numbers.ensures)))

pub returns-then-is_assumption : goal.returns-then-is_assumption
returns-then-is_assumption c =
    let numbers = c.args.head ∷ c.args.body.now in
    let flat = refused_if (has_number c.args.plain.now.assumptions c.args.head) (NotFlat c.args.head) in
    let last = refused_if (nat_lt MAX_RULE c.args.plain.now.next) (OutOfRange 1000001) in
    sym (passed_all (map (beyond 1 c.args.plain.now.atoms) numbers) (flat ∷ last ∷ []) tt
    (ap (λ n. done_unless (map (beyond 1 n) numbers) tt) (sym c.atoms.ensures.value)
    ∙ sym c.in_ok-check_numbers.ensures)
    ∙ stopped flat (last ∷ []) tt (sym c.is_assumption.ensures ∙ c.if-is_assumption.true))

pub returns-then-next-gt-MAX_RULE : goal.returns-then-next-gt-MAX_RULE
returns-then-next-gt-MAX_RULE c =
    let numbers = c.args.head ∷ c.args.body.now in
    let flat = refused_if (has_number c.args.plain.now.assumptions c.args.head) (NotFlat c.args.head) in
    let last = refused_if (nat_lt MAX_RULE c.args.plain.now.next) (OutOfRange 1000001) in
    sym (passed_all (map (beyond 1 c.args.plain.now.atoms) numbers) (flat ∷ last ∷ []) tt
    (ap (λ n. done_unless (map (beyond 1 n) numbers) tt) (sym c.atoms.ensures.value)
    ∙ sym c.in_ok-check_numbers.ensures)
    ∙ passed flat (last ∷ []) tt (sym c.is_assumption.ensures ∙ c.if-is_assumption.false)
    ∙ stopped last [] tt (lt-ltb MAX_RULE c.args.plain.now.next
    (omega (arith, c.if-next-gt-MAX_RULE.true, c.next.ensures.value))))

pub returns : goal.returns
returns c =
    let numbers = c.args.head ∷ c.args.body.now in
    let flat = refused_if (has_number c.args.plain.now.assumptions c.args.head) (NotFlat c.args.head) in
    let last = refused_if (nat_lt MAX_RULE c.args.plain.now.next) (OutOfRange 1000001) in
    sym (passed_all (map (beyond 1 c.args.plain.now.atoms) numbers) (flat ∷ last ∷ []) tt
    (ap (λ n. done_unless (map (beyond 1 n) numbers) tt) (sym c.atoms.ensures.value)
    ∙ sym c.in_ok-check_numbers.ensures)
    ∙ passed flat (last ∷ []) tt (sym c.is_assumption.ensures ∙ c.if-is_assumption.false)
    ∙ passed last [] tt (is_false (nat_lt MAX_RULE c.args.plain.now.next) (λ t.
    absurd (omega (
      arith,
      ltb-true MAX_RULE c.args.plain.now.next t,
      c.if-next-gt-MAX_RULE.false,
      c.next.ensures.value,
    )))))
