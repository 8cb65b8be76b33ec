use Rattle.std.proofs.Common.{◌≡◌, ◌+◌, ℕ, refl, ap, ◌∙◌, arith, length, rules}
use Rattle.std.specs.Prelude.{Contains, ◌↔◌}
use Rattle.std.specs.List.{range_with_len}
use Rattle.std.proofs.lemmas.Iterator.{items_from_collect, YieldsList-from_range}
use Rattle.aba_format.proofs.FinishLemmas.{made_parts, made_framework}
use Rattle.aba_format.proofs.finish.framework_of.Goals as goal

pub new-requires : goal.new-requires
new-requires c =
    let same : (x : ℕ) → Contains c.in_ok-assumptions.assumptions x ↔ Contains c.args.parts.assumptions.items x
    = rw (← c.deref.ensures.value) c.in_ok-assumptions.ensures.members in
    let long : c.len.result ≡ length c.args.parts.heads.items = search rules in
    let numbers : c.in_ok-numbers.numbers.items ≡ range_with_len 1 (length c.args.parts.heads.items)
    = (rw c.in_ok-numbers.was at
    (items_from_collect c.collect.result c.collect.ensures.ran
    (YieldsList-from_range 1 (c.len.result + 1) c.len.result refl (omega arith))))
    ∙ ap (range_with_len 1) long in
    made_parts c.args.count c.args.parts c.in_ok-assumptions.assumptions
    (record { numbers = c.in_ok-numbers.numbers; heads = c.args.parts.heads; bodies = c.args.parts.bodies })
    (c.len.result + 1) c.requires same numbers refl refl (ap (λ n. n + 1) long)

pub returns : goal.returns
returns c =
    let same : (x : ℕ) → Contains c.in_ok-assumptions.assumptions x ↔ Contains c.args.parts.assumptions.items x
    = rw (← c.deref.ensures.value) c.in_ok-assumptions.ensures.members in
    let long : c.len.result ≡ length c.args.parts.heads.items = search rules in
    let numbers : c.in_ok-numbers.numbers.items ≡ range_with_len 1 (length c.args.parts.heads.items)
    = (rw c.in_ok-numbers.was at
    (items_from_collect c.collect.result c.collect.ensures.ran
    (YieldsList-from_range 1 (c.len.result + 1) c.len.result refl (omega arith))))
    ∙ ap (range_with_len 1) long in
    made_framework c.new.result c.args.count c.args.parts c.in_ok-assumptions.assumptions
    (record { numbers = c.in_ok-numbers.numbers; heads = c.args.parts.heads; bodies = c.args.parts.bodies })
    (c.len.result + 1) same numbers refl refl (ap (λ n. n + 1) long) c.new.ensures.atoms c.new.ensures.assumptions
    c.new.ensures.contraries c.new.ensures.rules c.new.ensures.next c.new.ensures.form
