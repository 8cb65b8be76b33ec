use Rattle.std.proofs.Common.{List, ℕ, ◌++◌, map, ap, sym, subst, ◌∙◌}
use Rattle.std.specs.List.{range_with_len}
use Rattle.plain_lits.specs.declared.lit.Lit.{Lit}
use Rattle.lrat_text.specs.Checking.{number_of}
use Rattle.lrat_text.specs.TableFormula.{formula_of}
use Rattle.lrat_text.specs.Tables.{IsBelow, Takes}
use Rattle.lrat_text.proofs.steps.check_line.Goals as goal

pub derive-requires : goal.derive-requires
derive-requires c =
    subst (λ (ls : List Lit). IsBelow (formula_of c.args.table.now).vars ls) (sym c.as_slice-2.ensures.value)
    c.requires.within

pub returns : goal.returns
returns c =
    let numbers : List ℕ → List ℕ = map (number_of (range_with_len 1 c.args.count ++ c.args.ids.now)) in
    subst (λ (ls : List Lit). Takes (formula_of c.args.table.now) ls (numbers c.args.line.now.hints.items)
    (formula_of c.derive.new.self) c.in_ok-passes.passes)
    c.as_slice-2.ensures.value
    (subst (λ (hints : List ℕ). Takes (formula_of c.args.table.now) c.as_slice-2.result.now hints
    (formula_of c.derive.new.self) c.in_ok-passes.passes)
    (c.as_slice-3.ensures.value ∙ (c.in_ok-name_hints.ensures ∙ ap numbers c.as_slice.ensures.value))
    c.in_ok-passes.ensures)
