use Rattle.std.proofs.Common.{◌+◌, ◌<◌, ◌∙◌, sym, ap, length, arith}
use Rattle.std.proofs.lemmas.Bool.{eqb-true, eqb-false}
use Rattle.num_text.proofs.CutLemmas.{first_field, no_field, rest_length}
use Rattle.num_text.proofs.field.FieldsIterator.next.Goals as goal

pub returns-then-is_empty-clause-steps : goal.returns-then-is_empty-clause-steps
returns-then-is_empty-clause-steps c =
    let empty = eqb-true _ _ (sym c.if-is_empty.ensures) in
    let n = rest_length (c.self.inside.start + c.blanks_length.result) c.self.inside.text.now in
    let none = sym c.self.view_is
    ∙ no_field c.self.inside.start c.self.inside.text.now _ c.blanks_length.ensures.index (omega arith) in
    (none, none)

pub returns-clause-steps : goal.returns-clause-steps
returns-clause-steps c =
    let some = eqb-false _ _ (sym c.if-is_empty.ensures) in
    let n = rest_length (c.self.inside.start + c.blanks_length.result) c.self.inside.text.now in
    sym c.self.view_is ∙ first_field c.self.inside.start c.self.inside.text.now c.blanks_length.result
    c.field_length-length.result c.blanks_length.ensures.index
    (omega arith) c.field_length-length.ensures.index

pub returns-clause-goes : goal.returns-clause-goes
returns-clause-goes c =
    let some = eqb-false _ _ (sym c.if-is_empty.ensures) in
    let n = rest_length (c.self.inside.start + c.blanks_length.result) c.self.inside.text.now in
    let within : c.self.inside.start + c.blanks_length.result < length c.self.inside.text.now = omega arith in
    let steps = sym c.self.view_is
    ∙ first_field c.self.inside.start c.self.inside.text.now c.blanks_length.result
    c.field_length-length.result c.blanks_length.ensures.index within c.field_length-length.ensures.index
    in
    record { on = λ _. (tt, tt, omega (arith, ap length steps)); keeps = tt; rests = λ _. tt }
