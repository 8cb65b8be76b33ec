use Rattle.std.proofs.Common.{◌+◌, ◌<◌, length, refl, sym, ◌∙◌, arith}
use Rattle.num_text.proofs.CutLemmas.{first_field, rest_length}
use Rattle.num_text.proofs.NumeralLemmas.{field_of_digits, some_digits}
use Rattle.num_text.proofs.field.Fields.next_numeral.Goals as goal

pub returns-clause-some : goal.returns-clause-some
returns-clause-some c =
    let numeral = c.in_ok-value.ensures.number in
    let end = field_of_digits _ c.in_ok-value.field-0.length c.in_ok-value.ensures.within numeral.digits
    (c.ends_at.ensures.0 c.if-not-ends_at.false) in
    let some = some_digits _ _ numeral.not_empty in
    let n = rest_length (c.self.inside.start + c.blanks_length.result) c.self.inside.text.now in
    let within : c.self.inside.start + c.blanks_length.result < length c.self.inside.text.now = omega arith in
    record {
      field = _;
      fields_are = sym c.self.view_is
          ∙ first_field c.self.inside.start c.self.inside.text.now c.blanks_length.result c.in_ok-value.field-0.length
          c.blanks_length.ensures.index within end;
      text_is = refl;
    }
