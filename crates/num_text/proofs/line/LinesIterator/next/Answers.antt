use Rattle.std.proofs.Common.{◌∙◌, sym, ap, length, arith}
use Rattle.num_text.proofs.CutLemmas.{first_line, first_line_within, no_line}
use Rattle.num_text.proofs.line.LinesIterator.next.Goals as goal

pub returns-then-self-clause-steps : goal.returns-then-self-clause-steps
returns-then-self-clause-steps c = let none = sym c.self.view_is
    ∙ no_line _ _ c.self.inside.bytes.now c.if-self.true in (none, none)

pub overflow_add-line : goal.overflow_add-line
overflow_add-line c = let within = first_line_within _ c.self.inside.bytes.now _ c.line_length-length.ensures
    (omega arith) in omega (arith, c.self.told)

pub overflow_add-self : goal.overflow_add-self
overflow_add-self c = let within = first_line_within _ c.self.inside.bytes.now _ c.line_length-length.ensures
    (omega arith) in omega (arith, c.self.told)

pub overflow_add-self-2 : goal.overflow_add-self-2
overflow_add-self-2 c = let within = first_line_within _ c.self.inside.bytes.now _
    c.line_length-length.ensures (omega arith) in omega (arith, c.self.told)

pub invariant_of-self : goal.invariant_of-self
invariant_of-self c = let within = first_line_within _ c.self.inside.bytes.now _ c.line_length-length.ensures
    (omega arith) in (omega (arith, c.self.invariant), omega arith)

pub returns-clause-steps : goal.returns-clause-steps
returns-clause-steps c = sym c.self.view_is
    ∙ first_line c.self.inside.number c.self.inside.start c.self.inside.bytes.now c.line_length-length.result
    c.if-self.false c.line_length-length.ensures

pub returns-clause-goes : goal.returns-clause-goes
returns-clause-goes c = let steps = sym c.self.view_is
    ∙ first_line c.self.inside.number c.self.inside.start c.self.inside.bytes.now c.line_length-length.result
    c.if-self.false c.line_length-length.ensures in record {
      on = λ _.
          (tt, tt, omega (arith, ap length steps));
      keeps = tt;
      rests = λ _. tt;
    }
