use Rattle.std.proofs.Common.{◌≡◌, ◌+◌, List, [], ◌∷◌, length, sym, ap, subst, refl, ◌∙◌}
use Rattle.num_text.specs.Cuts.{LineText, lines_of}
use Rattle.num_text.specs.Views.{line_text}
use Rattle.num_text.specs.Lines.{kept, kept_lines}
use Rattle.af_format.specs.Headers.{IsBadFirstLine}
use Rattle.af_format.specs.declared.fault.LineCause.TheVariants.{NoHeader}
use Rattle.af_format.proofs.header.read_header.Goals as goal

pub returns-in_default-clause-fault : goal.returns-in_default-clause-fault
returns-in_default-clause-fault c =
    let none : kept_lines c.args.bytes.now ≡ [] = sym (ap kept c.requires.all) ∙ c.in_default.ensures.none in
    subst (λ (ls : List LineText). IsBadFirstLine c.args.own.now c.args.other.now (length (lines_of c.args.bytes.now)) ls
    (c.line_count.result + 1) NoHeader) (sym none) (ap (λ n. n + 1) c.line_count.ensures.count, refl)

pub returns-in-Ok-clause-ok : goal.returns-in-Ok-clause-ok
returns-in-Ok-clause-ok c = record {
  header = line_text c.in-Some.header;
  lines = sym (ap kept c.requires.all) ∙ c.in-Some.ensures.some;
  header_is = c.in-Ok.ensures.ok;
}

pub returns-in-Err-clause-fault : goal.returns-in-Err-clause-fault
returns-in-Err-clause-fault c =
    let some : kept_lines c.args.bytes.now ≡ line_text c.in-Some.header ∷ kept c.next_kept.new.lines
    = sym (ap kept c.requires.all) ∙ c.in-Some.ensures.some in
    subst (λ (ls : List LineText). IsBadFirstLine c.args.own.now c.args.other.now (length (lines_of c.args.bytes.now)) ls
    c.in-Some.header.number c.in-Err.cause) (sym some) (refl, c.in-Err.ensures.err)
