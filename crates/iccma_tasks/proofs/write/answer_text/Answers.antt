use Rattle.std.proofs.Common.{◌≡◌, sym, subst, rules, arith}
use Rattle.std.proofs.lemmas.Grind.{common_steps}
use Rattle.iccma_tasks.specs.AnswerText.{ReadsAs, filled_fields}
use Rattle.iccma_tasks.specs.WrittenText.{text_of}
use Rattle.iccma_tasks.proofs.RoundTrip.{written_reads_of}
use Rattle.iccma_tasks.proofs.write.answer_text.Goals as goal

pub returns-clause-reads : goal.returns-clause-reads
returns-clause-reads c = λ fits.
    let written : c.from_vec.result
    ≡ text_of c.args.answer.now = first_of (search rules, grind (arith, common_steps)) in
    subst (λ text. ReadsAs (filled_fields text) c.args.answer.now) (sym written)
    (written_reads_of c.args.answer.now c.in_ok-push_answer.ensures.rises fits)
