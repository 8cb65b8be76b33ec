use Rattle.lrat_writing.proofs.WriterLemmas.{texts_check, texts_read}
use Rattle.lrat_writing.proofs.write.write_refutation.Goals as goal

pub returns-clause-reads : goal.returns-clause-reads
returns-clause-reads c = λ short.
    texts_read c.args.vars c.args.log.now.steps _ c.in_ok-written.ensures c.requires.some c.requires.room c.requires.few
    short

pub returns-clause-verified : goal.returns-clause-verified
returns-clause-verified c = λ short.
    texts_check c.args.vars c.args.log.now _ c.in_ok-written.ensures c.len-count.ensures.form c.requires.some
    c.requires.room c.requires.few c.requires.rises short
