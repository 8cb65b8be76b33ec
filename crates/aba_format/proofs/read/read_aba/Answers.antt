use Rattle.std.proofs.Common.{rules}
use Rattle.num_text.specs.Lines.{kept}
use Rattle.af_format.specs.Headers.{aba_word, af_word, BeginWith, IsBadHeader}
use Rattle.aba_format.proofs.LineLemmas.{rise_behind}
use Rattle.aba_format.proofs.FaultLemmas.{bad_header_told, bad_text, ReadsAs-faultless}
use Rattle.aba_format.proofs.FinishLemmas.{framework_parts, reads_as}
use Rattle.aba_format.proofs.SameLemmas.{ReadsAs-same}
use Rattle.aba_format.proofs.read.read_aba.Goals as goal

pub returns-in_err-count-clause-fault : goal.returns-in_err-count-clause-fault
returns-in_err-count-clause-fault c =
    let bad : IsBadHeader aba_word af_word c.args.bytes.now c.in_err-count.field-0.0.line c.in_err-count.field-0.0.cause
    = rw (← c.as_bytes.ensures.value, ← c.as_bytes-2.ensures.value) c.in_err-count.ensures.fault in
    let told = bad_header_told c.args.bytes.now _ _ bad in
    search (rules, told)

pub read_lines-requires-clause-rise : goal.read_lines-requires-clause-rise
read_lines-requires-clause-rise c =
    let begins : BeginWith aba_word c.args.bytes.now c.in_ok-count.count c.read_header.new.left
    = rw (← c.as_bytes.ensures.value) c.in_ok-count.ensures.ok in
    rise_behind c.args.bytes.now c.in_ok-count.count c.read_header.new.left begins

pub returns-in_err-parts-clause-fault : goal.returns-in_err-parts-clause-fault
returns-in_err-parts-clause-fault c =
    let begins : BeginWith aba_word c.args.bytes.now c.in_ok-count.count c.read_header.new.left
    = rw (← c.as_bytes.ensures.value) c.in_ok-count.ensures.ok in
    let bad = bad_text c.args.bytes.now c.in_ok-count.count c.read_header.new.left c.in_err-parts.field-0.0 begins
    c.in_err-parts.ensures.fault in
    search (rules, bad)

pub framework_of-requires : goal.framework_of-requires
framework_of-requires c = framework_parts c.in_ok-count.count (kept c.read_header.new.left) c.in_ok-parts.parts
    c.in_ok-count.ensures.ok.header_is.few c.in_ok-parts.ensures.ok

pub returns-clause-ok : goal.returns-clause-ok
returns-clause-ok c =
    let begins : BeginWith aba_word c.args.bytes.now c.in_ok-count.count c.read_header.new.left
    = rw (← c.as_bytes.ensures.value) c.in_ok-count.ensures.ok in
    reads_as c.args.bytes.now c.in_ok-count.count c.read_header.new.left c.in_ok-parts.parts
    c.in_ok-framework_of.field-0 begins c.in_ok-parts.ensures.ok c.in_ok-framework_of.ensures

pub returns-clause-no_other : goal.returns-clause-no_other
returns-clause-no_other c = λ g read.
    let begins : BeginWith aba_word c.args.bytes.now c.in_ok-count.count c.read_header.new.left
    = rw (← c.as_bytes.ensures.value) c.in_ok-count.ensures.ok in
    ReadsAs-same c.args.bytes.now g c.in_ok-framework_of.field-0 read
    (reads_as c.args.bytes.now c.in_ok-count.count c.read_header.new.left c.in_ok-parts.parts
    c.in_ok-framework_of.field-0 begins c.in_ok-parts.ensures.ok c.in_ok-framework_of.ensures)

pub returns-clause-faultless : goal.returns-clause-faultless
returns-clause-faultless c =
    let begins : BeginWith aba_word c.args.bytes.now c.in_ok-count.count c.read_header.new.left
    = rw (← c.as_bytes.ensures.value) c.in_ok-count.ensures.ok in
    ReadsAs-faultless c.args.bytes.now c.in_ok-framework_of.field-0
    (reads_as c.args.bytes.now c.in_ok-count.count c.read_header.new.left c.in_ok-parts.parts
    c.in_ok-framework_of.field-0 begins c.in_ok-parts.ensures.ok c.in_ok-framework_of.ensures)
