use Rattle.std.proofs.Common.{sym}
use Rattle.std.proofs.lemmas.Result.{IfOk-weaker, IfErr-weaker}
use Rattle.aba_format.specs.AbaText.{ReadsAs}
use Rattle.aba_format.proofs.FaultLemmas.{no_fault_told}
use Rattle.aba_format.proofs.laws.read_back.Goals as goal

pub returns-clause-same : goal.returns-clause-same
returns-clause-same c =
    let reads : ReadsAs c.as_slice.result.now c.args.framework.now
    = rw c.as_slice.ensures (c.in_ok-text.ensures.back c.requires.few) in
    IfOk-weaker c.read_aba.result _ _ (λ f h. sym (h c.args.framework.now reads)) c.read_aba.ensures.no_other

pub returns-clause-fault : goal.returns-clause-fault
returns-clause-fault c =
    let reads : ReadsAs c.as_slice.result.now c.args.framework.now
    = rw c.as_slice.ensures (c.in_ok-text.ensures.back c.requires.few) in
    IfErr-weaker c.read_aba.result _ _
    (λ e h. no_fault_told c.as_slice.result.now c.args.framework.now e reads h) c.read_aba.ensures.fault
