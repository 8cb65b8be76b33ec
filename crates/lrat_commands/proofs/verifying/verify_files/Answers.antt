use Rattle.std.proofs.Common.{subst}
use Rattle.std.specs.Prelude.{IfErr, OnOk, ◌≡◌, ◌⊎◌}
use Rattle.lrat_text.specs.CnfText.{IsCnfText}
use Rattle.argue_commands.specs.declared.ended.Status.TheVariants.{Done, WantOfMemory}
use Rattle.lrat_commands.specs.Verifying.{LratEnds, StopsCnf}
use Rattle.lrat_commands.proofs.VerifyingLemmas.{cnf_err, verified_err, verified_ok}
use Rattle.lrat_commands.proofs.verifying.verify_files.Goals as goal

pub returns-in-Err-parse-clause-err : goal.returns-in-Err-parse-clause-err
returns-in-Err-parse-clause-err g c =
    cnf_err _ _ c.in-Ok.bytes c.in-Ok.ensures.ok c.in-Err-parse.end
    (subst (λ b. StopsCnf b c.in-Err-parse.end) c.as_slice.ensures c.in-Err-parse.ensures.err)

pub returns-clause-ok : goal.returns-clause-ok
returns-clause-ok g c =
    verified_ok _ _ c.in-Ok.bytes c.in-Ok-parse.cnf c.judge.result c.in-Ok.ensures.ok
    (subst (λ b. IsCnfText b c.in-Ok-parse.cnf) c.as_slice.ensures c.in-Ok-parse.ensures.ok)
    (subst (λ b. OnOk c.judge.result (LratEnds c.in-Ok-parse.cnf b Done)) c.as_slice-2.ensures c.judge.ensures.ok)

pub returns-clause-err : goal.returns-clause-err
returns-clause-err g c =
    verified_err _ _ c.in-Ok.bytes c.in-Ok-parse.cnf c.judge.result c.in-Ok.ensures.ok
    (subst (λ b. IsCnfText b c.in-Ok-parse.cnf) c.as_slice.ensures c.in-Ok-parse.ensures.ok)
    (subst (λ b. IfErr c.judge.result (λ end. (end ≡ WantOfMemory) ⊎ LratEnds c.in-Ok-parse.cnf b end))
    c.as_slice-2.ensures c.judge.ensures.err)
