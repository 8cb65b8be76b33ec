use Rattle.std.proofs.Common.{sym, subst}
use Rattle.edit_rules.specs.Kinds.{framework_of}
use Rattle.framework_text.specs.FrameworkText.{ReadsAs}
use Rattle.script_text.specs.ScriptFaults.{IsToldOf}
use Rattle.argue_commands.specs.Opening.{IsLiveFault}
use Rattle.argue_commands.proofs.OpeningLemmas.{script_fault_live}
use Rattle.argue_commands.proofs.opening.parse.Goals as goal

pub returns-in-Err-read_script-clause-err : goal.returns-in-Err-read_script-clause-err
returns-in-Err-read_script-clause-err c =
    let f = framework_of c.in-Ok.framework in
    subst (IsLiveFault c.args.bytes.now) (sym c.script_refused.ensures)
    (script_fault_live c.args.bytes.now c.in-Err-read_script.fault f
    (subst (λ b. ReadsAs b f) c.as_slice.ensures c.in-Ok.ensures.ok)
    (subst (λ b. IsToldOf 1 b c.in-Err-read_script.fault) c.as_slice-2.ensures c.in-Err-read_script.ensures.fault))
