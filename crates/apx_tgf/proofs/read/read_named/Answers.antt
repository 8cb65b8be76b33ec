use Rattle.std.proofs.Common.{map, rules, sym, subst, arith}
use Rattle.std.specs.List.{AllZip}
use Rattle.num_text.specs.Cuts.{lines_of}
use Rattle.af_format.proofs.Reading.{read_is_solid}
use Rattle.semantics.specs.declared.argument.TheConstants.{MAX_ARGUMENT}
use Rattle.std.specs.Prelude.{◌≤◌}
use Rattle.apx_tgf.specs.Faults.{IfLine}
use Rattle.apx_tgf.specs.Numbered.{AreNumbersOf, IsUnknownFault}
use Rattle.apx_tgf.specs.Reading.{TellsAll}
use Rattle.apx_tgf.specs.Views.{told_attack}
use Rattle.apx_tgf.proofs.FrameworkLemmas.{few_names, few_told, reads_as, ends_are_numbers, told_of, unknown_told, ReadsAs-distinct}
use Rattle.apx_tgf.proofs.SizeLemmas.{no_more_attacks}
use Rattle.lists.proofs.Zips.{zip_length}
use Rattle.apx_tgf.proofs.DeclaredLemmas.{ReadsAs-names}
use Rattle.apx_tgf.proofs.TextLemmas.{ReadsAs-same, ReadsAs-faultless}
use Rattle.apx_tgf.proofs.read.read_named.Goals as goal

pub returns-in_err-attacks-clause-fault : goal.returns-in_err-attacks-clause-fault
returns-in_err-attacks-clause-fault c =
    let all = subst (λ t. TellsAll c.args.format (lines_of c.args.bytes.now) t) (sym c.told.view_is)
    (subst (λ ls. TellsAll c.args.format ls c.in_ok-told.told) c.lines.ensures.all c.in_ok-told.ensures.ok) in
    let unknown = unknown_told c.args.format c.args.bytes.now c.told.inside.names
    (map told_attack c.told.inside.attacks) c.in_err-attacks.field-0.0 all
    (subst (λ xs. IfLine c.in_err-attacks.field-0.0 (IsUnknownFault c.told.inside.names (map told_attack xs)))
    c.as_slice.ensures c.in_err-attacks.ensures.fault) in
    search (rules, unknown)

pub framework_of-requires-clause-ends : goal.framework_of-requires-clause-ends
framework_of-requires-clause-ends c =
    ends_are_numbers c.told.inside.names (map told_attack c.as_slice.result.now) c.in_ok-attacks.attacks c.len.result
    c.len.ensures c.in_ok-attacks.ensures.ok

pub returns-clause-ok : goal.returns-clause-ok
returns-clause-ok c =
    let all = subst (λ t. TellsAll c.args.format (lines_of c.args.bytes.now) t) (sym c.told.view_is)
    (subst (λ ls. TellsAll c.args.format ls c.in_ok-told.told) c.lines.ensures.all c.in_ok-told.ensures.ok) in
    reads_as c.args.format c.args.bytes.now c.told.inside.names (map told_attack c.told.inside.attacks) c.len.result
    c.in_ok-attacks.attacks c.in_ok-framework.framework all
    (subst (λ xs. AllZip (AreNumbersOf c.told.inside.names) (map told_attack xs) c.in_ok-attacks.attacks)
    c.as_slice.ensures c.in_ok-attacks.ensures.ok) c.len.ensures c.in_ok-framework.ensures

pub returns-clause-no_other : goal.returns-clause-no_other
returns-clause-no_other c = λ names f read. ReadsAs-same c.args.format c.args.bytes.now names c.told.inside.names f
    c.in_ok-framework.framework read (returns-clause-ok c)

pub returns-clause-solid : goal.returns-clause-solid
returns-clause-solid c =
    let all = subst (λ t. TellsAll c.args.format (lines_of c.args.bytes.now) t) (sym c.told.view_is)
    (subst (λ ls. TellsAll c.args.format ls c.in_ok-told.told) c.lines.ensures.all c.in_ok-told.ensures.ok) in
    read_is_solid c.len.result c.in_ok-attacks.attacks c.in_ok-framework.framework
    (subst (λ n. n ≤ MAX_ARGUMENT) (sym c.len.ensures)
    (few_names c.args.format c.args.bytes.now c.told.inside.names (map told_attack c.told.inside.attacks) all))
    c.in_ok-framework.ensures

pub returns-clause-faultless : goal.returns-clause-faultless
returns-clause-faultless c = ReadsAs-faultless c.args.format c.args.bytes.now c.told.inside.names
    c.in_ok-framework.framework (returns-clause-ok c)

pub returns-clause-names : goal.returns-clause-names
returns-clause-names c = ReadsAs-names c.args.format c.args.bytes.now c.told.inside.names c.in_ok-framework.framework
    (returns-clause-ok c)

pub returns-clause-one_to_one : goal.returns-clause-one_to_one
returns-clause-one_to_one c = ReadsAs-distinct c.args.format c.args.bytes.now c.told.inside.names
    c.in_ok-framework.framework (returns-clause-ok c)

pub returns-clause-few_attacks : goal.returns-clause-few_attacks
returns-clause-few_attacks c =
    let all = subst (λ t. TellsAll c.args.format (lines_of c.args.bytes.now) t) (sym c.told.view_is)
    (subst (λ ls. TellsAll c.args.format ls c.in_ok-told.told) c.lines.ensures.all c.in_ok-told.ensures.ok) in
    let fewer = no_more_attacks c.len.result c.in_ok-attacks.attacks c.in_ok-framework.framework
    (subst (λ n. n ≤ MAX_ARGUMENT) (sym c.len.ensures)
    (few_names c.args.format c.args.bytes.now c.told.inside.names (map told_attack c.told.inside.attacks) all))
    c.in_ok-framework.ensures in
    let long = zip_length (AreNumbersOf c.told.inside.names) (map told_attack c.as_slice.result.now)
    c.in_ok-attacks.attacks c.in_ok-attacks.ensures.ok in
    let few = few_told c.args.format c.args.bytes.now c.told.inside.names (map told_attack c.as_slice.result.now)
    (subst (λ xs. TellsAll c.args.format (lines_of c.args.bytes.now) (told_of c.told.inside.names (map told_attack xs)))
    (sym c.as_slice.ensures) all) in
    omega (arith, fewer, long, few)
