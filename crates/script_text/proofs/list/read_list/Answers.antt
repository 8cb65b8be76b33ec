use Rattle.std.proofs.Common.{length, map, refl, ap, subst, rules}
use Rattle.std.proofs.lemmas.Bool.{false≢true}
use Rattle.std.specs.String.{string_bytes}
use Rattle.num_text.specs.Lines.{kept}
use Rattle.script_text.specs.ListSteps.{AreNames, BreaksList}
use Rattle.script_text.proofs.ListLemmas.{empty_told, list_breaks_told, list_is, list_is_faultless, list_same, some_name}
use Rattle.script_text.proofs.list.read_list.Goals as goal

pub returns-in_err-names-clause-fault : goal.returns-in_err-names-clause-fault
returns-in_err-names-clause-fault c =
    let breaks = subst (λ lines. BreaksList (kept lines) c.in_err-names.field-0.0) c.lines.ensures.all
    c.in_err-names.ensures.fault in
    let told = list_breaks_told c.args.bytes.now c.in_err-names.field-0.0 breaks in
    search (rules, told)

pub returns-then-is_empty-clause-fault : goal.returns-then-is_empty-clause-fault
returns-then-is_empty-clause-fault c =
    let names = map string_bytes c.in_ok-names.names in
    let read = subst (λ lines. AreNames (kept lines) names) c.lines.ensures.all c.in_ok-names.ensures.names in
    empty_told c.args.bytes.now names c.number_behind.result read
    (ap (λ ns. length (map string_bytes ns)) (c.if-is_empty.ensures.0 refl)) c.number_behind.ensures

pub returns-clause-no_other : goal.returns-clause-no_other
returns-clause-no_other c = λ other is.
    let names = map string_bytes c.in_ok-names.names in
    let read = subst (λ lines. AreNames (kept lines) names) c.lines.ensures.all c.in_ok-names.ensures.names in
    list_same c.args.bytes.now other names is (list_is c.args.bytes.now names read
    (some_name string_bytes c.in_ok-names.names (λ e. false≢true (c.if-is_empty.ensures.1 e))))

pub returns-clause-faultless : goal.returns-clause-faultless
returns-clause-faultless c =
    let names = map string_bytes c.in_ok-names.names in
    let read = subst (λ lines. AreNames (kept lines) names) c.lines.ensures.all c.in_ok-names.ensures.names in
    list_is_faultless c.args.bytes.now names (list_is c.args.bytes.now names read
    (some_name string_bytes c.in_ok-names.names (λ e. false≢true (c.if-is_empty.ensures.1 e))))
