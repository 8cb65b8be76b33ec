use Rattle.std.proofs.Common.{refl, subst, rules}
use Rattle.std.proofs.lemmas.Bool.{false≢true}
use Rattle.num_text.specs.Lines.{kept}
use Rattle.script_text.specs.Steps.{AreRead, BreaksAt, places_of}
use Rattle.script_text.proofs.FirstFaults.{breaks_told, open_told, script_is, script_is_faultless}
use Rattle.script_text.proofs.OneScript.{script_same}
use Rattle.script_text.proofs.UseLemmas.{use_among}
use Rattle.script_text.proofs.read.read_script.Goals as goal

pub returns-in_err-script-clause-fault : goal.returns-in_err-script-clause-fault
returns-in_err-script-clause-fault c =
    let breaks = subst (λ lines. BreaksAt c.args.frameworks (kept lines) c.in_err-script.field-0.0) c.lines.ensures.all
    c.in_err-script.ensures.fault in
    let told = breaks_told c.args.frameworks c.args.bytes.now c.in_err-script.field-0.0 breaks in
    search (rules, told)

pub returns-then-is_any_open-clause-fault : goal.returns-then-is_any_open-clause-fault
returns-then-is_any_open-clause-fault c =
    let groups = places_of c.read_lines.new.groups in
    let read = subst (λ lines. AreRead c.args.frameworks (kept lines) groups c.in_ok-script.script) c.lines.ensures.all
    c.in_ok-script.ensures.lines in
    let opened = c.if-is_any_open.ensures.0 refl in
    open_told c.args.frameworks c.args.bytes.now groups c.in_ok-script.script opened.0 opened.1 c.number_behind.result read
    opened.2 c.number_behind.ensures

pub returns-clause-script : goal.returns-clause-script
returns-clause-script c =
    let groups = places_of c.read_lines.new.groups in
    let read = subst (λ lines. AreRead c.args.frameworks (kept lines) groups c.in_ok-script.script) c.lines.ensures.all
    c.in_ok-script.ensures.lines in
    script_is c.args.frameworks c.args.bytes.now groups c.in_ok-script.script read
    (λ s edits e. false≢true (c.if-is_any_open.ensures.1 (s, edits, e)))

pub returns-clause-no_other : goal.returns-clause-no_other
returns-clause-no_other c = λ other is.
    let groups = places_of c.read_lines.new.groups in
    let read = subst (λ lines. AreRead c.args.frameworks (kept lines) groups c.in_ok-script.script) c.lines.ensures.all
    c.in_ok-script.ensures.lines in
    script_same c.args.frameworks c.args.bytes.now other c.in_ok-script.script is
    (script_is c.args.frameworks c.args.bytes.now groups c.in_ok-script.script read
    (λ s edits e. false≢true (c.if-is_any_open.ensures.1 (s, edits, e))))

pub returns-clause-faultless : goal.returns-clause-faultless
returns-clause-faultless c =
    let groups = places_of c.read_lines.new.groups in
    let read = subst (λ lines. AreRead c.args.frameworks (kept lines) groups c.in_ok-script.script) c.lines.ensures.all
    c.in_ok-script.ensures.lines in
    script_is_faultless c.args.frameworks c.args.bytes.now c.in_ok-script.script
    (script_is c.args.frameworks c.args.bytes.now groups c.in_ok-script.script read
    (λ s edits e. false≢true (c.if-is_any_open.ensures.1 (s, edits, e))))

pub returns-clause-among : goal.returns-clause-among
returns-clause-among c = λ some session.
    let groups = places_of c.read_lines.new.groups in
    let read = subst (λ lines. AreRead c.args.frameworks (kept lines) groups c.in_ok-script.script) c.lines.ensures.all
    c.in_ok-script.ensures.lines in
    let is = script_is c.args.frameworks c.args.bytes.now groups c.in_ok-script.script read
    (λ s edits e. false≢true (c.if-is_any_open.ensures.1 (s, edits, e))) in
    use_among c.args.frameworks c.in_ok-script.script.uses is.among some session
