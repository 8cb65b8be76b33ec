use Rattle.std.proofs.Common.{sym, subst}
use Rattle.edit_history.specs.Entries.{IsGroup}
use Rattle.edit_history.specs.Hubs.{limit_of, start_of}
use Rattle.script_text.specs.declared.script.ScriptCommand.TheVariants.{Edit as change_by, Ask}
use Rattle.session_core.specs.Replies.{IsEditReply}
use Rattle.session_core.specs.Sessions.{seen_by}
use Rattle.edit_history.specs.Hubs.{GainsOthers}
use Rattle.bench_runs.specs.Running.{IsTold}
use Rattle.bench_runs.proofs.ToldLemmas.{told_of_edit, told_of_query}
use Rattle.bench_runs.proofs.runner.Runner.execute.Goals as goal

pub returns-in_ok-reply-in-Edit-clause-told : goal.returns-in_ok-reply-in-Edit-clause-told
returns-in_ok-reply-in-Edit-clause-told g c =
    let hub = c.args.hub.now in
    let old = c.args.self.now.session in
    let new = c.commit.new.self in
    let told = c.in_ok-reply-in-Edit.reply in
    let grouped = c.in-Edit.grouped in
    let edits = c.as_slice-edits.result.now in
    let said = c.in_ok-reply-in-Edit.ensures in
    subst (λ m. IsTold hub c.args.budget m old new told) (sym c.in-Edit.is)
    (subst (λ es. IsTold hub c.args.budget (change_by es grouped) old new told) c.as_slice-edits.ensures.edits
    (told_of_edit hub c.args.budget grouped edits old new told c.as_slice-edits.ensures.size
    (subst (λ n. IsEditReply grouped (limit_of hub) (start_of hub) n edits (seen_by old) (seen_by new) told)
    c.requires.number said.ok) said.engine said.followed said.answers))

pub returns-in_ok-reply-in-Ask-clause-told : goal.returns-in_ok-reply-in-Ask-clause-told
returns-in_ok-reply-in-Ask-clause-told g c =
    let hub = c.args.hub.now in
    let old = c.args.self.now.session in
    let new = c.ask.new.self in
    let told = c.in_ok-reply-in-Ask.reply in
    let said = c.in_ok-reply-in-Ask.ensures in
    subst (λ m. IsTold hub c.args.budget m old new told) (sym c.in-Ask.is)
    (told_of_query hub c.args.budget c.in-Ask.query old new told c.requires.engine said.ok
    (subst (λ n. GainsOthers n (seen_by old) (seen_by new)) c.requires.number said.gained))
