use Rattle.std.proofs.Common.{◌≡◌, rules}
use Rattle.session_core.proofs.SessionLemmas.{taken_after}
use Rattle.session_core.proofs.session.Session.reply_to.Goals as goal

pub returns-clause-pooled : goal.returns-clause-pooled
returns-clause-pooled g c =
    let old = c.args.self.now in
    let mid = c.catch_up.new.self in
    let answers : mid.answers.items ≡ old.answers.items = search rules in
    let taken : mid.taken ≡ old.taken = search rules in
    taken_after c.args.pool.now old mid c.answer.new.self answers taken c.answer.ensures.pooled
