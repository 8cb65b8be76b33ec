use Rattle.std.proofs.Common.{◌++◌, ◌∷◌, [], ap, ◌∙◌}
use Rattle.bench_runs.proofs.ToldLemmas.{own_done}
use Rattle.bench_runs.proofs.runner.Runner.take_line.Goals as goal

pub returns-clause-served : goal.returns-clause-served
returns-clause-served g c =
    let done = c.in_ok-reply.ensures in
    let reply = c.in_ok-reply.reply in
    λ before h. own_done c.args.hub.now c.args.pool.now c.args.budget before c.args.self.now c.execute.new.self.session
    c.push.new.self c.args.line.now reply c.requires.own done.ready done.told done.number
    (c.in_ok-push.ensures.ok ∙ ap (λ l. l ++ reply ∷ []) done.replies) done.pooled h
