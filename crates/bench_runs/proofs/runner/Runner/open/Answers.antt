use Rattle.std.proofs.Common.{arith, ◌≡◌, ℕ, List, [], ap, rules, subst, sym, ◌∙◌}
use Rattle.semantics.specs.Frameworks.{Framework}
use Rattle.session_core.specs.declared.session.Session.{Session}
use Rattle.session_core.specs.Sessions.{RestOnPool, tokens_of}
use Rattle.session_replies.specs.declared.reply.Reply.{Reply}
use Rattle.hinted_log.specs.declared.log.TheConstants.{MAX_STEPS}
use Rattle.bench_runs.specs.Running.{stand_of}
use Rattle.bench_runs.specs.Walks.{Walks, at_start}
use Rattle.turn_lock.specs.Seats.{list_of, number_of}
use Rattle.edit_history.specs.Hubs.{IsSeatAt, limit_of, start_of}
use Rattle.session_core.specs.oracle_core.specs.Engines.{EngineState}
use Rattle.clause_pool.specs.Pools.{AreInRow}
use Rattle.clause_pool.proofs.RowLemmas.{none_yet}
use Rattle.bench_runs.proofs.ToldLemmas.{opened_stand}
use Rattle.bench_runs.proofs.runner.Runner.open.Goals as goal

opened_walks : (f : Framework) (limit budget s : ℕ) (session : Session) (replies : List Reply) → replies ≡ []
    → stand_of session ≡ at_start MAX_STEPS
    → Walks f limit budget s (at_start MAX_STEPS) [] replies (stand_of session)
opened_walks f limit budget s session replies none is =
    subst (λ r. Walks f limit budget s (at_start MAX_STEPS) [] r (stand_of session)) (sym none) is

pub returns-in-Ok-clause-served : goal.returns-in-Ok-clause-served
returns-in-Ok-clause-served c =
    let session = c.in-Ok.session in
    let opened = c.in-Ok.ensures in
    let hub = c.args.hub.now in
    λ pool budget. record {
      ready = record {
        seat = subst (λ s. IsSeatAt hub s) (sym opened.seat) c.requires.seat;
        number = ap (λ s. number_of s) opened.seat ∙ (sym c.number-number.ensures ∙ sym opened.number);
        engine = ap (λ (e : EngineState). e.number) opened.engine ∙ sym opened.number;
        follows = search rules;
      };
      walks = opened_walks (start_of hub) (limit_of hub) budget session.number session c.new.result c.new.ensures
          (opened_stand session (ap (λ s. list_of s) opened.seat ∙ c.requires.fresh) opened.followed
          (ap (λ (e : EngineState). e.log) opened.engine) opened.answers);
      pooled = subst (RestOnPool pool) (sym opened.answers) (λ k d low. absurd (omega (arith, low)));
      row = subst (AreInRow 0 (tokens_of session.answers.items)) (sym opened.taken)
          (none_yet (tokens_of session.answers.items) 0 (ap tokens_of opened.answers));
    }
