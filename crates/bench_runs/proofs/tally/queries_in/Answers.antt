use Rattle.std.proofs.Common.{◌∙◌, rules}
use Rattle.std.proofs.lemmas.Iterator.{YieldsList-from_slice}
use Rattle.std.proofs.lemmas.Iterator.Consumers.{YieldsList-from_filter, count_from_yields_List}
use Rattle.std.proofs.lemmas.List.Sums.{length-filter}
use Rattle.session_replies.specs.declared.reply.Reply.{Reply}
use Rattle.bench_runs.specs.Summaries.{is_told_query}
use Rattle.bench_runs.proofs.tally.queries_in.Goals as goal

pub returns : goal.returns
returns c =
    count_from_yields_List _ c.count.result c.count.ensures.ran
    (YieldsList-from_filter _ (λ (reply : Reply). is_told_query reply.body)
    (YieldsList-from_slice c.args.replies.now cc)
    c.filter.ensures.closure (λ x b q k. search rules))
    ∙ length-filter (λ (reply : Reply). is_told_query reply.body) c.args.replies.now
