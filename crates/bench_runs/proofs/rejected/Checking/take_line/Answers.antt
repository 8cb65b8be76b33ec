use Rattle.std.proofs.Common.{arith}
use Rattle.edit_rules.specs.Kinds.{framework_of}
use Rattle.bench_runs.proofs.CheckLemmas.{checked_all, checked_next, next_reply}
use Rattle.bench_runs.proofs.rejected.Checking.take_line.Goals as goal

pub returns-in_default : goal.returns-in_default
returns-in_default c = λ f lines left to.
    checked_all f c.args.history.now lines c.args.replies.now left (framework_of c.args.self.now.framework)
    c.args.self.now.front c.args.self.now.checked c.args.self.now.rejected c.args.line.now
    c.in_default.ensures.lookup.3 to

pub lead-requires-clause-inside : goal.lead-requires-clause-inside
lead-requires-clause-inside c =
    (next_reply c.args.history.now c.args.replies.now c.args.self.now.front c.args.self.now.checked
    c.args.self.now.rejected c.in-Some.reply.now c.requires c.in-Some.ensures.lookup.3.0
    c.in-Some.ensures.lookup.1).high

pub returns : goal.returns
returns c = λ f lines left to.
    let next = next_reply c.args.history.now c.args.replies.now c.args.self.now.front c.args.self.now.checked
    c.args.self.now.rejected c.in-Some.reply.now c.requires c.in-Some.ensures.lookup.3.0
    c.in-Some.ensures.lookup.1 in
    checked_next f c.args.history.now lines c.args.replies.now left (framework_of c.args.self.now.framework)
    (framework_of c.lead.new.framework) c.args.self.now.front c.args.self.now.checked c.args.self.now.rejected
    c.in_ok-count.count c.args.line.now c.in-Some.reply.now next to
    (λ is. c.in_ok-lead.ensures f is) c.in_ok-count.ensures.is c.in_ok-count.ensures.one
