use Rattle.std.proofs.Common.{sym, subst}
use Rattle.std.specs.Prelude.{Contains}
use Rattle.af_format.proofs.Reading.{arguments_numbered, framework_made}
use Rattle.apx_tgf.proofs.framework.framework_of.Goals as goal

pub new-requires-clause-between : goal.new-requires-clause-between
new-requires-clause-between c = λ b a has.
    let ends = c.requires.ends b a (subst (λ xs. Contains xs (b, a)) c.into_vec.ensures has) in (
      subst (λ xs. Contains xs b) (sym c.in_ok-live.ensures) ends.0,
      subst (λ xs. Contains xs a) (sym c.in_ok-live.ensures) ends.1,
    )

pub new-requires-clause-arguments : goal.new-requires-clause-arguments
new-requires-clause-arguments c = rw c.in_ok-live.ensures (arguments_numbered c.args.count c.requires.few)

pub returns : goal.returns
returns c = framework_made c.new.result c.args.count c.args.attacks c.in_ok-live.live c.into_vec.result.items
    c.in_ok-live.ensures c.into_vec.ensures c.new.ensures.live c.new.ensures.attacks c.new.ensures.form
