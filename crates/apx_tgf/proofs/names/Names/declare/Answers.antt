use Rattle.std.proofs.Common.{ap, ◌∙◌}
use Rattle.std.specs.Prelude.{nat_eq}
use Rattle.std.specs.List.{list_any}
use Rattle.std.specs.Cmp.Lexicographic.{pointwise}
use Rattle.apx_tgf.specs.Names.{with_name}
use Rattle.apx_tgf.proofs.NameLemmas.{key_put}
use Rattle.apx_tgf.proofs.SeriesLemmas.{series_put}
use Rattle.apx_tgf.proofs.names.Names.declare.Goals as goal

pub returns-then-branch-clause-ok : goal.returns-then-branch-clause-ok
returns-then-branch-clause-ok c =
    key_put (λ name. name.now) c.args.name c.self.inside.names.keys c.insert.new.self.keys c.in_ok-insert.ensures.keys
    ∙ ap (λ names. with_name names c.args.name.now) c.self.view_is

pub returns-else-branch-clause-ok : goal.returns-else-branch-clause-ok
returns-else-branch-clause-ok c =
    key_put (λ name. name.now) c.args.name c.self.inside.names.keys c.insert.new.self.keys c.in_ok-insert.ensures.keys
    ∙ ap (λ names. with_name names c.args.name.now) c.self.view_is

pub invariant_of-self-then-branch : goal.invariant_of-self-then-branch
invariant_of-self-then-branch c =
    series_put (λ name. name.now) c.args.name c.self.inside.names.keys c.insert.new.self.keys c.self.inside.series
    c.with_last-self-inside.result c.len.result
    (list_any (λ k. pointwise nat_eq c.args.name.now k.now) c.self.inside.names.keys) c.in_ok-insert.field-0
    c.self.invariant c.in_ok-insert.ensures.keys c.in_ok-insert.ensures.added c.if-branch.true c.len.ensures.len
    c.with_last-self-inside.ensures
