use Rattle.std.proofs.Common.{◌+◌, sym, subst}
use Rattle.std.specs.Prelude.{Contains, IfNone}
use Rattle.apx_tgf.specs.Names.{IsNumberOf}
use Rattle.apx_tgf.proofs.NameLemmas.{key_absent, key_found}
use Rattle.apx_tgf.proofs.names.Names.find_number.Goals as goal

pub returns-in_err-index-clause-none : goal.returns-in_err-index-clause-none
returns-in_err-index-clause-none c =
    subst (λ r. IfNone r (Contains c.args.self.now c.args.name.now → ⊥)) (sym c.from_residual.ensures)
    (λ member. key_absent (λ name. name.now) c.args.name.now c.self.inside.names.keys
    c.in_err-index.ensures.found
    (subst (λ names. Contains names c.args.name.now) (sym c.self.view_is) member))

pub returns-clause-some : goal.returns-clause-some
returns-clause-some c =
    subst (λ names. IsNumberOf names c.args.name.now (c.in_ok-index.index + 1)) c.self.view_is
    (key_found (λ name. name.now) c.args.name.now c.self.inside.names.keys c.args.name c.in_ok-index.index
    (sym c.in_ok-index.ensures.index))
