use Rattle.std.proofs.Common.{◌≡◌, subst}
use Rattle.argue_commands.specs.Queries.{number_of}
use Rattle.argue_commands.proofs.QueryLemmas.{number_found}
use Rattle.argue_commands.proofs.query.number_in.Goals as goal

pub returns : goal.returns
returns c =
    subst (λ b. c.decimal.result ≡ number_of b) c.as_bytes.ensures.value
    (number_found _ c.decimal.result c.decimal.ensures.number c.decimal.ensures.none)
