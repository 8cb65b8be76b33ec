use Rattle.std.proofs.Common.{◌≡◌, drop, map}
use Rattle.std.specs.Prelude.{fold}
use Rattle.clap.specs.Words.{app_of, with_rule}
use Rattle.argue_words.specs.Words.{bare_app, option_of}
use Rattle.argue_words.proofs.options.command_of.Given as goal

-- the command so far becomes that of all options by those that are left
abbrev pub invariant-loop-row : goal.invariant-loop-row
invariant-loop-row l =
    fold with_rule (app_of l.command) (map (λ row. option_of row.0.now row.1 row.2) (drop l.row-index l.rows))
    ≡ fold with_rule bare_app (map (λ row. option_of row.0.now row.1 row.2) l.rows)
