-- What an edit did.
use Rattle.std.specs.Prelude.{[]}
use Rattle.edit_rules.specs.declared.edit.Edit.{Edit}
use Rattle.edit_rules.specs.declared.effect.Effect.{Effect}

-- an effect that took nothing away
abbrev pub plain_effect : Edit → Effect
plain_effect edit = record { edit = edit; rule = 0; dropped = []; gone = []; head = 0; body = [] }
