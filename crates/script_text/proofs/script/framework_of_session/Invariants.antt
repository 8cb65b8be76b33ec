use Rattle.std.proofs.Common.{◌≡◌}
use Rattle.std.specs.Prelude.{drop}
use Rattle.script_text.specs.Uses.{use_of}
use Rattle.script_text.proofs.script.framework_of_session.Given as goal

-- none of the uses so far is that of the session
abbrev pub invariant-loop-one : goal.invariant-loop-one
invariant-loop-one l = use_of l.fn.uses l.fn.session ≡ use_of (drop l.one-index l.fn.uses) l.fn.session
