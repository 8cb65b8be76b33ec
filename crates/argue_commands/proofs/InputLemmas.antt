-- How one input ends a run.
use Rattle.std.proofs.Common.{◌≢◌, ◌<◌, [], ◌∷◌, refl, inl, inr, arith}
use Rattle.std.specs.Prelude.{Contains, IsSome}
use Rattle.argue_outside.specs.declared.Role.{Role}
use Rattle.argue_commands.specs.Inputs.{EndsReading, Follow, Input, Reading}
use Rattle.argue_commands.specs.Texts.{IsRefusal, common_text}
use Rattle.argue_commands.specs.declared.ended.Status.{Status}
use Rattle.argue_commands.specs.declared.ended.Status.TheVariants.{Done, Usage, InputRefused, ReadFault, WriteFault, WantOfMemory, Unknown, Limit, Rejected}

pub none_in : (x : Input) → Contains [] x → ⊥
none_in x c = let lt : c.0 < 0 = c.1 in absurd (omega arith)

pub follow_none : (found : Reading) (end : Status) → Follow found end []
follow_none found (InputRefused refusal) = λ other c. absurd (none_in other c)
follow_none found Done = tt
follow_none found Usage = tt
follow_none found (ReadFault role) = tt
follow_none found WriteFault = tt
follow_none found WantOfMemory = tt
follow_none found Unknown = tt
follow_none found (Limit limit) = tt
follow_none found (Rejected rejection) = tt

pub one_in : (x : Input) → Contains (x ∷ []) x
one_in x = (0, omega arith, refl)

-- an input ends a run with a status that has a text of its own
pub common_text-reading : (found : Reading) (one : Input) (end : Status) → EndsReading found one end
    → IsSome (common_text end)
common_text-reading found one Usage h = refl
common_text-reading found one (InputRefused refusal) h = refl
common_text-reading found one (ReadFault role) h = refl
common_text-reading found one WantOfMemory h = refl
common_text-reading found one Unknown h = refl
common_text-reading found one (Limit limit) h = refl
common_text-reading found one Done (inl stops) = absurd stops
common_text-reading found one Done (inr memory) = cc
common_text-reading found one WriteFault h = refl
common_text-reading found one (Rejected rejection) h = refl

-- a status beside that of a refusal is no read fault
pub no_read_fault : (end : Status) → IsRefusal end → (role : Role) → end ≢ ReadFault role
no_read_fault (InputRefused refusal) h role = λ e. cc
no_read_fault (Rejected rejection) h role = λ e. cc
no_read_fault Done h role = absurd h
no_read_fault Usage h role = absurd h
no_read_fault (ReadFault other) h role = absurd h
no_read_fault WriteFault h role = absurd h
no_read_fault WantOfMemory h role = absurd h
no_read_fault Unknown h role = absurd h
no_read_fault (Limit limit) h role = absurd h
