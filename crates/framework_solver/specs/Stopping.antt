-- Why an update stops.
use Rattle.plain_lits.specs.declared.halt.Halt.{Halt}
use Rattle.plain_lits.specs.declared.halt.Halt.TheVariants.{Spent as OfSpent, LogFull as OfLogFull, Memory as OfMemory}
use Rattle.framework_solver.specs.declared.updating.UpdateStop.{UpdateStop}
use Rattle.framework_solver.specs.declared.updating.UpdateStop.TheVariants.{LogFull, Memory}

-- the stop that a halt comes to; an update spends nothing, and no budget ends it
abbrev pub update_stop_of : Halt → UpdateStop
update_stop_of (OfSpent count) = Memory
update_stop_of OfLogFull = LogFull
update_stop_of OfMemory = Memory
