-- Where a step of a log comes from, as it is told.
use Rattle.std.specs.Prelude.{◌≡◌}
use Rattle.oracle_face.specs.declared.step_source.StepSource.{StepSource}
use Rattle.oracle_face.specs.Logs.{Source, hints_of}
use Rattle.oracle_face.specs.StepSources.{source_of}

-- the origin is that of a step from this source
abbrev pub IsOrigin : Source → StepSource → Type 0
IsOrigin source origin = source ≡ source_of origin (hints_of source)
