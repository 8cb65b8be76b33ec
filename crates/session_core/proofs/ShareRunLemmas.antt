-- What a session shares is a run of the core.
use Rattle.std.proofs.Common.{refl, [], sym, subst}
use Rattle.oracle_face.specs.declared.entry.EntryOrigin.{EntryOrigin}
use Rattle.oracle_face.specs.declared.entry.EntryOrigin.TheVariants.{Hints}
use Rattle.oracle_face.specs.Logs.{Source, step_at}
use Rattle.core_machine.specs.Steps.{Shares, after_share, goes, origin_of, rests, share}
use Rattle.session_core.specs.ShareRuns.{SharesAreRuns}

pub shares_run : SharesAreRuns
shares_run core s k i entry step is place =
    let steps = (core.sessions s).log.steps in
    let source = (step_at steps k).source in
    let by_names : origin_of s steps source (Hints is.names) =
    subst (λ (from : Source). origin_of s steps from (Hints is.names)) (sym is.may.derived) (
      is.names,
      refl,
      is.named.long,
      λ n d lt. (is.named.each n d lt).same,
    ) in
    let shares : Shares core s k i (after_share core s k i entry) = record {
      step = step;
      plain = is.may.plain.plain;
      own = is.may.own;
      entry = entry;
      clause = is.clause;
      name = is.name;
      origin = subst (λ (o : EntryOrigin). origin_of s steps source o) (sym is.origin) by_names;
      place = place;
      is = refl;
    } in
    goes core (after_share core s k i entry) (after_share core s k i entry) (share s k i) [] [] shares
    (rests (after_share core s k i entry))
