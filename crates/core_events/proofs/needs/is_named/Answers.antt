use Rattle.std.proofs.Common.{rules}
use Rattle.std.proofs.lemmas.Iterator.{cases_from_any, YieldsList-from_slice}
use Rattle.core_logs.proofs.Walked.{any_members}
use Rattle.core_events.specs.declared.places.IndexedEntry.{IndexedEntry}
use Rattle.core_events.specs.Needs.{IsNamedUnder}
use Rattle.core_events.proofs.NeedLemmas.{named_is}
use Rattle.core_events.proofs.needs.is_named.Goals as goal

pub returns : goal.returns
returns c =
    let P : IndexedEntry → Type 0 = λ place. IsNamedUnder c.args.places.now c.args.name.now place.index in
    named_is _ c.args.places.now c.args.name.now
    (any_members P c.args.places.now _
    (cases_from_any _ _ _ P (λ x. P x → ⊥) c.any.ensures.ran (YieldsList-from_slice c.args.places.now cc)
    (λ x q k. search rules) (λ x q k. search rules)))
