use Rattle.std.proofs.Common.{refl}
use Rattle.script_text.proofs.SlotLemmas.{open_there}
use Rattle.script_text.proofs.open_groups.OpenGroups.is_any_open.Goals as goal

pub returns-then-is_inside : goal.returns-then-is_inside
returns-then-is_inside c = (
  λ _. open_there c.args.self.now.places.items c.as_slice-places.result.now c.loop-place.place-index c.place-item.result
      c.as_slice-places.ensures.value c.loop-place-test.true c.place-item.is (c.if-is_inside.ensures.0 refl),
  λ _. refl,
)
