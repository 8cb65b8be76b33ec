use Rattle.std.proofs.Common.{◌≡◌, ◌∙◌, [], ◌∷◌, ◌++◌, Some, arith, rules, ap}
use Rattle.turn_lock.proofs.SeatLaws.{starts}
use Rattle.turn_lock.proofs.opening.lock_of.Goals as goal

pub new-requires : goal.new-requires
new-requires g c =
    let value_is : c.of.result.value ≡ c.args.value = c.of.ensures in
    let count_is : c.from.result ≡ c.args.n = search rules in
    let items_are : c.push.new.self.items ≡ Some c.args.value ∷ []
    = c.in_ok-push.ensures.items ∙ ap (λ l. l ++ Some c.args.value ∷ []) c.new-slots.ensures.items in
    let fits = c.ranges.n.fits in
    rw (items_are, value_is, count_is) (starts g.V.Turned.opening g.V.Turned.history g.V.Turned.number c.args.n c.args.value c.requires.empty (omega arith))
