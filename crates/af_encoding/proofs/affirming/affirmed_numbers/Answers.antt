use Rattle.std.proofs.Common.{◌≡◌, rules, tests}
use Rattle.std.specs.Prelude.{Contains, filter_map}
use Rattle.std.proofs.lemmas.Iterator.{items_from_collect, YieldsList-from_slice}
use Rattle.std.proofs.lemmas.Iterator.Consumers.{YieldsList-from_filter_map}
use Rattle.std.proofs.lemmas.Result.{IfOk-weaker}
use Rattle.af_encoding.specs.Decoded.{Affirms}
use Rattle.af_encoding.specs.NumberAtoms.{atom_of, number_in}
use Rattle.af_encoding.proofs.Affirmed.{affirmed_are, set_with}
use Rattle.af_encoding.proofs.affirming.affirmed_numbers.Goals as goal

pub returns : goal.returns
returns c =
    let values = c.args.values.now in
    let read = number_in c.args.which in
    let found = items_from_collect _ c.collect.ensures.ran (YieldsList-from_filter_map _ read
    (YieldsList-from_slice values cc) c.filter_map.ensures.closure (λ x r q k. search (rules, tests))) in
    let items : c.in_ok-found.found.items ≡ filter_map read values = rw c.in_ok-found.was at found in
    IfOk-weaker c.from_slice.result _ _
    (λ set made. set_with (Contains c.deref.result.now) (λ a. Affirms values (atom_of c.args.which a)) set
    (λ a. rw (c.deref.ensures.value, items) (affirmed_are c.args.which values a)) made)
    c.from_slice.ensures
