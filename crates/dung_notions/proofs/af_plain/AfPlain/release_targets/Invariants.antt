use Rattle.std.proofs.Common.{◌≡◌, drop}
use Rattle.dung_notions.specs.Search.{IsSearchState, Grows}
use Rattle.dung_notions.proofs.af_plain.AfPlain.release_targets.Given as goal

abbrev pub invariant-loop-index : goal.invariant-loop-index
invariant-loop-index l = IsSearchState l.self l.search.members.items l.search.out.items l.search.open_attackers.items
    (drop l.index l.search.pending.items)
    × (l.search.out.items ≡ l.initial.search.out.items)
    × (l.search.pending.items ≡ l.initial.search.pending.items)
    × Grows l.initial.search.members.items l.initial.search.open_attackers.items l.search.members.items
    l.search.open_attackers.items
