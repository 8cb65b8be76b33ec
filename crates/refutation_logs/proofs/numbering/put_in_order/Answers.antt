use Rattle.std.proofs.Common.{◌≡◌}
use Rattle.std.specs.List.{dedup}
use Rattle.std.proofs.lemmas.List.Filters.{dedup_is}
use Rattle.std.proofs.lemmas.List.Kept.{Contains-from_dedup}
use Rattle.std.proofs.lemmas.List.Sorted.{Contains-permutation, IsPermutation-sym}
use Rattle.plain_lits.proofs.LitOrder.{lit_eq, LitsRise-dedup, Contains-dedup_lits}
use Rattle.refutation_logs.proofs.numbering.put_in_order.Goals as goal

pub returns : goal.returns
returns c =
    let is : c.dedup.new.self.items
    ≡ dedup lit_eq c.sort_unstable.new.self.items = dedup_is _ _ _ c.dedup.ensures.filtered in
    let moved = c.sort_unstable.ensures.permutation in
    record {
      rises = rw is (LitsRise-dedup c.sort_unstable.new.self.items c.sort_unstable.ensures.sorted);
      members = λ l. (
        λ h. Contains-permutation _ _ l (IsPermutation-sym _ _ moved) (Contains-from_dedup _ _ l (rw is at h)),
        λ h. rw is (Contains-dedup_lits _ l (Contains-permutation _ _ l moved h)),
      );
    }
