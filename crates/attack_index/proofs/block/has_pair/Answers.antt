use Rattle.attack_index.proofs.PairOrderLemmas.{found_pair}
use Rattle.attack_index.proofs.block.has_pair.Goals as goal

pub returns : goal.returns
returns c = rw c.is_ok.ensures.value
    (found_pair c.args.pairs.now (c.args.first, c.args.second) c.binary_search.result
    c.requires c.binary_search.ensures.bound c.binary_search.ensures.position)
