use Rattle.std.proofs.Common.{get_or, ap, sym, ◌∙◌}
use Rattle.unit_propagate.specs.States.{state_of}
use Rattle.clause_watches.specs.WatchLists.{ids_at}
use Rattle.unit_propagate.proofs.Lists.{IsSeen, listed_seen}
use Rattle.unit_propagate.proofs.Moving.{here_first, here_second}
use Rattle.unit_propagate.proofs.watch_state.WatchState.watcher.Goals as goal

pub pair-pair-requires : goal.pair-pair-requires
pair-pair-requires c =
    let s = state_of c.args.self.now in
    let seen : IsSeen s.clauses s.pairs c.args.code (get_or (ids_at s.lists c.args.code) c.args.at 0) =
    listed_seen s.clauses s.pairs s.lists c.args.code c.args.at c.requires.kept.stored.watching c.requires.at in
    rw (c.ids_in.ensures, c.as_slice.ensures.value) seen.named

pub returns-then-code : goal.returns-then-code
returns-then-code c =
    here_first (state_of c.args.self.now) c.args.at c.args.code _ c.args.falsified c.pair-pair.result c.requires.kept
    c.requires.code_is c.requires.at
    (ap (λ xs. get_or xs c.args.at 0) (c.ids_in.ensures ∙ ap (λ ls. ids_at ls c.args.code) c.as_slice.ensures.value))
    c.pair-pair.ensures (sym c.code.ensures.code ∙ c.if-code.true)

pub returns : goal.returns
returns c =
    here_second (state_of c.args.self.now) c.args.at c.args.code _ c.args.falsified c.pair-pair.result c.requires.kept
    c.requires.code_is c.requires.at
    (ap (λ xs. get_or xs c.args.at 0) (c.ids_in.ensures ∙ ap (λ ls. ids_at ls c.args.code) c.as_slice.ensures.value))
    c.pair-pair.ensures (λ e. c.if-code.false (c.code.ensures.code ∙ e))
