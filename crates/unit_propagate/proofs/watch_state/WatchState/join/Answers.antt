use Rattle.std.proofs.Common.{◌≡◌, ◌<◌, length, ap, sym, ◌∙◌, refl, subst}
use Rattle.plain_lits.specs.Packed.{packed}
use Rattle.clause_watches.specs.WatchLists.{with_id, ids_at, list_at, Joins}
use Rattle.unit_propagate.proofs.Growing.{joined_two, long_second, room_second}
use Rattle.unit_propagate.proofs.watch_state.WatchState.join.Goals as goal

pub returns : goal.returns
returns c =
    let lists = c.args.self.now.lists.items in
    let ne : c.code-3.result ≡ c.code-4.result → ⊥ = λ e. c.if-code.false
    (c.code.ensures.code ∙ (sym c.code-3.ensures.code ∙ (e ∙ (c.code-4.ensures.code ∙ sym c.code-2.ensures.code)))) in
    let is : c.push_id-2.new.lists.items ≡ with_id (with_id lists c.code-3.result c.args.id) c.code-4.result c.args.id =
    c.push_id-2.ensures ∙ ap (λ ls. with_id ls c.code-4.result c.args.id) c.push_id.ensures in
    let apart : c.args.pair.first ≡ c.args.pair.second → ⊥ =
    λ e. c.if-code.false (c.code.ensures.code ∙ (ap packed e ∙ sym c.code-2.ensures.code)) in
    let first = c.requires.room.first apart in
    let second = c.requires.room.second apart in
    record {
      rest = refl;
      joins = subst (λ ls. Joins lists ls c.args.pair c.args.id) (sym is)
          (joined_two lists c.args.pair c.args.id c.code-3.result c.code-4.result
          c.code-3.ensures.code c.code-4.ensures.code ne (subst (λ k. k < length lists) (sym c.code-3.ensures.code)
          first.0)
          (subst (λ k. k < length lists) (sym c.code-4.ensures.code) second.0));
      alone = λ e. absurd (c.if-code.false (c.code.ensures.code ∙ (ap packed e ∙ sym c.code-2.ensures.code)));
      apart = λ _. refl;
    }

pub push_id-requires : goal.push_id-requires
push_id-requires c =
    let lists = c.args.self.now.lists.items in
    let apart : c.args.pair.first ≡ c.args.pair.second → ⊥ =
    λ e. c.if-code.false (c.code.ensures.code ∙ (ap packed e ∙ sym c.code-2.ensures.code)) in
    let first = c.requires.room.first apart in
    record {
      within = subst (λ k. k < length lists) (sym c.code-3.ensures.code) first.0;
      room = subst (λ k. length (ids_at lists k) < (list_at lists k).uses) (sym c.code-3.ensures.code) first.1;
    }

pub push_id-requires-2 : goal.push_id-requires-2
push_id-requires-2 c =
    let lists = c.args.self.now.lists.items in
    let apart : c.args.pair.first ≡ c.args.pair.second → ⊥ =
    λ e. c.if-code.false (c.code.ensures.code ∙ (ap packed e ∙ sym c.code-2.ensures.code)) in
    let second = c.requires.room.second apart in
    let ne : c.code-3.result ≡ c.code-4.result → ⊥ = λ e. c.if-code.false
    (c.code.ensures.code ∙ (sym c.code-3.ensures.code ∙ (e ∙ (c.code-4.ensures.code ∙ sym c.code-2.ensures.code)))) in
    rw c.push_id.ensures (record {
      within = long_second lists c.code-3.result c.args.id c.code-4.result
          (subst (λ k. k < length lists) (sym c.code-4.ensures.code) second.0);
      room = room_second lists c.args.pair c.args.id c.code-3.result c.code-4.result ne
          (subst (λ k. length (ids_at lists k) < (list_at lists k).uses) (sym c.code-4.ensures.code) second.1);
    })
