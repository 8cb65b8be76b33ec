use Rattle.std.proofs.Common.{[], ◌∷◌, ◌++◌, arith, ap, sym, subst, ◌∙◌, refl}
use Rattle.plain_lits.specs.declared.value.Value.TheVariants.{Unset}
use Rattle.plain_lits.specs.Literals.{negation}
use Rattle.plain_lits.specs.Values.{IsValueIn}
use Rattle.std.specs.Prelude.{Contains}
use Rattle.clause_watches.proofs.Pairing.{outlasts_open}
use Rattle.unit_propagate.specs.States.{State, state_of}
use Rattle.unit_propagate.proofs.Growing.{stays_room, on_err, learned_implied, learns}
use Rattle.unit_propagate.proofs.Learning.{stays_more, gains_more, kept_head}
use Rattle.unit_propagate.proofs.Visiting.{literal_kept}
use Rattle.unit_propagate.proofs.watch_state.WatchState.add_learned.Goals as goal

pub pick_second-pair-requires : goal.pick_second-pair-requires
pick_second-pair-requires c =
    let same = stays_room (state_of c.args.self.now) (state_of c.prepare.new.self) c.prepare.ensures.room in
    record {
      packs = c.in_ok-prepare.ensures.ok.packs;
      there = c.requires.unit.there;
      best = λ l there. outlasts_open c.prepare.new.self.trail.lits c.args.lit l
          (λ f. c.requires.unit.not_false (subst (λ xs. Contains xs (negation c.args.lit)) same.assigned.lits f));
    }

pub add_watching-requires : goal.add_watching-requires
add_watching-requires c = record {
  kept = c.prepare.ensures.kept;
  ready = c.in_ok-prepare.ensures.ok;
  pair = c.pick_second-pair.ensures.pair;
  last = c.pick_second-pair.ensures.last;
}

pub imply-requires : goal.imply-requires
imply-requires c =
    let same = stays_room (state_of c.args.self.now) (state_of c.prepare.new.self) c.prepare.ensures.room in
    record {
      within = c.in_ok-id.ensures.ok.known c.args.lit c.requires.unit.there;
      unset = subst (λ xs. IsValueIn xs c.args.lit Unset)
          (sym (c.in_ok-id.ensures.ok.assigned.lits ∙ same.assigned.lits))
          (c.requires.unit.not_true, c.requires.unit.not_false);
      long = c.add_watching.ensures.kept.reasons_long;
    }

pub returns : goal.returns
returns c =
    let s = state_of c.args.self.now in
    let m = state_of c.prepare.new.self in
    let w = state_of c.add_watching.new.self in
    let n = state_of c.imply.new.self in
    let before = c.imply.ensures.before in
    let long = c.add_watching.ensures.kept.reasons_long in
    let same = stays_room s m c.prepare.ensures.room in
    let gains = gains_more s m w c.args.clause.now c.in_ok-id.id c.prepare.ensures.room c.in_ok-id.ensures.ok in
    let learned = learns s w n c.args.clause.now c.args.lit c.in_ok-id.id gains (omega arith) c.imply.ensures.state in
    record {
      kept = kept_head s n c.pick_second-pair.result c.args.lit c.requires.kept
          (literal_kept w n c.args.lit c.in_ok-id.id c.add_watching.ensures.kept
          (learned_implied s w c.args.clause.now c.args.lit c.in_ok-id.id gains c.requires.unit)
          c.len-form.ensures.form.levels before c.imply.ensures.state)
          (ap (λ (t : State). t.pairs) c.imply.ensures.state
          ∙ (c.in_ok-id.ensures.pairs ∙ ap (λ ps. ps ++ c.pick_second-pair.result ∷ []) same.pairs))
          learned.lits c.pick_second-pair.ensures.first c.requires.unit.not_false;
      ok = learned;
      head = refl;
      err = tt;
    }

pub returns-in_err-prepare-clause-err : goal.returns-in_err-prepare-clause-err
returns-in_err-prepare-clause-err c =
    on_err c.from_residual.result _ (stays_room (state_of c.args.self.now) (state_of c.prepare.new.self)
    c.prepare.ensures.room)

pub returns-in_err-id-clause-err : goal.returns-in_err-id-clause-err
returns-in_err-id-clause-err c =
    on_err c.from_residual-in_err-id.result _ (stays_more (state_of c.args.self.now) (state_of c.prepare.new.self)
    (state_of c.add_watching.new.self) c.prepare.ensures.room c.in_err-id.ensures.err)
