use Rattle.std.proofs.Common.{◌≡◌, List, refl, rules, subst}
use Rattle.edit_history.specs.Entries.{edits_of, entries_in, framework_after}
use Rattle.edit_history.specs.Hubs.{start_of}
use Rattle.edit_history.specs.declared.entry.Change.{Change}
use Rattle.session_core.specs.Following.{CatchesUp}
use Rattle.session_core.proofs.SessionLemmas.{caught_up}
use Rattle.session_core.proofs.session.Session.catch_up.Goals as goal

pub returns-clause-ok : goal.returns-clause-ok
returns-clause-ok g c =
    let old = c.args.self.now in
    let fresh = c.in_ok-entries.field-0 in
    let engine = c.follow.new.engine in
    let is : c.as_slice.result.now ≡ fresh.entries = search rules in
    caught_up (start_of c.args.hub.now) old
    (record {
      number = old.number;
      seat = c.refresh.new.seat;
      engine = engine;
      followed = fresh.front;
      taken = old.taken;
      answers = old.answers;
      out_of_memory = old.out_of_memory;
    })
    fresh c.requires.followed c.in_ok-entries.ensures.gained.longer c.in_ok-entries.ensures.ok
    (subst (λ (changes : List Change). engine.framework ≡ framework_after old.engine.framework (entries_in changes)) is
    c.in_ok-follow.ensures.framework)
    (subst (λ (changes : List Change). CatchesUp old.engine.framework (edits_of (entries_in changes)) old.engine.log
    engine.log) is c.in_ok-follow.ensures.catches_up)
    refl
