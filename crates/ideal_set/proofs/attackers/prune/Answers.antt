use Rattle.std.proofs.Common.{◌∙◌, ℕ, List, arith, subst, sym}
use Rattle.lists.proofs.Membership.{IsWithin-refl}
use Rattle.semantics.specs.Frameworks.{Framework, IsNumbered}
use Rattle.meaning_atoms.specs.declared.atom.Atom.TheVariants.{Ad}
use Rattle.meaning_atoms.specs.Worlds.{HoldsOf}
use Rattle.oracle_face.specs.declared.face.Found.TheVariants.{Set, Refuted}
use Rattle.ideal_set.specs.Ideals.{IsCut, IsFree}
use Rattle.ideal_set.proofs.IdealLemmas.{asked_turn, fewer_left, hit_stays, hit_within, one_more, search_cut}
use Rattle.goal_lists.proofs.RunLemmas.{ran_lost, ran_none, ran_nothing, then_found, then_handed, then_none}
use Rattle.ideal_set.proofs.attackers.prune.Goals as goal

pub loop-part-init : goal.loop-part-init
loop-part-init g c =
    let f = g.O.Oracle.framework c.args.oracle.now in
    record {
      searched = c.requires.found;
      free = subst (λ (s : List ℕ). IsFree f c.args.found.now.hit s) (sym c.in_ok-part.ensures.same) c.requires.set;
      more = omega arith;
      hit = IsWithin-refl c.args.found.now.hit;
      ran = ran_none 0 c.members-members.ensures.kept (g.met.O.Oracle.stays _);
    }

pub attacker-requires : goal.attacker-requires
attacker-requires g c =
    subst (λ (w : Framework). HoldsOf w c.loop-part.part Ad) (sym c.loop-part.invariant.ran.framework)
    c.loop-part.invariant.free.admissible

pub cut-requires-clause-set : goal.cut-requires-clause-set
cut-requires-clause-set g c =
    subst (λ (w : Framework). HoldsOf w c.loop-part.part Ad)
    (sym (c.in_ok-other.ensures.ran.framework ∙ c.loop-part.invariant.ran.framework))
    c.loop-part.invariant.free.admissible

pub cut-requires-clause-other : goal.cut-requires-clause-other
cut-requires-clause-other g c =
    let f = g.O.Oracle.framework c.args.oracle.now in
    let inv = c.loop-part.invariant in
    let turn = asked_turn f _ _ _ c.loop-part.found.sets c.loop-part.found.hit c.loop-part.part
    c.in_ok-other.field-0 (Set c.in-Set.other) inv.ran.framework inv.searched c.in_ok-other.ensures.ran.run.grows
    c.in_ok-other.ensures.attacks c.in_ok-other.ensures.asked c.in-Set.is in
    subst (λ (w : Framework). HoldsOf w c.in-Set.other Ad) (sym (c.in_ok-other.ensures.ran.framework ∙
    inv.ran.framework))
    turn.attacks.0

pub returns-in-Refuted-clause-pruned : goal.returns-in-Refuted-clause-pruned
returns-in-Refuted-clause-pruned g c =
    let f = g.O.Oracle.framework c.args.oracle.now in
    let inv = c.loop-part.invariant in
    let turn = asked_turn f _ _ _ c.loop-part.found.sets c.loop-part.found.hit c.loop-part.part
    c.in_ok-other.field-0 (Refuted c.in-Refuted._step) inv.ran.framework inv.searched
    c.in_ok-other.ensures.ran.run.grows
    c.in_ok-other.ensures.attacks c.in_ok-other.ensures.asked c.in-Refuted.is in
    record { searched = turn.searched; more = inv.more; hit = inv.hit; free = inv.free }

pub loop-part-smaller : goal.loop-part-smaller
loop-part-smaller g c =
    let f = g.O.Oracle.framework c.args.oracle.now in
    let inv = c.loop-part.invariant in
    let same = c.in_ok-other.ensures.ran.framework ∙ inv.ran.framework in
    let turn = asked_turn f _ _ _ c.loop-part.found.sets c.loop-part.found.hit c.loop-part.part
    c.in_ok-other.field-0 (Set c.in-Set.other) inv.ran.framework inv.searched c.in_ok-other.ensures.ran.run.grows
    c.in_ok-other.ensures.attacks c.in_ok-other.ensures.asked c.in-Set.is in
    let cut = subst (λ (w : Framework). IsCut w c.in-Set.other c.loop-part.found c.cut.new.found
    c.in_ok-part-in-Set.part) same c.in_ok-part-in-Set.ensures in
    let numbered = subst (λ (w : Framework). IsNumbered w) inv.ran.framework inv.ran.kept.numbered in
    let log = g.O.Oracle.log c.attacker.new.oracle in
    fewer_left f log c.loop-part.found c.cut.new.found c.loop-part.part c.in-Set.other c.in_ok-part-in-Set.part
    c.cut.new.found.hit numbered turn.searched inv.free turn.attacks.1 cut (IsWithin-refl c.cut.new.found.hit)
    (hit_within f log c.cut.new.found.sets c.cut.new.found.hit numbered
    (search_cut f log c.loop-part.found c.cut.new.found c.loop-part.part c.in-Set.other c.in_ok-part-in-Set.part
    turn.searched inv.free turn.attacks.0 turn.attacks.1 turn.asked cut))

pub loop-part-preserved : goal.loop-part-preserved
loop-part-preserved g c =
    let f = g.O.Oracle.framework c.args.oracle.now in
    let inv = c.loop-part.invariant in
    let same = c.in_ok-other.ensures.ran.framework ∙ inv.ran.framework in
    let turn = asked_turn f _ _ _ c.loop-part.found.sets c.loop-part.found.hit c.loop-part.part
    c.in_ok-other.field-0 (Set c.in-Set.other) inv.ran.framework inv.searched c.in_ok-other.ensures.ran.run.grows
    c.in_ok-other.ensures.attacks c.in_ok-other.ensures.asked c.in-Set.is in
    let cut = subst (λ (w : Framework). IsCut w c.in-Set.other c.loop-part.found c.cut.new.found
    c.in_ok-part-in-Set.part) same c.in_ok-part-in-Set.ensures in
    record {
      searched = search_cut f (g.O.Oracle.log c.attacker.new.oracle) c.loop-part.found c.cut.new.found
          c.loop-part.part c.in-Set.other c.in_ok-part-in-Set.part turn.searched inv.free turn.attacks.0 turn.attacks.1
          turn.asked cut;
      free = cut.free;
      more = omega (
        arith,
        inv.more,
        one_more f c.in-Set.other c.in_ok-part-in-Set.part c.loop-part.found c.cut.new.found cut,
      );
      hit = λ a h. hit_stays f c.in-Set.other c.in_ok-part-in-Set.part c.loop-part.found c.cut.new.found cut a
          (inv.hit a h);
      ran = then_found g.met.O.Oracle.joins c.in-Set.is inv.ran c.in_ok-other.ensures.ran;
    }

pub returns-in_err-part-clause-ran : goal.returns-in_err-part-clause-ran
returns-in_err-part-clause-ran g c =
    ran_nothing _ c.from_residual.ensures c.members-members.ensures.kept (g.met.O.Oracle.stays _)

pub returns-in_err-other-clause-ran : goal.returns-in_err-other-clause-ran
returns-in_err-other-clause-ran g c =
    then_handed {n = 0} g.met.O.Oracle.joins _ c.from_residual-in_err-other.ensures
    (omega arith) c.loop-part.invariant.ran
    c.in_err-other.ensures.ran

pub returns-in_err-part-in-Set-clause-ran : goal.returns-in_err-part-in-Set-clause-ran
returns-in_err-part-in-Set-clause-ran g c =
    ran_lost _ c.from_residual-in_err-part-in-Set.ensures (omega arith)
    (then_found g.met.O.Oracle.joins c.in-Set.is c.loop-part.invariant.ran c.in_ok-other.ensures.ran)

pub returns-in-Refuted-clause-ran : goal.returns-in-Refuted-clause-ran
returns-in-Refuted-clause-ran g c =
    then_none g.met.O.Oracle.joins c.in-Refuted.is (omega arith) c.loop-part.invariant.ran c.in_ok-other.ensures.ran
