use Rattle.std.proofs.Common.{rules, ◌≡◌, ◌<◌, length, ap, arith}
use Rattle.std.proofs.Math.ListN.{set}
use Rattle.plain_lits.specs.declared.value.Value.TheVariants.{Unset}
use Rattle.plain_lits.specs.Values.{IsValueIn}
use Rattle.plain_lits.proofs.TrailLemmas.{pushed_assigned, unset_left, unset_value, pushed_in_room}
use Rattle.plain_lits.proofs.assignment.Assignment.push.Goals as goal

pub returns-clause-before : goal.returns-clause-before
returns-clause-before c =
    let s = c.self.inside in
    let within : c.args.lit.var < length s.values.items = rw (← c.self.view_is) at c.requires.within in
    let unset : IsValueIn s.trail.items c.args.lit Unset = rw (← c.self.view_is) at c.requires.unset in
    rw (← c.self.view_is) (unset_left s.trail.items s.values.items s.positions.items c.self.invariant.assigned
    c.args.lit.var within
    (unset_value s.trail.items s.values.items s.positions.items c.self.invariant.assigned c.args.lit within unset))

pub invariant_of-self : goal.invariant_of-self
invariant_of-self c =
    let s = c.self.inside in
    let within : c.args.lit.var < length s.values.items = rw (← c.self.view_is) at c.requires.within in
    let unset : IsValueIn s.trail.items c.args.lit Unset = rw (← c.self.view_is) at c.requires.unset in
    let position : c.len-position.result ≡ length s.trail.items = omega arith in
    let before = unset_left s.trail.items s.values.items s.positions.items c.self.invariant.assigned c.args.lit.var
    within
    (unset_value s.trail.items s.values.items s.positions.items c.self.invariant.assigned c.args.lit within unset) in
    let fits = c.self.invariant.fits in
    let pushed = pushed_in_room c.push.result _ _ c.args.lit _ c.push.ensures.full
    (λ full. omega (arith, before, fits, full)) c.push.ensures.items in
    record {
      assigned = pushed_assigned s.trail.items c.push.new.self.items s.values.items _ s.positions.items _ c.args.lit
          c.self.invariant.assigned
          within unset pushed
          (ap (λ v. set s.values.items c.args.lit.var v) c.from_sign.ensures)
          (ap (λ v. set s.positions.items c.args.lit.var v) position);
      fits = search rules;
    }

pub returns-clause-lits : goal.returns-clause-lits
returns-clause-lits c =
    let before = returns-clause-before c in
    let fits = c.self.invariant.fits in
    let e = c.self.view_is in
    rw (← c.self.view_is) (pushed_in_room c.push.result _ _ c.args.lit _ c.push.ensures.full
    (λ full. omega (arith, rw (← c.self.view_is) at before, fits, full)) c.push.ensures.items)
