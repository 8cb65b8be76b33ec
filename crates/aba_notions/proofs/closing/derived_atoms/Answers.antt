use Rattle.std.proofs.Common.{◌≡◌, ℕ, Vec, Global, length, arith, true, false, refl, ap, subst, ◌∙◌}
use Rattle.std.proofs.lemmas.List.{get_or_default}
use Rattle.aba_notions.specs.Closing.{ListsDerived}
use Rattle.aba_notions.proofs.ClosingLemmas.{lists_more, lists_same}
use Rattle.aba_notions.proofs.closing.derived_atoms.Goals.{then-is_derived+in_ok-push, else-is_derived}
use Rattle.aba_notions.proofs.closing.derived_atoms.Goals as goal

pub loop-atom-preserved : goal.loop-atom-preserved
loop-atom-preserved c =
    elim c.if-is_derived.branch [
      | then-is_derived+in_ok-push w ↦
          lists_more c.args.derived.now c.loop-atom.atom c.loop-atom.atom c.loop-atom.found.items
          c.if-is_derived.found.items c.loop-atom.invariant refl
          (get_or_default c.args.derived.now c.loop-atom.atom true false c.loop-atom-test.true ∙ w.if-is_derived.true)
          (ap (λ (v : Vec ℕ Global). v.items) w.found-is ∙ w.in_ok-push.ensures.items)
      | else-is_derived w ↦
          rw (ap (λ (v : Vec ℕ Global). v.items) w.found-is)
          (lists_same c.args.derived.now c.loop-atom.atom c.loop-atom.found.items c.loop-atom.invariant
          (get_or_default c.args.derived.now c.loop-atom.atom true false c.loop-atom-test.true ∙ w.if-is_derived.false))
    ]

pub returns : goal.returns
returns c =
    let all : c.loop-atom.atom ≡ length c.args.derived.now =
    omega (arith, c.loop-atom-test.false, c.loop-atom.auto.atom-end) in
    subst (λ n. ListsDerived c.args.derived.now n c.loop-atom.found.items) all c.loop-atom.invariant
