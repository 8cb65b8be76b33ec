use Rattle.std.proofs.Common.{◌≡◌, ◌∙◌, true, false, sym, ⊎_elim}
use Rattle.std.proofs.lemmas.Bool.{cases_Bool, false≢true}
use Rattle.marked_sets.specs.Marks.{is_marked}
use Rattle.marked_rules.proofs.OverlaidLemmas.{count_changed, count_first}
use Rattle.marked_rules.proofs.counts.Counts.get.Goals as goal

pub returns-then-changed : goal.returns-then-changed
returns-then-changed c = count_changed _ c.args.firsts.now c.args.self.now.changed c.args.self.now.left.items
    c.args.number c.as_slice-left.ensures.value c.requires.within (c.has-changed.ensures.0 c.if-changed.true)

pub returns : goal.returns
returns c = count_first c.args.firsts.now c.args.self.now.changed c.args.self.now.left.items c.args.number
    c.requires.within
    (⊎_elim
    (λ (t : is_marked c.args.self.now.changed c.args.number ≡ true).
    absurd (false≢true (sym c.if-changed.false ∙ c.has-changed.ensures.1 t))) (λ o. o)
    (cases_Bool (is_marked c.args.self.now.changed c.args.number)))
