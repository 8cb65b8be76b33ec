use Rattle.std.proofs.Common.{sym, ◌∙◌}
use Rattle.dung_notions.proofs.SearchLemmas.{grounds, rises_still}
use Rattle.dung_notions.proofs.af_plain.AfPlain.grounded.Goals as goal

pub unattacked-requires : goal.unattacked-requires
unattacked-requires c = rw (c.live.ensures.value, c.deref.ensures.value) c.in_ok-open_attackers.ensures.wide

pub from_rising-requires : goal.from_rising-requires
from_rising-requires c = rw c.deref-2.ensures.value
    (rises_still c.args.self.now c.deref.result.now _ c.live.ensures.form.form
    (rw c.live.ensures.value at c.in_ok-rising.ensures))

pub returns : goal.returns
returns c = rw c.from_vec.ensures
    (grounds c.args.self.now _ c.in_ok-open_attackers.field-0.open_attackers.items c.deref.result.now
    c.in_ok-rising.rising.items _
    (sym c.deref.ensures.value) c.in_ok-open_attackers.ensures
    (rw c.live.ensures.value at c.in_ok-rising.ensures) c.live.ensures.form.form
    (c.in_ok-set.ensures ∙ c.deref-2.ensures.value))
