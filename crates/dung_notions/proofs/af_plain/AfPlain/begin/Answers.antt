use Rattle.std.proofs.Common.{◌≡◌, length, replicate, false, arith}
use Rattle.dung_notions.proofs.SearchLemmas.{begins}
use Rattle.dung_notions.proofs.af_plain.AfPlain.begin.Goals as goal

pub unattacked-requires : goal.unattacked-requires
unattacked-requires c = rw (c.live.ensures.value, c.deref.ensures.value) c.in_ok-open_attackers.ensures.wide

pub returns-clause-state : goal.returns-clause-state
returns-clause-state c =
    let long : length c.in_ok-open_attackers.open_attackers.items ≡ c.len.result = omega
    (arith, c.len.ensures, c.in_ok-open_attackers.open_attackers.ok.0) in
    let all : c.in_ok-out.out.items
    ≡ replicate c.len.result false = c.in_ok-out.ensures.items_if_clones_equal (λ y e. e) in
    rw (all, c.new-pending.ensures.items)
    (begins c.args.self.now c.len.result c.in_ok-open_attackers.open_attackers.items c.in_ok-members.members.items
    c.live.ensures.form.form (λ a h. omega (arith, long, c.in_ok-open_attackers.ensures.wide a h))
    long c.in_ok-open_attackers.ensures.counted
    (rw (c.live.ensures.value, c.deref.ensures.value) at c.in_ok-members.ensures))
