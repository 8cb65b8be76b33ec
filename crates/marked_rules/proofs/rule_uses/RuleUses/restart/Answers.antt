use Rattle.std.proofs.Common.{◌≡◌, ◌∙◌, ap, arith, false, length, replicate}
use Rattle.std.proofs.lemmas.List.{length-replicate}
use Rattle.marked_rules.proofs.OverlaidLemmas.{derived_first}
use Rattle.marked_rules.proofs.rule_uses.RuleUses.restart.Goals as goal

pub returns : goal.returns
returns c =
    let base = c.args.self.now.start.base.items in
    let long : c.len.result ≡ length base = omega (arith, c.len.ensures, c.args.self.now.start.base.ok.0) in
    let marks : c.clear.new.self ≡ replicate (length base) false =
    c.in_ok-clear.ensures ∙ ap (λ n. replicate n false) long in
    record {
      fits = record {
        wide = ap length marks ∙ length-replicate (length base) false;
        counts = rw c.as_slice.ensures.value at c.in_ok-restart.ensures.fits;
      };
      derived = derived_first base c.clear.new.self marks;
      counts = rw c.as_slice.ensures.value at c.in_ok-restart.ensures.first;
      pending = c.clear-2.ensures.items;
    }
