use Rattle.std.proofs.Common.{◌≡◌, ℕ, List, sym, subst, Result, Ok, Err}
use Rattle.std.specs.Prelude.{◌↔◌, Contains, IfOk}
use Rattle.std.proofs.lemmas.Result.{IfOk-weaker}
use Rattle.lists.specs.Members.{IsSetOf}
use Rattle.attack_index.specs.semantics.specs.Arguments.{IsArgument}
use Rattle.attack_index.specs.semantics.specs.Framework.{Af}
use Rattle.dung_notions.specs.WrittenOut.{IsBetween}
use Rattle.dung_notions.proofs.af_plain.AfPlain.of_lists.Goals as goal

-- the attacks of a framework that was made of these
attacks_made : {E : Type 0} (r : Result Af E) (live : List ℕ) (between attacks : List (ℕ × ℕ))
    → ((p : ℕ × ℕ) → Contains between p ↔ (Contains attacks p × IsBetween live p))
    → IfOk r (λ f. f.live ≡ live) → IfOk r (λ f. (p : ℕ × ℕ) → Contains f.attacks p ↔ Contains between p)
    → IfOk r (λ f. (p : ℕ × ℕ) → Contains f.attacks p ↔ (Contains attacks p × IsBetween f.live p))
attacks_made (Ok f) live between attacks h is made = rw is (λ p. (
  λ c. (h p).0 ((made p).0 c),
  λ w. (made p).1 ((h p).1 w),
))
attacks_made (Err e) live between attacks h is made = record {}

pub new-requires-clause-arguments : goal.new-requires-clause-arguments
new-requires-clause-arguments c = λ a h. ((c.in_ok-live.ensures.members a).0 h).1

pub new-requires-clause-between : goal.new-requires-clause-between
new-requires-clause-between c = λ b a h. ((c.in_ok-between.ensures (b, a)).0 h).1

pub returns-clause-live : goal.returns-clause-live
returns-clause-live c = IfOk-weaker c.new.result _ _
    (λ f e. subst (IsSetOf (λ a. Contains c.args.numbers.now a × IsArgument a)) (sym e) c.in_ok-live.ensures)
    c.new.ensures.live

pub returns-clause-attacks : goal.returns-clause-attacks
returns-clause-attacks c = attacks_made c.new.result c.in_ok-live.live c.in_ok-between.between.items c.args.attacks.now
    c.in_ok-between.ensures c.new.ensures.live c.new.ensures.attacks
