-- Names stay served, and files known, where a call leaves them.
use Rattle.std.proofs.Common.{◌≡◌, ℕ, List, Result, Ok, Err, OnErr, sym, ◌∙◌, ap}
use Rattle.argue_outside.specs.Outside.{HoldsStill, KnownFile}
use Rattle.argue_outside.specs.MemHeld.{IsServed}

pub served_along : (failing next : List ℕ) (old new : List ℕ → KnownFile) → next ≡ failing → new ≡ old
    → HoldsStill (λ name. IsServed failing (old name)) (λ name. IsServed next (new name))
served_along failing next old new same held name served = record {
  unplanned = same ∙ served.unplanned;
  there = λ gone. served.there (sym (ap (λ h. h name) held) ∙ gone);
}

-- files of which each name is known as before are known as before
pub held_alike : (old new : List ℕ → KnownFile) → ((name : List ℕ) → new name ≡ old name) → new ≡ old
held_alike old new same = λ i name. same name i

-- what holds whatever the result holds of an error
pub on_err : {T E : Type 0} (P : Type 0) (result : Result T E) → P → OnErr result P
on_err P (Ok value) holds = tt
on_err P (Err error) holds = holds
