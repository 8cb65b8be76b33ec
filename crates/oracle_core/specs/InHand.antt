-- The clause in hand behind the calls of a query.
use Rattle.std.proofs.Common.{◌≡◌, ◌⊎◌, ◌∙◌, ⊎_elim, sym, subst, refl, inl, inr}
use Rattle.session_log.specs.Ends.{LoopInHand}
use Rattle.oracle_core.specs.Engines.{EngineState}

-- a loop clause in hand is taken by no hints, or else nothing has come, and the clause in hand is the one that was
abbrev pub ServesInHand : EngineState → EngineState → Type 0
ServesInHand before after =
    LoopInHand after.log after.pending ⊎ ((after.log ≡ before.log) × (after.pending ≡ before.pending))

pub in_hand_none : (e : EngineState) → ServesInHand e e
in_hand_none e = inr (refl, refl)

pub in_hand_joined : (a b c : EngineState) → ServesInHand a b → ServesInHand b c → ServesInHand a c
in_hand_joined a b c first then = ⊎_elim (λ serves. inl serves)
    (λ same. ⊎_elim
    (λ serves. inl (subst (λ log. LoopInHand log c.pending) (sym same.0)
    (subst (λ pending. LoopInHand b.log pending) (sym same.1) serves)))
    (λ before. inr (same.0 ∙ before.0, same.1 ∙ before.1)) first) then
