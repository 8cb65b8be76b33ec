-- A closed order of defended arguments is the grounded set. No word here is of how the order was found.
use Rattle.std.proofs.Common.{◌≡◌, ℕ, ◌+◌, ◌<◌, List, length, get_or, take, arith, sym, ◌∙◌, zero, suc}
use Rattle.std.specs.Prelude.{Contains}
use Rattle.std.proofs.lemmas.List.{length-take, get_or-take, get_or_default}
use Rattle.lists.specs.Members.{IsWithin}
use Rattle.attack_index.specs.semantics.specs.Framework.{Af, Attacks, Defends, IsComplete, IsGrounded}
use Rattle.dung_notions.specs.Grounding.{EntersAfterDefenders}
use Rattle.semantics.proofs.AdmissibleSets.{defends_more}

-- an order whose arguments are defended by those before them, and which holds all that it defends
pub record IsDone (f : Af) (order : List ℕ) : Type 0 where
  pub entered : EntersAfterDefenders f order
  pub closed : (a : ℕ) → Contains f.live a → Defends f order a → Contains order a

-- the place of a member
pub member_at : (xs : List ℕ) (x : ℕ) (h : Contains xs x) → get_or xs h.0 0 ≡ x
member_at xs x h = get_or_default xs h.0 0 x h.1 ∙ h.2

pub at_member : (xs : List ℕ) (k : ℕ) → k < length xs → Contains xs (get_or xs k 0)
at_member xs k lt = (k, lt, get_or_default xs k _ 0 lt)

-- a member of a front has its place there
front_place : (xs : List ℕ) (n x : ℕ) → Contains (take n xs) x
    → (m : ℕ) × (m < n) × (m < length xs) × (get_or xs m 0 ≡ x)
front_place xs n x h =
    let near : h.0 < n = omega (arith, h.1, length-take n xs) in
    let within : h.0 < length xs = omega (arith, h.1, length-take n xs) in
    (h.0, near, within, sym (get_or-take n xs h.0 0 near) ∙ member_at (take n xs) x h)

pub front_within : (xs : List ℕ) (n : ℕ) → IsWithin (take n xs) xs
front_within xs n x h =
    let w = front_place xs n x h in (w.0, w.2, get_or_default xs w.0 x 0 w.2 ∙ w.3)

-- by descent on the sum of the two places
no_attack : (f : Af) (order : List ℕ) → EntersAfterDefenders f order → (n i j : ℕ) → i + j < n
    → i < length order → j < length order
    → Attacks f (get_or order i 0) (get_or order j 0) → ⊥
no_attack f order e zero i j lt li lj att = absurd (omega arith)
no_attack f order e (suc n) i j lt li lj att =
    let w = e.defended j lj (get_or order i 0) att in
    let c = front_place order j w.0 w.1 in
    no_attack f order e n c.0 i (omega (arith, c.1)) c.2 li (rw c.3 w.2)

-- by descent on the place
in_complete : (f : Af) (order t : List ℕ) → EntersAfterDefenders f order → IsComplete f t → (n k : ℕ) → k < n
    → k < length order → Contains t (get_or order k 0)
in_complete f order t e ok zero k lt within = absurd (omega arith)
in_complete f order t e ok (suc n) k lt within = ok.closed _ (e.live k within) (λ b att.
    let w = e.defended k within b att in
    let c = front_place order k w.0 w.1 in
    let there : Contains t (get_or order c.0 0) = in_complete f order t e ok n c.0 (omega (arith, c.1)) c.2 in
    (w.0, rw c.3 at there, w.2))

pub IsGrounded-order : (f : Af) (order : List ℕ) → IsDone f order → IsGrounded f order
IsGrounded-order f order h = record {
  complete = record {
    admissible = record {
      conflict_free = record {
        live = λ x c. rw (member_at order x c) at (h.entered.live c.0 c.1);
        apart = λ b a hb ha att. no_attack f order h.entered (hb.0 + ha.0 + 1) hb.0 ha.0
            (omega arith) hb.1 ha.1 (rw (member_at order b hb, member_at order a ha) att);
      };
      defended = λ a c. let d : Defends f (take c.0 order) a = rw (member_at order a c) at
          (h.entered.defended c.0 c.1) in
          defends_more f (take c.0 order) order a (front_within order c.0) d;
    };
    closed = h.closed;
  };
  least = λ t ok x c. rw (member_at order x c) at
      (in_complete f order t h.entered ok (c.0 + 1) c.0 (omega arith) c.1);
}

-- only the members count
pub IsGrounded-same : (f : Af) (s t : List ℕ) → IsWithin s t → IsWithin t s → IsGrounded f s → IsGrounded f t
IsGrounded-same f s t st ts g = record {
  complete = record {
    admissible = record {
      conflict_free = record {
        live = λ x c. g.complete.admissible.conflict_free.live x (ts x c);
        apart = λ b a hb ha att. g.complete.admissible.conflict_free.apart b a (ts b hb) (ts a ha) att;
      };
      defended = λ a c. defends_more f s t a st (g.complete.admissible.defended a (ts a c));
    };
    closed = λ a l d. st a (g.complete.closed a l (defends_more f t s a ts d));
  };
  least = λ u ok x c. g.least u ok x (ts x c);
}
