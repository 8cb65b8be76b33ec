-- Sets with widest ranges round those of a mode, found by going through all sets of live arguments.
use Rattle.std.proofs.Common.{inl, inr, ⊎_elim, ℕ, List, [], ◌∷◌, subst}
use Rattle.std.specs.Prelude.{Contains}
use Rattle.lists.specs.Members.{IsWithin}
use Rattle.lists.proofs.Membership.{Contains-nil, Contains-cons_cases}
use Rattle.semantics.specs.declared.mode.Mode.{Mode}
use Rattle.semantics.specs.declared.mode.Mode.TheVariants.{Cf, Ad}
use Rattle.semantics.specs.Framework.{Af, Attacks, IsInRange, IsOfMode, IsRangeWithin, IsWidest}
use Rattle.semantics.specs.Compared.{HasNoWider}
use Rattle.semantics.specs.Laws.{WidestExists}
use Rattle.semantics.proofs.Decided.{Decided, decide_both, decide_each, decide_either, decide_implied, decide_member, decide_attacked}
use Rattle.semantics.proofs.DecidedNotions.{decide_conflict_free, decide_admissible}
use Rattle.semantics.proofs.Existence.{all_sets}
use Rattle.semantics.proofs.ListedSets.{no_wider, range_by}

decide_mode : (mode : Mode) (f : Af) (s : List ℕ) → Decided (IsOfMode mode f s)
decide_mode Cf f s = decide_conflict_free f s
decide_mode Ad f s = decide_admissible f s

decide_in_range : (f : Af) (s : List ℕ) (a : ℕ) → Decided (IsInRange f s a)
decide_in_range f s a = decide_either (decide_member s a) (decide_attacked f s a)

decide_range_within : (f : Af) (s t : List ℕ) → Decided (IsRangeWithin f s t)
decide_range_within f s t =
    ⊎_elim
    (λ h. inl (range_by f s t h.0 (λ b a at c. h.1 (b, a) at c)))
    (λ no. inr (λ sub. no (λ a c. sub a (inl c), λ p at c. sub p.1 (inr (p.0, c, at)))))
    (decide_both (decide_each (λ a. IsInRange f t a) (λ a. decide_in_range f t a) s)
    (decide_each (λ p. Contains s p.0 → IsInRange f t p.1)
    (λ p. decide_implied (decide_member s p.0) (decide_in_range f t p.1)) f.attacks))

-- a set of the mode whose range holds this one's, and no listed set of the mode has a larger range
record IsWidened (mode : Mode) (f : Af) (sets : List (List ℕ)) (s t : List ℕ) : Type 0 where
  has_mode : IsOfMode mode f t
  holds : IsRangeWithin f s t
  widest : (u : List ℕ) → Contains sets u → HasNoWider mode f t u

widened : (mode : Mode) (f : Af) (sets : List (List ℕ)) (s : List ℕ) → IsOfMode mode f s
    → (t : List ℕ) × IsWidened mode f sets s t
widened mode f [] s ok =
    (s, record { has_mode = ok; holds = λ a h. h; widest = λ u c. absurd (Contains-nil u c) })
widened mode f (u ∷ sets) s ok =
    ⊎_elim
    (λ wider. let r = widened mode f sets u wider.0 in (
      r.0,
      record {
        has_mode = r.1.has_mode;
        holds = λ a h. r.1.holds a (wider.1 a h);
        widest = λ v c. ⊎_elim
            (λ e. subst (λ w. HasNoWider mode f r.0 w) e (record { back = λ is sub. r.1.holds }))
            (λ later. r.1.widest v later) (Contains-cons_cases u sets v c);
      },
    ))
    (λ none. let r = widened mode f sets s ok in (
      r.0,
      record {
        has_mode = r.1.has_mode;
        holds = r.1.holds;
        widest = λ v c. ⊎_elim
            (λ e. subst (λ w. HasNoWider mode f r.0 w) e
            (record { back = λ is sub. absurd (none (is, λ a h. sub a (r.1.holds a h))) }))
            (λ later. r.1.widest v later) (Contains-cons_cases u sets v c);
      },
    ))
    (decide_both (decide_mode mode f u) (decide_range_within f s u))

pub widest_round : (f : Af) → WidestExists f
widest_round f mode s ok =
    let all = all_sets f.live in
    let r = widened mode f all.0 s ok in
    (r.0, record { has_mode = r.1.has_mode; widest = no_wider mode f all.0 r.0 all.1 r.1.widest }, r.1.holds)
