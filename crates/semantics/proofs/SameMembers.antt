-- Two lists with the same members meet the same notions.
use Rattle.std.proofs.Common.{inl, inr, ⊎_elim, ℕ, List}
use Rattle.std.specs.Prelude.{Contains}
use Rattle.lists.specs.Members.{IsWithin}
use Rattle.semantics.specs.Framework.{Af, IsConflictFree, IsAdmissible, IsComplete, IsPreferred, IsOfMode, IsRangeWithin, IsInAllPreferred}
use Rattle.semantics.specs.declared.mode.Mode.{Mode}
use Rattle.semantics.specs.declared.mode.Mode.TheVariants.{Cf, Ad}
use Rattle.semantics.specs.Laws.{HasSameMembers}
use Rattle.semantics.proofs.AdmissibleSets.{attacked_more, defends_more}

pub turned : (s t : List ℕ) → HasSameMembers s t → HasSameMembers t s
turned s t same = record { there = same.back; back = same.there }

pub range_more : (f : Af) (s t : List ℕ) → IsWithin s t → IsRangeWithin f s t
range_more f s t sub a h = ⊎_elim (λ c. inl (sub a c)) (λ hit. inr (attacked_more f s t a sub hit)) h

pub conflict_free_same : (f : Af) (s t : List ℕ) → HasSameMembers s t → IsConflictFree f s → IsConflictFree f t
conflict_free_same f s t same free = record {
  live = λ x c. free.live x (same.back x c);
  apart = λ b a cb ca at. free.apart b a (same.back b cb) (same.back a ca) at;
}

pub admissible_same : (f : Af) (s t : List ℕ) → HasSameMembers s t → IsAdmissible f s → IsAdmissible f t
admissible_same f s t same ok = record {
  conflict_free = conflict_free_same f s t same ok.conflict_free;
  defended = λ a c. defends_more f s t a same.there (ok.defended a (same.back a c));
}

-- sets of a mode hold live arguments alone, and only their members count
pub mode_live : (mode : Mode) (f : Af) (s : List ℕ) → IsOfMode mode f s → IsWithin s f.live
mode_live Cf f s ok = ok.live
mode_live Ad f s ok = ok.conflict_free.live

pub mode_same : (mode : Mode) (f : Af) (s t : List ℕ) → HasSameMembers s t → IsOfMode mode f s → IsOfMode mode f t
mode_same Cf f s t same ok = conflict_free_same f s t same ok
mode_same Ad f s t same ok = admissible_same f s t same ok

pub complete_same : (f : Af) (s t : List ℕ) → HasSameMembers s t → IsComplete f s → IsComplete f t
complete_same f s t same co = record {
  admissible = admissible_same f s t same co.admissible;
  closed = λ a live d. same.there a (co.closed a live (defends_more f t s a same.back d));
}

pub preferred_same : (f : Af) (s t : List ℕ) → HasSameMembers s t → IsPreferred f s → IsPreferred f t
preferred_same f s t same p = record {
  admissible = admissible_same f s t same p.admissible;
  maximal = λ u ok sub x c. same.there x (p.maximal u ok (λ y k. sub y (same.there y k)) x c);
}

pub in_all_same : (f : Af) (s t : List ℕ) → HasSameMembers s t → IsInAllPreferred f s → IsInAllPreferred f t
in_all_same f s t same h = record {
  admissible = admissible_same f s t same h.admissible;
  within = λ p pref x c. h.within p pref x (same.back x c);
}
