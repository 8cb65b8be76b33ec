-- How long the history was after so many turns, and what a longer history keeps.
use Rattle.std.proofs.Common.{◌≡◌, ◌≢◌, ℕ, ◌==◌, ◌<◌, ◌≤◌, true, false, cond, nat_le, List, [], ◌∷◌, ◌++◌, All, sym, ap, ◌∙◌, arith, append-nil}
use Rattle.std.proofs.lemmas.Bool.Decides.{nat_tests}
use Rattle.std.proofs.lemmas.List.Elements.{filter-append, All-weaker, All-nil, All-cons}
use Rattle.lists.proofs.Filters.{filter_none}
use mathlib.Core.Logic.{dite}
use native.Mathlib.Decide.{dec_le}
use Rattle.turn_lock.specs.Turns.{Continues, entries_of}

-- the lengths with one turn more, after which the history has this length
abbrev pub cut_after : (ℕ → ℕ) → ℕ → ℕ → ℕ → ℕ
cut_after cut turns len n = cond (nat_le n turns) (cut n) len

pub cut_before : (cut : ℕ → ℕ) (turns len n : ℕ) → n ≤ turns → cut_after cut turns len n ≡ cut n
cut_before cut turns len n le = let t : nat_le n turns ≡ true = grind (arith, nat_tests) in ap (λ b. cond b (cut n) len) t

pub cut_behind : (cut : ℕ → ℕ) (turns len n : ℕ) → turns < n → cut_after cut turns len n ≡ len
cut_behind cut turns len n lt = let t : nat_le n turns ≡ false = grind (arith, nat_tests) in ap (λ b. cond b (cut n) len) t

pub cut_rises : (cut : ℕ → ℕ) (turns len : ℕ) → ((a b : ℕ) → a ≤ b → cut a ≤ cut b) → cut turns ≤ len → (a b : ℕ) → a ≤ b
    → cut_after cut turns len a ≤ cut_after cut turns len b
cut_rises cut turns len rises le a b ab = dite (dec_le b turns)
    (λ h. rw (cut_before cut turns len a (omega arith), cut_before cut turns len b h) (rises a b ab))
    (λ h. let eb = cut_behind cut turns len b (omega arith) in dite (dec_le a turns)
    (λ k. let ea = cut_before cut turns len a k in let up = rises a turns k in omega arith)
    (λ k. let ea = cut_behind cut turns len a (omega arith) in omega arith))

module _ {E : Type 0} (number : E → ℕ) where
  -- a seat has no entry among those of another
  pub none_of : (k m : ℕ) (added : List E) → m ≢ k → All (λ e. number e ≡ k) added → entries_of number m added ≡ []
  none_of k m added else each = filter_none (λ e. number e == m) added (All-weaker (λ e. number e ≡ k) (λ e. (number e == m) ≡ false) (λ e is. let apart : number e ≢ m = λ same. else (sym same ∙ is) in grind (arith, nat_tests)) added each)

  -- other seats' entries keep a seat's own as they were
  pub own_kept : (k m : ℕ) (log added longer : List E) → m ≢ k → longer ≡ log ++ added → All (λ e. number e ≡ k) added
      → entries_of number m longer ≡ entries_of number m log
  own_kept k m log added longer else is each = ap (entries_of number m) is ∙ filter-append (λ e. number e == m) log added
      ∙ ap (λ r. entries_of number m log ++ r) (none_of k m added else each) ∙ append-nil (entries_of number m log)

  -- no entry has a number above those that were given
  pub none_above : (made k : ℕ) (log : List E) → made < k → All (λ e. (0 < number e) × (number e ≤ made)) log → entries_of number k log ≡ []
  none_above made k log lt each = filter_none (λ e. number e == k) log (All-weaker (λ e. (0 < number e) × (number e ≤ made)) (λ e. (number e == k) ≡ false) (λ e is. let le = is.1 in let apart : number e ≢ k = λ same. omega arith in grind (arith, nat_tests)) log each)

  -- a history that stays, and one that gets one entry
  pub continues_same : (k : ℕ) (xs ys : List E) → ys ≡ xs → Continues number k xs ys
  continues_same k xs ys same = record {
    added = [];
    longer = same ∙ sym (append-nil xs);
    each = All-nil (λ e. number e ≡ k);
  }

  pub continues_one : (k : ℕ) (xs ys : List E) (e : E) → number e ≡ k → ys ≡ xs ++ e ∷ [] → Continues number k xs ys
  continues_one k xs ys e is longer = record {
    added = e ∷ [];
    longer = longer;
    each = All-cons (λ x. number x ≡ k) e [] is (All-nil (λ x. number x ≡ k));
  }
