-- The atoms that were given contraries, with the lines that first did so.
use Rattle.std.proofs.Common.{◌≡◌, ℕ, ◌<◌, ◌≤◌, List, [], ◌∷◌, ◌++◌, length, get_or, refl}
use Rattle.std.proofs.Common.{sym, ap, subst, ◌∙◌, inl, inr, ⊎_elim, Bool, true, arith}
use Rattle.std.specs.Prelude.{Contains}
use Rattle.std.specs.List.{AllZip}
use Rattle.std.proofs.lemmas.List.{length-append, get_or_append_left, get_or_default}
use Rattle.std.proofs.lemmas.List.Elements.{Contains-push_cases, Contains-append_left, Contains-get_or}
use Rattle.std.proofs.lemmas.List.Quantifiers.{all_pairs_push}
use Rattle.std.proofs.Math.Seq.{get_or-append_seam}
use Rattle.lists.proofs.Membership.{Contains-pushed}
use Rattle.num_text.specs.Cuts.{LineText}
use Rattle.aba_format.specs.AbaText.{Said, says_assumption, says_contrary, says_rule, SaysLine}
use Rattle.aba_format.specs.Reading.{is_marked, IsSaidIn, GivesAt, AreGivenBy, NumbersRise, AreAllMarked, Adds}
use Rattle.aba_format.specs.declared.said.LineParts.{LineParts}
use Rattle.aba_format.proofs.SaysLemmas.{SaysLine-same, said_by_line}
use Rattle.aba_format.proofs.TakenLemmas.{kind, other_kind, first_atom}

-- ---- marks

pub all_marked : (given : List (ℕ × ℕ)) (marks : List Bool) (n : ℕ) → length given ≤ n
    → ((k : ℕ) → k < n → is_marked marks (get_or given k (0, 0)).0 ≡ true) → AreAllMarked given marks
all_marked given marks n end h x line c = at c
  where
    at : Contains given (x, line) → is_marked marks x ≡ true
    at (k, within, e) =
        let there : get_or given k (0, 0) ≡ (x, line) = get_or_default given k (0, 0) (x, line) within ∙ e in
        subst (λ p. is_marked marks p.0 ≡ true) there (h k (omega arith))

-- ---- one line more

-- a line that stands before another has a smaller number
earlier_number : (before : List LineText) (here : LineText) (rest : List LineText) (line : LineText)
    → NumbersRise (before ++ here ∷ rest) → Contains before line → line.number < here.number
earlier_number before here rest line rise (k, within, e) =
    let long = length-append before (here ∷ rest) in
    let first : get_or (before ++ here ∷ rest) k line ≡ line = get_or_append_left before (here ∷ rest) line k within ∙ e
    in
    let second : get_or (before ++ here ∷ rest) (length before) line ≡ here = get_or-append_seam before here rest line
    in
    let less = rise k (length before) line within (omega arith) in
    subst (λ (l : LineText). l.number < here.number) first
    (subst (λ (m : LineText). (get_or (before ++ here ∷ rest) k line).number < m.number) second less)

given_in : (count : ℕ) (before : List LineText) (here : LineText) (x line : ℕ) → GivesAt count before x line
    → GivesAt count (before ++ here ∷ []) x line
given_in count before here x line g = record {
  here = g.here;
  there = Contains-append_left before (here ∷ []) g.here g.there;
  number_is = g.number_is;
  y = g.y;
  gives = g.gives;
}

-- where the new line gives no contrary
given_kept : (count : ℕ) (before : List LineText) (here : LineText) (given : List (ℕ × ℕ)) (s : Said)
    → SaysLine count here.text s → (kind s ≡ 1 → ⊥) → AreGivenBy count before given
    → AreGivenBy count (before ++ here ∷ []) given
given_kept count before here given s says ne h = record {
  by_line = λ x line c. given_in count before here x line (h.by_line x line c);
  all = λ l x y c gives. ⊎_elim (λ there. h.all l x y there gives)
      (λ (e : here ≡ l). absurd (other_kind s (says_contrary x y) ne
      (SaysLine-same count l.text s (says_contrary x y)
      (subst (λ (m : LineText). SaysLine count m.text s) e says) gives)))
      (Contains-push_cases before here l c);
  rise = h.rise;
}

-- where it gives one again
given_again : (count : ℕ) (before : List LineText) (here : LineText) (rest : List LineText) (given : List (ℕ × ℕ))
    (all : List Said) (x y w : ℕ) → NumbersRise (before ++ here ∷ rest)
    → AllZip (λ line s. SaysLine count line.text s) before all → SaysLine count here.text (says_contrary x y)
    → Contains all (says_contrary x w) → AreGivenBy count before given → AreGivenBy count (before ++ here ∷ []) given
given_again count before here rest given all x y w rise zip says c h = record {
  by_line = λ z line d. given_in count before here z line (h.by_line z line d);
  all = λ l z v d gives. ⊎_elim (λ there. h.all l z v there gives)
      (λ (e : here ≡ l).
      let same : says_contrary x y ≡ says_contrary z v = SaysLine-same count l.text (says_contrary x y)
      (says_contrary z v)
      (subst (λ (m : LineText). SaysLine count m.text (says_contrary x y)) e says) gives in
      let earlier = said_by_line count before all zip (says_contrary x w) c in
      let first = h.all earlier.0 x w earlier.1 earlier.2 in
      let less = earlier_number before here rest earlier.0 rise earlier.1 in
      let number : here.number ≡ l.number = ap (λ (m : LineText). m.number) e in
      (first.0, subst (λ n. Contains given (n, first.0)) (ap first_atom same) first.1, omega (arith, first.2)))
      (Contains-push_cases before here l d);
  rise = h.rise;
}

-- where it gives one for the first time
given_first : (count : ℕ) (before : List LineText) (here : LineText) (rest : List LineText) (given : List (ℕ × ℕ))
    (x y : ℕ) → NumbersRise (before ++ here ∷ rest) → SaysLine count here.text (says_contrary x y)
    → AreGivenBy count before given → AreGivenBy count (before ++ here ∷ []) (given ++ (x, here.number) ∷ [])
given_first count before here rest given x y rise says h = record {
  by_line = λ z line d. ⊎_elim (λ there. given_in count before here z line (h.by_line z line there))
      (λ (e : (x, here.number) ≡ (z, line)). record {
        here = here;
        there = Contains-pushed before here here refl;
        number_is = sym (ap (λ p. p.1) e);
        y = y;
        gives = subst (λ n. SaysLine count here.text (says_contrary n y)) (ap (λ p. p.0) e) says;
      })
      (Contains-push_cases given (x, here.number) (z, line) d);
  all = λ l z w d gives. ⊎_elim
      (λ there.
      let first = h.all l z w there gives in
      (first.0, Contains-append_left given ((x, here.number) ∷ []) (z, first.0) first.1, first.2))
      (λ (e : here ≡ l).
      let same : says_contrary x y ≡ says_contrary z w = SaysLine-same count l.text (says_contrary x y)
      (says_contrary z w)
      (subst (λ (m : LineText). SaysLine count m.text (says_contrary x y)) e says) gives in
      let number : here.number ≡ l.number = ap (λ (m : LineText). m.number) e in (
        here.number,
        Contains-pushed given (x, here.number) (z, here.number) (ap (λ n. (n, here.number)) (ap first_atom same)),
        omega arith,
      ))
      (Contains-push_cases before here l d);
  rise = all_pairs_push (λ p q. p.1 < q.1) given (x, here.number) h.rise
      (λ k d lt.
      let p = get_or given k d in
      let g = h.by_line p.0 p.1 (Contains-get_or given k d lt) in
      let less = earlier_number before here rest g.here rise g.there in
      let number = g.number_is in
      omega arith);
}

pub given_next : (count : ℕ) (before : List LineText) (here : LineText) (rest : List LineText) (all : List Said)
    (s : Said) (old new : LineParts) → NumbersRise (before ++ here ∷ rest)
    → AllZip (λ line s. SaysLine count line.text s) before all → SaysLine count here.text s → IsSaidIn count all old
    → Adds s here.number old new → AreGivenBy count before old.given.items
    → AreGivenBy count (before ++ here ∷ []) new.given.items
given_next count before here rest all (says_assumption x) old new rise zip says held a h =
    subst (AreGivenBy count (before ++ here ∷ []))
    (sym (⊎_elim (λ (same : (is_marked old.assumed.items x ≡ true) × (new ≡ old)). ap (λ p. p.given.items) same.1)
    (λ fresh. fresh.given) a.added))
    (given_kept count before here old.given.items (says_assumption x) says (λ e. omega arith) h)
given_next count before here rest all (says_contrary x y) old new rise zip says held a h = elim a.marked [
  | inl again ↦
      let given = held.opposed.marked x again.earlier in
      subst (AreGivenBy count (before ++ here ∷ [])) (sym again.given)
      (given_again count before here rest old.given.items all x y given.0 rise zip says given.1 h)
  | inr first ↦ subst (AreGivenBy count (before ++ here ∷ [])) (sym first.given)
      (given_first count before here rest old.given.items x y rise says h)
]
given_next count before here rest all (says_rule head body) old new rise zip says held a h =
    subst (AreGivenBy count (before ++ here ∷ [])) (sym a.given)
    (given_kept count before here old.given.items (says_rule head body) says (λ e. omega arith) h)

pub given_nothing : (count : ℕ) (given : List (ℕ × ℕ)) → given ≡ [] → AreGivenBy count [] given
given_nothing count given e = subst (AreGivenBy count []) (sym e) (record {
  by_line = λ x line c. absurd (omega (arith, c.1));
  all = λ l x y c gives. absurd (omega (arith, c.1));
  rise = λ i j d less within. absurd (omega arith);
})
