-- The numbers that a claim's side clauses have in a log give their positions.
use Rattle.std.proofs.Common.{◌≡◌, ⊎_elim, ℕ, ◌+◌, ◌-◌, ◌<◌, ◌≤◌, List, [], length, get_or, refl, ap, sym, subst, ◌∙◌}
use Rattle.std.proofs.Common.{arith}
use Rattle.std.specs.Prelude.{IfSome, slice_index_or, Option, Some, None}
use Rattle.std.proofs.lemmas.Bool.{cases_eq}
use Rattle.std.proofs.lemmas.List.{get_or_default}
use Rattle.semantics.specs.Frameworks.{Framework}
use Rattle.certificate_claims.specs.Refutations.{Claim}
use Rattle.oracle_face.specs.Goals.{IsClaimSide}
use Rattle.oracle_face.specs.Logs.{OracleLog, IsLog, IsSameClause, side_at}
use Rattle.certificate_making.specs.ClaimSides.{AreWithin, HavePositions, ArePositionsIn, IsAskOf, GivesTo}
use Rattle.certificate_making.specs.Trimmed.{position_of}

pub ask_within : (asks : List (Option ℕ)) (sides index : ℕ) (positions : List ℕ) (ask d : Option ℕ)
    → AreWithin asks sides → index < length asks → ask ≡ get_or asks index d → length positions ≡ sides
    → IfSome ask (λ n. (0 < n) × (n ≤ length positions))
ask_within asks sides index positions None d within lt at room = tt
ask_within asks sides index positions (Some n) d within lt at room =
    let bounds = within.each n (index, lt, get_or_default asks index (Some n) d lt ∙ sym at) in
    (bounds.0, omega (arith, bounds.1))

some_number : (m n : ℕ) → Some m ≡ Some n → m ≡ n
some_number m n e = cc

-- one more has its position
positions_next : (asks : List (Option ℕ)) (sides from index : ℕ) (old new : List ℕ) (ask : Option ℕ) → from ≡ index + 1
    → from ≤ length asks → slice_index_or asks index None ≡ ask → AreWithin asks sides
    → HavePositions asks sides from old
    → GivesTo ask from old new → HavePositions asks sides index new
positions_next asks sides from index old new None is le at within had gives =
    subst (λ (positions : List ℕ). HavePositions asks sides index positions) (sym gives) (record {
      room = had.room;
      back = λ n low pos. let b = had.back n low pos in let above = b.0 in (omega arith, b.1, b.2);
      first = λ i n high lt here. ⊎_elim
          (λ (e : i ≡ index).
          let none : None ≡ Some n = sym at
          ∙ subst (λ (j : ℕ). slice_index_or asks j None ≡ Some n) e here in
          absurd (cc))
          (λ ne. had.first i n (omega arith) lt here)
          (cases_eq i index);
    })
positions_next asks sides from index old new (Some m) is le at within had gives =
    let low_m = (within.each m (
      index,
      omega arith,
      get_or_default asks index (Some m) None (omega arith) ∙ at,
    )).0 in
    record {
      room = gives.long ∙ had.room;
      back = λ n low pos. ⊎_elim
          (λ (e : n ≡ m).
          let here : position_of new n ≡ from = ap (position_of new) e ∙ gives.here in
          let before : position_of new n - 1 ≡ index = omega (arith, here, is) in (
            omega (arith, here),
            omega (arith, here),
            ap (λ (j : ℕ). slice_index_or asks j None) before ∙ (at ∙ ap (λ (j : ℕ). Some j) (sym e)),
          ))
          (λ ne.
          let same = gives.others n low ne in
          let b = had.back n low (omega (arith, same, pos)) in
          let above = b.0 in
          let high = b.1 in (
            omega (arith, same),
            omega (arith, same),
            subst (λ (p : ℕ). slice_index_or asks (p - 1) None ≡ Some n) (sym same) b.2,
          ))
          (cases_eq n m);
      first = λ i n high lt here. ⊎_elim
          (λ (e : n ≡ m).
          let at_m : position_of new n ≡ from = ap (position_of new) e ∙ gives.here in
          (omega (arith, at_m), omega (arith, at_m)))
          (λ ne. ⊎_elim
          (λ (e : i ≡ index).
          let same : m ≡ n = some_number m n (sym at
          ∙ subst (λ (j : ℕ). slice_index_or asks j None ≡ Some n) e here) in
          absurd (ne (sym same)))
          (λ later.
          let low = (within.each n (i, lt, get_or_default asks i (Some n) None lt ∙ here)).0 in
          let same = gives.others n low ne in
          let b = had.first i n (omega arith) lt here in
          let pos = b.0 in
          let bound = b.1 in
          (omega (arith, same), omega (arith, same)))
          (cases_eq i index))
          (cases_eq n m);
    }

-- in the order of the loop, which counts down from the last
pub positions_down : (asks : List (Option ℕ)) (sides down index : ℕ) (old new : List ℕ) (ask d : Option ℕ)
    → down < length asks → index ≡ length asks - 1 - down → ask ≡ get_or asks index d → AreWithin asks sides
    → HavePositions asks sides (length asks - down) old → GivesTo ask (index + 1) old new
    → HavePositions asks sides (length asks - (down + 1)) new
positions_down asks sides down index old new ask d lt is at within had gives =
    let from : length asks - down ≡ index + 1 = omega arith in
    let next : length asks - (down + 1) ≡ index = omega arith in
    subst (λ (k : ℕ). HavePositions asks sides k new) (sym next)
    (positions_next asks sides (length asks - down) index old new ask from (omega arith)
    (get_or_default asks index None d (omega arith) ∙ sym at) within had
    (subst (λ (k : ℕ). GivesTo ask k old new) (sym from) gives))

ask_found : (f : Framework) (log : OracleLog) (claim : Claim) (asks : List (Option ℕ)) (sides : ℕ) (positions : List ℕ)
    (n i : ℕ) (ask : Option ℕ) → IsLog f log → IsClaimSide log.sides claim n → i < length asks
    → slice_index_or asks i None ≡ ask → IsSameClause (side_at log.sides n).literals (slice_index_or claim.sides i [])
    → IsAskOf log.sides (slice_index_or claim.sides i []) ask → HavePositions asks sides 0 positions
    → 0 < position_of positions n
ask_found f log claim asks sides positions n i None form is lt at same ask had = absurd (ask n is.number same)
ask_found f log claim asks sides positions n i (Some m) form is lt at same ask had =
    let one : m ≡ n = form.apart m n ask.0 is.number (record {
      there = λ l c. same.back l (ask.1.there l c);
      back = λ l c. ask.1.back l (same.there l c);
    }) in
    (had.first i n (omega arith) lt (at ∙ ap (λ (j : ℕ). Some j) one)).0

-- where all have them, these are the positions
pub positions_are : (asks : List (Option ℕ)) (sides : ℕ) (positions : List ℕ) → HavePositions asks sides 0 positions
    → ArePositionsIn asks positions
positions_are asks sides positions had f log claim form are = record {
  stands = λ n is pos.
      let b = had.back n is.from_one pos in
      let p = position_of positions n in
      let high = b.1 in
      let ask = subst (λ (a : Option ℕ). IsAskOf log.sides (slice_index_or claim.sides (p - 1) []) a) b.2
      (are.each (p - 1) (omega arith)) in
      record {
        named = record { from_one = pos; within = omega (arith, are.long) };
        same = ask.1;
      };
  found = λ n is.
      let c = is.there in
      let lt = c.1 in
      let side = get_or_default claim.sides c.0 [] is.side c.1 ∙ c.2 in
      let inside : c.0 < length asks = omega (arith, are.long) in
      ask_found f log claim asks sides positions n c.0 (slice_index_or asks c.0 None) form is inside refl
      (subst (λ clause. IsSameClause (side_at log.sides n).literals clause) (sym side) is.same)
      (are.each c.0 inside) had;
}
