-- Which steps refute a claim, from what is marked and back.
use Rattle.std.proofs.Common.{◌≡◌, ◌∙◌, ℕ, ◌+◌, ◌-◌, ◌<◌, ◌≤◌, Bool, true, false, List, [], ◌∷◌, ◌++◌, length, get_or, take, drop, arith, ap, sym, subst, inl, inr, ⊎_elim}
use Rattle.std.specs.Prelude.{◌↔◌, ◌⊎◌, Contains}
use Rattle.std.proofs.lemmas.Bool.{cases_eq}
use Rattle.std.proofs.lemmas.List.{map-append, take_all, take_more}
use Rattle.std.proofs.lemmas.List.Elements.{Contains-append_left, Contains-push, Contains-push_cases}
use Rattle.semantics.specs.Frameworks.{Framework}
use Rattle.meaning_atoms.specs.declared.atom.Atom.{Atom}
use Rattle.meaning_atoms.specs.declared.atom.Atom.TheVariants.{Ask}
use Rattle.meaning_atoms.specs.declared.atom.AtomLit.{AtomLit}
use Rattle.meaning_atoms.specs.Literals.{negated}
use Rattle.certificate_claims.specs.Refutations.{Claim as TableClaim}
use Rattle.oracle_face.specs.Goals.{DeniesSide, IsClaimSide}
use Rattle.oracle_face.specs.Logs.{IsNumberOf, IsSameClause, LogStep, OracleLog, Reaches, SideClause, no_side, no_step, side_at, step_at}
use Rattle.session_log.specs.Ends.{HasRefuting}
use Rattle.answer_claims.specs.declared.claim.Claim.{Claim}
use Rattle.answer_claims.specs.declared.sides.SideKind.{SideKind}
use Rattle.answer_claims.specs.ClaimParts.{IsClaimOf}
use Rattle.answer_claims.specs.SideClauses.{side_of, sides_of}
use Rattle.core_answers.specs.Parts.{ReachOwn}
use Rattle.core_answers.specs.Refuting.{AddsLike, DeniesOwn, HasNumbers, IsLikeHere, IsLikeOne, RefutesAt}

-- ---- the side clauses of a claim

pub none_like : (sides : List SideClause) (literals : List AtomLit) (own : List ℕ)
    → AddsLike sides literals 0 own own
none_like sides literals own = record {
  each = λ n. (
    λ c. inl c,
    λ h. ⊎_elim (λ c. c)
        (λ (here : IsLikeHere sides literals 0 n). let low = here.early in absurd (omega (arith, low))) h,
  );
}

pub like_more : (sides : List SideClause) (literals : List AtomLit) (i number : ℕ) (old mid new : List ℕ)
    (side : SideClause) → AddsLike sides literals i old mid → number ≡ i + 1 → side ≡ get_or sides i no_side
    → ((n : ℕ) → Contains new n ↔ (Contains mid n ⊎ ((n ≡ number) × IsSameClause side.literals literals)))
    → AddsLike sides literals (i + 1) old new
like_more sides literals i number old mid new side h at is adds = record {
  each = λ n. (
    λ c. ⊎_elim
        (λ m. ⊎_elim (λ o. inl o) (λ (here : IsLikeHere sides literals i n). inr (record {
          index = here.index;
          early = let early = here.early in omega (arith, early);
          number = here.number;
          same = here.same;
        })) ((h.each n).0 m))
        (λ p. inr (record {
          index = i;
          early = omega arith;
          number = p.0 ∙ at;
          same = subst (λ (s : SideClause). IsSameClause s.literals literals) is p.1;
        }))
        ((adds n).0 c),
    λ w. (adds n).1 (⊎_elim (λ o. inl ((h.each n).1 (inl o)))
        (λ (here : IsLikeHere sides literals (i + 1) n). ⊎_elim
        (λ (e : here.index ≡ i). inr (
          here.number ∙ (ap (λ k. k + 1) e ∙ sym at),
          subst (λ (s : SideClause). IsSameClause s.literals literals)
              (ap (λ k. get_or sides k no_side) e ∙ sym is) here.same,
        ))
        (λ ne. let early = here.early in inl ((h.each n).1 (inr (record {
          index = here.index;
          early = omega (arith, early, ne);
          number = here.number;
          same = here.same;
        }))))
        (cases_eq here.index i)) w),
  );
}

-- what stands behind the first literal
pub behind_first : {X : Type 0} (xs ys : List X) (x : X) → xs ≡ x ∷ ys → take (length xs - 1) (drop 1 xs) ≡ ys
behind_first {X = X} xs ys x e =
    subst (λ (zs : List X). take (length zs - 1) (drop 1 zs) ≡ ys) (sym e)
    (take_all (length (x ∷ ys) - 1) ys (omega arith))

pub none_numbered : (sides : List SideClause) → HasNumbers sides [] []
none_numbered sides = record {
  each = λ n. (
    λ c. absurd (let lt : c.0 < 0 = c.1 in omega (arith, lt)),
    λ (h : IsLikeOne sides [] n). let there = h.there in absurd (let lt : there.0 < 0 = there.1 in omega (arith, lt)),
  );
}

numbered_here : (sides : List SideClause) (literals : List AtomLit) (n : ℕ) → IsLikeHere sides literals (length sides) n
    → IsNumberOf sides n × IsSameClause (side_at sides n).literals literals
numbered_here sides literals n h =
    let at = h.number in
    let early = h.early in
    let here : h.index ≡ n - 1 = omega (arith, at) in (
      record { from_one = omega (arith, at); within = omega (arith, at, early) },
      subst (λ k. IsSameClause (get_or sides k no_side).literals literals) here h.same,
    )

here_numbered : (sides : List SideClause) (literals : List AtomLit) (n : ℕ) → IsNumberOf sides n
    → IsSameClause (side_at sides n).literals literals → IsLikeHere sides literals (length sides) n
here_numbered sides literals n is same =
    let low = is.from_one in
    let high = is.within in
    record { index = n - 1; early = omega arith; number = omega arith; same = same }

pub numbered_more : (f : Framework) (kind : SideKind) (sides : List SideClause) (sets : List (List ℕ)) (i : ℕ)
    (set : List ℕ) (literals : List AtomLit) (mid new : List ℕ) → i < length sets → set ≡ get_or sets i set
    → literals ≡ side_of f kind set → HasNumbers sides (sides_of f kind (take i sets)) mid
    → AddsLike sides literals (length sides) mid new → HasNumbers sides (sides_of f kind (take (i + 1) sets)) new
numbered_more f kind sides sets i set literals mid new lt at is h adds =
    let longer : sides_of f kind (take (i + 1) sets) ≡ sides_of f kind (take i sets) ++ literals ∷ [] =
    ap (sides_of f kind) (take_more sets i set lt)
    ∙ (map-append (side_of f kind) (take i sets) (get_or sets i set ∷ [])
    ∙ ap (λ l. sides_of f kind (take i sets) ++ l ∷ []) (ap (side_of f kind) (sym at) ∙ sym is)) in
    subst (λ list. HasNumbers sides list new) (sym longer) (record {
      each = λ n. (
        λ c. ⊎_elim
            (λ m. let one = (h.each n).0 m in record {
              number = one.number;
              side = one.side;
              there = Contains-append_left (sides_of f kind (take i sets)) (literals ∷ []) one.side one.there;
              same = one.same;
            })
            (λ here. let one = numbered_here sides literals n here in record {
              number = one.0;
              side = literals;
              there = Contains-push (sides_of f kind (take i sets)) literals;
              same = one.1;
            })
            ((adds.each n).0 c),
        λ (w : IsLikeOne sides (sides_of f kind (take i sets) ++ literals ∷ []) n). (adds.each n).1 (⊎_elim
            (λ early. inl ((h.each n).1 (record {
              number = w.number;
              side = w.side;
              there = early;
              same = w.same;
            })))
            (λ (e : literals ≡ w.side). inr (here_numbered sides literals n w.number
            (subst (λ (s : List AtomLit). IsSameClause (side_at sides n).literals s) (sym e) w.same)))
            (Contains-push_cases (sides_of f kind (take i sets)) literals w.side w.there)),
      );
    })

pub numbered_all : (f : Framework) (kind : SideKind) (sides : List SideClause) (sets : List (List ℕ)) (i : ℕ)
    (own : List ℕ) → length sets ≤ i → HasNumbers sides (sides_of f kind (take i sets)) own
    → HasNumbers sides (sides_of f kind sets) own
numbered_all f kind sides sets i own le h =
    subst (λ list. HasNumbers sides (sides_of f kind list) own) (take_all i sets le) h

-- ---- closed literals

claim_side : (f : Framework) (c : Claim) (t : TableClaim) (sides : List SideClause) (own : List ℕ) (n : ℕ)
    → IsClaimOf f c t → HasNumbers sides (sides_of f c.kind c.sides) own → Contains own n → IsClaimSide sides t n
claim_side f c t sides own n is h at =
    let one = (h.each n).0 at in record {
      number = one.number;
      side = one.side;
      there = subst (λ list. Contains list one.side) (sym is.sides) one.there;
      same = one.same;
    }

own_side : (f : Framework) (c : Claim) (t : TableClaim) (sides : List SideClause) (own : List ℕ) (n : ℕ)
    → IsClaimOf f c t → HasNumbers sides (sides_of f c.kind c.sides) own → IsClaimSide sides t n → Contains own n
own_side f c t sides own n is h one = (h.each n).1 (record {
  number = one.number;
  side = one.side;
  there = subst (λ list. Contains list one.side) is.sides one.there;
  same = one.same;
})

denies_there : (sides : List SideClause) (t : TableClaim) (own : List ℕ)
    → ((n : ℕ) → Contains own n → IsClaimSide sides t n) → (atom : Atom) (positive : Bool)
    → DeniesOwn own atom positive → DeniesSide sides t atom positive
denies_there sides t own to (Ask n) false h = to n h
denies_there sides t own to (Ask n) true h = absurd h
denies_there sides t own to _ positive h = absurd h

denies_back : (sides : List SideClause) (t : TableClaim) (own : List ℕ)
    → ((n : ℕ) → IsClaimSide sides t n → Contains own n) → (atom : Atom) (positive : Bool)
    → DeniesSide sides t atom positive → DeniesOwn own atom positive
denies_back sides t own to (Ask n) false h = to n h
denies_back sides t own to (Ask n) true h = absurd h
denies_back sides t own to _ positive h = absurd h

-- ---- refuting steps

step_here : (steps : List LogStep) (k : ℕ) → step_at steps (k + 1) ≡ get_or steps k no_step
step_here steps k = ap (λ i. get_or steps i no_step) (omega arith)

pub refutes_there : (f : Framework) (log : OracleLog) (c : Claim) (t : TableClaim) (own : List ℕ) (marks : List Bool)
    → IsClaimOf f c t → HasNumbers log.sides (sides_of f c.kind c.sides) own → ReachOwn own log.steps marks
    → (k : ℕ) × RefutesAt f c own log.steps marks k → HasRefuting f log t
refutes_there f log c t own marks is numbers reach at =
    let k = at.0 in
    let here : RefutesAt f c own log.steps marks k = at.1 in
    let lt = here.within in
    let to = λ (n : ℕ) (m : Contains own n). claim_side f c t log.sides own n is numbers m in record {
      number = k + 1;
      refutes = record {
        step = record { from_one = omega arith; within = omega (arith, lt) };
        closed = λ l there. ⊎_elim (λ fact. inl fact)
            (λ more. inr (⊎_elim (λ goal. inl ((is.goals (negated l)).0 goal))
            (λ ask. inr (denies_there log.sides t own to l.atom l.positive ask)) more))
            (here.closed l (subst (λ (s : LogStep). Contains s.clause l) (step_here log.steps k) there)).way;
        own_sides = λ j n reaches by. to n ((reach.each k lt).0 here.marked j n reaches by);
      };
    }

pub refutes_back : (f : Framework) (log : OracleLog) (c : Claim) (t : TableClaim) (own : List ℕ) (marks : List Bool)
    → IsClaimOf f c t → HasNumbers log.sides (sides_of f c.kind c.sides) own → ReachOwn own log.steps marks
    → HasRefuting f log t → (k : ℕ) × RefutesAt f c own log.steps marks k
refutes_back f log c t own marks is numbers reach has =
    let k = has.number - 1 in
    let low = has.refutes.step.from_one in
    let high = has.refutes.step.within in
    let lt : k < length log.steps = omega (arith, low, high) in
    let same : k + 1 ≡ has.number = omega (arith, low) in
    let to = λ (n : ℕ) (m : IsClaimSide log.sides t n). own_side f c t log.sides own n is numbers m in (
      k,
      record {
        within = lt;
        marked = (reach.each k lt).1 (λ j n reaches by. to n (has.refutes.own_sides j n
            (subst (λ i. Reaches log.steps i j) same reaches) by));
        closed = λ l there. record {
          way = ⊎_elim (λ fact. inl fact)
              (λ more. inr (⊎_elim (λ goal. inl ((is.goals (negated l)).1 goal))
              (λ ask. inr (denies_back log.sides t own to l.atom l.positive ask)) more))
              (has.refutes.closed l there);
        };
      },
    )
