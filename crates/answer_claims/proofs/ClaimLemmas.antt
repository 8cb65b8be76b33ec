-- Claims by their parts are those of the table.
use Rattle.std.proofs.Common.{◌≡◌, ℕ, Bool, true, false, ◌&&◌, List, [], ◌∷◌, ◌++◌, zero, suc, ◌+◌, ◌<◌, ◌≤◌, length, get_or, take, append_assoc, map, filter, refl, ap, sym, subst, ◌∙◌, inl, inr, ⊎_elim, eqb, arith}
use Rattle.std.specs.Prelude.{Contains}
use Rattle.std.specs.Cmp.{both_ways}
use Rattle.std.specs.List.{list_any}
use Rattle.std.proofs.lemmas.List.{append-nil, get_or-map, length-map, map-append, take_all, take_more}
use Rattle.std.proofs.lemmas.List.Elements.{Contains-append_left, Contains-append_right, Contains-append_cases}
use Rattle.lists.proofs.Filters.{Contains-filter}
use Rattle.semantics.specs.declared.mode.Mode.{Mode}
use Rattle.semantics.specs.Frameworks.{Framework, af, aba}
use Rattle.meaning_atoms.specs.declared.atom.Atom.{Atom}
use Rattle.meaning_atoms.specs.declared.atom.Atom.TheVariants.{Member, Range}
use Rattle.meaning_atoms.specs.declared.atom.AtomLit.{AtomLit}
use Rattle.meaning_atoms.specs.Literals.{affirmed, denied}
use Rattle.certificate_claims.specs.declared.ranges.FirstRanged.{FirstRanged}
use Rattle.certificate_claims.specs.declared.row.Row.TheVariants.{AllWidest}
use Rattle.certificate_claims.specs.Claims.{claims, first_ranged, range_cover, range_listed}
use Rattle.certificate_claims.specs.Ranges.{IsFirstRanged}
use Rattle.certificate_claims.specs.Refutations.{Claim as TableClaim}
use Rattle.certificate_claims.specs.SetLiterals.{has, hits, is_ranged, members, range_of, hit_by_any, are_in, are_out, are_ranged}
use Rattle.certificate_claims.proofs.RangeLists.{kept_alike}
use Rattle.certificate_claims.proofs.SetTests.{has_from, has_gives}
use Rattle.answer_claims.specs.declared.claim.Claim.{Claim}
use Rattle.answer_claims.specs.ClaimParts.{IsSetGoal, IsClaimOf, AreClaims}
use Rattle.answer_claims.specs.SetFacts.{IsHitBy}
use Rattle.answer_claims.specs.SideClauses.{sides_of}
use Rattle.lists.proofs.Images.{image_there, image_from}
use Rattle.lists.proofs.TruthValues.{and_false}

-- the literals that the claim's sets stand for
abbrev ins : Claim → List AtomLit
ins c = are_in c.inside

abbrev outs : Framework → Claim → List AtomLit
outs f c = are_out (filter (has c.outside) (members f))

abbrev ranges : Framework → Claim → List AtomLit
ranges f c = are_ranged (range_of f c.ranged)

abbrev set_goals : Framework → Claim → List AtomLit
set_goals f c = ins c ++ (outs f c ++ ranges f c)

to_lit : (f : Framework) (c : Claim) (k l : AtomLit) → k ≡ l → IsSetGoal f c k.atom k.positive
    → IsSetGoal f c l.atom l.positive
to_lit f c k l e h = subst (λ (x : AtomLit). IsSetGoal f c x.atom x.positive) e h

set_goal_from : (f : Framework) (c : Claim) (l : AtomLit) → Contains (set_goals f c) l → IsSetGoal f c l.atom l.positive
set_goal_from f c l h =
    ⊎_elim (λ (x : Contains (ins c) l). let w = image_from (λ a. affirmed (Member a)) c.inside l x in
    to_lit f c (affirmed (Member w.0)) l w.2 w.1)
    (λ (more : Contains (outs f c ++ ranges f c) l). ⊎_elim
    (λ (x : Contains (outs f c) l).
    let w = image_from (λ a. denied (Member a)) (filter (has c.outside) (members f)) l x in
    let kept = (Contains-filter (has c.outside) (members f) w.0).0 w.1 in
    to_lit f c (denied (Member w.0)) l w.2 (has_gives c.outside w.0 kept.1, kept.0))
    (λ (x : Contains (ranges f c) l).
    let w = image_from (λ a. affirmed (Range a)) (range_of f c.ranged) l x in
    let kept = (Contains-filter (is_ranged f c.ranged) (members f) w.0).0 w.1 in
    to_lit f c (affirmed (Range w.0)) l w.2 (kept.1, kept.0))
    (Contains-append_cases (outs f c) (ranges f c) l more))
    (Contains-append_cases (ins c) (outs f c ++ ranges f c) l h)

abbrev lit : Atom → Bool → AtomLit
lit atom positive = record { atom = atom; positive = positive }

set_goal_of : (f : Framework) (c : Claim) (atom : Atom) (positive : Bool) → IsSetGoal f c atom positive
    → Contains (set_goals f c) (lit atom positive)
set_goal_of f c (Member a) true h =
    Contains-append_left (ins c) (outs f c ++ ranges f c) (lit (Member a) true)
    (image_there (λ x. affirmed (Member x)) c.inside a h)
set_goal_of f c (Member a) false h =
    Contains-append_right (ins c) (outs f c ++ ranges f c) (lit (Member a) false)
    (Contains-append_left (outs f c) (ranges f c) (lit (Member a) false)
    (image_there (λ x. denied (Member x)) (filter (has c.outside) (members f)) a
    ((Contains-filter (has c.outside) (members f) a).1 (h.1, has_from c.outside a h.0))))
set_goal_of f c (Range a) true h =
    Contains-append_right (ins c) (outs f c ++ ranges f c) (lit (Range a) true)
    (Contains-append_right (outs f c) (ranges f c) (lit (Range a) true)
    (image_there (λ x. affirmed (Range x)) (range_of f c.ranged) a
    ((Contains-filter (is_ranged f c.ranged) (members f) a).1 (h.1, h.0))))
set_goal_of f c (Range a) false h = absurd h
set_goal_of f c _ positive h = absurd h

-- a claim with these goals and these side clauses
pub claim_from : (f : Framework) (c : Claim) (claim : TableClaim) → claim.goals ≡ c.fixed ++ set_goals f c
    → claim.sides ≡ sides_of f c.kind c.sides → IsClaimOf f c claim
claim_from f c claim goals sides = record {
  goals = λ l. (
    λ h. subst (λ xs. Contains xs l) (sym goals) (⊎_elim (λ x. Contains-append_left c.fixed (set_goals f c) l x)
        (λ x. Contains-append_right c.fixed (set_goals f c) l (set_goal_of f c l.atom l.positive x)) h),
    λ h. ⊎_elim (λ x. inl x) (λ x. inr (set_goal_from f c l x))
        (Contains-append_cases c.fixed (set_goals f c) l (subst (λ xs. Contains xs l) goals h)),
  );
  sides = sides;
}

-- ---- empty sets

filter_never : (p : ℕ → Bool) → ((x : ℕ) → p x ≡ false) → (xs : List ℕ) → filter p xs ≡ []
filter_never p never [] = refl
filter_never p never (x ∷ xs) = rw (never x) (filter_never p never xs)

any_never : {X : Type 0} (p : X → Bool) → ((x : X) → p x ≡ false) → (xs : List X) → list_any p xs ≡ false
any_never p never [] = refl
any_never p never (x ∷ xs) = rw (never x) (any_never p never xs)

none_ranged : (f : Framework) (a : ℕ) → is_ranged f [] a ≡ false
none_ranged (aba f) a = refl
none_ranged (af f) a = any_never (λ (p : ℕ × ℕ). eqb p.1 a && has [] p.0) (λ p. and_false (eqb p.1 a)) f.attacks

no_range : (f : Framework) → range_of f [] ≡ []
no_range f = filter_never (is_ranged f []) (λ x. none_ranged f x) (members f)

no_outs : (f : Framework) (c : Claim) → c.outside ≡ [] → outs f c ≡ []
no_outs f c e = ap are_out (ap (λ s. filter (has s) (members f)) e ∙ filter_never (has []) (λ x. refl) (members f))

no_ranges : (f : Framework) (c : Claim) → c.ranged ≡ [] → ranges f c ≡ []
no_ranges f c e = ap are_ranged (ap (range_of f) e ∙ no_range f)

no_ins : (c : Claim) → c.inside ≡ [] → ins c ≡ []
no_ins c e = ap are_in e

joined : (a b d : List AtomLit) (a' b' d' : List AtomLit) → a ≡ a' → b ≡ b' → d ≡ d' → a ++ (b ++ d) ≡ a' ++ (b' ++ d')
joined a b d a' b' d' ea eb ed =
    ap (λ x. x ++ (b ++ d)) ea ∙ ap (λ x. a' ++ x) (ap (λ x. x ++ d) eb ∙ ap (λ x. b' ++ x) ed)

pub few_claim : (f : Framework) (c : Claim) (claim : TableClaim) → c.inside ≡ [] → c.outside ≡ [] → c.ranged ≡ []
    → claim.goals ≡ c.fixed → claim.sides ≡ sides_of f c.kind c.sides → IsClaimOf f c claim
few_claim f c claim ei eo er goals sides =
    let none : set_goals f c ≡ [] = joined (ins c) (outs f c) (ranges f c) [] [] [] (no_ins c ei) (no_outs f c eo)
    (no_ranges f c er) in
    claim_from f c claim (goals ∙ (sym (append-nil c.fixed) ∙ ap (λ x. c.fixed ++ x) (sym none))) sides

pub range_claim : (f : Framework) (c : Claim) (claim : TableClaim) → c.inside ≡ [] → c.outside ≡ []
    → claim.goals ≡ c.fixed ++ are_ranged (range_of f c.ranged) → claim.sides ≡ sides_of f c.kind c.sides
    → IsClaimOf f c claim
range_claim f c claim ei eo goals sides =
    let some : set_goals f c ≡ ranges f c =
    joined (ins c) (outs f c) (ranges f c) [] [] (ranges f c) (no_ins c ei) (no_outs f c eo) refl in
    claim_from f c claim (goals ∙ ap (λ x. c.fixed ++ x) (sym some)) sides

pub member_claim : (f : Framework) (c : Claim) (claim : TableClaim) → c.outside ≡ [] → c.ranged ≡ []
    → claim.goals ≡ c.fixed ++ are_in c.inside → claim.sides ≡ sides_of f c.kind c.sides → IsClaimOf f c claim
member_claim f c claim eo er goals sides =
    let some : set_goals f c ≡ ins c =
    joined (ins c) (outs f c) (ranges f c) (ins c) [] [] refl (no_outs f c eo) (no_ranges f c er)
    ∙ append-nil (ins c) in
    claim_from f c claim (goals ∙ ap (λ x. c.fixed ++ x) (sym some)) sides

pub hit_claim : (f : Framework) (c : Claim) (claim : TableClaim) (others : List (List ℕ)) → IsHitBy f others c.outside
    → c.ranged ≡ [] → claim.goals ≡ c.fixed ++ (are_in c.inside ++ are_out (hit_by_any f others))
    → claim.sides ≡ sides_of f c.kind c.sides → IsClaimOf f c claim
hit_claim f c claim others hit er goals sides =
    let same : filter (has c.outside) (members f) ≡ hit_by_any f others =
    kept_alike (has c.outside) (λ a. list_any (λ t. hits f t a) others) (members f) (λ a m.
    both_ways (has c.outside a) (list_any (λ t. hits f t a) others) (λ e. (hit.members a).0 (has_gives c.outside a e))
    (λ e. has_from c.outside a ((hit.members a).1 e))) in
    let some : set_goals f c ≡ ins c ++ are_out (hit_by_any f others) =
    joined (ins c) (outs f c) (ranges f c) (ins c) (are_out (hit_by_any f others)) [] refl (ap are_out same)
    (no_ranges f c er) ∙ ap (λ x. ins c ++ x) (append-nil (are_out (hit_by_any f others))) in
    claim_from f c claim (goals ∙ ap (λ x. c.fixed ++ x) (sym some)) sides

-- ---- lists of claims

pub one_is : (f : Framework) (cs : List Claim) (c : Claim) (given table : TableClaim) → cs ≡ c ∷ [] → given ≡ table
    → IsClaimOf f c given → AreClaims f cs (table ∷ [])
one_is f cs c given table e same is =
    subst (λ xs. AreClaims f xs (table ∷ [])) (sym e) (subst (λ t. IsClaimOf f c t) same is, record {})

pub claims_push : (f : Framework) (cs : List Claim) (ts : List TableClaim) (c : Claim) (t : TableClaim) → AreClaims f cs ts
    → IsClaimOf f c t → AreClaims f (cs ++ c ∷ []) (ts ++ t ∷ [])
claims_push f [] [] c t all is = (is, record {})
claims_push f (b ∷ cs) (u ∷ ts) c t all is = (all.0, claims_push f cs ts c t all.1 is)
claims_push f [] (u ∷ ts) c t all is = absurd all
claims_push f (b ∷ cs) [] c t all is = absurd all

-- one claim more, of a list that the table has for each set
pub claims_more : (f : Framework) (of_set : List ℕ → TableClaim) (front : List TableClaim) (old new : List Claim)
    (sets : List (List ℕ)) (i : ℕ) (set : List ℕ) (c : Claim) (given : TableClaim) → i < length sets
    → set ≡ get_or sets i set
    → AreClaims f old (front ++ map of_set (take i sets)) → given ≡ of_set set → IsClaimOf f c given
    → new ≡ old ++ c ∷ [] → AreClaims f new (front ++ map of_set (take (i + 1) sets))
claims_more f of_set front old new sets i set c given lt at all same is e =
    let table : front ++ map of_set (take (i + 1) sets) ≡ (front ++ map of_set (take i sets)) ++ of_set set ∷ [] =
    ap (λ xs. front ++ map of_set xs) (take_more sets i set lt ∙ ap (λ x. take i sets ++ x ∷ []) (sym at))
    ∙ (ap (λ xs. front ++ xs) (map-append of_set (take i sets) (set ∷ []))
    ∙ sym (append_assoc front (map of_set (take i sets)) (of_set set ∷ []))) in
    subst (λ xs. AreClaims f xs (front ++ map of_set (take (i + 1) sets))) (sym e)
    (subst (λ ts. AreClaims f (old ++ c ∷ []) ts) (sym table)
    (claims_push f old (front ++ map of_set (take i sets)) c (of_set set) all (subst (λ t. IsClaimOf f c t) same is)))

pub same_length : (f : Framework) (cs : List Claim) (ts : List TableClaim) → AreClaims f cs ts → length cs ≡ length ts
same_length f [] [] all = refl
same_length f (c ∷ cs) (t ∷ ts) all = ap (λ n. suc n) (same_length f cs ts all.1)
same_length f [] (t ∷ ts) all = absurd all
same_length f (c ∷ cs) [] all = absurd all

pub claim_at_index : (f : Framework) (cs : List Claim) (ts : List TableClaim) (k : ℕ) (d : Claim) (e : TableClaim)
    → AreClaims f cs ts → k < length cs → IsClaimOf f (get_or cs k d) (get_or ts k e)
claim_at_index f [] [] k d e all lt = absurd (omega arith)
claim_at_index f (c ∷ cs) (t ∷ ts) zero d e all lt = all.0
claim_at_index f (c ∷ cs) (t ∷ ts) (suc k) d e all lt = claim_at_index f cs ts k d e all.1 (omega arith)
claim_at_index f [] (t ∷ ts) k d e all lt = absurd all
claim_at_index f (c ∷ cs) [] k d e all lt = absurd all

-- ---- the claims of all sets with widest ranges

-- there is a range for each of the sets that are first with theirs
pub as_many_ranges : (f : Framework) (all : List (List ℕ)) (first : FirstRanged) → IsFirstRanged f all first
    → length first.ranges ≡ length first.sets
as_many_ranges f all first is = ap length is.same ∙ length-map first.sets (range_of f)

-- the claims so far, for whichever framework the ranges are of
abbrev pub FirstClaims : Mode → List (List ℕ) → List (List ℕ) → FirstRanged → ℕ → List Claim → Type 0
FirstClaims mode all ranges first k list =
    (f : Framework) → IsFirstRanged f all first → ranges ≡ map (range_of f) all
    → AreClaims f list (range_cover f mode [] first.sets ∷ map (range_listed f mode all) (take k first.sets))

pub first_claims_more : (mode : Mode) (all ranges : List (List ℕ)) (first : FirstRanged) (k : ℕ) (set own : List ℕ)
    (sets owns : List (List ℕ)) (c : Claim) (old new : List Claim) → sets ≡ first.sets → owns ≡ first.ranges
    → k < length sets → set ≡ get_or sets k set → own ≡ get_or owns k own
    → ((f : Framework) → ranges ≡ map (range_of f) all → own ≡ range_of f set → IsClaimOf f c (range_listed f mode all set))
    → FirstClaims mode all ranges first k old → new ≡ old ++ c ∷ [] → FirstClaims mode all ranges first (k + 1) new
first_claims_more mode all ranges first k set own sets owns c old new is_sets is_owns lt at own_at claim before e f is same =
    let below : k < length first.sets = subst (λ l. k < length l) is_sets lt in
    let here : set ≡ get_or first.sets k set = at ∙ ap (λ l. get_or l k set) is_sets in
    let mine : own ≡ range_of f set =
    own_at ∙ (ap (λ l. get_or l k own) (is_owns ∙ is.same)
    ∙ (get_or-map (range_of f) first.sets k set own below ∙ ap (range_of f) (sym here))) in
    claims_more f (range_listed f mode all) (range_cover f mode [] first.sets ∷ []) old new first.sets k set c
    (range_listed f mode all set) below here (before f is same) refl (claim f same mine) e

pub first_claims_all : (mode : Mode) (all ranges : List (List ℕ)) (first : FirstRanged) (k : ℕ) (list : List Claim)
    → length first.sets ≤ k → FirstClaims mode all ranges first k list → (f : Framework) → IsFirstRanged f all first
    → ranges ≡ map (range_of f) all → AreClaims f list (claims f (AllWidest mode all) [])
first_claims_all mode all ranges first k list end h f is same =
    let table : range_cover f mode [] first.sets ∷ map (range_listed f mode all) (take k first.sets)
    ≡ range_cover f mode [] (first_ranged f all) ∷ map (range_listed f mode all) (first_ranged f all) =
    ap (λ l. range_cover f mode [] first.sets ∷ map (range_listed f mode all) l) (take_all k first.sets end)
    ∙ ap (λ l. range_cover f mode [] l ∷ map (range_listed f mode all) l) is.first in
    subst (λ ts. AreClaims f list ts) table (h f is same)
