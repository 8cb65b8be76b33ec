-- What goals and side clauses about sets say, and that an oracle may be asked them.
use Rattle.std.proofs.Common.{◌≡◌, inl, inr, ⊎_elim, ℕ, Bool, true, false, not, List, ◌++◌, filter, refl, ap, sym, subst}
use Rattle.std.specs.Prelude.{Contains, ◌⊎◌, slice_index_or}
use Rattle.std.proofs.lemmas.Bool.{cases_Bool, not_from_false, false_from_ne_true}
use Rattle.std.proofs.lemmas.List.Elements.{Contains-append_left, Contains-append_right, Contains-append_cases}
use Rattle.lists.specs.Members.{IsWithin}
use Rattle.lists.proofs.Filters.{Contains-filter}
use Rattle.lists.proofs.Membership.{Contains-head, Contains-tail, Contains-cons_cases}
use Rattle.plain_lits.specs.HintCheck.{IsTautology}
use Rattle.plain_lits.proofs.HintCheckLemmas.{Contains-mapped, Contains-from_mapped}
use Rattle.semantics.specs.Arguments.{IsArgument}
use Rattle.semantics.specs.Framework.{Af, IsRangeWithin}
use Rattle.semantics.specs.Frameworks.{Framework, af, aba, IsNumbered}
use Rattle.semantics.proofs.Decided.{decide_member}
use Rattle.meaning_atoms.specs.declared.atom.Atom.{Atom}
use Rattle.meaning_atoms.specs.declared.atom.Atom.TheVariants.{Member, Range, Tail, Hit, Cf, Ad, Co, St, Ask}
use Rattle.meaning_atoms.specs.declared.atom.Closure.TheVariants.{Own}
use Rattle.meaning_atoms.specs.declared.atom.AtomLit.{AtomLit}
use Rattle.semantics.specs.Laws.{HasSameMembers}
use Rattle.semantics.specs.Collectives.{AttacksMember}
use Rattle.aba_laws.specs.AfNotions.{collective_for}
use Rattle.meaning_atoms.specs.AtomText.{numbers_of}
use Rattle.meaning_atoms.specs.Literals.{affirmed, denied, negated}
use Rattle.meaning_atoms.specs.Worlds.{world_of, HoldsOf, Says, IsTrueAlone}
use Rattle.certificate_claims.specs.Refutations.{Claim}
use Rattle.certificate_claims.proofs.SetTests.{has_from, has_gives, ranged_from}
use Rattle.certificate_claims.specs.SetLiterals.{has, is_ranged, members, are_in, are_out, are_ranged, outside, differs, wider, attacked, struck}
use Rattle.certificate_claims.proofs.KindFacts.{member_is, numbered_members, struck_is}
use Rattle.oracle_face.specs.Logs.{OracleLog, SideClause, IsNumberOf, IsSameClause, side_at}
use Rattle.oracle_face.specs.Goals.{AreGoals, AsksSide, IsClaimSide, IsGoal, IsMode, IsHitAtom, IsOfOneKind, IsOneSided, IsSide, IsWithinClaim, MakesTrue, SpeaksOf, Tells}
use Rattle.oracle_face.proofs.StepTruth.{side_literals}
use Rattle.goal_lists.specs.Asking.{are_asked, goals_of, IsAskable, IsPlaced}

lacks_not : (b : Bool) → b ≡ true → not b ≡ true → ⊥
lacks_not true h k = absurd (cc)
lacks_not false h k = absurd (cc)

-- ---- no literal beside its negation

clash_at : (clause : List AtomLit) → ((a : Atom) → Contains clause (affirmed a) → Contains clause (denied a) → ⊥)
    → (atom : Atom) (positive : Bool) → Contains clause (record { atom = atom; positive = positive })
    → Contains clause (record { atom = atom; positive = not positive }) → ⊥
clash_at clause none atom true c d = none atom c d
clash_at clause none atom false c d = none atom d c

pub plain_from : (clause : List AtomLit)
    → ((a : Atom) → Contains clause (affirmed a) → Contains clause (denied a) → ⊥) → IsTautology negated clause → ⊥
plain_from clause none t = clash_at clause none t.0.atom t.0.positive t.1 t.2

-- ---- literals of each form

pub in_form : (numbers : List ℕ) (l : AtomLit) → Contains (are_in numbers) l
    → (a : ℕ) × Contains numbers a × (affirmed (Member a) ≡ l)
in_form numbers l c = Contains-from_mapped (λ a. affirmed (Member a)) numbers l c

pub out_form : (numbers : List ℕ) (l : AtomLit) → Contains (are_out numbers) l
    → (a : ℕ) × Contains numbers a × (denied (Member a) ≡ l)
out_form numbers l c = Contains-from_mapped (λ a. denied (Member a)) numbers l c

pub ranged_form : (numbers : List ℕ) (l : AtomLit) → Contains (are_ranged numbers) l
    → (a : ℕ) × Contains numbers a × (affirmed (Range a) ≡ l)
ranged_form numbers l c = Contains-from_mapped (λ a. affirmed (Range a)) numbers l c

pub asked_form : (asks : List ℕ) (l : AtomLit) → Contains (are_asked asks) l
    → (n : ℕ) × Contains asks n × (affirmed (Ask n) ≡ l)
asked_form asks l c = Contains-from_mapped (λ n. affirmed (Ask n)) asks l c

mode_placed : (ins outs ranged asks : List ℕ) (mode : Atom) → IsMode mode → IsPlaced ins outs ranged asks mode true
mode_placed ins outs ranged asks Cf h = tt
mode_placed ins outs ranged asks Ad h = tt
mode_placed ins outs ranged asks Co h = tt
mode_placed ins outs ranged asks St h = tt
mode_placed ins outs ranged asks _ h = absurd h

-- the literals of goals, by their places
pub goal_form : (mode : Atom) (ins outs ranged asks : List ℕ) → IsMode mode → (l : AtomLit)
    → Contains (goals_of mode ins outs ranged asks) l → IsPlaced ins outs ranged asks l.atom l.positive
goal_form mode ins outs ranged asks moded l c =
    let Part : AtomLit → Type 0 = λ k. IsPlaced ins outs ranged asks k.atom k.positive in
    ⊎_elim (λ e. subst Part e (mode_placed ins outs ranged asks mode moded))
    (λ more. ⊎_elim (λ k. let m = in_form ins l k in subst Part m.2 m.1)
    (λ more. ⊎_elim (λ k. let m = out_form outs l k in subst Part m.2 m.1)
    (λ more. ⊎_elim (λ k. let m = ranged_form ranged l k in subst Part m.2 m.1)
    (λ k. let m = asked_form asks l k in subst Part m.2 m.1)
    (Contains-append_cases (are_ranged ranged) (are_asked asks) l more))
    (Contains-append_cases (are_out outs) (are_ranged ranged ++ are_asked asks) l more))
    (Contains-append_cases (are_in ins) (are_out outs ++ (are_ranged ranged ++ are_asked asks)) l more))
    (Contains-cons_cases (affirmed mode) (are_in ins ++ (are_out outs ++ (are_ranged ranged ++ are_asked asks))) l c)

-- and each has its place
pub mode_there : (mode : Atom) (ins outs ranged asks : List ℕ)
    → Contains (goals_of mode ins outs ranged asks) (affirmed mode)
mode_there mode ins outs ranged asks = Contains-head (affirmed mode)
    (are_in ins ++ (are_out outs ++ (are_ranged ranged ++ are_asked asks))) (affirmed mode) refl

pub in_there : (mode : Atom) (ins outs ranged asks : List ℕ) (a : ℕ) → Contains ins a
    → Contains (goals_of mode ins outs ranged asks) (affirmed (Member a))
in_there mode ins outs ranged asks a c =
    let more = are_out outs ++ (are_ranged ranged ++ are_asked asks) in
    Contains-tail (affirmed mode) (are_in ins ++ more) (affirmed (Member a))
    (Contains-append_left (are_in ins) more (affirmed (Member a))
    (Contains-mapped (λ x. affirmed (Member x)) ins a c))

pub out_there : (mode : Atom) (ins outs ranged asks : List ℕ) (a : ℕ) → Contains outs a
    → Contains (goals_of mode ins outs ranged asks) (denied (Member a))
out_there mode ins outs ranged asks a c =
    let more = are_ranged ranged ++ are_asked asks in
    Contains-tail (affirmed mode) (are_in ins ++ (are_out outs ++ more)) (denied (Member a))
    (Contains-append_right (are_in ins) (are_out outs ++ more) (denied (Member a))
    (Contains-append_left (are_out outs) more (denied (Member a))
    (Contains-mapped (λ x. denied (Member x)) outs a c)))

pub ranged_there : (mode : Atom) (ins outs ranged asks : List ℕ) (a : ℕ) → Contains ranged a
    → Contains (goals_of mode ins outs ranged asks) (affirmed (Range a))
ranged_there mode ins outs ranged asks a c =
    let more = are_ranged ranged ++ are_asked asks in
    Contains-tail (affirmed mode) (are_in ins ++ (are_out outs ++ more)) (affirmed (Range a))
    (Contains-append_right (are_in ins) (are_out outs ++ more) (affirmed (Range a))
    (Contains-append_right (are_out outs) more (affirmed (Range a))
    (Contains-append_left (are_ranged ranged) (are_asked asks) (affirmed (Range a))
    (Contains-mapped (λ x. affirmed (Range x)) ranged a c))))

pub asked_there : (mode : Atom) (ins outs ranged asks : List ℕ) (n : ℕ) → Contains asks n
    → Contains (goals_of mode ins outs ranged asks) (affirmed (Ask n))
asked_there mode ins outs ranged asks n c =
    let more = are_ranged ranged ++ are_asked asks in
    Contains-tail (affirmed mode) (are_in ins ++ (are_out outs ++ more)) (affirmed (Ask n))
    (Contains-append_right (are_in ins) (are_out outs ++ more) (affirmed (Ask n))
    (Contains-append_right (are_out outs) more (affirmed (Ask n))
    (Contains-append_right (are_ranged ranged) (are_asked asks) (affirmed (Ask n))
    (Contains-mapped (λ x. affirmed (Ask x)) asks n c))))

-- ---- goals that an oracle may be asked

placed_goal : (f : Framework) (sides : List SideClause) (mode : Atom) (ins outs ranged asks : List ℕ)
    → IsAskable f sides mode ins outs ranged asks → (atom : Atom) (positive : Bool)
    → IsPlaced ins outs ranged asks atom positive → IsGoal f sides atom positive
placed_goal f sides mode ins outs ranged asks ok (Member a) true h = ok.in_members a h
placed_goal f sides mode ins outs ranged asks ok (Member a) false h = ok.out_members a h
placed_goal f sides mode ins outs ranged asks ok (Range a) true h = ok.ranged_members a h
placed_goal f sides mode ins outs ranged asks ok (Ask n) true h = ok.asked n h
placed_goal f sides mode ins outs ranged asks ok Cf true h = tt
placed_goal f sides mode ins outs ranged asks ok Ad true h = tt
placed_goal f sides mode ins outs ranged asks ok Co true h = tt
placed_goal f sides mode ins outs ranged asks ok St true h = tt
placed_goal f sides mode ins outs ranged asks ok _ _ h = absurd h

placed_apart : (ins outs ranged asks : List ℕ) → ((a : ℕ) → Contains ins a → Contains outs a → ⊥) → (atom : Atom)
    → IsPlaced ins outs ranged asks atom true → IsPlaced ins outs ranged asks atom false → ⊥
placed_apart ins outs ranged asks apart (Member a) h k = apart a h k
placed_apart ins outs ranged asks apart _ h k = k

pub are_goals : (f : Framework) (sides : List SideClause) (mode : Atom) (ins outs ranged asks : List ℕ)
    → IsAskable f sides mode ins outs ranged asks → AreGoals f sides (goals_of mode ins outs ranged asks)
are_goals f sides mode ins outs ranged asks ok = record {
  each = λ l c. placed_goal f sides mode ins outs ranged asks ok l.atom l.positive
      (goal_form mode ins outs ranged asks ok.moded l c);
  moded = (mode, ok.moded, mode_there mode ins outs ranged asks);
  plain = plain_from (goals_of mode ins outs ranged asks)
      (λ a h k. placed_apart ins outs ranged asks ok.apart a
      (goal_form mode ins outs ranged asks ok.moded (affirmed a) h)
      (goal_form mode ins outs ranged asks ok.moded (denied a) k));
}

-- ---- goals that a claim has

-- the claim has each of the goals, and the side clauses that they ask for
pub record Covers (sides : List SideClause) (claim : Claim) (mode : Atom)
    (ins outs ranged asks : List ℕ) : Type 0 where
  pub has_mode : Contains claim.goals (affirmed mode)
  pub has_ins : (a : ℕ) → Contains ins a → Contains claim.goals (affirmed (Member a))
  pub has_outs : (a : ℕ) → Contains outs a → Contains claim.goals (denied (Member a))
  pub has_ranged : (a : ℕ) → Contains ranged a → Contains claim.goals (affirmed (Range a))
  pub has_asks : (n : ℕ) → Contains asks n → IsClaimSide sides claim n

pub within_claim : (sides : List SideClause) (claim : Claim) (mode : Atom) (ins outs ranged asks : List ℕ)
    → Covers sides claim mode ins outs ranged asks
    → IsWithinClaim sides claim (goals_of mode ins outs ranged asks)
within_claim sides claim mode ins outs ranged asks h =
    let Part : AtomLit → Type 0 = λ k. Contains claim.goals k ⊎ AsksSide sides claim k.atom k.positive in
    record {
      each = λ l c.
          ⊎_elim (λ e. subst Part e (inl h.has_mode))
          (λ more. ⊎_elim (λ k. let m = in_form ins l k in subst Part m.2 (inl (h.has_ins m.0 m.1)))
          (λ more. ⊎_elim (λ k. let m = out_form outs l k in subst Part m.2 (inl (h.has_outs m.0 m.1)))
          (λ more. ⊎_elim (λ k. let m = ranged_form ranged l k in subst Part m.2 (inl (h.has_ranged m.0 m.1)))
          (λ k. let m = asked_form asks l k in subst Part m.2 (inr (h.has_asks m.0 m.1)))
          (Contains-append_cases (are_ranged ranged) (are_asked asks) l more))
          (Contains-append_cases (are_out outs) (are_ranged ranged ++ are_asked asks) l more))
          (Contains-append_cases (are_in ins) (are_out outs ++ (are_ranged ranged ++ are_asked asks)) l more))
          (Contains-cons_cases (affirmed mode) (are_in ins ++ (are_out outs ++ (are_ranged ranged ++ are_asked asks))) l
          c);
    }

-- ---- side clauses

tells_more : (P Q : ℕ → Type 0) → ((a : ℕ) → P a → Q a) → (atom : Atom) (positive : Bool) → Tells P atom positive
    → Tells Q atom positive
tells_more P Q all (Member a) positive h = all a h
tells_more P Q all (Range a) true h = all a h
tells_more P Q all (Tail a i) true h = (all a h.0, h.1)
tells_more P Q all (Hit Own a i) true h = (all a h.0, h.1)
tells_more P Q all _ _ h = absurd h

pub speaks_side : (f : Framework) (side : List AtomLit) → IsNumbered f → SpeaksOf f side → IsOneSided side
    → IsOfOneKind side → IsSide side
speaks_side f side ok speaks one kind = record {
  tells = λ l c. tells_more (Contains (members f)) IsArgument (numbered_members f ok) l.atom l.positive (speaks l c);
  one_sided = one;
  of_one_kind = kind;
}

pub speaks_same : (f : Framework) (clause other : List AtomLit) → IsSameClause clause other → SpeaksOf f other
    → SpeaksOf f clause
speaks_same f clause other same speaks l c = speaks l (same.there l c)

-- what stands in the side clauses of a set
pub outside_form : (f : Framework) (e : List ℕ) (l : AtomLit) → Contains (outside f e) l
    → (a : ℕ) × Contains (members f) a × (Contains e a → ⊥) × (affirmed (Member a) ≡ l)
outside_form f e l c =
    let m = in_form (filter (λ x. not (has e x)) (members f)) l c in
    let k = (Contains-filter (λ x. not (has e x)) (members f) m.0).0 m.1 in
    (m.0, k.0, (λ h. lacks_not (has e m.0) (has_from e m.0 h) k.1), m.2)

-- a member of the framework that is none of the set stands there
pub in_outside : (f : Framework) (e : List ℕ) (x : ℕ) → Contains (members f) x → (Contains e x → ⊥)
    → Contains (outside f e) (affirmed (Member x))
in_outside f e x live out =
    Contains-mapped (λ a. affirmed (Member a)) (filter (λ y. not (has e y)) (members f)) x
    ((Contains-filter (λ y. not (has e y)) (members f) x).1
    (live, not_from_false (has e x) (false_from_ne_true (has e x) (λ h. out (has_gives e x h)))))

-- a literal of membership has one number
pub member_of : (a x : ℕ) → affirmed (Member a) ≡ affirmed (Member x) → a ≡ x
member_of a x e = ap (λ (l : AtomLit). slice_index_or (numbers_of l.atom) 0 0) e

-- of two sets with the same side clause the one lies in the other
pub same_outside : (f : Framework) (d e : List ℕ) → IsSameClause (outside f d) (outside f e) → IsWithin e (members f)
    → IsWithin e d
same_outside f d e same live x c =
    ⊎_elim (λ k. k)
    (λ out.
    let m = outside_form f e (affirmed (Member x)) (same.there (affirmed (Member x)) (in_outside f d x (live x c) out))
    in
    absurd (m.2 (subst (λ (y : ℕ). Contains e y) (sym (member_of m.0 x m.3)) c)))
    (decide_member d x)

pub wider_form : (f : Framework) (e : List ℕ) (l : AtomLit) → Contains (wider f e) l
    → (a : ℕ) × Contains (members f) a × (is_ranged f e a ≡ true → ⊥) × (affirmed (Range a) ≡ l)
wider_form f e l c =
    let m = ranged_form (filter (λ x. not (is_ranged f e x)) (members f)) l c in
    let k = (Contains-filter (λ x. not (is_ranged f e x)) (members f) m.0).0 m.1 in
    (m.0, k.0, (λ h. lacks_not (is_ranged f e m.0) h k.1), m.2)

-- a literal of the range has one number
pub ranged_of : (a x : ℕ) → affirmed (Range a) ≡ affirmed (Range x) → a ≡ x
ranged_of a x e = ap (λ (l : AtomLit). slice_index_or (numbers_of l.atom) 0 0) e

-- of two sets with the same side clause the one's range lies in the other's
pub same_wider : (f : Framework) (d e : List ℕ) → IsSameClause (wider f d) (wider f e) → (x : ℕ)
    → Contains (members f) x → is_ranged f e x ≡ true → is_ranged f d x ≡ true
same_wider f d e same x live h =
    ⊎_elim (λ k. k)
    (λ out.
    let there = Contains-mapped (λ a. affirmed (Range a)) (filter (λ y. not (is_ranged f d y)) (members f)) x
    ((Contains-filter (λ y. not (is_ranged f d y)) (members f) x).1 (live, not_from_false (is_ranged f d x) out)) in
    let m = wider_form f e (affirmed (Range x)) (same.there (affirmed (Range x)) there) in
    absurd (m.2 (subst (λ (y : ℕ). is_ranged f e y ≡ true) (sym (ranged_of m.0 x m.3)) h)))
    (cases_Bool (is_ranged f d x))

pub outside_speaks : (f : Framework) (e : List ℕ) → SpeaksOf f (outside f e)
outside_speaks f e l c =
    let m = outside_form f e l c in
    subst (λ (k : AtomLit). Tells (Contains (members f)) k.atom k.positive) m.3 m.1

pub outside_side : (f : Framework) (e : List ℕ) → IsNumbered f → IsSide (outside f e)
outside_side f e ok = speaks_side f (outside f e) ok (outside_speaks f e)
    (inl (λ l c. let m = outside_form f e l c in subst (λ (k : AtomLit). k.positive ≡ true) m.3 refl))
    (inl (λ l c. let m = outside_form f e l c in subst (λ (k : AtomLit). IsHitAtom k.atom → ⊥) m.3 (λ h. h)))

pub wider_speaks : (f : Framework) (e : List ℕ) → SpeaksOf f (wider f e)
wider_speaks f e l c =
    let m = wider_form f e l c in
    subst (λ (k : AtomLit). Tells (Contains (members f)) k.atom k.positive) m.3 m.1

pub wider_side : (f : Framework) (e : List ℕ) → IsNumbered f → IsSide (wider f e)
wider_side f e ok = speaks_side f (wider f e) ok (wider_speaks f e)
    (inl (λ l c. let m = wider_form f e l c in subst (λ (k : AtomLit). k.positive ≡ true) m.3 refl))
    (inl (λ l c. let m = wider_form f e l c in subst (λ (k : AtomLit). IsHitAtom k.atom → ⊥) m.3 (λ h. h)))

-- what stands in the side clause that a set is attacked
pub attacked_form : (f : Framework) (e : List ℕ) (l : AtomLit) → Contains (attacked f e) l
    → (a : ℕ) × Contains e a × (struck f a ≡ l)
attacked_form f e l c = Contains-from_mapped (struck f) e l c

struck_tells : (f : Framework) (P : ℕ → Type 0) (a : ℕ) → P a → Tells P (struck f a).atom (struck f a).positive
struck_tells (af f) P a h = (h, refl)
struck_tells (aba f) P a h = (h, refl)

struck_affirms : (f : Framework) (a : ℕ) → (struck f a).positive ≡ true
struck_affirms (af f) a = refl
struck_affirms (aba f) a = refl

pub attacked_speaks : (f : Framework) (e : List ℕ) → IsWithin e (members f) → SpeaksOf f (attacked f e)
attacked_speaks f e live l c =
    let m = attacked_form f e l c in
    subst (λ (k : AtomLit). Tells (Contains (members f)) k.atom k.positive) m.2
    (struck_tells f (Contains (members f)) m.0 (live m.0 m.1))

attacked_kind : (f : Framework) (e : List ℕ) → IsOfOneKind (attacked f e)
attacked_kind (af f) e =
    inl (λ l c. let m = attacked_form (af f) e l c in subst (λ (k : AtomLit). IsHitAtom k.atom → ⊥) m.2 (λ h. h))
attacked_kind (aba f) e =
    inr (λ l c. let m = attacked_form (aba f) e l c in subst (λ (k : AtomLit). IsHitAtom k.atom) m.2 tt)

pub attacked_side : (f : Framework) (e : List ℕ) → IsNumbered f → IsWithin e (members f) → IsSide (attacked f e)
attacked_side f e ok live = speaks_side f (attacked f e) ok (attacked_speaks f e live)
    (inl (λ l c. let m = attacked_form f e l c in
    subst (λ (k : AtomLit). k.positive ≡ true) m.2 (struck_affirms f m.0)))
    (attacked_kind f e)

pub differs_form : (f : Framework) (e : List ℕ) (l : AtomLit) → Contains (differs f e) l
    → ((a : ℕ) × Contains (members f) a × (Contains e a → ⊥) × (affirmed (Member a) ≡ l))
    ⊎ ((a : ℕ) × Contains e a × (denied (Member a) ≡ l))
differs_form f e l c =
    ⊎_elim (λ h. inl (outside_form f e l h)) (λ h. inr (out_form e l h))
    (Contains-append_cases (outside f e) (are_out e) l c)

pub differs_speaks : (f : Framework) (e : List ℕ) → IsWithin e (members f) → SpeaksOf f (differs f e)
differs_speaks f e live l c =
    ⊎_elim
    (λ m. subst (λ (k : AtomLit). Tells (Contains (members f)) k.atom k.positive) m.3 m.1)
    (λ m. subst (λ (k : AtomLit). Tells (Contains (members f)) k.atom k.positive) m.2 (live m.0 m.1))
    (differs_form f e l c)

-- ---- what side clauses say where they are true

-- the side clause of this number, which has the other's literals, has a literal that is true
pub asked_true : (f : Framework) (log : OracleLog) (goals : List AtomLit) (set : List ℕ) (n : ℕ)
    (side : List AtomLit) → Contains goals (affirmed (Ask n)) → IsNumberOf log.sides n
    → IsSameClause (side_at log.sides n).literals side → MakesTrue f log goals set
    → IsTrueAlone (world_of f set) side
asked_true f log goals set n side there is same makes =
    let t = makes (affirmed (Ask n)) there in
    let h : IsTrueAlone (world_of f set) (side_at log.sides n).literals = subst
    (λ clause. IsTrueAlone (world_of f set) clause) (side_literals log.sides n is) t.true_there in
    record { literal = h.literal; member = same.there h.literal h.member; says = h.says }

-- a set that makes the side clause `outside` of another true doesn't lie in it
pub not_within : (f : Framework) (e set : List ℕ) → IsTrueAlone (world_of f set) (outside f e)
    → IsWithin set e → ⊥
not_within f e set t sub =
    let m = outside_form f e t.literal t.member in
    m.2 (sub m.0 ((member_is f set m.0).0
    (subst (λ (k : AtomLit). Says k.positive (HoldsOf f set k.atom)) (sym m.3) t.says)))

-- a set that makes the side clause `wider` of another true has no range in the other's
pub not_range_within : (f : Af) (e set : List ℕ) → IsTrueAlone (world_of (af f) set) (wider (af f) e)
    → IsRangeWithin f set e → ⊥
not_range_within f e set t sub =
    let m = wider_form (af f) e t.literal t.member in
    m.2 (ranged_from f e m.0 (sub m.0
    (subst (λ (k : AtomLit). Says k.positive (HoldsOf (af f) set k.atom)) (sym m.3) t.says)))

-- a set that makes the side clause `differs` of another true hasn't its members
pub not_same : (f : Framework) (e set : List ℕ) → IsTrueAlone (world_of f set) (differs f e)
    → HasSameMembers e set → ⊥
not_same f e set t same =
    let Says_it : AtomLit → Type 0 = λ k. Says k.positive (HoldsOf f set k.atom) in
    ⊎_elim
    (λ m. m.2 (same.back m.0 ((member_is f set m.0).0 (subst Says_it (sym m.3) t.says))))
    (λ m.
    let out : HoldsOf f set (Member m.0) → ⊥ = subst Says_it (sym m.2) t.says in
    out ((member_is f set m.0).1 (same.there m.0 m.1)))
    (differs_form f e t.literal t.member)

-- a set that makes the side clause `attacked` of another true attacks a member of it
pub attacks_one : (f : Framework) (e set : List ℕ) → IsNumbered f → IsTrueAlone (world_of f set) (attacked f e)
    → AttacksMember (collective_for f) set e
attacks_one f e set ok t =
    let m = attacked_form f e t.literal t.member in (
      m.0,
      m.1,
      (struck_is f set m.0 ok).0 (subst (λ (k : AtomLit). Says k.positive (HoldsOf f set k.atom)) (sym m.2) t.says),
    )
