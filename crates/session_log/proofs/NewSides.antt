-- A further side clause is new to what searches use: each step's clause is true in some world where it is false.
use Rattle.std.proofs.Common.{◌≡◌, ⊎_elim, ℕ, ◌+◌, ◌<◌, Bool, true, false, not, List, [], length, map, filter, refl, ap}
use Rattle.std.proofs.Common.{sym, subst, ◌∙◌, arith}
use Rattle.std.specs.Prelude.{Contains, slice_index_or}
use Rattle.std.proofs.lemmas.Bool.{false≢true}
use Rattle.std.proofs.lemmas.List.{get_or_default}
use Rattle.lists.proofs.Filters.{Contains-filter}
use Rattle.lists.proofs.Membership.{Contains-nil, Contains-cons_cases}
use Rattle.plain_lits.specs.HintCheck.{IsTautology}
use Rattle.semantics.specs.Arguments.{IsArgument}
use Rattle.semantics.specs.Framework.{Af}
use Rattle.semantics.specs.Frameworks.{Framework, af, aba, IsNumberedAf}
use Rattle.semantics.specs.AbaFrameworks.{Aba, IsNumberedAba}
use Rattle.meaning_atoms.specs.declared.atom.Atom.{Atom}
use Rattle.meaning_atoms.specs.declared.atom.Atom.TheVariants.{Member, Range, Tail, Hit, Ask}
use Rattle.meaning_atoms.specs.declared.atom.Closure.TheVariants.{Own, Rest}
use Rattle.meaning_atoms.specs.declared.atom.AtomLit.{AtomLit}
use Rattle.meaning_atoms.specs.Literals.{affirmed, denied, negated}
use Rattle.meaning_atoms.specs.Worlds.{world_of, IsWorldOf, Holds, HoldsLit, Says}
use Rattle.oracle_face.specs.Goals.{IsHitAtom, IsSide, IsMemberAtom, Tells}
use Rattle.oracle_face.specs.Logs.{LogStep, OracleLog, IsLog}
use Rattle.oracle_face.specs.Logs.{IsNumberOf, IsNew, guarded, literals_of, working, step_at, no_step}
use Rattle.oracle_face.proofs.StepTruth.{steps_true}
use Rattle.session_log.specs.Guards.{IsGuarded}
use Rattle.session_log.proofs.StepLemmas.{rests_on_named}
use Rattle.lists.proofs.Images.{image_there, image_from}
use Rattle.lists.proofs.TruthValues.{is_denied}

-- ---- a world in which a side clause is false

-- no argument and no attack
abbrev no_af : Af
no_af = record { live = []; attacks = [] }

no_af_numbered : IsNumberedAf no_af
no_af_numbered = record {
  form = record {
    live_rises = λ i high. absurd (omega arith);
    attacks_rise = λ i j d lt high. absurd (omega arith);
    ends = λ b a c. absurd (Contains-nil (b, a) c);
  };
  live = λ a c. absurd (Contains-nil a c);
}

-- no atom, no assumption and no rule
abbrev pub no_aba : Aba
no_aba = record { atoms = 0; assumptions = []; contraries = []; rules = []; next = 1 }

no_aba_numbered : IsNumberedAba no_aba
no_aba_numbered = record {
  form = record {
    assumptions_rise = λ i high. absurd (omega arith);
    assumptions_are = λ a c. absurd (Contains-nil a c);
    contraries_rise = λ i j d lt high. absurd (omega arith);
    contraries_are = λ a c k. absurd (Contains-nil (a, c) k);
    numbers_rise = λ i high. absurd (omega arith);
    rules_are = λ r c. absurd (Contains-nil r c);
    next_is = omega arith;
  };
  atoms = omega arith;
  rules = omega arith;
}

-- a set of a framework, whose every literal of the side clause is false
record IsFalseIn (side : List AtomLit) (g : Framework) (s : List ℕ) : Type 0 where
  world : IsWorldOf g s
  false_there : (sides : List (List AtomLit)) (l : AtomLit) → Contains side l → HoldsLit (world_of g s) sides l → ⊥

affirmed_false : (sides : List (List AtomLit)) (atom : Atom) (positive : Bool) → positive ≡ true
    → (IsHitAtom atom → ⊥) → Tells IsArgument atom positive
    → Says positive (Holds (world_of (af no_af) []) sides atom) → ⊥
affirmed_false sides (Member a) true e none tells h = Contains-nil a h
affirmed_false sides (Range a) true e none tells h =
    ⊎_elim (λ c. Contains-nil a c) (λ hit. Contains-nil hit.0 hit.1) h
affirmed_false sides (Tail a i) true e none tells h = Contains-nil h.attacker h.member
affirmed_false sides (Hit k a i) positive e none tells h = none tt
affirmed_false sides _ false e none tells h = false≢true e
affirmed_false sides _ _ e none tells h = tells

-- a side clause that only affirms, but no derived contrary, is false of the empty set
empty_false : (side : List AtomLit) → ((l : AtomLit) → Contains side l → Tells IsArgument l.atom l.positive)
    → ((l : AtomLit) → Contains side l → IsHitAtom l.atom → ⊥)
    → ((l : AtomLit) → Contains side l → l.positive ≡ true) → IsFalseIn side (af no_af) []
empty_false side tells none all = record {
  world = record { framework = no_af_numbered; members = λ a c. absurd (Contains-nil a c) };
  false_there = λ sides l c h. affirmed_false sides l.atom l.positive (all l c) (none l c) (tells l c) h;
}

hit_false : (sides : List (List AtomLit)) (atom : Atom) (positive : Bool) → IsHitAtom atom
    → Tells IsArgument atom positive → Says positive (Holds (world_of (aba no_aba) []) sides atom) → ⊥
hit_false sides (Hit Own a i) true hit tells h = Contains-nil a h.assumption
hit_false sides (Hit Own a i) false hit tells h = tells
hit_false sides (Hit Rest a i) positive hit tells h = absurd tells
hit_false sides _ positive hit tells h = hit

-- a side clause of derived contraries is false of the empty set
hits_false : (side : List AtomLit) → ((l : AtomLit) → Contains side l → Tells IsArgument l.atom l.positive)
    → ((l : AtomLit) → Contains side l → IsHitAtom l.atom) → IsFalseIn side (aba no_aba) []
hits_false side tells all = record {
  world = record { framework = no_aba_numbered; members = λ a c. absurd (Contains-nil a c) };
  false_there = λ sides l c h. hit_false sides l.atom l.positive (all l c) (tells l c) h;
}

-- the members that a clause about membership denies
abbrev member_number : Atom → ℕ
member_number (Member a) = a
member_number _ = 0

abbrev denied_members : List AtomLit → List ℕ
denied_members side =
    map (λ (l : AtomLit). member_number l.atom) (filter (λ (l : AtomLit). not l.positive) side)

denied_from : (side : List AtomLit) (a : ℕ) → Contains (denied_members side) a
    → (l : AtomLit) × Contains side l × (l.positive ≡ false) × (member_number l.atom ≡ a)
denied_from side a c =
    let w = image_from (λ (l : AtomLit). member_number l.atom)
    (filter (λ (l : AtomLit). not l.positive) side) a c in
    let h = (Contains-filter (λ (l : AtomLit). not l.positive) side w.0).0 w.1 in
    (w.0, h.0, is_denied w.0.positive h.1, w.2)

denied_listed : (side : List AtomLit) (l : AtomLit) → Contains side l → l.positive ≡ false
    → Contains (denied_members side) (member_number l.atom)
denied_listed side l c e =
    image_there (λ (l : AtomLit). member_number l.atom) (filter (λ (l : AtomLit). not l.positive) side) l
    ((Contains-filter (λ (l : AtomLit). not l.positive) side l).1 (c, ap not e))

member_atom : (atom : Atom) → IsMemberAtom atom → Member (member_number atom) ≡ atom
member_atom (Member a) is = refl
member_atom _ is = absurd is

tells_number : (atom : Atom) (positive : Bool) → IsMemberAtom atom → Tells IsArgument atom positive
    → IsArgument (member_number atom)
tells_number (Member a) positive is tells = tells
tells_number _ positive is tells = absurd is

-- a literal about membership, in a clause that holds no literal beside its negation, is false of the members denied
member_false : (side : List AtomLit) → ((l : AtomLit) → Contains side l → IsMemberAtom l.atom)
    → (IsTautology negated side → ⊥) → (sides : List (List AtomLit)) (a : ℕ) (positive : Bool)
    → Contains side (record { atom = Member a; positive = positive })
    → Says positive (Holds (world_of (af no_af) (denied_members side)) sides (Member a)) → ⊥
member_false side about plain sides a true c h =
    let w = denied_from side a h in
    let same : denied (Member a) ≡ w.0 =
    let atom = ap (λ (n : ℕ). Member n) (sym w.3) ∙ member_atom w.0.atom (about w.0 w.1) in
    λ i. record { atom = atom i; positive = sym w.2 i } in
    plain (affirmed (Member a), c, subst (λ (l : AtomLit). Contains side l) (sym same) w.1)
member_false side about plain sides a false c h = h (denied_listed side (denied (Member a)) c refl)

denied_false : (side : List AtomLit) → ((l : AtomLit) → Contains side l → Tells IsArgument l.atom l.positive)
    → ((l : AtomLit) → Contains side l → IsMemberAtom l.atom) → (IsTautology negated side → ⊥)
    → IsFalseIn side (af no_af) (denied_members side)
denied_false side tells about plain = record {
  world = record {
    framework = no_af_numbered;
    members = λ a c.
        let w = denied_from side a c in
        subst (λ (n : ℕ). IsArgument n) w.3
        (tells_number w.0.atom w.0.positive (about w.0 w.1) (tells w.0 w.1));
  };
  false_there = λ sides l c h.
      let atom = member_atom l.atom (about l c) in
      member_false side about plain sides (member_number l.atom) l.positive
      (subst (λ (a : Atom). Contains side (record { atom = a; positive = l.positive })) (sym atom) c)
      (subst (λ (a : Atom). Says l.positive (Holds (world_of (af no_af) (denied_members side)) sides a)) (sym atom) h);
}

-- a framework and a set in which the side clause is false
record IsFalseSomewhere (side : List AtomLit) : Type 0 where
  framework : Framework
  set : List ℕ
  is_false : IsFalseIn side framework set

false_somewhere : (side : List AtomLit) → IsSide side → IsFalseSomewhere side
false_somewhere side is = ⊎_elim
    (λ none. ⊎_elim (λ all. record {
      framework = af no_af;
      set = [];
      is_false = empty_false side is.tells none all;
    }) (λ about. record {
      framework = af no_af;
      set = denied_members side;
      is_false = denied_false side is.tells about.0 about.1;
    }) is.one_sided)
    (λ all. record { framework = aba no_aba; set = []; is_false = hits_false side is.tells all })
    is.of_one_kind

-- ---- newness

-- a clause that searches use is that of a step
working_step : (log : OracleLog) (clause : List AtomLit) → Contains (working log.steps) clause
    → (k : ℕ) × (k < length log.steps) × ((slice_index_or log.steps k no_step).clause ≡ clause)
working_step log clause c =
    let w = image_from (λ (s : LogStep). s.clause) (filter (λ (s : LogStep). not s.closing) log.steps)
    clause c in
    let h = (Contains-filter (λ (s : LogStep). not s.closing) log.steps w.0).0 w.1 in
    let at = h.0 in
    (at.0, at.1, ap (λ (s : LogStep). s.clause) (get_or_default log.steps at.0 no_step w.0 at.1 ∙ at.2) ∙ w.2)

ask_atom : (m n : ℕ) → denied (Ask m) ≡ affirmed (Ask n) → ⊥
ask_atom m n e = false≢true (ap (λ (l : AtomLit). l.positive) e)

asks_for_none : (side : List AtomLit) → IsSide side → (n : ℕ) (positive : Bool)
    → Contains side (record { atom = Ask n; positive = positive }) → ⊥
asks_for_none side is n positive c = is.tells (record { atom = Ask n; positive = positive }) c

no_clash : (side : List AtomLit) → IsSide side → IsTautology negated side → ⊥
no_clash side is t = ⊎_elim
    (λ all. let here = all t.0 t.1 in
    let there : not t.0.positive ≡ true = all (negated t.0) t.2 in
    false≢true (sym (is_denied t.0.positive there) ∙ here))
    (λ about. about.1 t) is.one_sided

pub side_is_new : (f : Framework) (log : OracleLog) (side : List AtomLit) → IsLog f log → IsGuarded log
    → IsSide side → IsNew (working log.steps) (guarded (length log.sides + 1) side)
side_is_new f log side form guards is =
    let n = length log.sides + 1 in
    record {
      plain = λ t.
          ⊎_elim
          (λ (first : denied (Ask n) ≡ t.0). ⊎_elim
          (λ again. ask_atom n n (again ∙ ap negated (sym first)))
          (λ there. asks_for_none side is n true (subst (λ (l : AtomLit). Contains side (negated l)) (sym first) there))
          (Contains-cons_cases (denied (Ask n)) side (negated t.0) t.2))
          (λ later. ⊎_elim
          (λ (again : denied (Ask n) ≡ negated t.0). asks_for_none side is n (t.0).positive
          (subst (λ (a : Atom). Contains side (record { atom = a; positive = (t.0).positive }))
          (sym (ap (λ (l : AtomLit). l.atom) again)) later))
          (λ there. no_clash side is (t.0, later, there))
          (Contains-cons_cases (denied (Ask n)) side (negated t.0) t.2))
          (Contains-cons_cases (denied (Ask n)) side t.0 t.1);
      no_part = λ part.
          let at = working_step log part.part part.listed in
          let low = at.1 in
          let world = false_somewhere side is in
          let sides = literals_of log.sides in
          let t = steps_true f (world_of world.framework world.set) log world.is_false.world form at.0 at.1 in
          let there : Contains part.part t.literal =
          subst (λ (clause : List AtomLit). Contains clause t.literal) at.2 t.member in
          ⊎_elim
          (λ (e : denied (Ask n) ≡ t.literal).
          let number : IsNumberOf log.steps (at.0 + 1) = record { from_one = omega arith; within = omega arith } in
          let same : step_at log.steps (at.0 + 1) ≡ slice_index_or log.steps at.0 no_step =
          ap (λ (k : ℕ). slice_index_or log.steps k no_step) (omega arith) in
          let denies : Contains (step_at log.steps (at.0 + 1)).clause (denied (Ask n)) =
          subst (λ (step : LogStep). Contains step.clause (denied (Ask n))) (sym same)
          (subst (λ (l : AtomLit). Contains (slice_index_or log.steps at.0 no_step).clause l) (sym e) t.member) in
          let named = rests_on_named f log (at.0 + 1) n form number (guards.rests (at.0 + 1) n number denies) in
          let high = named.within in
          absurd (omega arith))
          (λ in_side. world.is_false.false_there sides t.literal in_side t.says)
          (Contains-cons_cases (denied (Ask n)) side t.literal (part.inside t.literal there));
    }
