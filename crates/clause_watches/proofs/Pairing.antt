-- The literals that a new clause watches, and room for it.
use Rattle.std.proofs.Common.{◌≡◌, ◌≢◌, ℕ, ◌<◌, ◌≤◌, ◌+◌, ◌*◌, ◌^◌, List, [], length}
use Rattle.std.proofs.Common.{get_or, take, arith, ap, sym, subst, ◌∙◌, refl, ⊎_elim}
use Rattle.std.proofs.Common.{length-take, true, false, Bool}
use Rattle.std.specs.Prelude.{◌⊎◌, Contains, Option, Some, None, if◌then◌else◌}
use Rattle.std.specs.Prelude.{slice_get}
use Rattle.std.proofs.lemmas.List.{get_or_default, get_or-take, take_all}
use Rattle.std.proofs.lemmas.Bool.{cases_lt}
use Rattle.std.proofs.lemmas.Option.{slice_get_within, get_or_from_slice_get}
use Rattle.lists.proofs.Membership.{Contains-nil}
use Rattle.plain_lits.specs.declared.lit.Lit.{Lit}
use Rattle.plain_lits.specs.declared.value.Value.{Value}
use Rattle.plain_lits.specs.declared.value.Value.TheVariants.{False}
use Rattle.plain_lits.specs.Literals.{negation}
use Rattle.plain_lits.specs.Packed.{packed}
use Rattle.plain_lits.specs.Trails.{VarsDiffer}
use Rattle.plain_lits.specs.Values.{IsValueIn}
use Rattle.clause_watches.specs.declared.pair.Pair.{Pair}
use Rattle.clause_watches.specs.Arenas.{blank}
use Rattle.clause_watches.specs.Picks.{IsPairOf, HasVars, ClaimsAll, IsOther, IsPick, IsBetter, IsBest, Considers}
use Rattle.clause_watches.specs.Picks.{IsUnfalse, IsRank, Outlasts, WatchesLast}
use Rattle.clause_watches.specs.WatchLists.{Listed, list_at, HasMoreRoom, ClaimsOne}
use Rattle.clause_watches.proofs.Fronts.{front_cases, from_front, longer_front, in_front}
use Rattle.clause_watches.proofs.Looking.{not_false}

-- the item at an index, by another default
item_at : {X : Type 0} (xs : List X) (i : ℕ) (d x : X) → i < length xs → get_or xs i x ≡ x → get_or xs i d ≡ x
item_at xs i d x lt e = get_or_default xs i d x lt ∙ e

-- the variables of a list
pub vars_none : HasVars [] 0
vars_none = record {
  below = λ l c. absurd (Contains-nil l c);
  packs = λ l c. absurd (Contains-nil l c);
  fits =
      omega arith;
}

pub vars_next : (lits : List Lit) (i vars new : ℕ) → i < length lits → HasVars (take i lits) vars
    → (get_or lits i blank).var < 2 ^ 31 → vars ≤ new → (get_or lits i blank).var + 1 ≤ new
    → (new ≡ vars) ⊎ (new ≡ (get_or lits i blank).var + 1) → HasVars (take (i + 1) lits) new
vars_next lits i vars new lt h packs le le2 is = record {
  below = λ l c. ⊎_elim
      (λ old. let b = h.below l old in omega arith)
      (λ here. subst (λ (x : Lit). x.var < new) (item_at lits i blank l lt here.1) (omega arith))
      (front_cases i lits l c);
  packs = λ l c. ⊎_elim
      (λ old. h.packs l old)
      (λ here. subst (λ (x : Lit). x.var < 2 ^ 31) (item_at lits i blank l lt here.1) packs)
      (front_cases i lits l c);
  fits = let f = h.fits in ⊎_elim (λ e. omega arith) (λ e. omega arith) is;
}

-- room in lists
pub room_same : (lists : List Listed) → HasMoreRoom lists lists
room_same lists = record { long = omega arith; ids = λ code. refl; uses = λ code. omega arith }

pub room_trans : (a b c : List Listed) → HasMoreRoom a b → HasMoreRoom b c → HasMoreRoom a c
room_trans a b c g h =
    let p = g.long in
    let q = h.long in
    record {
      long = omega arith;
      ids = λ code. h.ids code ∙ g.ids code;
      uses = λ code. omega (arith, g.uses code, h.uses code);
    }

code_room : (v : ℕ) (p : Bool) (n : ℕ) → 2 * v + (if p then 1 else 0) < n → 2 * v + 1 ≤ n
code_room v true n lt = omega arith
code_room v false n lt = omega arith

pub packed_room : (l : Lit) (n : ℕ) → packed l < n → 2 * l.var + 1 ≤ n
packed_room l n lt = code_room l.var l.positive n lt

pub claims_none : (lists : List Listed) → ClaimsAll lists lists []
claims_none lists = record { room = room_same lists; more = λ l c. absurd (Contains-nil l c) }

pub claims_next : (a b c : List Listed) (clause : List Lit) (i code : ℕ) → i < length clause
    → ClaimsAll a b (take i clause)
    → code ≡ packed (get_or clause i blank) → ClaimsOne b c code → ClaimsAll a c (take (i + 1) clause)
claims_next a b c clause i code lt h e one = record {
  room = room_trans a b c h.room one.room;
  more = λ l there. ⊎_elim
      (λ old. omega (arith, h.more l old, one.room.uses (packed l)))
      (λ here.
      let is : code ≡ packed l = e ∙ ap packed (item_at clause i blank l lt here.1) in
      let claimed : (list_at b (packed l)).uses + 1 ≤ (list_at c (packed l)).uses =
      subst (λ k. (list_at b k).uses + 1 ≤ (list_at c k).uses) is one.more in
      omega (arith, h.room.uses (packed l), claimed))
      (front_cases i clause l there);
}

-- the rank of a literal
unfalse_shorter : (lits : List Lit) (l : Lit) (n m : ℕ) → n ≤ m → IsUnfalse lits l m → IsUnfalse lits l n
unfalse_shorter lits l n m le h = record { unfalse = λ c. h.unfalse (longer_front n m lits (negation l) le c) }

-- a literal that isn't false wasn't
pub never_false : (lits : List Lit) (l : Lit) (n : ℕ) → (Contains lits (negation l) → ⊥) → IsUnfalse lits l n
never_false lits l n open_lit = record { unfalse = λ c. open_lit (from_front n lits (negation l) c) }

pub rank_open : (lits : List Lit) (l : Lit) (v : Value) (n : ℕ) → IsValueIn lits l v → v ≢ False → n ≡ length lits
    → IsRank lits l n
rank_open lits l v n value ne is = record {
  within = omega arith;
  before = never_false lits l n (not_false lits l v value ne);
  after = λ m lt below. absurd (omega arith);
}

unfalse_at : (lits : List Lit) (l : Lit) (n : ℕ) → VarsDiffer lits → n < length lits → get_or lits n (negation l)
    ≡ negation l
    → IsUnfalse lits l n
unfalse_at lits l n vars lt is = record {
  unfalse = λ c.
      let below = c.1 in
      let low : c.0 < n = omega (arith, length-take n lits) in
      let same : get_or lits c.0 (negation l) ≡ negation l = sym (get_or-take n lits c.0 (negation l) low) ∙ c.2 in
      let at : c.0 ≡ n = vars c.0 n (negation l) (omega (arith, length-take n lits)) lt
      (ap (λ (x : Lit). x.var) (same ∙ sym is)) in
      omega arith;
}

rank_at : (lits : List Lit) (l : Lit) (n : ℕ) → VarsDiffer lits → n < length lits → get_or lits n (negation l)
    ≡ negation l
    → IsRank lits l n
rank_at lits l n vars lt is = record {
  within = omega arith;
  before = unfalse_at lits l n vars lt is;
  after = λ m below _. in_front m n lits (negation l) (negation l) below lt is;
}

-- the rank of a false literal
pub rank_got : (lits : List Lit) (l m : Lit) (n : ℕ) → VarsDiffer lits → slice_get lits n ≡ Some m → m ≡ negation l
    → IsRank lits l n
rank_got lits l m n vars got is =
    rank_at lits l n vars (slice_get_within lits n m got) (get_or_from_slice_get lits n m (negation l) got ∙ is)

-- of two literals the one of no lower rank outlasts the other
pub outlasts_by : (lits : List Lit) (l other : Lit) (a b : ℕ) → IsRank lits l a → IsRank lits other b → b ≤ a
    → Outlasts lits l other
outlasts_by lits l other a b g h le = record {
  each = λ n unfalse_other. ⊎_elim
      (λ (lt : a < n). ⊎_elim
      (λ (below : a < length lits). absurd (unfalse_other.unfalse (h.after n (omega arith) (omega arith))))
      (λ past. let within = g.within in
      never_false lits l n (λ c. g.before.unfalse (subst (λ xs. Contains xs (negation l))
      (sym (take_all a lits (omega arith))) c)))
      (cases_lt a (length lits)))
      (λ le_n. unfalse_shorter lits l n a (omega arith) g.before)
      (cases_lt a n);
}

-- a literal that isn't false outlasts each
pub outlasts_open : (lits : List Lit) (l other : Lit) → (Contains lits (negation l) → ⊥) → Outlasts lits l other
outlasts_open lits l other open_lit = record { each = λ n _. never_false lits l n open_lit }

outlasts_same : (lits : List Lit) (l : Lit) → Outlasts lits l l
outlasts_same lits l = record { each = λ n h. h }

outlasts_trans : (lits : List Lit) (a b c : Lit) → Outlasts lits a b → Outlasts lits b c → Outlasts lits a c
outlasts_trans lits a b c g h = record { each = λ n u. g.each n (h.each n u) }

-- the best literal so far
pub pick_none : (lits : List Lit) (other : Option Lit) → IsPick lits [] other None
pick_none lits other = λ l c. absurd (Contains-nil l c)

pick_passed : (lits clause : List Lit) (i : ℕ) (other best : Option Lit) → i < length clause
    → IsOther other (get_or clause i blank)
    → IsPick lits (take i clause) other best → IsPick lits (take (i + 1) clause) other best
pick_passed lits clause i other None lt passed h = λ l c. ⊎_elim (λ old. h l old)
    (λ here. subst (IsOther other) (item_at clause i blank l lt here.1) passed) (front_cases i clause l c)
pick_passed lits clause i other (Some b) lt passed h = (
  longer_front i (i + 1) clause b (omega arith) h.0,
  h.1,
  λ x c un. ⊎_elim (λ old. h.2 x old un)
      (λ here. absurd (un (subst (IsOther other) (item_at clause i blank x lt here.1) passed)))
      (front_cases i clause x c),
)

pick_held : (lits clause : List Lit) (i : ℕ) (other best : Option Lit) → i < length clause
    → IsBest lits best (get_or clause i blank)
    → IsPick lits (take i clause) other best → IsPick lits (take (i + 1) clause) other best
pick_held lits clause i other None lt stays h = absurd stays
pick_held lits clause i other (Some b) lt stays h = (
  longer_front i (i + 1) clause b (omega arith) h.0,
  h.1,
  λ x c un. ⊎_elim (λ old. h.2 x old un)
      (λ here. subst (λ y. Outlasts lits b y) (item_at clause i blank x lt here.1) stays)
      (front_cases i clause x c),
)

-- the next literal outlasts those before it
outlasts_old : (lits front : List Lit) (other best : Option Lit) (l : Lit) → IsPick lits front other best
    → IsBetter lits best l → (x : Lit) → Contains front x → (IsOther other x → ⊥) → Outlasts lits l x
outlasts_old lits front other None l h better x c un = absurd (un (h x c))
outlasts_old lits front other (Some b) l h better x c un = outlasts_trans lits l b x better (h.2 x c un)

pub pick_next : (lits clause : List Lit) (i : ℕ) (other best new : Option Lit) → i < length clause
    → Considers lits best other (get_or clause i blank) new → IsPick lits (take i clause) other best
    → IsPick lits (take (i + 1) clause) other new
pick_next lits clause i other best new lt h old = ⊎_elim
    (λ passed. subst (IsPick lits (take (i + 1) clause) other) (sym passed.1)
    (pick_passed lits clause i other best lt passed.0 old))
    (λ open_lit. ⊎_elim
    (λ better. subst (IsPick lits (take (i + 1) clause) other) (sym better.0) (
      in_front (i + 1) i clause (get_or clause i blank) blank
          (omega arith) lt refl,
      open_lit.0,
      λ x c un. ⊎_elim (λ front. outlasts_old lits (take i clause) other best (get_or clause i blank) old better.1 x
          front un)
          (λ here. subst (λ y. Outlasts lits (get_or clause i blank) y) (item_at clause i blank x lt here.1)
          (outlasts_same lits (get_or clause i blank)))
          (front_cases i clause x c),
    ))
    (λ held. subst (IsPick lits (take (i + 1) clause) other) (sym held.0)
    (pick_held lits clause i other best lt held.1 old))
    open_lit.1)
    h

-- the pair of a clause
pub pair_alone : (clause : List Lit) (a : Lit) (p : Pair) → p.first ≡ a → p.second ≡ a
    → ((l : Lit) → Contains clause l → l ≡ a) → IsPairOf clause p
pair_alone clause a p first second all = record {
  first = λ ne. absurd (ne (first ∙ sym second));
  second = λ ne. absurd (ne (first ∙ sym second));
  alone = λ e x y in_x in_y. all x in_x ∙ sym (all y in_y);
}

pub pair_two : (clause : List Lit) (a b : Lit) (p : Pair) → p.first ≡ a → p.second ≡ b → Contains clause a
    → Contains clause b
    → (b ≡ a → ⊥) → IsPairOf clause p
pair_two clause a b p first second in_a in_b ne = record {
  first = λ _. subst (Contains clause) (sym first) in_a;
  second = λ _. subst (Contains clause) (sym second) in_b;
  alone = λ e. absurd (ne (sym second ∙ (sym e ∙ first)));
}

pub pair_empty : (clause : List Lit) (p : Pair) (a b : Lit) → p.first ≡ a → p.second ≡ a
    → ((l : Lit) → Contains clause l → ⊥) → IsPairOf clause p
pair_empty clause p a b first second none = record {
  first = λ ne. absurd (ne (first ∙ sym second));
  second = λ ne. absurd (ne (first ∙ sym second));
  alone = λ e x y in_x in_y. absurd (none x in_x);
}

-- the pair watches the last
pub last_alone : (lits clause : List Lit) (a : Lit) (p : Pair) → p.first ≡ a → ((l : Lit) → Contains clause l → l ≡ a)
    → WatchesLast lits clause p
last_alone lits clause a p first all = record {
  first = λ l c ne _. absurd (ne (all l c ∙ sym first));
  second = λ l c ne _. absurd (ne (all l c ∙ sym first));
}

pub last_two : (lits clause : List Lit) (a b : Lit) (p : Pair) → p.first ≡ a → p.second ≡ b
    → ((l : Lit) → Contains clause l → Outlasts lits a l)
    → ((l : Lit) → Contains clause l → (l ≡ a → ⊥) → Outlasts lits b l) → WatchesLast lits clause p
last_two lits clause a b p first second best next = record {
  first = λ l c _ _. subst (λ x. Outlasts lits x l) (sym first) (best l c);
  second = λ l c ne _. subst (λ x. Outlasts lits x l) (sym second) (next l c (λ e. ne (e ∙ sym first)));
}

pub last_empty : (lits clause : List Lit) (p : Pair) → ((l : Lit) → Contains clause l → ⊥) → WatchesLast lits clause p
last_empty lits clause p none = record {
  first = λ l c. absurd (none l c);
  second = λ l c. absurd (none l c);
}
