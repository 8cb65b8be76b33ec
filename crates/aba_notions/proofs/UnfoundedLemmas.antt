-- Rows of reasons for atoms that do not follow.
use Rattle.std.proofs.Common.{◌≡◌, ℕ, ◌+◌, ◌<◌, ◌≤◌, List, [], ◌∷◌, ◌++◌, length, get_or, map, take, arith, subst, sym, refl, ap, inl, inr, ⊎_elim, ◌∙◌}
use Rattle.std.specs.Prelude.{◌↔◌, Contains}
use Rattle.std.proofs.lemmas.Bool.{cases_eq}
use Rattle.std.proofs.lemmas.List.{get_or_default, get_or-map, get_or_append_left, get_or_push, length-map, length_push, map_push, take_more, nil_from_length}
use Rattle.std.proofs.lemmas.List.Elements.{Contains-get_or, Contains-push_cases}
use Rattle.std.proofs.lemmas.List.Kept.{AllPairs-from_increasing}
use Rattle.lists.specs.Members.{IsSetOf}
use Rattle.lists.proofs.Membership.{Contains-nil}
use Rattle.aba_laws.specs.semantics.proofs.Decided.{search_list, found_in, decide_not, decide_member}
use Rattle.dung_notions.specs.attack_index.specs.PairOrder.{PairsRise}
use Rattle.semantics.specs.Rules.{Rule, Derives}
use Rattle.semantics.specs.AbaFrameworks.{Aba, IsNumberedAba}
use Rattle.aba_laws.proofs.DerivationLemmas.{decide_derives, head_derived}
use Rattle.aba_notions.specs.declared.unfounded.Row.{Row}
use Rattle.aba_notions.specs.declared.unfounded.Unfounded.{Unfounded}
use Rattle.aba_notions.specs.Storage.{no_rule, rule_at}
use Rattle.aba_notions.specs.Unfounded.{IsShared, IsReason, IsRowBy, IsUnfoundedOf}
use Rattle.lists.proofs.Images.{image_there, image_from}

-- ---- an atom of a body

-- none of the first atoms of a body is among the atoms
abbrev pub NoneShared : List ℕ → List (ℕ × ℕ) → ℕ → Type 0
NoneShared atoms body n = (k : ℕ) → k < n → Contains atoms (get_or body k (0, 0)).1 → ⊥

pub none_more : (atoms : List ℕ) (body : List (ℕ × ℕ)) (n : ℕ) → NoneShared atoms body n
    → (Contains atoms (get_or body n (0, 0)).1 → ⊥) → NoneShared atoms body (n + 1)
none_more atoms body n before out k lt =
    ⊎_elim (λ (e : k ≡ n). subst (λ j. Contains atoms (get_or body j (0, 0)).1 → ⊥) (sym e) out)
    (λ ne. before k (omega (arith, lt, ne))) (cases_eq k n)

pub shared_none : (atoms body : List ℕ) (pairs : List (ℕ × ℕ)) (n : ℕ)
    → map (λ (p : ℕ × ℕ). p.1) pairs ≡ body → length pairs ≤ n → NoneShared atoms pairs n → IsShared atoms body 0
shared_none atoms body pairs n is past none = inr (
  refl,
  λ z c d.
      let from = image_from (λ (p : ℕ × ℕ). p.1) pairs z (subst (λ xs. Contains xs z) (sym is) c) in
      let at : get_or pairs from.1.0 (0, 0) ≡ from.0 =
      get_or_default pairs from.1.0 (0, 0) from.0 from.1.1 ∙ from.1.2 in
      none from.1.0 (omega (arith, from.1.1, past))
      (subst (λ x. Contains atoms x) (sym (ap (λ (p : ℕ × ℕ). p.1) at ∙ from.2)) d),
)

-- ---- the row of an atom

-- the pairs of the rules before an index of the list of those that the atom heads
pub record HasPairs (f : Aba) (P : List ℕ → ℕ → Type 0) (headed : List (ℕ × ℕ)) (n : ℕ) (pairs : List (ℕ × ℕ))
    : Type 0 where
  pub long : length pairs ≡ n
  pub are : (j : ℕ) → j < n → ((get_or pairs j (0, 0)).0 ≡ (rule_at f.rules (get_or headed j (0, 0)).1).number)
      × P (rule_at f.rules (get_or headed j (0, 0)).1).body (get_or pairs j (0, 0)).1

pub pairs_start : (f : Aba) (P : List ℕ → ℕ → Type 0) (headed pairs : List (ℕ × ℕ)) → pairs ≡ []
    → HasPairs f P headed 0 pairs
pairs_start f P headed pairs e = record { long = ap length e; are = λ j lt. absurd (omega arith) }

pub pairs_next : (f : Aba) (P : List ℕ → ℕ → Type 0) (headed : List (ℕ × ℕ)) (n number y : ℕ)
    (old new : List (ℕ × ℕ)) → HasPairs f P headed n old
    → number ≡ (rule_at f.rules (get_or headed n (0, 0)).1).number
    → P (rule_at f.rules (get_or headed n (0, 0)).1).body y → new ≡ old ++ (number, y) ∷ []
    → HasPairs f P headed (n + 1) new
pairs_next f P headed n number y old new h is reason made = rw made (record {
  long = omega (arith, length_push old (number, y), h.long);
  are = λ j lt. ⊎_elim
      (λ (e : j ≡ n). rw (e, get_or_push old (number, y) (0, 0) n h.long) (is, reason))
      (λ ne. rw (get_or_append_left old ((number, y) ∷ []) (0, 0) j (omega (arith, lt, ne, h.long)))
      (h.are j (omega (arith, lt, ne)))) (cases_eq j n);
})

-- the number of a rule at an index
number_at : (f : Aba) (k : ℕ) → k < length f.rules → get_or (map (λ (r : Rule). r.number) f.rules) k 0
    ≡ (rule_at f.rules k).number
number_at f k lt = get_or-map (λ (r : Rule). r.number) f.rules k no_rule 0 lt

pub read_number : (f : Aba) (numbers : List ℕ) (k : ℕ) → numbers ≡ map (λ (r : Rule). r.number) f.rules
    → k < length f.rules → get_or numbers k 0 ≡ (rule_at f.rules k).number
read_number f numbers k is lt = ap (λ ns. get_or ns k 0) is ∙ number_at f k lt

pub row_made : (f : Aba) (P : List ℕ → ℕ → Type 0) (atom n : ℕ) (headed : List (ℕ × ℕ)) (row : Row)
    → IsNumberedAba f → row.atom ≡ atom → PairsRise headed
    → ((h k : ℕ) → Contains headed (h, k) ↔ ((h ≡ atom) × (k < length f.rules) × ((rule_at f.rules k).head ≡ atom)))
    → length headed ≤ n → n ≤ length headed → HasPairs f P headed n row.pairs → IsRowBy f P row
row_made f P atom n headed row form atom_is rise exact past few h =
    let numbers : List ℕ = map (λ (r : Rule). r.number) f.rules in
    let known = λ (j : ℕ) (lt : j < n).
    (exact (get_or headed j (0, 0)).0 (get_or headed j (0, 0)).1).0
    (Contains-get_or headed j (0, 0) (omega (arith, lt, few))) in
    record {
      numbers_rise = λ i j d lt within.
          let second : j < n = omega (arith, within, h.long) in
          let first : i < n = omega (arith, lt, second) in
          let a = known i first in
          let b = known j second in
          let below : (get_or headed i (0, 0)).1 < (get_or headed j (0, 0)).1 =
          ⊎_elim (λ less. absurd (omega (arith, less, a.0, b.0))) (λ tie. tie.1)
          (rise.order i j (0, 0) lt (omega (arith, second, few))) in
          let size = length-map f.rules (λ (r : Rule). r.number) in
          omega (
            arith,
            ap (λ (p : ℕ × ℕ). p.0) (get_or_default row.pairs i d (0, 0) (omega (arith, first, h.long))),
            ap (λ (p : ℕ × ℕ). p.0) (get_or_default row.pairs j d (0, 0) within),
            (h.are i first).0,
            (h.are j second).0,
            number_at f (get_or headed i (0, 0)).1 a.1,
            number_at f (get_or headed j (0, 0)).1 b.1,
            AllPairs-from_increasing numbers form.form.numbers_rise (get_or headed i (0, 0)).1
                (get_or headed j (0, 0)).1 0 below (omega (arith, b.1, size)),
          );
      listed = λ r there head_is.
          let at : rule_at f.rules there.0 ≡ r = get_or_default f.rules there.0 no_rule r there.1 ∙ there.2 in
          let c = (exact atom there.0).1
          (refl, there.1, ap (λ (q : Rule). q.head) at ∙ head_is ∙ atom_is) in
          let lt : c.0 < n = omega (arith, c.1, past) in
          let same : get_or headed c.0 (0, 0) ≡ (atom, there.0) =
          get_or_default headed c.0 (0, 0) (atom, there.0) c.1 ∙ c.2 in
          let number : (get_or row.pairs c.0 (0, 0)).0 ≡ r.number =
          (h.are c.0 lt).0 ∙ ap (λ (p : ℕ × ℕ). (rule_at f.rules p.1).number) same
          ∙ ap (λ (q : Rule). q.number) at in (
            (get_or row.pairs c.0 (0, 0)).1,
            subst (λ m. Contains row.pairs (m, (get_or row.pairs c.0 (0, 0)).1)) number
                (Contains-get_or row.pairs c.0 (0, 0) (omega (arith, lt, h.long))),
          );
      pairs_are = λ m y c.
          let lt : c.0 < n = omega (arith, c.1, h.long) in
          let w = known c.0 lt in
          let at : get_or row.pairs c.0 (0, 0) ≡ (m, y) = get_or_default row.pairs c.0 (0, 0) (m, y) c.1 ∙ c.2 in
          record {
            rule = rule_at f.rules (get_or headed c.0 (0, 0)).1;
            there = Contains-get_or f.rules (get_or headed c.0 (0, 0)).1 no_rule w.1;
            head_is = w.2 ∙ sym atom_is;
            number_is = sym (h.are c.0 lt).0 ∙ ap (λ (p : ℕ × ℕ). p.0) at;
            reason = subst (λ (p : ℕ × ℕ). P (rule_at f.rules (get_or headed c.0 (0, 0)).1).body p.1) at
                (h.are c.0 lt).1;
          };
    }

-- ---- all rows

pub record HasRows (f : Aba) (P : List ℕ → ℕ → Type 0) (atoms : List ℕ) (n : ℕ) (rows : List Row) : Type 0 where
  pub atoms_are : map (λ (row : Row). row.atom) rows ≡ take n atoms
  pub each : (row : Row) → Contains rows row → IsRowBy f P row

pub rows_none : (f : Aba) (P : List ℕ → ℕ → Type 0) (atoms : List ℕ) (rows : List Row) → rows ≡ []
    → HasRows f P atoms 0 rows
rows_none f P atoms rows e = rw e (record { atoms_are = refl; each = λ row c. absurd (Contains-nil row c) })

pub rows_more : (f : Aba) (P : List ℕ → ℕ → Type 0) (atoms : List ℕ) (n : ℕ) (row : Row) (old new : List Row)
    → HasRows f P atoms n old → n < length atoms → row.atom ≡ get_or atoms n 0 → IsRowBy f P row
    → new ≡ old ++ row ∷ [] → HasRows f P atoms (n + 1) new
rows_more f P atoms n row old new h lt is by made = rw made (record {
  atoms_are = map_push (λ (r : Row). r.atom) old row
      ∙ ap (λ xs. xs ++ row.atom ∷ []) h.atoms_are ∙ ap (λ x. take n atoms ++ x ∷ []) is ∙ sym (take_more atoms n 0 lt);
  each = λ r c. ⊎_elim (λ k. h.each r k) (λ e. subst (λ q. IsRowBy f P q) e by) (Contains-push_cases old row r c);
})

-- ---- unfounded atoms

-- a rule for an atom that doesn't follow has an atom in its body that doesn't
some_open : (f : Aba) (base : List ℕ) (r : Rule) → Contains f.rules r → (Derives f.rules (Contains base) r.head → ⊥)
    → (z : ℕ) × Contains r.body z × (Derives f.rules (Contains base) z → ⊥)
some_open f base r there out =
    let Open : ℕ → Type 0 = λ z. Derives f.rules (Contains base) z → ⊥ in
    ⊎_elim (λ found. (found.item, found_in Open r.body found, found.holds))
    (λ none. absurd (out (head_derived f.rules (Contains base) r there (λ y c.
    ⊎_elim (λ h. h) (λ no'. absurd (none y c no')) (decide_derives f.rules base y)))))
    (search_list Open (λ z. decide_not (decide_derives f.rules base z)) r.body)

-- what a row shares with the atoms is a reason
row_reasons : (f : Aba) (base claimed atoms : List ℕ) (row : Row)
    → IsSetOf (λ x. Contains claimed x × (Derives f.rules (Contains base) x → ⊥)) atoms → Contains atoms row.atom
    → IsNumberedAba f → IsRowBy f (IsShared atoms) row → IsRowBy f (IsReason atoms claimed) row
row_reasons f base claimed atoms row set in' form h = record {
  numbers_rise = h.numbers_rise;
  listed = h.listed;
  pairs_are = λ n y c.
      let w = h.pairs_are n y c in
      record {
        rule = w.rule;
        there = w.there;
        head_is = w.head_is;
        number_is = w.number_is;
        reason = (
          w.reason,
          λ zero'.
              let out = ((set.members row.atom).0 in').1 in
              let open' = some_open f base w.rule w.there
              (subst (λ x. Derives f.rules (Contains base) x → ⊥) (sym w.head_is) out) in (
                open'.0,
                open'.1,
                λ claim. ⊎_elim
                    (λ both. let low = ((form.form.rules_are w.rule w.there).body y both.1).low in
                    omega (arith, low, zero'))
                    (λ none. none.1 open'.0 open'.1 ((set.members open'.0).1 (claim, open'.2))) w.reason,
              ),
        );
      };
}

pub unfounded_made : (f : Aba) (base claimed theory : List ℕ) (u : Unfounded) → IsNumberedAba f
    → IsSetOf (Derives f.rules (Contains base)) theory
    → IsSetOf (λ x. Contains claimed x × (Contains theory x → ⊥)) u.atoms → (u.atoms ≡ [] → ⊥)
    → map (λ (row : Row). row.atom) u.rows ≡ u.atoms
    → ((row : Row) → Contains u.rows row → IsRowBy f (IsShared u.atoms) row)
    → IsUnfoundedOf f (Contains base) claimed u
unfounded_made f base claimed theory u form exact set some rows_are each =
    let atoms_are : IsSetOf (λ x. Contains claimed x × (Derives f.rules (Contains base) x → ⊥)) u.atoms =
    record {
      rises = set.rises;
      members = λ x. (
        λ c. let w = (set.members x).0 c in (w.0, λ h. w.1 ((exact.members x).1 h)),
        λ w. (set.members x).1 (w.0, λ k. w.1 ((exact.members x).0 k)),
      );
    } in
    record {
      atoms_are = atoms_are;
      some = ⊎_elim (λ (none : length u.atoms ≡ 0). absurd (some (nil_from_length u.atoms none)))
          (λ ne. omega (arith, ne)) (cases_eq (length u.atoms) 0);
      rows_are = rows_are;
      each = λ row c. row_reasons f base claimed u.atoms row atoms_are
          (subst (λ xs. Contains xs row.atom) rows_are (image_there (λ (r : Row). r.atom) u.rows row c)) form
          (each row c);
    }

-- where none is left over, all follow
pub none_unfounded : (f : Aba) (base claimed theory atoms : List ℕ) → IsSetOf (Derives f.rules (Contains base)) theory
    → IsSetOf (λ x. Contains claimed x × (Contains theory x → ⊥)) atoms → atoms ≡ [] → (x : ℕ)
    → Contains claimed x → Derives f.rules (Contains base) x
none_unfounded f base claimed theory atoms exact set none x c =
    ⊎_elim (λ k. (exact.members x).0 k)
    (λ out. absurd (Contains-nil x (subst (λ xs. Contains xs x) none ((set.members x).1 (c, out)))))
    (decide_member theory x)
