-- A text has one reading, and no fault beside it.
use Rattle.std.proofs.Common.{◌≡◌, ℕ, zero, suc, ◌+◌, List, [], ◌∷◌, ◌++◌, length, get_or, refl, sym, ap, subst, ◌∙◌, ◌⊎◌, inl, inr, ⊎_elim, arith}
use Rattle.std.specs.Prelude.{Contains, ◌↔◌}
use Rattle.std.specs.List.{AllPairs, AllZip, range_with_len}
use Rattle.std.proofs.lemmas.Bool.{cases_order}
use Rattle.std.proofs.lemmas.List.{length-append}
use Rattle.std.proofs.lemmas.List.Elements.{Contains-get_or}
use Rattle.std.proofs.lemmas.List.Kept.{AllPairs-cons}
use Rattle.num_text.specs.Cuts.{LineText, lines_of}
use Rattle.num_text.specs.Number.{IsNumber}
use Rattle.semantics.specs.Framework.{Af, IsPairBefore}
use Rattle.af_format.specs.declared.fault.LineCause.{LineCause}
use Rattle.af_format.specs.declared.fault.ReadFault.{ReadFault}
use Rattle.af_format.specs.declared.fault.ReadFault.TheVariants.{Line, Memory}
use Rattle.num_text.specs.Lines.{kept}
use Rattle.af_format.specs.AfText.{IsHeader, IsAttackLine, IsAfText, ReadsAs, IsReadable}
use Rattle.af_format.specs.Faults.{StandsIn, IsFirstFault, IsFaultless, IfLine}
use Rattle.af_format.specs.FirstBadLine.{BeginWithHeader, AreSomeAttacks, TellsNext, IsNextFault, IsFirstBadLine}
use Rattle.af_format.proofs.LineCauses.{IsNumber-same, IsHeader-same}
use Rattle.af_format.proofs.Reading.{
  no_fault_in,
  ends_are_arguments,
  reads_as,
  HasRead,
  read_none,
  read_next,
  read_all,
  next_bad,
}
use Rattle.lists.proofs.Zips.{zip_same}
use Rattle.lists.proofs.Ranges.{numbers_rise}

-- ---- rising pairs

-- a member stands first, or behind
first_or_later : (x : ℕ × ℕ) (xs : List (ℕ × ℕ)) (p : ℕ × ℕ) → Contains (x ∷ xs) p → (x ≡ p) ⊎ Contains xs p
first_or_later x xs p (zero, within, e) = inl e
first_or_later x xs p (suc k, within, e) = inr (k, omega arith, e)

stands_first : (x : ℕ × ℕ) (xs : List (ℕ × ℕ)) → Contains (x ∷ xs) x
stands_first x xs = (0, omega arith, refl)

stands_later : (x : ℕ × ℕ) (xs : List (ℕ × ℕ)) (p : ℕ × ℕ) → Contains xs p → Contains (x ∷ xs) p
stands_later x xs p c = (suc c.0, omega (arith, c.1), c.2)

rising_rest : (x : ℕ × ℕ) (xs : List (ℕ × ℕ)) → AllPairs IsPairBefore (x ∷ xs) → AllPairs IsPairBefore xs
rising_rest x xs up i j d less within = up (suc i) (suc j) d (omega arith) (omega arith)

before_rest : (x : ℕ × ℕ) (xs : List (ℕ × ℕ)) → AllPairs IsPairBefore (x ∷ xs) → (p : ℕ × ℕ) → Contains xs p
    → IsPairBefore x p
before_rest x xs up p c =
    let later : IsPairBefore x (get_or xs c.0 p) = up 0 (suc c.0) p (omega arith) (omega (arith, c.1)) in
    subst (λ q. IsPairBefore x q) c.2 later

never_both : (p q : ℕ × ℕ) → IsPairBefore p q → IsPairBefore q p → ⊥
never_both p q (inl a) (inl b) = absurd (omega arith)
never_both p q (inl a) (inr b) = absurd (omega (arith, b.0))
never_both p q (inr a) (inl b) = absurd (omega (arith, a.0))
never_both p q (inr a) (inr b) = absurd (omega (arith, a.1, b.1))

-- the members of the rests are the same, where those of the whole lists are
rest_within : (x : ℕ × ℕ) (xs ys : List (ℕ × ℕ)) → AllPairs IsPairBefore (x ∷ xs)
    → ((p : ℕ × ℕ) → Contains (x ∷ xs) p → Contains (x ∷ ys) p) → (p : ℕ × ℕ) → Contains xs p → Contains ys p
rest_within x xs ys up within p c = ⊎_elim
    (λ (e : x ≡ p).
    let before : IsPairBefore x p = before_rest x xs up p c in
    let itself : IsPairBefore p p = subst (λ q. IsPairBefore q p) e before in
    absurd (never_both p p itself itself))
    (λ there. there) (first_or_later x ys p (within p (stands_later x xs p c)))

firsts_same : (x y : ℕ × ℕ) (xs ys : List (ℕ × ℕ)) → AllPairs IsPairBefore (x ∷ xs) → AllPairs IsPairBefore (y ∷ ys)
    → ((p : ℕ × ℕ) → Contains (x ∷ xs) p ↔ Contains (y ∷ ys) p) → x ≡ y
firsts_same x y xs ys up up' same = ⊎_elim (λ e. sym e)
    (λ (c : Contains ys x). ⊎_elim (λ e. e)
    (λ (d : Contains xs y). absurd (never_both x y (before_rest x xs up y d) (before_rest y ys up' x c)))
    (first_or_later x xs y ((same y).1 (stands_first y ys))))
    (first_or_later y ys x ((same x).0 (stands_first x xs)))

-- rising pairs are told by their members
pub rising_same : (xs ys : List (ℕ × ℕ)) → AllPairs IsPairBefore xs → AllPairs IsPairBefore ys
    → ((p : ℕ × ℕ) → Contains xs p ↔ Contains ys p) → xs ≡ ys
rising_same [] [] up up' same = refl
rising_same [] (y ∷ ys) up up' same = let c = (same y).1 (stands_first y ys) in absurd (omega (arith, c.1))
rising_same (x ∷ xs) [] up up' same = let c = (same x).0 (stands_first x xs) in absurd (omega (arith, c.1))
rising_same (x ∷ xs) (y ∷ ys) up up' same =
    let e = firsts_same x y xs ys up up' same in
    let up'' : AllPairs IsPairBefore (x ∷ ys) = subst (λ q. AllPairs IsPairBefore (q ∷ ys)) (sym e) up' in
    let same' : (p : ℕ × ℕ) → Contains (x ∷ xs) p ↔ Contains (x ∷ ys) p
    = subst (λ q. (p : ℕ × ℕ) → Contains (x ∷ xs) p ↔ Contains (q ∷ ys) p) (sym e) same in
    ap (λ q. q ∷ xs) e
    ∙ ap (λ zs. y ∷ zs) (rising_same xs ys (rising_rest x xs up) (rising_rest x ys up'')
    (λ p. (
      rest_within x xs ys up (λ q. (same' q).0) p,
      rest_within x ys xs up'' (λ q. (same' q).1) p,
    )))

-- ---- one reading

IsAttackLine-same : (count : ℕ) (line : List ℕ) (p q : ℕ × ℕ) → IsAttackLine count line p
    → IsAttackLine count line q → p ≡ q
IsAttackLine-same count line p q a b =
    let fields : a.attacker ∷ a.target ∷ [] ≡ b.attacker ∷ b.target ∷ [] = sym a.fields ∙ b.fields in
    let attackers : a.attacker ≡ b.attacker = cc in
    let targets : a.target ≡ b.target = cc in
    let first : p.0 ≡ q.0 = IsNumber-same b.attacker p.0 q.0
    (subst (λ text. IsNumber text p.0) attackers a.attacker_is.number) b.attacker_is.number in
    let second : p.1 ≡ q.1 = IsNumber-same b.target p.1 q.1
    (subst (λ text. IsNumber text p.1) targets a.target_is.number) b.target_is.number in
    ap (λ n. (n, p.1)) first ∙ ap (λ n. (q.0, n)) second

IsAfText-same : (bytes : List ℕ) (m n : ℕ) (ps qs : List (ℕ × ℕ)) → IsAfText bytes m ps → IsAfText bytes n qs
    → (m ≡ n) × (ps ≡ qs)
IsAfText-same bytes m n ps qs a b =
    let lines : a.header ∷ a.others ≡ b.header ∷ b.others = sym a.lines ∙ b.lines in
    let headers : a.header ≡ b.header = cc in
    let others : a.others ≡ b.others = cc in
    let counts : m ≡ n = IsHeader-same b.header.text m n
    (subst (λ line. IsHeader line.text m) headers a.header_is) b.header_is in
    let each = subst (λ k. AllZip (λ line attack. IsAttackLine k line.text attack) b.others ps) counts
    (subst (λ ls. AllZip (λ line attack. IsAttackLine m line.text attack) ls ps) others a.others_are.each) in (
      counts,
      zip_same (λ line attack. IsAttackLine n line.text attack)
          (λ line p q. IsAttackLine-same n line.text p q) b.others ps qs each b.others_are.each,
    )

frameworks_same : (f g : Af) → f.live ≡ g.live → f.attacks ≡ g.attacks → f ≡ g
frameworks_same f g lives attacks =
    let first : f ≡ record { live = g.live; attacks = f.attacks }
    = ap (λ xs. let h : Af = record { live = xs; attacks = f.attacks } in h) lives in
    first ∙ ap (λ ps. let h : Af = record { live = g.live; attacks = ps } in h) attacks

-- a text reads as one framework alone
pub ReadsAs-same : (bytes : List ℕ) (f g : Af) → ReadsAs bytes f → ReadsAs bytes g → f ≡ g
ReadsAs-same bytes f g a b =
    let same = IsAfText-same bytes a.count b.count a.attacks b.attacks a.text b.text in
    frameworks_same f g
    (a.framework.live ∙ ap (λ n. range_with_len 1 n) same.0 ∙ sym b.framework.live)
    (rising_same f.attacks g.attacks a.framework.form.attacks_rise b.framework.form.attacks_rise
    (λ p. (
      λ has. (b.framework.attacks_are p).1
          (subst (λ ps. Contains ps p) same.1 ((a.framework.attacks_are p).0 has)),
      λ has. (a.framework.attacks_are p).1
          (subst (λ ps. Contains ps p) (sym same.1) ((b.framework.attacks_are p).0 has)),
    )))

-- ---- no fault

-- a text that reads as a framework has no fault
pub ReadsAs-faultless : (bytes : List ℕ) (f : Af) → ReadsAs bytes f → IsFaultless bytes
ReadsAs-faultless bytes f r = record {
  none = λ line cause stands. no_fault_in (length (lines_of bytes)) r.count r.text.header r.text.others r.attacks line
      cause r.text.header_is r.text.others_are
      (subst (λ ls. StandsIn (length (lines_of bytes)) ls line cause) r.text.lines stands);
}

-- where a fault is told, the text reads as no framework
pub no_fault_told : (bytes : List ℕ) (f : Af) (e : ReadFault) → ReadsAs bytes f
    → IfLine e (λ fault. IsFirstFault bytes fault.line fault.cause) → e ≡ Memory
no_fault_told bytes f (Line fault) r h =
    absurd ((ReadsAs-faultless bytes f r).none fault.line fault.cause h.stands)
no_fault_told bytes f Memory r h = refl

-- ---- some reading

before_cases : (p q : ℕ × ℕ) → IsPairBefore p q ⊎ ((p ≡ q) ⊎ IsPairBefore q p)
before_cases p q = ⊎_elim
    (λ (e : p.0 ≡ q.0). ⊎_elim
    (λ (e' : p.1 ≡ q.1). inr (inl (ap (λ n. (n, p.1)) e ∙ ap (λ n. (q.0, n)) e')))
    (λ ne. ⊎_elim (λ less. inl (inr (e, less))) (λ more. inr (inr (inr (sym e, more)))) ne) (cases_order p.1 q.1))
    (λ ne. ⊎_elim (λ less. inl (inl less)) (λ more. inr (inr (inl more))) ne) (cases_order p.0 q.0)

before_next : (p q r : ℕ × ℕ) → IsPairBefore p q → IsPairBefore q r → IsPairBefore p r
before_next p q r (inl a) (inl b) = inl (omega arith)
before_next p q r (inl a) (inr b) = inl (omega (arith, b.0))
before_next p q r (inr a) (inl b) = inl (omega (arith, a.0))
before_next p q r (inr a) (inr b) = inr (a.0 ∙ b.0, omega (arith, a.1, b.1))

-- rising pairs, with one pair more
record IsPutIn (x : ℕ × ℕ) (ys zs : List (ℕ × ℕ)) : Type 0 where
  up : AllPairs IsPairBefore zs
  members : (p : ℕ × ℕ) → Contains zs p ↔ ((x ≡ p) ⊎ Contains ys p)

rising_from : (x : ℕ × ℕ) (xs : List (ℕ × ℕ)) → ((p : ℕ × ℕ) → Contains xs p → IsPairBefore x p)
    → AllPairs IsPairBefore xs → AllPairs IsPairBefore (x ∷ xs)
rising_from x xs before up = AllPairs-cons IsPairBefore x xs (λ k d lt. before _ (Contains-get_or xs k d lt)) up

put_in : (x : ℕ × ℕ) (ys : List (ℕ × ℕ)) → AllPairs IsPairBefore ys → (zs : List (ℕ × ℕ)) × IsPutIn x ys zs
put_in x [] up = (
  x ∷ [],
  record {
    up = rising_from x [] (λ p c. absurd (omega (arith, c.1))) up;
    members = λ p. (first_or_later x [] p, λ w. ⊎_elim (λ e. (0, omega arith, e)) (λ c. stands_later x [] p c) w);
  },
)
put_in x (y ∷ ys) up = elim (before_cases x y) [
  | inl less ↦ (
    x ∷ y ∷ ys,
    record {
      up = rising_from x (y ∷ ys) (λ p c. ⊎_elim (λ e. subst (λ q. IsPairBefore x q) e less)
          (λ d. before_next x y p less (before_rest y ys up p d)) (first_or_later y ys p c)) up;
      members = λ p. (
        first_or_later x (y ∷ ys) p,
        λ w. ⊎_elim (λ e. (0, omega arith, e)) (λ c. stands_later x (y ∷ ys) p c) w,
      );
    },
  )
  | inr (inl e) ↦ (
    y ∷ ys,
    record {
      up = up;
      members = λ p. (λ c. inr c, λ w. ⊎_elim (λ e'. (0, omega arith, sym e ∙ e')) (λ c. c) w);
    },
  )
  | inr (inr more) ↦
      let rest = put_in x ys (rising_rest y ys up) in (
        y ∷ rest.0,
        record {
          up = rising_from y rest.0 (λ p c. ⊎_elim (λ e. subst (λ q. IsPairBefore y q) e more)
              (λ d. before_rest y ys up p d) ((rest.1.members p).0 c)) rest.1.up;
          members = λ p. (
            λ c. ⊎_elim (λ e. inr (0, omega arith, e))
                (λ d. ⊎_elim (λ e. inl e) (λ d'. inr (stands_later y ys p d')) ((rest.1.members p).0 d))
                (first_or_later y rest.0 p c),
            λ w. ⊎_elim (λ e. stands_later y rest.0 p ((rest.1.members p).1 (inl e)))
                (λ c. ⊎_elim (λ e. (0, omega arith, e))
                (λ d. stands_later y rest.0 p ((rest.1.members p).1 (inr d))) (first_or_later y ys p c)) w,
          );
        },
      )
]

-- pairs in order, each once
record AreOrdered (given xs : List (ℕ × ℕ)) : Type 0 where
  up : AllPairs IsPairBefore xs
  members : (p : ℕ × ℕ) → Contains xs p ↔ Contains given p

in_order : (given : List (ℕ × ℕ)) → (xs : List (ℕ × ℕ)) × AreOrdered given xs
in_order [] = ([], record { up = λ i j d less within. absurd (omega arith); members = λ p. (λ c. c, λ c. c) })
in_order (x ∷ xs) =
    let rest = in_order xs in
    let put = put_in x rest.0 rest.1.up in (
      put.0,
      record {
        up = put.1.up;
        members = λ p. (
          λ c. ⊎_elim (λ e. (0, omega arith, e)) (λ d. stands_later x xs p ((rest.1.members p).0 d))
              ((put.1.members p).0 c),
          λ c. (put.1.members p).1 (⊎_elim (λ e. inl e) (λ d. inr ((rest.1.members p).1 d)) (first_or_later x xs p c)),
        );
      },
    )

-- a header with attack lines behind it is the text of a framework
pub readable_from : (bytes : List ℕ) (count : ℕ) (left : List LineText) → BeginWithHeader bytes count left
    → AreSomeAttacks count (kept left) → IsReadable bytes
readable_from bytes count left h are =
    let ordered = in_order are.0 in
    let f : Af = record { live = range_with_len 1 count; attacks = ordered.0 } in (
      f,
      reads_as bytes count left are.0 f h are.1 (record {
        live = refl;
        attacks_are = ordered.1.members;
        form = record {
          live_rises = numbers_rise count;
          attacks_rise = ordered.1.up;
          ends = λ b a c. ends_are_arguments count (kept left) are.0 are.1 b a ((ordered.1.members (b, a)).0 c);
        };
      }),
    )

-- ---- lines read, their attacks forgotten

-- the lines are so many attack lines, and those that are left
pub record HasPassed (count : ℕ) (lines left : List LineText) (index : ℕ) : Type 0 where
  pub attacks : List (ℕ × ℕ)
  pub read : HasRead count lines left attacks
  pub long : index ≡ length attacks

pub passed_none : (count : ℕ) (lines : List LineText) → HasPassed count lines lines 0
passed_none count lines = record { attacks = []; read = read_none count lines; long = refl }

pub passed_next : (count : ℕ) (lines left rest : List LineText) (index : ℕ) (attack : ℕ × ℕ)
    → HasPassed count lines left index → TellsNext count index left rest attack
    → HasPassed count lines rest (index + 1)
passed_next count lines left rest index attack h next =
    let long = h.long in
    record {
      attacks = h.attacks ++ attack ∷ [];
      read = read_next count index lines left rest h.attacks attack h.read h.long next;
      long = omega (arith, length-append h.attacks (attack ∷ []));
    }

pub passed_all : (count : ℕ) (lines left : List LineText) (index : ℕ) → HasPassed count lines left index → left ≡ []
    → AreSomeAttacks count lines
passed_all count lines left index h e = (h.attacks, read_all count lines left h.attacks h.read e)

pub passed_bad : (count : ℕ) (lines left : List LineText) (index number : ℕ) (cause : LineCause)
    → HasPassed count lines left index → IsNextFault count index left number cause
    → IsFirstBadLine count lines number cause
passed_bad count lines left index number cause h bad =
    next_bad count index lines left h.attacks number cause h.read h.long bad
