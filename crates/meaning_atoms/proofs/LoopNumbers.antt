-- The numbers of a loop clause's rows: they are words, and they tell the rows.
use Rattle.std.proofs.Common.{zero, suc, ◌≡◌, ℕ, ◌+◌, ◌≤◌, ◌<◌, ◌^◌, ◌==◌, true, false, ⊎_elim, List, [], ◌∷◌, ◌++◌, length, length-append, append_assoc, get_or, map, take, drop, refl, sym, ap, subst, ◌∙◌, arith, add-one}
use Rattle.std.specs.Prelude.{Contains}
use Rattle.std.specs.List.{flat_map, slice_index}
use Rattle.std.specs.List.Sorted.{IsStrictlyIncreasing}
use Rattle.std.proofs.lemmas.Grind.{flat_map-append}
use Rattle.std.proofs.Math.Seq.{take-append_seam, drop-append_seam}
use Rattle.std.proofs.lemmas.Bool.{ne_eqb}
use Rattle.std.proofs.lemmas.List.{append-nil, get_or-map, length-map, map-append, take_all, take_more}
use Rattle.std.proofs.lemmas.List.Elements.{Contains-get_or}
use Rattle.lists.proofs.Membership.{Contains-head, Contains-tail}
use Rattle.aba_laws.specs.semantics.specs.Arguments.{IsArgument}
use Rattle.meaning_atoms.specs.declared.loop_rows.LoopRow.{LoopRow}
use Rattle.meaning_atoms.specs.AbaAxioms.{AtomsRise, IsLoop, IsLoopAtom, IsLoopPair, IsLoopRow, RulesRise}
use Rattle.meaning_atoms.specs.AxiomText.{loop_numbers, pair_numbers, row_numbers}
use Rattle.meaning_atoms.specs.LoopRows.{AreRowsOf, BeginsWithPairs, BeginsWithRow}
use Rattle.meaning_atoms.proofs.WrittenLits.{AreWords, argument_word}

-- ---- words

pub words_joined : (ms ns : List ℕ) → AreWords ms → AreWords ns → AreWords (ms ++ ns)
words_joined [] ns h k = k
words_joined (m ∷ ms) ns h k = (h.0, words_joined ms ns h.1 k)

words_flat : {X : Type 0} (f : X → List ℕ) (xs : List X) → ((x : X) → Contains xs x → AreWords (f x))
    → AreWords (flat_map f xs)
words_flat f [] h = tt
words_flat f (x ∷ xs) h =
    words_joined (f x) (flat_map f xs) (h x (Contains-head x xs x refl))
    (words_flat f xs (λ y c. h y (Contains-tail x xs y c)))

words_mapped : {X : Type 0} (f : X → ℕ) (xs : List X) → ((x : X) → Contains xs x → f x < 2 ^ 32) → AreWords (map f xs)
words_mapped f [] h = tt
words_mapped f (x ∷ xs) h =
    (h x (Contains-head x xs x refl), words_mapped f xs (λ y c. h y (Contains-tail x xs y c)))

-- numbers that rise from 1 on are not below their places
rising_high : (ns : List ℕ) → IsStrictlyIncreasing ns → (k : ℕ) → k < length ns → k ≤ slice_index ns k
rising_high ns rise zero h = omega arith
rising_high ns rise (suc k) h =
    let before = rising_high ns rise k (omega arith) in
    let step : slice_index ns k < slice_index ns (suc k)
    = subst (λ m. slice_index ns k < slice_index ns m) (add-one k) (rise k (omega arith)) in
    omega arith

-- so few items have rising numbers up to the largest of an atom
few_rising : {X : Type 0} (f : X → ℕ) (xs : List X) → IsStrictlyIncreasing (map f xs)
    → ((x : X) → Contains xs x → IsArgument (f x)) → length xs < 2 ^ 32
few_rising f [] rise all = omega arith
few_rising f (x ∷ xs) rise all =
    let last = length xs in
    let within : last < length (map f (x ∷ xs)) = omega (arith, length-map (x ∷ xs) f) in
    let low = rising_high (map f (x ∷ xs)) rise last within in
    let is : get_or (map f (x ∷ xs)) last 0 ≡ f (get_or (x ∷ xs) last x) =
    get_or-map f (x ∷ xs) last x 0 (omega arith) in
    let high = (all (get_or (x ∷ xs) last x) (Contains-get_or (x ∷ xs) last x (omega arith))).high in
    omega (arith, is)

pair_small : (rows : List LoopRow) (p : ℕ × ℕ) → ((row : LoopRow) → Contains rows row → IsArgument row.atom)
    → IsLoopPair rows p → AreWords (pair_numbers p)
pair_small rows p atoms h = (
  argument_word p.0 h.rule,
  (
    ⊎_elim (λ none. omega arith) (λ some. let fits = atoms some.row some.member in
        let is = some.is in let high = fits.high in omega arith) h.body,
    tt,
  ),
)

row_small : (rows : List LoopRow) (row : LoopRow) → ((r : LoopRow) → Contains rows r → IsArgument r.atom)
    → IsLoopRow rows row → AreWords (row_numbers row)
row_small rows row atoms h = (
  few_rising (λ p. p.0) row.pairs h.rise (λ p c. (h.each p c).rule),
  words_flat pair_numbers row.pairs (λ p c. pair_small rows p atoms (h.each p c)),
)

pub loop_small : (x : ℕ) (rows : List LoopRow) → IsLoop x rows → AreWords (loop_numbers rows)
loop_small x rows h =
    let atoms : (row : LoopRow) → Contains rows row → IsArgument row.atom = λ row c. (h.each row c).atom in (
      few_rising (λ r. r.atom) rows h.rise atoms,
      words_joined (map (λ r. r.atom) rows) (flat_map row_numbers rows)
          (words_mapped (λ r. r.atom) rows (λ row c. argument_word row.atom (atoms row c)))
          (words_flat row_numbers rows (λ row c. row_small rows row atoms (h.each row c))),
    )

pub loop_atom_word : (x : ℕ) (rows : List LoopRow) → IsLoop x rows → x < 2 ^ 32
loop_atom_word x rows h =
    let fits = (h.each h.belongs.row h.belongs.member).atom in
    let is = h.belongs.is in let high = fits.high in omega arith

abbrev row_of : ℕ → List (ℕ × ℕ) → LoopRow
row_of atom pairs = record { atom = atom; pairs = pairs }

-- ---- rows read back

abbrev pub pairs_read : ℕ → List ℕ → List (ℕ × ℕ)
pairs_read zero ns = []
pairs_read (suc t) [] = []
pairs_read (suc t) (a ∷ []) = []
pairs_read (suc t) (a ∷ b ∷ ns) = (a, b) ∷ pairs_read t ns

pairs_back : (pairs : List (ℕ × ℕ)) (ns : List ℕ) → pairs_read (length pairs) (flat_map pair_numbers pairs ++ ns) ≡ pairs
pairs_back [] ns = refl
pairs_back (p ∷ ps) ns = ap (λ qs. p ∷ qs) (pairs_back ps ns)

-- what is left behind so many pairs
abbrev pub pairs_past : ℕ → List ℕ → List ℕ
pairs_past zero ns = ns
pairs_past (suc t) [] = []
pairs_past (suc t) (a ∷ []) = []
pairs_past (suc t) (a ∷ b ∷ ns) = pairs_past t ns

pairs_over : (pairs : List (ℕ × ℕ)) (ns : List ℕ) → pairs_past (length pairs) (flat_map pair_numbers pairs ++ ns) ≡ ns
pairs_over [] ns = refl
pairs_over (p ∷ ps) ns = pairs_over ps ns

abbrev pub rows_read : List ℕ → List ℕ → List LoopRow
rows_read [] ns = []
rows_read (w ∷ ws) [] = []
rows_read (w ∷ ws) (t ∷ ns) = record { atom = w; pairs = pairs_read t ns } ∷ rows_read ws (pairs_past t ns)

pub rows_back : (rows : List LoopRow) → rows_read (map (λ r. r.atom) rows) (flat_map row_numbers rows) ≡ rows
rows_back [] = refl
rows_back (r ∷ rs) =
    let more = flat_map row_numbers rs in
    ap (λ ps. record { atom = r.atom; pairs = ps } ∷ rows_read (map (λ q. q.atom) rs)
    (pairs_past (length r.pairs) (flat_map pair_numbers r.pairs ++ more))) (pairs_back r.pairs more)
    ∙ ap (λ ns. r ∷ rows_read (map (λ q. q.atom) rs) ns) (pairs_over r.pairs more)
    ∙ ap (λ qs. r ∷ qs) (rows_back rs)

-- the rows of a loop clause's numbers
abbrev pub loop_read : List ℕ → List LoopRow
loop_read [] = []
loop_read (m ∷ ns) = rows_read (take m ns) (drop m ns)

pub loop_back : (rows : List LoopRow) → loop_read (loop_numbers rows) ≡ rows
loop_back rows =
    let atoms = map (λ r. r.atom) rows in
    let more = flat_map row_numbers rows in
    let many : length rows ≡ length atoms = sym (length-map rows (λ r. r.atom)) in
    ap (λ m. rows_read (take m (atoms ++ more)) (drop m (atoms ++ more))) many
    ∙ ap (λ ws. rows_read ws (drop (length atoms) (atoms ++ more))) (take-append_seam atoms more)
    ∙ ap (λ ns. rows_read atoms ns) (drop-append_seam atoms more)
    ∙ rows_back rows

-- ---- uniqueness

pub one_rows : (atoms ns : List ℕ) (rows others : List LoopRow) → AreRowsOf atoms ns rows → AreRowsOf atoms ns others
    → rows ≡ others
one_rows atoms ns rows others h k =
    sym (rows_back rows) ∙ ap (λ ws. rows_read ws (flat_map row_numbers rows)) (h.atoms_are ∙ sym k.atoms_are)
    ∙ ap (λ ms. rows_read (map (λ r. r.atom) others) ms) (h.numbers_are ∙ sym k.numbers_are) ∙ rows_back others

pub one_loop : (rows others : List LoopRow) → loop_numbers rows ≡ loop_numbers others → rows ≡ others
one_loop rows others e = sym (loop_back rows) ∙ ap loop_read e ∙ loop_back others

-- ---- reading pair by pair

-- so many pairs are read, and the rest is left
pub record HasPairs (numbers : List ℕ) (count : ℕ) (pairs : List (ℕ × ℕ)) (rest : List ℕ) : Type 0 where
  pub few : length pairs ≤ count
  pub are : numbers ≡ flat_map pair_numbers pairs ++ rest

length_pairs : (pairs : List (ℕ × ℕ)) → length (flat_map pair_numbers pairs) ≡ length pairs + length pairs
length_pairs [] = refl
length_pairs (p ∷ ps) = omega (arith, length_pairs ps)

pub no_pair : (numbers rest : List ℕ) (count : ℕ) (pairs : List (ℕ × ℕ)) → HasPairs numbers count pairs rest
    → length pairs < count → length rest < 2
    → (others : List (ℕ × ℕ)) (more : List ℕ) → BeginsWithPairs numbers count others more → ⊥
no_pair numbers rest count pairs h left short others more b =
    let many = b.many in
    let here = ap length h.are ∙ length-append (flat_map pair_numbers pairs) rest in
    let there = ap length b.are ∙ length-append (flat_map pair_numbers others) more in
    omega (arith, here, there, length_pairs pairs, length_pairs others)

pub pair_more : (numbers rest later : List ℕ) (count r a : ℕ) (pairs after : List (ℕ × ℕ))
    → HasPairs numbers count pairs rest → length pairs < count → rest ≡ r ∷ a ∷ later → after ≡ pairs ++ (r, a) ∷ []
    → HasPairs numbers count after later
pair_more numbers rest later count r a pairs after h left is e =
    rw e (record {
      few = omega (arith, length-append pairs ((r, a) ∷ []));
      are = h.are ∙ ap (λ ns. flat_map pair_numbers pairs ++ ns) is
          ∙ sym (append_assoc (flat_map pair_numbers pairs) (r ∷ a ∷ []) later)
          ∙ ap (λ ns. ns ++ later) (sym (flat_map-append pair_numbers pairs ((r, a) ∷ [])));
    })

-- ---- reading row by row

-- so many rows are read, and the rest of the numbers is left
pub record HasRows (atoms numbers : List ℕ) (i : ℕ) (rows : List LoopRow) (rest : List ℕ) : Type 0 where
  pub many : length rows ≡ i
  pub atoms_are : map (λ r. r.atom) rows ≡ take (length rows) atoms
  pub are : numbers ≡ flat_map row_numbers rows ++ rest

-- what is left of other rows that begin with the same atoms and numbers
record Left (rows others : List LoopRow) (rest : List ℕ) : Type 0 where
  left : List LoopRow
  whole : others ≡ rows ++ left
  numbers : flat_map row_numbers left ≡ rest

left_rows : (rows others : List LoopRow) (rest : List ℕ)
    → map (λ r. r.atom) rows ≡ take (length rows) (map (λ r. r.atom) others)
    → flat_map row_numbers others ≡ flat_map row_numbers rows ++ rest → Left rows others rest
left_rows [] others rest atoms numbers = record { left = others; whole = refl; numbers = numbers }
left_rows (r ∷ rs) [] rest atoms numbers = absurd (omega (arith, ap length numbers))
left_rows (r ∷ rs) (o ∷ os) rest atoms numbers =
    let mine = flat_map row_numbers os in
    let theirs = flat_map row_numbers rs ++ rest in
    let parts : flat_map row_numbers (r ∷ rs) ++ rest ≡ length r.pairs ∷ (flat_map pair_numbers r.pairs ++ theirs)
    = append_assoc (row_numbers r) (flat_map row_numbers rs) rest in
    let same : length o.pairs ∷ (flat_map pair_numbers o.pairs ++ mine)
    ≡ length r.pairs ∷ (flat_map pair_numbers r.pairs ++ theirs) = numbers ∙ parts in
    let many : length o.pairs ≡ length r.pairs = ap (λ ns. get_or ns 0 0) same in
    let tails : flat_map pair_numbers o.pairs ++ mine ≡ flat_map pair_numbers r.pairs ++ theirs
    = ap (λ ns. drop 1 ns) same in
    let pairs : o.pairs ≡ r.pairs
    = sym (pairs_back o.pairs mine) ∙ ap (λ n. pairs_read n (flat_map pair_numbers o.pairs ++ mine)) many
    ∙ ap (λ ns. pairs_read (length r.pairs) ns) tails ∙ pairs_back r.pairs theirs in
    let later : mine ≡ theirs
    = sym (pairs_over o.pairs mine) ∙ ap (λ n. pairs_past n (flat_map pair_numbers o.pairs ++ mine)) many
    ∙ ap (λ ns. pairs_past (length r.pairs) ns) tails ∙ pairs_over r.pairs theirs in
    let atom : r.atom ≡ o.atom = ap (λ ns. get_or ns 0 0) atoms in
    let more = left_rows rs os rest (ap (λ ns. drop 1 ns) atoms) later in
    record {
      left = more.left;
      whole = ap (λ ps. row_of o.atom ps ∷ os) pairs ∙ ap (λ a. row_of a r.pairs ∷ os) (sym atom)
          ∙ ap (λ qs. r ∷ qs) more.whole;
      numbers = more.numbers;
    }

-- the rows that are left, where others are the rows of all atoms and numbers
rows_left : (atoms numbers rest : List ℕ) (i : ℕ) (rows others : List LoopRow) → HasRows atoms numbers i rows rest
    → AreRowsOf atoms numbers others → Left rows others rest
rows_left atoms numbers rest i rows others h k =
    left_rows rows others rest (h.atoms_are ∙ ap (λ ns. take (length rows) ns) (sym k.atoms_are))
    (k.numbers_are ∙ h.are)

length_left : (rows others : List LoopRow) (rest atoms numbers : List ℕ) (l : Left rows others rest)
    → AreRowsOf atoms numbers others → length rows + length l.left ≡ length atoms
length_left rows others rest atoms numbers l k =
    sym (length-append rows l.left) ∙ ap length (sym l.whole) ∙ sym (length-map others (λ r. r.atom))
    ∙ ap length k.atoms_are

begins_with_left : (left : List LoopRow) (rest : List ℕ) → flat_map row_numbers left ≡ rest → 0 < length left
    → ((pairs : List (ℕ × ℕ)) (more : List ℕ) → BeginsWithRow rest pairs more → ⊥) → ⊥
begins_with_left [] rest e some none = omega arith
begins_with_left (r ∷ rs) rest e some none = none r.pairs (flat_map row_numbers rs) (sym e)

-- where no row begins the rest, the numbers are those of no rows
pub no_row : (atoms numbers rest : List ℕ) (i : ℕ) (rows others : List LoopRow) → HasRows atoms numbers i rows rest
    → i < length atoms → ((pairs : List (ℕ × ℕ)) (more : List ℕ) → BeginsWithRow rest pairs more → ⊥)
    → AreRowsOf atoms numbers others → ⊥
no_row atoms numbers rest i rows others h within none k =
    let l = rows_left atoms numbers rest i rows others h k in
    let all = length_left rows others rest atoms numbers l k in
    let many = h.many in
    begins_with_left l.left rest l.numbers (omega arith) none

nothing_left : (left : List LoopRow) (rest : List ℕ) → flat_map row_numbers left ≡ rest → length left ≡ 0 → rest ≡ []
nothing_left [] rest e none = sym e
nothing_left (r ∷ rs) rest e none = absurd (omega arith)

-- where numbers are left behind all atoms, the numbers are those of no rows
pub no_rest : (atoms numbers rest : List ℕ) (i : ℕ) (rows others : List LoopRow) → HasRows atoms numbers i rows rest
    → length atoms ≤ i → AreRowsOf atoms numbers others → rest ≡ []
no_rest atoms numbers rest i rows others h past k =
    let l = rows_left atoms numbers rest i rows others h k in
    let all = length_left rows others rest atoms numbers l k in
    let many = h.many in
    nothing_left l.left rest l.numbers (omega arith)

pub no_rows_yet : (atoms numbers : List ℕ) → HasRows atoms numbers 0 [] numbers
no_rows_yet atoms numbers = record { many = refl; atoms_are = refl; are = refl }

pub row_more : (atoms numbers rest later : List ℕ) (i : ℕ) (atom : ℕ) (pairs : List (ℕ × ℕ)) (rows after : List LoopRow)
    → HasRows atoms numbers i rows rest → i < length atoms → atom ≡ get_or atoms i 0 → BeginsWithRow rest pairs later
    → after ≡ rows ++ row_of atom pairs ∷ [] → HasRows atoms numbers (i + 1) after later
row_more atoms numbers rest later i atom pairs rows after h within is begins e =
    let row = row_of atom pairs in
    let many = h.many in
    let long : length (rows ++ row ∷ []) ≡ i + 1 = omega (arith, length-append rows (row ∷ [])) in
    rw e (record {
      many = long;
      atoms_are = map-append (λ (r : LoopRow). r.atom) rows (row ∷ [])
          ∙ ap (λ ns. ns ++ atom ∷ []) (h.atoms_are ∙ ap (λ n. take n atoms) h.many)
          ∙ ap (λ a. take i atoms ++ a ∷ []) is
          ∙ sym (take_more atoms i 0 within) ∙ ap (λ n. take n atoms) (sym long);
      are = h.are ∙ ap (λ ns. flat_map row_numbers rows ++ ns) begins
          ∙ ap (λ ns. flat_map row_numbers rows ++ (ns ++ later)) (sym (append-nil (row_numbers row)))
          ∙ sym (append_assoc (flat_map row_numbers rows) (flat_map row_numbers (row ∷ [])) later)
          ∙ ap (λ ns. ns ++ later) (sym (flat_map-append row_numbers rows (row ∷ [])));
    })

pub rows_whole : (atoms numbers rest : List ℕ) (i : ℕ) (rows : List LoopRow) → HasRows atoms numbers i rows rest
    → length atoms ≤ i → rest ≡ [] → AreRowsOf atoms numbers rows
rows_whole atoms numbers rest i rows h past e =
    let many = h.many in
    record {
      atoms_are = h.atoms_are ∙ take_all (length rows) atoms (omega arith);
      numbers_are = sym (append-nil (flat_map row_numbers rows))
          ∙ ap (λ ns. flat_map row_numbers rows ++ ns) (sym e) ∙ sym h.are;
    }

pub empty : (ns : List ℕ) → true ≡ (length ns == 0) → ns ≡ []
empty [] e = refl
empty (n ∷ ns) e = absurd (let no_number : (length (n ∷ ns) == 0) ≡ false = ne_eqb _ _ (λ z. omega arith) in cc)

pub not_empty : (ns : List ℕ) → false ≡ (length ns == 0) → ns ≡ [] → ⊥
not_empty [] e h = cc
not_empty (n ∷ ns) e h = absurd (let none : length (n ∷ ns) ≡ 0 = ap length h in omega arith)
