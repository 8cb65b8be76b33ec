-- The text of a CNF reads as the CNF.
use Rattle.std.proofs.Common.{◌≡◌, ℕ, ◌+◌, ◌<◌, ◌≤◌, ◌^◌, Bool, true, false, List, [], ◌∷◌, ◌++◌, length, length-append, map, fold, refl, sym, ap, subst, ◌∙◌, arith, codes, append_assoc, inl, get_or}
use Rattle.std.specs.Prelude.{All, Contains, Result, Ok, ◌==◌, slice_index}
use Rattle.std.specs.List.{AllZip, flat_map}
use Rattle.std.specs.Fmt.{decimal}
use Rattle.std.proofs.lemmas.Bool.{cond-false, ne_eqb}
use Rattle.std.proofs.lemmas.List.{append-nil}
use Rattle.std.proofs.lemmas.List.Elements.{All-append, All-cons, All-nil}
use Rattle.num_text.specs.Cuts.{LineText, field_texts, is_blank, is_line_end, lines_from, lines_of}
use Rattle.num_text.specs.Number.{IsNumber}
use Rattle.num_text.proofs.CutLemmas.{lines_from-nil}
use Rattle.num_text.proofs.Decimals.{decimal_number}
use Rattle.iccma_tasks.proofs.RoundTrip.{lines_from-more}
use Rattle.lists.proofs.Membership.{Contains-head, Contains-tail}
use Rattle.plain_lits.specs.declared.lit.Lit.{Lit}
use Rattle.lrat_text.specs.declared.cnf.TheConstants.{MAX_VARIABLE}
use Rattle.lrat_text.specs.declared.fault.CnfCause.{CnfCause}
use Rattle.lrat_text.specs.Numbers.{IsSigned, sign_text}
use Rattle.lrat_text.specs.Lines.{cnf_kept, is_comment}
use Rattle.lrat_text.specs.CnfText.{Formula, IsFormula, IsWithin, AreWithin, SpellsBounded, Leads, Cut, cut, adds, no_cut, IsWhole, ReadsTo, IsHeader, IsCnfText, end_of}
use Rattle.lrat_text.proofs.KeptLines.{cnf_kept-nil, cnf_kept-keeps}
use Rattle.lrat_writing.specs.Texts.{lit_text, clause_line, header_line, cnf_text}
use Rattle.lrat_writing.proofs.ZeroLines.{IsWord, AreWords, decimal_word, zero_number, literal_words, one_field, next_field, zero_fields, placed_line, zero_text, first_zero_line}

-- ---- a clause

zero_lit : Lit
zero_lit = record { var = 0; positive = true }

spelled_lit : (vars : ℕ) (l : Lit) → IsWithin vars l → vars ≤ MAX_VARIABLE → SpellsBounded vars (lit_text l) l
spelled_lit vars l h few =
    let high = h.within in
    record {
      signed = record { digits = decimal l.var; field_is = refl; number = decimal_number l.var (omega arith) };
      within = h.within;
    }

spelled_zero : (vars : ℕ) → SpellsBounded vars (codes "0") zero_lit
unfolding zero_lit
spelled_zero vars = record {
  signed = record { digits = codes "0"; field_is = refl; number = zero_number };
  within = omega arith;
}

clause_zip : (vars : ℕ) (clause : List Lit) → vars ≤ MAX_VARIABLE
    → ((l : Lit) → Contains clause l → IsWithin vars l)
    → AllZip (SpellsBounded vars) (map lit_text clause ++ codes "0" ∷ []) (clause ++ zero_lit ∷ [])
clause_zip vars [] few within = (spelled_zero vars, tt)
clause_zip vars (l ∷ ls) few within = (
  spelled_lit vars l (within l (Contains-head l ls l refl)) few,
  clause_zip vars ls few (λ x c. within x (Contains-tail l ls x c)),
)

adds_lit : (whole : List (List Lit)) (open_one : List Lit) (l : Lit) → 1 ≤ l.var
    → adds (cut whole open_one) l ≡ cut whole (open_one ++ l ∷ [])
adds_lit whole open_one l from_one = cond-false _ _ _ (ne_eqb l.var 0 (λ e. omega arith))

folded : (whole : List (List Lit)) (open_one clause : List Lit) → ((l : Lit) → Contains clause l → 1 ≤ l.var)
    → fold adds (cut whole open_one) (clause ++ zero_lit ∷ []) ≡ cut (whole ++ (open_one ++ clause) ∷ []) []
unfolding zero_lit
folded whole open_one [] from_one = ap (λ x. cut (whole ++ x ∷ []) []) (sym (append-nil open_one))
folded whole open_one (l ∷ ls) from_one =
    ap (λ c. fold adds c (ls ++ zero_lit ∷ [])) (adds_lit whole open_one l (from_one l (Contains-head l ls l refl)))
    ∙ folded whole (open_one ++ l ∷ []) ls (λ x c. from_one x (Contains-tail l ls x c))
    ∙ ap (λ x. cut (whole ++ x ∷ []) []) (append_assoc open_one (l ∷ []) ls)

clause_leads : (vars : ℕ) (whole : List (List Lit)) (clause : List Lit) → vars ≤ MAX_VARIABLE
    → ((l : Lit) → Contains clause l → IsWithin vars l)
    → Leads vars (map lit_text clause ++ codes "0" ∷ []) (cut whole []) (cut (whole ++ clause ∷ []) [])
clause_leads vars whole clause few within = record {
  numbers = clause ++ zero_lit ∷ [];
  spelled = clause_zip vars clause few within;
  leads_to = sym (folded whole [] clause (λ l c. (within l c).from_one));
}

-- ---- its line

-- a number, or a literal, doesn't begin with `c`
pub number_first : (text : List ℕ) (n : ℕ) → IsNumber text n → (slice_index text 0 == 99) ≡ false
number_first text n is =
    let first = is.digits 0 0 is.not_empty in
    let high = first.high in
    ne_eqb (get_or text 0 0) 99 (λ e. omega arith)

literal_first : (positive : Bool) (n : ℕ) → n < 2 ^ 32 → (slice_index (sign_text positive ++ decimal n) 0 == 99) ≡ false
literal_first true n small = number_first (decimal n) n (decimal_number n small)
literal_first false n small = refl

no_comment : (clause : List Lit) → ((l : Lit) → Contains clause l → l.var < 2 ^ 32)
    → is_comment (map lit_text clause ++ codes "0" ∷ []) ≡ false
no_comment [] small = refl
no_comment (l ∷ ls) small = literal_first l.positive l.var (small l (Contains-head l ls l refl))

small_vars : (vars : ℕ) (clause : List Lit) → vars ≤ MAX_VARIABLE → ((l : Lit) → Contains clause l → IsWithin vars l)
    → (l : Lit) → Contains clause l → l.var < 2 ^ 32
small_vars vars clause few within l c = let high = (within l c).within in omega arith

clause_reads : (end vars count number at : ℕ) (whole : List (List Lit)) (clause : List Lit) (rest : List ℕ)
    (result : Result (List (List Lit)) (ℕ × CnfCause)) → vars ≤ MAX_VARIABLE
    → ((l : Lit) → Contains clause l → IsWithin vars l)
    → ((n s : ℕ) → ReadsTo end vars count (cut (whole ++ clause ∷ []) []) (cnf_kept (lines_from n s rest)) result)
    → ReadsTo end vars count (cut whole []) (cnf_kept (lines_from number at (clause_line clause ++ rest))) result
clause_reads end vars count number at whole clause rest result few within more =
    let small = small_vars vars clause few within in
    let texts = map lit_text clause in
    let words : AreWords texts = literal_words clause small in
    let line = placed_line number at (zero_text texts) in
    let left = lines_from (number + 1) (at + length (zero_text texts) + 1) rest in
    let fields : field_texts line.text ≡ texts ++ codes "0" ∷ [] = zero_fields texts words in
    let lines : cnf_kept (lines_from number at (clause_line clause ++ rest)) ≡ line ∷ cnf_kept left
    = ap cnf_kept (first_zero_line number at texts rest words)
    ∙ cnf_kept-keeps line left (ap is_comment fields ∙ no_comment clause small) in
    subst (λ ls. ReadsTo end vars count (cut whole []) ls result) (sym lines) (inl (
      cut (whole ++ clause ∷ []) [],
      subst (λ fs. Leads vars fs (cut whole []) (cut (whole ++ clause ∷ []) [])) (sym fields)
          (clause_leads vars whole clause few within),
      more (number + 1) (at + length (zero_text texts) + 1),
    ))

clauses_read : (end vars count number at : ℕ) (whole clauses : List (List Lit)) → vars ≤ MAX_VARIABLE
    → AreWithin vars clauses → length (whole ++ clauses) ≡ count
    → ReadsTo end vars count (cut whole []) (cnf_kept (lines_from number at (flat_map clause_line clauses)))
    (Ok (whole ++ clauses))
clauses_read end vars count number at whole [] few within counted =
    subst (λ ls. ReadsTo end vars count (cut whole []) ls (Ok (whole ++ [])))
    (sym (ap cnf_kept (lines_from-nil number at) ∙ cnf_kept-nil))
    (inl (record { counted = sym (ap length (append-nil whole)) ∙ counted; closed = refl }, ap Ok (append-nil whole)))
clauses_read end vars count number at whole (c ∷ cs) few within counted =
    clause_reads end vars count number at whole c (flat_map clause_line cs) (Ok (whole ++ c ∷ cs)) few
    (λ l m. within c l (Contains-head c cs c refl) m)
    (λ n s. subst (λ x. ReadsTo end vars count (cut (whole ++ c ∷ []) []) (cnf_kept (lines_from n s (flat_map clause_line cs)))
    (Ok x)) (append_assoc whole (c ∷ []) cs)
    (clauses_read end vars count n s (whole ++ c ∷ []) cs few (λ clause l m k. within clause l (Contains-tail c cs clause m) k)
    (ap length (append_assoc whole (c ∷ []) cs) ∙ counted)))

-- ---- the header

header_piece : ℕ → ℕ → List ℕ
header_piece vars count = codes "p cnf " ++ (decimal vars ++ 32 ∷ decimal count)

header_apart : (a b rest : List ℕ) → (a ++ 32 ∷ (b ++ 10 ∷ [])) ++ rest ≡ (a ++ 32 ∷ b) ++ 10 ∷ rest
header_apart a b rest = append_assoc a (32 ∷ (b ++ 10 ∷ [])) rest
    ∙ ap (λ x. a ++ 32 ∷ x) (append_assoc b (10 ∷ []) rest) ∙ sym (append_assoc a (32 ∷ b) (10 ∷ rest))

p_word : IsWord (codes "p")
p_word = record {
  some = omega arith;
  no_blank = All-cons (λ b. is_blank b ≡ false) 112 [] refl (All-nil (λ b. is_blank b ≡ false));
  no_end = All-cons (λ b. is_line_end b ≡ false) 112 [] refl (All-nil (λ b. is_line_end b ≡ false));
}

cnf_word : IsWord (codes "cnf")
cnf_word =
    let B : ℕ → Type 0 = λ b. is_blank b ≡ false in
    let E : ℕ → Type 0 = λ b. is_line_end b ≡ false in
    record {
      some = omega arith;
      no_blank = All-cons B 99 (110 ∷ 102 ∷ []) refl (All-cons B 110 (102 ∷ []) refl (All-cons B 102 [] refl (All-nil B)));
      no_end = All-cons E 99 (110 ∷ 102 ∷ []) refl (All-cons E 110 (102 ∷ []) refl (All-cons E 102 [] refl (All-nil E)));
    }

header_fields : (vars count : ℕ) → vars < 2 ^ 32 → count < 2 ^ 32
    → field_texts (header_piece vars count) ≡ codes "p" ∷ codes "cnf" ∷ decimal vars ∷ decimal count ∷ []
unfolding header_piece
header_fields vars count small few =
    next_field (codes "p") (codes "cnf" ++ 32 ∷ (decimal vars ++ 32 ∷ decimal count)) p_word
    ∙ ap (λ fs. codes "p" ∷ fs) (next_field (codes "cnf") (decimal vars ++ 32 ∷ decimal count) cnf_word
    ∙ ap (λ fs. codes "cnf" ∷ fs) (next_field (decimal vars) (decimal count) (decimal_word vars small)
    ∙ ap (λ fs. decimal vars ∷ fs) (one_field (decimal count) (decimal_word count few))))

header_ends : (vars count : ℕ) → vars < 2 ^ 32 → count < 2 ^ 32
    → All (λ b. is_line_end b ≡ false) (header_piece vars count)
unfolding header_piece
header_ends vars count small few =
    let E : ℕ → Type 0 = λ b. is_line_end b ≡ false in
    All-append E (codes "p") (32 ∷ (codes "cnf" ++ 32 ∷ (decimal vars ++ 32 ∷ decimal count))) p_word.no_end
    (All-cons E 32 (codes "cnf" ++ 32 ∷ (decimal vars ++ 32 ∷ decimal count)) refl
    (All-append E (codes "cnf") (32 ∷ (decimal vars ++ 32 ∷ decimal count)) cnf_word.no_end
    (All-cons E 32 (decimal vars ++ 32 ∷ decimal count) refl
    (All-append E (decimal vars) (32 ∷ decimal count) (decimal_word vars small).no_end
    (All-cons E 32 (decimal count) refl (decimal_word count few).no_end)))))

-- ---- the whole

cnf_lines : (f : Formula) → f.vars < 2 ^ 32 → length f.clauses < 2 ^ 32
    → cnf_kept (lines_of (cnf_text f)) ≡ placed_line 1 0 (header_piece f.vars (length f.clauses))
    ∷ cnf_kept (lines_from 2 (0 + length (header_piece f.vars (length f.clauses)) + 1) (flat_map clause_line f.clauses))
unfolding lines_of header_piece
cnf_lines f small few =
    let count = length f.clauses in
    let piece = header_piece f.vars count in
    let rest = flat_map clause_line f.clauses in
    let line = placed_line 1 0 piece in
    let left = lines_from 2 (0 + length piece + 1) rest in
    ap (λ x. cnf_kept (lines_from 1 0 (codes "p cnf " ++ x))) (header_apart (decimal f.vars) (decimal count) rest)
    ∙ ap cnf_kept (lines_from-more 1 0 piece rest (header_ends f.vars count small few))
    ∙ cnf_kept-keeps line left (ap is_comment (header_fields f.vars count small few))

pub cnf_back : (f : Formula) → IsFormula f → IsCnfText (cnf_text f) f
cnf_back f is =
    let few = is.few in
    let few_clauses = is.few_clauses in
    let small : f.vars < 2 ^ 32 = omega arith in
    let low : length f.clauses < 2 ^ 32 = omega arith in
    let count = length f.clauses in
    record {
      header = placed_line 1 0 (header_piece f.vars count);
      others = cnf_kept (lines_from 2 (0 + length (header_piece f.vars count) + 1) (flat_map clause_line f.clauses));
      count = count;
      lines = cnf_lines f small low;
      header_is = record {
        vars_field = decimal f.vars;
        count_field = decimal count;
        fields_are = header_fields f.vars count small low;
        vars_are = decimal_number f.vars small;
        count_is = decimal_number count low;
        few = is.few;
        few_clauses = is.few_clauses;
      };
      clauses_are = clauses_read (end_of (cnf_text f)) f.vars count 2 (0 + length (header_piece f.vars count) + 1) []
          f.clauses is.few is.clauses refl;
    }
