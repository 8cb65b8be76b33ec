-- The facts of a line of an APX text, one after the other.
use Rattle.std.proofs.Common.{◌≡◌, ℕ, ◌+◌, ◌<◌, Bool, false, List, [], ◌∷◌, ◌++◌, length, drop, get_or, map, refl, sym, ap, ◌∙◌, arith}
use Rattle.std.specs.Prelude.{All, fold, IsTrue, ◌↔◌}
use Rattle.std.specs.List.{flat_map}
use Rattle.std.proofs.lemmas.List.{append_assoc, append-nil, map-append, length-append}
use Rattle.std.proofs.lemmas.Grind.{flat_map-append, fold-append}
use Rattle.std.proofs.lemmas.Bool.{true≢false}
use Rattle.std.proofs.lemmas.List.Elements.{All-nil, All-cons, All-head, All-tail, All-append}
use Rattle.num_text.specs.Cuts.{LineText, field_texts}
use Rattle.apx_tgf.specs.Told.{Told, Statement, told_after, told_after_line}
use Rattle.apx_tgf.specs.ApxText.{Fact, HasNames, fact_tokens, statement_of, BeginWithPercent, IsApxLine, tokens_of}
use Rattle.apx_tgf.specs.ApxText.Fact.{arg, att}
use Rattle.apx_tgf.specs.ApxText.IsApxLine.{remark, facts}
use Rattle.apx_tgf.specs.Facts.{BeginWithNoFact}
use Rattle.apx_tgf.specs.declared.fault.ReadFault.{ReadFault}
use Rattle.apx_tgf.specs.declared.fault.ReadFault.TheVariants.{Line, Memory}
use Rattle.apx_tgf.specs.Taking.{TakesFact, TakesApxLine, IsNoFactFault, IsNoApxLine}

-- the tokens are those of facts, which are told, and those that are left
pub record HasTaken (line : ℕ) (tokens left : List (List ℕ)) (old told : Told) : Type 0 where
  pub taken : List Fact
  pub tokens_are : tokens ≡ flat_map fact_tokens taken ++ left
  pub names : All HasNames taken
  pub told_is : told ≡ told_after_line old (map (statement_of line) taken)

pub taken_none : (line : ℕ) (tokens : List (List ℕ)) (told : Told) → HasTaken line tokens tokens told told
taken_none line tokens told = record { taken = []; tokens_are = refl; names = All-nil HasNames; told_is = refl }

pub taken_more : (line : ℕ) (tokens left rest : List (List ℕ)) (old told new : Told)
    → HasTaken line tokens left old told → TakesFact line left rest told new → HasTaken line tokens rest old new
taken_more line tokens left rest old told new h more =
    let f = more.fact in
    record {
      taken = h.taken ++ f ∷ [];
      tokens_are = h.tokens_are ∙ ap (λ ts. flat_map fact_tokens h.taken ++ ts) more.begins.tokens_are
          ∙ sym (append_assoc (flat_map fact_tokens h.taken) (fact_tokens f) rest)
          ∙ ap (λ ts. (flat_map fact_tokens h.taken ++ ts) ++ rest) (sym (append-nil (fact_tokens f)))
          ∙ ap (λ ts. ts ++ rest) (sym (flat_map-append fact_tokens h.taken (f ∷ [])));
      names = All-append HasNames h.taken (f ∷ []) h.names
          (All-cons HasNames f [] more.begins.names (All-nil HasNames));
      told_is = more.new_is ∙ ap (λ t. told_after t (statement_of line f)) h.told_is
          ∙ sym (ap (λ ss. fold told_after old ss) (map-append (statement_of line) h.taken (f ∷ []))
          ∙ fold-append told_after old (map (statement_of line) h.taken) (statement_of line f ∷ []));
    }

-- where no token is left, the line is taken
pub taken_all : (line : LineText) (left : List (List ℕ)) (old told : Told)
    → (BeginWithPercent (field_texts line.text) → ⊥) → HasTaken line.number (tokens_of line.text) left old told
    → left ≡ [] → TakesApxLine line old told
taken_all line left old told no_remark h none = record {
  statements = map (statement_of line.number) h.taken;
  line_is = facts h.taken no_remark (record {
    tokens_are = h.tokens_are ∙ ap (λ ts. flat_map fact_tokens h.taken ++ ts) none
        ∙ append-nil (flat_map fact_tokens h.taken);
    names = h.names;
  }) refl;
  new_is = h.told_is;
}

-- a remark is taken, and tells nothing
pub remark_taken : (line : LineText) (told : Told) → BeginWithPercent (field_texts line.text)
    → TakesApxLine line told told
remark_taken line told is = record { statements = []; line_is = remark is refl; new_is = refl }

-- ---- one fact

some_tokens : (f : Fact) (rest : List (List ℕ)) → fact_tokens f ++ rest ≡ [] → ⊥
some_tokens (arg name) rest e = let n = ap length e in absurd (omega arith)
some_tokens (att a b) rest e = let n = ap length e in absurd (omega arith)

kinds_differ : (m n : ℕ) → m ≡ n → m ≡ 114 → n ≡ 116 → ⊥
kinds_differ m n e a b = absurd (omega arith)

-- what follows two facts with the same tokens
after_same : (f g : Fact) (xs ys : List (List ℕ)) → fact_tokens f ++ xs ≡ fact_tokens g ++ ys → xs ≡ ys
after_same (arg a) (arg b) xs ys e = ap (λ ts. drop 5 ts) e
after_same (arg a) (att b c) xs ys e =
    absurd (kinds_differ _ _ (ap (λ ts. get_or (get_or ts 0 []) 1 0) e) refl refl)
after_same (att a b) (arg c) xs ys e =
    absurd (kinds_differ _ _ (ap (λ ts. get_or (get_or ts 0 []) 1 0) (sym e)) refl refl)
after_same (att a b) (att c d) xs ys e = ap (λ ts. drop 7 ts) e

fact_same : (f g : Fact) (xs ys : List (List ℕ)) → fact_tokens f ++ xs ≡ fact_tokens g ++ ys → f ≡ g
fact_same (arg a) (arg b) xs ys e = ap (λ ts. arg (get_or ts 2 [])) e
fact_same (arg a) (att b c) xs ys e =
    absurd (kinds_differ _ _ (ap (λ ts. get_or (get_or ts 0 []) 1 0) e) refl refl)
fact_same (att a b) (arg c) xs ys e =
    absurd (kinds_differ _ _ (ap (λ ts. get_or (get_or ts 0 []) 1 0) (sym e)) refl refl)
fact_same (att a b) (att c d) xs ys e = ap (λ ts. att (get_or ts 2 []) (get_or ts 4 [])) e

-- tokens are those of the same facts alone
facts_same : (fs gs : List Fact) → flat_map fact_tokens fs ≡ flat_map fact_tokens gs → fs ≡ gs
facts_same [] [] e = refl
facts_same [] (g ∷ gs) e = absurd (some_tokens g (flat_map fact_tokens gs) (sym e))
facts_same (f ∷ fs) [] e = absurd (some_tokens f (flat_map fact_tokens fs) e)
facts_same (f ∷ fs) (g ∷ gs) e =
    ap (λ h. h ∷ fs) (fact_same f g (flat_map fact_tokens fs) (flat_map fact_tokens gs) e)
    ∙ ap (λ hs. g ∷ hs) (facts_same fs gs (after_same f g (flat_map fact_tokens fs) (flat_map fact_tokens gs) e))

-- what follows facts are the tokens of facts, or the whole are not
no_facts : (taken fs : List Fact) (first : List ℕ) (rest : List (List ℕ))
    → flat_map fact_tokens taken ++ first ∷ rest ≡ flat_map fact_tokens fs → All HasNames fs
    → BeginWithNoFact (first ∷ rest) → ⊥
no_facts [] [] first rest e names none = let n = ap length e in absurd (omega arith)
no_facts [] (f ∷ fs) first rest e names none =
    none f (flat_map fact_tokens fs) (record { tokens_are = e; names = All-head HasNames f fs names })
no_facts (g ∷ gs) [] first rest e names none =
    some_tokens g (flat_map fact_tokens gs ++ first ∷ rest)
    (sym (append_assoc (fact_tokens g) (flat_map fact_tokens gs) (first ∷ rest)) ∙ e)
no_facts (g ∷ gs) (f ∷ fs) first rest e names none =
    no_facts gs fs first rest
    (after_same g f (flat_map fact_tokens gs ++ first ∷ rest) (flat_map fact_tokens fs)
    (sym (append_assoc (fact_tokens g) (flat_map fact_tokens gs) (first ∷ rest)) ∙ e))
    (All-tail HasNames f fs names) none

-- where no fact follows those that are taken, the line is bad
pub bad_line : (line : LineText) (first : List ℕ) (left rest : List (List ℕ)) (old told : Told)
    → (BeginWithPercent (field_texts line.text) → ⊥) → HasTaken line.number (tokens_of line.text) left old told
    → left ≡ first ∷ rest → BeginWithNoFact (first ∷ rest) → (statements : List Statement)
    → IsApxLine line statements → ⊥
bad_line line first left rest old told no_remark h is none statements (remark percent nothing) = no_remark percent
bad_line line first left rest old told no_remark h is none statements (facts fs others are said) =
    no_facts h.taken fs first rest
    (ap (λ ts. flat_map fact_tokens h.taken ++ ts) (sym is) ∙ sym h.tokens_are ∙ are.tokens_are) are.names none

-- a line says one thing alone
pub IsApxLine-same : (line : LineText) (s t : List Statement) → IsApxLine line s → IsApxLine line t → s ≡ t
IsApxLine-same line s t (remark p a) (remark q b) = a ∙ sym b
IsApxLine-same line s t (remark p a) (facts gs others are b) = absurd (others p)
IsApxLine-same line s t (facts fs others are a) (remark q b) = absurd (others q)
IsApxLine-same line s t (facts fs others are a) (facts gs others' are' b) =
    a ∙ ap (λ xs. map (statement_of line.number) xs) (facts_same fs gs (sym are.tokens_are ∙ are'.tokens_are)) ∙ sym b

-- a fact that is taken leaves fewer tokens
pub fewer_left : (line : ℕ) (tokens next left : List (List ℕ)) (first : List ℕ) (old new : Told)
    → tokens ≡ first ∷ next → TakesFact line (first ∷ next) left old new → length left < length tokens
fewer_left line tokens next left first old new is taken =
    let long : length tokens ≡ length (fact_tokens taken.fact) + length left
    = ap length is ∙ ap length taken.begins.tokens_are ∙ length-append (fact_tokens taken.fact) left in
    let some = some_length taken.fact in
    omega arith
  where
    some_length : (f : Fact) → 0 < length (fact_tokens f)
    some_length (arg name) = omega arith
    some_length (att a b) = omega arith

pub bad_line_told : (line : LineText) (first : List ℕ) (left rest : List (List ℕ)) (old told : Told) (e : ReadFault)
    → (BeginWithPercent (field_texts line.text) → ⊥) → HasTaken line.number (tokens_of line.text) left old told
    → left ≡ first ∷ rest → IsNoFactFault line.number (first ∷ rest) e → IsNoApxLine line e
bad_line_told line first left rest old told (Line fault) no_remark h is bad =
    (bad.0, bad.1, bad_line line first left rest old told no_remark h is bad.2)
bad_line_told line first left rest old told Memory no_remark h is bad = tt

-- what a test denies
pub otherwise : (test : Bool) (P : Type 0) → IsTrue test ↔ P → test ≡ false → P → ⊥
otherwise test P says denied is = absurd (true≢false (sym (says.1 is) ∙ denied))
