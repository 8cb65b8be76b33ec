-- A line of either format says one thing alone.
use Rattle.std.proofs.Common.{◌≡◌, ℕ, Bool, true, false, List, [], ◌∷◌, length, get_or, refl, sym, ap, subst, ◌∙◌, arith}
use Rattle.std.specs.Prelude.{codes}
use Rattle.std.proofs.lemmas.Bool.{true≢false}
use Rattle.std.proofs.lemmas.List.Elements.{All-head}
use Rattle.num_text.specs.Cuts.{LineText}
use Rattle.apx_tgf.specs.declared.format.NameFormat.{NameFormat}
use Rattle.apx_tgf.specs.declared.format.NameFormat.TheVariants.{Apx, Tgf}
use Rattle.apx_tgf.specs.declared.fault.ReadFault.{ReadFault}
use Rattle.apx_tgf.specs.declared.fault.ReadFault.TheVariants.{Line, Memory}
use Rattle.apx_tgf.specs.Names.{is_name_byte, IsName}
use Rattle.apx_tgf.specs.Told.{Told, Statement}
use Rattle.apx_tgf.specs.Told.Statement.{declares, tells}
use Rattle.apx_tgf.specs.TgfText.{IsTgfLine}
use Rattle.apx_tgf.specs.TgfText.IsTgfLine.{blank, node, divides, edge}
use Rattle.apx_tgf.specs.NamedText.{SaysLine}
use Rattle.apx_tgf.specs.Taking.{TakesLine, TakesApxLine, IsNoLine, IsNoApxLine}
use Rattle.apx_tgf.proofs.ApxLemmas.{IsApxLine-same}

-- ---- lines of an APX text as lines of either format

pub apx_line_taken : (format : NameFormat) (divided : Bool) (line : LineText) (old new : Told) → format ≡ Apx
    → TakesApxLine line old new → TakesLine format divided line old new divided
apx_line_taken format divided line old new is h = subst (λ f. TakesLine f divided line old new divided) (sym is)
    (record { statements = h.statements; line_is = (h.line_is, refl); new_is = h.new_is })

bad_apx_line : (divided : Bool) (line : LineText) (e : ReadFault) → IsNoApxLine line e → IsNoLine Apx divided line e
bad_apx_line divided line (Line fault) bad = (bad.0, bad.1, λ statements after says. bad.2 statements says.0)
bad_apx_line divided line Memory bad = tt

pub apx_line_bad : (format : NameFormat) (divided : Bool) (line : LineText) (e : ReadFault) → format ≡ Apx
    → IsNoApxLine line e → IsNoLine format divided line e
apx_line_bad format divided line e is bad =
    subst (λ f. IsNoLine f divided line e) (sym is) (bad_apx_line divided line e bad)

-- ---- one reading

nil_not_cons : (x : List ℕ) (xs : List (List ℕ)) → [] ≡ x ∷ xs → ⊥
nil_not_cons x xs e = let n = ap length e in absurd (omega arith)

both_ways : (b : Bool) → b ≡ true → b ≡ false → ⊥
both_ways b e f = absurd (true≢false (sym e ∙ f))

hash_is_no_name : (name : List ℕ) → IsName name → name ≡ codes "#" → ⊥
hash_is_no_name name is e =
    let hash : IsName (codes "#") = subst IsName e is in
    absurd (true≢false (sym (All-head (λ byte. is_name_byte byte ≡ true) 35 [] hash.bytes) ∙ refl))

firsts : (xs ys : List (List ℕ)) → xs ≡ ys → get_or xs 0 [] ≡ get_or ys 0 []
firsts xs ys e = ap (λ ts. get_or ts 0 []) e

seconds : (xs ys : List (List ℕ)) → xs ≡ ys → get_or xs 1 [] ≡ get_or ys 1 []
seconds xs ys e = ap (λ ts. get_or ts 1 []) e

IsTgfLine-same : (d : Bool) (line : LineText) (s t : List Statement) (a b : Bool) → IsTgfLine d line s a
    → IsTgfLine d line t b → (s ≡ t) × (a ≡ b)
IsTgfLine-same d line s t a b (blank f x y) (blank g u v) = (x ∙ sym u, y ∙ sym v)
IsTgfLine-same d line s t a b (blank f x y) (node n l e g i u v) = absurd (nil_not_cons n l (sym f ∙ g))
IsTgfLine-same d line s t a b (blank f x y) (divides e g u v) = absurd (nil_not_cons (codes "#") [] (sym f ∙ g))
IsTgfLine-same d line s t a b (blank f x y) (edge p q l e g i j u v) =
    absurd (nil_not_cons p (q ∷ l) (sym f ∙ g))
IsTgfLine-same d line s t a b (node n l e g i u v) (blank f x y) = absurd (nil_not_cons n l (sym f ∙ g))
IsTgfLine-same d line s t a b (node n l e g i u v) (node m k e' h j x y) =
    (u ∙ ap (λ name. declares name ∷ []) (firsts (n ∷ l) (m ∷ k) (sym g ∙ h)) ∙ sym x, v ∙ sym y)
IsTgfLine-same d line s t a b (node n l e g i u v) (divides e' h x y) =
    absurd (hash_is_no_name n i (firsts (n ∷ l) (codes "#" ∷ []) (sym g ∙ h)))
IsTgfLine-same d line s t a b (node n l e g i u v) (edge p q k e' h j j' x y) = absurd (both_ways d e' e)
IsTgfLine-same d line s t a b (divides e g u v) (blank f x y) = absurd (nil_not_cons (codes "#") [] (sym f ∙ g))
IsTgfLine-same d line s t a b (divides e g u v) (node n l e' h i x y) =
    absurd (hash_is_no_name n i (firsts (n ∷ l) (codes "#" ∷ []) (sym h ∙ g)))
IsTgfLine-same d line s t a b (divides e g u v) (divides e' h x y) = (u ∙ sym x, v ∙ sym y)
IsTgfLine-same d line s t a b (divides e g u v) (edge p q k e' h j j' x y) = absurd (both_ways d e' e)
IsTgfLine-same d line s t a b (edge p q l e g i j u v) (blank f x y) =
    absurd (nil_not_cons p (q ∷ l) (sym f ∙ g))
IsTgfLine-same d line s t a b (edge p q l e g i j u v) (node n k e' h j' x y) = absurd (both_ways d e e')
IsTgfLine-same d line s t a b (edge p q l e g i j u v) (divides e' h x y) = absurd (both_ways d e e')
IsTgfLine-same d line s t a b (edge p q l e g i j u v) (edge p' q' l' e' h i' j' x y) =
    let first = firsts (p ∷ q ∷ l) (p' ∷ q' ∷ l') (sym g ∙ h) in
    let second = seconds (p ∷ q ∷ l) (p' ∷ q' ∷ l') (sym g ∙ h) in (
      u ∙ ap (λ name. tells (record { line = line.number; attacker = name; target = q }) ∷ []) first
          ∙ ap (λ name. tells (record { line = line.number; attacker = p'; target = name }) ∷ []) second ∙ sym x,
      v ∙ sym y,
    )

pub SaysLine-same : (format : NameFormat) (d : Bool) (line : LineText) (s t : List Statement) (a b : Bool)
    → SaysLine format d line s a → SaysLine format d line t b → (s ≡ t) × (a ≡ b)
SaysLine-same Apx d line s t a b says says' = (IsApxLine-same line s t says.0 says'.0, says.1 ∙ sym says'.1)
SaysLine-same Tgf d line s t a b says says' = IsTgfLine-same d line s t a b says says'
