-- What is declared are names.
use Rattle.std.proofs.Common.{ℕ, Bool, true, false, List, [], ◌∷◌, ◌++◌, map, sym, subst}
use Rattle.std.specs.Prelude.{All, fold, if◌then◌else◌}
use Rattle.std.proofs.lemmas.List.Elements.{All-nil, All-cons, All-head, All-tail, All-append}
use Rattle.num_text.specs.Cuts.{LineText, lines_of}
use Rattle.semantics.specs.Framework.{Af}
use Rattle.apx_tgf.specs.declared.format.NameFormat.{NameFormat}
use Rattle.apx_tgf.specs.declared.format.NameFormat.TheVariants.{Apx, Tgf}
use Rattle.apx_tgf.specs.Names.{IsName, AreNames, has_name, with_name}
use Rattle.apx_tgf.specs.Told.{Told, Statement, nothing_told, told_after, told_after_line}
use Rattle.apx_tgf.specs.Told.Statement.{declares, tells}
use Rattle.apx_tgf.specs.ApxText.{Fact, HasNames, statement_of, IsApxLine}
use Rattle.apx_tgf.specs.ApxText.Fact.{arg, att}
use Rattle.apx_tgf.specs.ApxText.IsApxLine.{remark, facts}
use Rattle.apx_tgf.specs.TgfText.{IsTgfLine}
use Rattle.apx_tgf.specs.TgfText.IsTgfLine.{blank, node, divides, edge}
use Rattle.apx_tgf.specs.NamedText.{SaysLine, AreSaid, ReadsAs}

-- what the statement declares is a name
abbrev DeclaresName : Statement → Type 0
DeclaresName (declares name) = IsName name
DeclaresName (tells attack) = Unit {0}

fact_declares : (line : ℕ) (f : Fact) → HasNames f → DeclaresName (statement_of line f)
fact_declares line (arg name) h = h
fact_declares line (att a b) h = tt

facts_declare : (line : ℕ) (fs : List Fact) → All HasNames fs → All DeclaresName (map (statement_of line) fs)
facts_declare line [] h = All-nil DeclaresName
facts_declare line (f ∷ fs) h = All-cons DeclaresName (statement_of line f) (map (statement_of line) fs)
    (fact_declares line f (All-head HasNames f fs h)) (facts_declare line fs (All-tail HasNames f fs h))

apx_declares : (line : LineText) (s : List Statement) → IsApxLine line s → All DeclaresName s
apx_declares line s (remark p e) = subst (All DeclaresName) (sym e) (All-nil DeclaresName)
apx_declares line s (facts fs others are e) =
    subst (All DeclaresName) (sym e) (facts_declare line.number fs are.names)

tgf_declares : (d : Bool) (line : LineText) (s : List Statement) (a : Bool) → IsTgfLine d line s a
    → All DeclaresName s
tgf_declares d line s a (blank f e v) = subst (All DeclaresName) (sym e) (All-nil DeclaresName)
tgf_declares d line s a (node n l e g i u v) =
    subst (All DeclaresName) (sym u) (All-cons DeclaresName (declares n) [] i (All-nil DeclaresName))
tgf_declares d line s a (divides e g u v) = subst (All DeclaresName) (sym u) (All-nil DeclaresName)
tgf_declares d line s a (edge p q l e g i j u v) =
    subst (All DeclaresName) (sym u)
    (All-cons DeclaresName (tells (record { line = line.number; attacker = p; target = q })) [] tt
    (All-nil DeclaresName))

line_declares : (format : NameFormat) (d : Bool) (line : LineText) (s : List Statement) (a : Bool)
    → SaysLine format d line s a → All DeclaresName s
line_declares Apx d line s a h = apx_declares line s h.0
line_declares Tgf d line s a h = tgf_declares d line s a h

with_name-names : (names : List (List ℕ)) (name : List ℕ) → AreNames names → IsName name
    → AreNames (with_name names name)
unfolding with_name
with_name-names names name are is = go names name (has_name names name) are is
  where
    go : (names : List (List ℕ)) (name : List ℕ) (there : Bool) → AreNames names → IsName name
        → AreNames (if there then names else names ++ name ∷ [])
    go names name true are is = are
    go names name false are is = All-append IsName names (name ∷ []) are (All-cons IsName name [] is (All-nil IsName))

statement_names : (told : Told) (s : Statement) → AreNames told.names → DeclaresName s
    → AreNames (told_after told s).names
unfolding told_after
statement_names told (declares name) are is = with_name-names told.names name are is
statement_names told (tells attack) are is = are

line_names : (told : Told) (s : List Statement) → AreNames told.names → All DeclaresName s
    → AreNames (told_after_line told s).names
line_names told [] are all = are
line_names told (x ∷ s) are all = line_names (told_after told x) s
    (statement_names told x are (All-head DeclaresName x s all)) (All-tail DeclaresName x s all)

said_names : (format : NameFormat) (d a : Bool) (lines : List LineText) (says : List (List Statement)) (told : Told)
    → AreSaid format d lines says a → AreNames told.names → AreNames (fold told_after_line told says).names
unfolding AreSaid
said_names format d a [] [] told h are = are
said_names format d a [] (s ∷ says) told h are = absurd h
said_names format d a (l ∷ lines) [] told h are = absurd h
said_names format d a (l ∷ lines) (s ∷ says) told h are =
    said_names format h.after a lines says (told_after_line told s) h.rest
    (line_names told s are (line_declares format d l s h.after h.line_is))

-- the names of a framework that is read are names
pub ReadsAs-names : (format : NameFormat) (bytes : List ℕ) (names : List (List ℕ)) (f : Af)
    → ReadsAs format bytes names f → AreNames names
ReadsAs-names format bytes names f r = subst AreNames (sym r.names_are)
    (said_names format false r.last (lines_of bytes) r.says nothing_told r.lines_are (All-nil IsName))
