-- Steps by their parts, side by side.
use Rattle.std.proofs.Common.{◌≡◌, ℕ, zero, suc, ◌<◌, ◌-◌, List, [], ◌∷◌, ◌++◌, length, get_or, take, arith, ap, refl}
use Rattle.std.proofs.Common.{◌∙◌, map, sym, Option}
use Rattle.std.proofs.lemmas.List.{length-take-le, take-map}
use Rattle.std.proofs.Common.{false}
use Rattle.std.specs.Prelude.{Result, Ok, Err, OnOk}
use Rattle.std.specs.Result.{is_err}
use Rattle.std.proofs.lemmas.Bool.{false≢true}
use Rattle.plain_lits.specs.declared.lit.Lit.{Lit}
use Rattle.hinted_log.specs.declared.step_kind.StepKind.{StepKind}
use Rattle.hinted_log.specs.declared.step_kind.StepKind.TheVariants.{Axiom}
use Rattle.hinted_log.specs.FirstLiterals.{AreFirsts, first_of}
use Rattle.hinted_log.specs.Logs.{Step, no_step, clauses_of, steps_of, AreParts}

abbrev pub step_of : List Lit → StepKind → List ℕ → Step
step_of clause kind hints = record { clause = clause; kind = kind; hints = hints }

rest_parts : (c : List Lit) (cs : List (List Lit)) (k : StepKind) (ks : List StepKind) (h : List ℕ) (hs : List (List ℕ))
    → AreParts (c ∷ cs) (k ∷ ks) (h ∷ hs) → AreParts cs ks hs
rest_parts c cs k ks h hs p =
    let a = p.kinds_long in
    let b = p.hints_long in
    record { kinds_long = omega arith; hints_long = omega arith }

no_kinds : (c : List Lit) (cs : List (List Lit)) (hs : List (List ℕ)) → AreParts (c ∷ cs) [] hs → ⊥
no_kinds c cs hs p = let a = p.kinds_long in omega arith

no_hints : (c : List Lit) (cs : List (List Lit)) (ks : List StepKind) → AreParts (c ∷ cs) ks [] → ⊥
no_hints c cs ks p = let a = p.hints_long in omega arith

pub length-steps_of : (cs : List (List Lit)) (ks : List StepKind) (hs : List (List ℕ)) → AreParts cs ks hs
    → length (steps_of cs ks hs) ≡ length cs
length-steps_of [] ks hs p = refl
length-steps_of (c ∷ cs) [] hs p = absurd (no_kinds c cs hs p)
length-steps_of (c ∷ cs) (k ∷ ks) [] p = absurd (no_hints c cs (k ∷ ks) p)
length-steps_of (c ∷ cs) (k ∷ ks) (h ∷ hs) p = ap suc (length-steps_of cs ks hs (rest_parts c cs k ks h hs p))

-- an index of the steps is one of their clauses
pub within_parts : (cs : List (List Lit)) (ks : List StepKind) (hs : List (List ℕ)) (steps : List Step) (i : ℕ)
    → AreParts cs ks hs → steps_of cs ks hs ≡ steps → i < length steps → i < length cs
within_parts cs ks hs steps i p view lt = omega (arith, length-steps_of cs ks hs p, ap length view)

pub clauses-steps_of : (cs : List (List Lit)) (ks : List StepKind) (hs : List (List ℕ)) → AreParts cs ks hs
    → cs ≡ clauses_of (steps_of cs ks hs)
clauses-steps_of [] ks hs p = refl
clauses-steps_of (c ∷ cs) [] hs p = absurd (no_kinds c cs hs p)
clauses-steps_of (c ∷ cs) (k ∷ ks) [] p = absurd (no_hints c cs (k ∷ ks) p)
clauses-steps_of (c ∷ cs) (k ∷ ks) (h ∷ hs) p =
    ap (λ rest. c ∷ rest) (clauses-steps_of cs ks hs (rest_parts c cs k ks h hs p))

pub steps_of-at : (cs : List (List Lit)) (ks : List StepKind) (hs : List (List ℕ)) (i : ℕ) → AreParts cs ks hs
    → i < length cs
    → get_or (steps_of cs ks hs) i no_step ≡ step_of (get_or cs i []) (get_or ks i Axiom) (get_or hs i [])
steps_of-at [] ks hs i p lt = absurd (omega arith)
steps_of-at (c ∷ cs) [] hs i p lt = absurd (no_kinds c cs hs p)
steps_of-at (c ∷ cs) (k ∷ ks) [] i p lt = absurd (no_hints c cs (k ∷ ks) p)
steps_of-at (c ∷ cs) (k ∷ ks) (h ∷ hs) zero p lt = refl
steps_of-at (c ∷ cs) (k ∷ ks) (h ∷ hs) (suc i) p lt = steps_of-at cs ks hs i (rest_parts c cs k ks h hs p) (omega arith)

pub steps_of-push : (cs : List (List Lit)) (ks : List StepKind) (hs : List (List ℕ)) (c : List Lit) (k : StepKind)
    (h : List ℕ)
    → AreParts cs ks hs
    → steps_of (cs ++ c ∷ []) (ks ++ k ∷ []) (hs ++ h ∷ []) ≡ steps_of cs ks hs ++ step_of c k h ∷ []
steps_of-push [] [] [] c k h p = refl
steps_of-push [] (k2 ∷ ks) hs c k h p = let a = p.kinds_long in absurd (omega arith)
steps_of-push [] [] (h2 ∷ hs) c k h p = let a = p.hints_long in absurd (omega arith)
steps_of-push (c2 ∷ cs) [] hs c k h p = absurd (no_kinds c2 cs hs p)
steps_of-push (c2 ∷ cs) (k2 ∷ ks) [] c k h p = absurd (no_hints c2 cs (k2 ∷ ks) p)
steps_of-push (c2 ∷ cs) (k2 ∷ ks) (h2 ∷ hs) c k h p = ap (λ rest. step_of c2 k2 h2 ∷ rest)
    (steps_of-push cs ks hs c k h (rest_parts c2 cs k2 ks h2 hs p))

-- the steps after a push, by what the parts become
pub pushed_step : (cs ncs : List (List Lit)) (ks nks : List StepKind) (hs nhs : List (List ℕ)) (c : List Lit)
    (k : StepKind)
    (h : List ℕ)
    → AreParts cs ks hs → ncs ≡ cs ++ c ∷ [] → nks ≡ ks ++ k ∷ [] → nhs ≡ hs ++ h ∷ []
    → steps_of ncs nks nhs ≡ steps_of cs ks hs ++ step_of c k h ∷ []
pushed_step cs ncs ks nks hs nhs c k h p e1 e2 e3 = rw (e1, e2, e3) (steps_of-push cs ks hs c k h p)

-- the first steps, by the first parts
pub steps_of-take : (n : ℕ) (cs : List (List Lit)) (ks : List StepKind) (hs : List (List ℕ)) → AreParts cs ks hs
    → steps_of (take n cs) (take n ks) (take n hs) ≡ take n (steps_of cs ks hs)
steps_of-take zero cs ks hs p = refl
steps_of-take (suc n) [] ks hs p = refl
steps_of-take (suc n) (c ∷ cs) [] hs p = absurd (no_kinds c cs hs p)
steps_of-take (suc n) (c ∷ cs) (k ∷ ks) [] p = absurd (no_hints c cs (k ∷ ks) p)
steps_of-take (suc n) (c ∷ cs) (k ∷ ks) (h ∷ hs) p =
    ap (λ rest. step_of c k h ∷ rest) (steps_of-take n cs ks hs (rest_parts c cs k ks h hs p))

-- the parts after a pop, and the steps, by what the parts become
pub popped_parts : (cs ncs : List (List Lit)) (ks nks : List StepKind) (hs nhs : List (List ℕ)) → AreParts cs ks hs
    → 0 < length cs → ncs ≡ take (length cs - 1) cs → nks ≡ take (length cs - 1) ks → nhs ≡ take (length hs - 1) hs
    → AreParts ncs nks nhs
popped_parts cs ncs ks nks hs nhs p some e1 e2 e3 =
    let a = p.kinds_long in
    let b = p.hints_long in
    let l1 = ap length e1 ∙ length-take-le (length cs - 1) cs (omega arith) in
    let l2 = ap length e2 ∙ length-take-le (length cs - 1) ks (omega arith) in
    let l3 = ap length e3 ∙ length-take-le (length hs - 1) hs (omega arith) in
    record { kinds_long = omega arith; hints_long = omega arith }

pub popped_steps : (cs ncs : List (List Lit)) (ks nks : List StepKind) (hs nhs : List (List ℕ)) → AreParts cs ks hs
    → ncs ≡ take (length cs - 1) cs → nks ≡ take (length cs - 1) ks → nhs ≡ take (length hs - 1) hs
    → steps_of ncs nks nhs ≡ take (length (steps_of cs ks hs) - 1) (steps_of cs ks hs)
popped_steps cs ncs ks nks hs nhs p e1 e2 e3 =
    let b : length hs ≡ length cs = p.hints_long in
    rw (e1, e2, e3, b, length-steps_of cs ks hs p) (steps_of-take (length cs - 1) cs ks hs p)

-- the first literals after a pop
pub popped_firsts : (cs ncs : List (List Lit)) (fs nfs : List (Option Lit)) → AreFirsts cs fs
    → ncs ≡ take (length cs - 1) cs → nfs ≡ take (length cs - 1) fs → AreFirsts ncs nfs
popped_firsts cs ncs fs nfs h e1 e2 = record {
  same = e2 ∙ (ap (take (length cs - 1)) h.same ∙ (take-map first_of (length cs - 1) cs ∙ ap (map first_of) (sym e1)));
}

-- what a success promises, where there was no error
pub given_ok : {T E : Type 0} (r : Result T E) (P : Type 0) → OnOk r P → false ≡ is_err r → P
given_ok (Ok x) P h e = h
given_ok (Err f) P h e = absurd (false≢true e)
