-- The lines of a CNF, as they are read.
use Rattle.std.proofs.Common.{◌≡◌, ℕ, ◌<◌, ◌≤◌, Bool, true, false, List, [], ◌∷◌, ◌++◌, fold, append_assoc, inl, ap, sym, subst, refl, ◌∙◌, arith}
use Rattle.std.specs.Prelude.{Result}
use Rattle.num_text.specs.Cuts.{LineText, field_texts}
use Rattle.std.specs.List.{AllZip}
use Rattle.std.proofs.lemmas.List.{append-nil}
use Rattle.lists.proofs.Zips.{zip_push}
use Rattle.plain_lits.specs.declared.lit.Lit.{Lit}
use Rattle.lrat_text.specs.declared.fault.CnfCause.{CnfCause}
use Rattle.lrat_text.specs.declared.fault.CnfCause.TheVariants.{NoHeader, BadHeader, BadNumber, OutOfRange, ClauseCount}
use Rattle.lrat_text.specs.Causes.{IsFirstCnfCause, cnf_rank}
use Rattle.lrat_text.specs.Numbers.{IsSigned, HasNoSigned}
use Rattle.lrat_text.specs.CnfText.{Cut, adds, SpellsBounded, HasOver, Leads, LineStands, ReadsTo}
use Rattle.lrat_text.proofs.LineParts.{among, kept_among, signed_more, zip_partner}

fold_push : (c : Cut) (numbers : List Lit) (l : Lit) → fold adds c (numbers ++ l ∷ []) ≡ adds (fold adds c numbers) l
fold_push c [] l = refl
fold_push c (n ∷ numbers) l = fold_push (adds c n) numbers l

-- the fields so far: all are numbers, and none is over the variables, or some is
abbrev pub LineSoFar : ℕ → List (List ℕ) → Cut → Cut → Bool → Type 0
LineSoFar vars front before after false = Leads vars front before after
LineSoFar vars front before after true = (HasNoSigned front → ⊥) × HasOver vars front

pub record LineTo (vars : ℕ) (fields left : List (List ℕ)) (before after : Cut) (over : Bool) : Type 0 where
  pub front : List (List ℕ)
  pub cut : fields ≡ front ++ left
  pub says : LineSoFar vars front before after over

pub line_start : (vars : ℕ) (fields : List (List ℕ)) (c : Cut) → LineTo vars fields fields c c false
line_start vars fields c =
    record { front = []; cut = refl; says = record { numbers = []; spelled = tt; leads_to = refl } }

pub all_bounded : (vars : ℕ) (front : List (List ℕ)) (numbers : List Lit) → AllZip (SpellsBounded vars) front numbers
    → HasNoSigned front → ⊥
all_bounded vars front numbers all bad =
    let partner = zip_partner (SpellsBounded vars) front numbers bad.field all bad.listed in
    bad.none partner.0 partner.1.signed

-- one number more
within_next : (vars : ℕ) (front : List (List ℕ)) (before after more : Cut) (over : Bool) (field : List ℕ) (l : Lit)
    → LineSoFar vars front before after over → IsSigned field l → l.var ≤ vars → more ≡ adds after l
    → LineSoFar vars (front ++ field ∷ []) before more over
within_next vars front before after more false field l says is low added = record {
  numbers = says.numbers ++ l ∷ [];
  spelled = zip_push (SpellsBounded vars) front says.numbers field l says.spelled (record { signed = is; within = low });
  leads_to = added ∙ (ap (λ c. adds c l) says.leads_to ∙ sym (fold_push before says.numbers l));
}
within_next vars front before after more true field l says is low added = (
  signed_more front field l is says.0,
  record {
    field = says.1.field;
    listed = kept_among front field says.1.field says.1.listed;
    l = says.1.l;
    signed = says.1.signed;
    over = says.1.over;
  },
)

pub line_next : (vars : ℕ) (fields left : List (List ℕ)) (before after more : Cut) (over : Bool) (field : List ℕ)
    (rest : List (List ℕ)) (l : Lit) → LineTo vars fields left before after over → left ≡ field ∷ rest
    → IsSigned field l → l.var ≤ vars → more ≡ adds after l → LineTo vars fields rest before more over
line_next vars fields left before after more over field rest l to cut is low added = record {
  front = to.front ++ field ∷ [];
  cut = to.cut ∙ ap (λ r. to.front ++ r) cut ∙ sym (append_assoc to.front (field ∷ []) rest);
  says = within_next vars to.front before after more over field l to.says is low added;
}

no_bad : (vars : ℕ) (front : List (List ℕ)) (before after : Cut) (over : Bool) → LineSoFar vars front before after over
    → HasNoSigned front → ⊥
no_bad vars front before after false says bad = all_bounded vars front says.numbers says.spelled bad
no_bad vars front before after true says bad = says.0 bad

-- one that is over the variables
pub line_over : (vars : ℕ) (fields left : List (List ℕ)) (before after : Cut) (over : Bool) (field : List ℕ)
    (rest : List (List ℕ)) (l : Lit) → LineTo vars fields left before after over → left ≡ field ∷ rest
    → IsSigned field l → vars < l.var → LineTo vars fields rest before after true
line_over vars fields left before after over field rest l to cut is high = record {
  front = to.front ++ field ∷ [];
  cut = to.cut ∙ ap (λ r. to.front ++ r) cut ∙ sym (append_assoc to.front (field ∷ []) rest);
  says = (
    signed_more to.front field l is (no_bad vars to.front before after over to.says),
    record { field = field; listed = among to.front field []; l = l; signed = is; over = high },
  );
}

-- a field that is no number
pub line_bad : (vars : ℕ) (fields left : List (List ℕ)) (before after : Cut) (over : Bool) (field : List ℕ)
    (rest : List (List ℕ)) → LineTo vars fields left before after over → left ≡ field ∷ rest
    → ((l : Lit) → IsSigned field l → ⊥) → IsFirstCnfCause (LineStands vars fields) BadNumber
line_bad vars fields left before after over field rest to cut none =
    let all : to.front ++ field ∷ rest ≡ fields = sym (to.cut ∙ ap (λ l. to.front ++ l) cut) in
    record {
      stands = subst HasNoSigned all (record { field = field; listed = among to.front field rest; none = none });
      first = least;
    }
  where
    least : (other : CnfCause) → LineStands vars fields other → 3 ≤ cnf_rank other
    least NoHeader s = absurd s
    least BadHeader s = absurd s
    least BadNumber s = omega arith
    least OutOfRange s = omega arith
    least ClauseCount s = omega arith

all_front : (vars : ℕ) (fields left : List (List ℕ)) (before after : Cut) (over : Bool)
    → (to : LineTo vars fields left before after over) → left ≡ [] → to.front ≡ fields
all_front vars fields left before after over to end =
    sym (to.cut ∙ (ap (λ l. to.front ++ l) end ∙ append-nil to.front))

-- the end of the line
pub line_leads : (vars : ℕ) (fields left : List (List ℕ)) (before after : Cut) (over : Bool)
    → LineTo vars fields left before after over → left ≡ [] → over ≡ false → Leads vars fields before after
line_leads vars fields left before after over to end within =
    let at : LineTo vars fields left before after false = subst (LineTo vars fields left before after) within to in
    subst (λ fs. Leads vars fs before after) (all_front vars fields left before after false at end) at.says

pub line_outside : (vars : ℕ) (fields left : List (List ℕ)) (before after : Cut) (over : Bool)
    → LineTo vars fields left before after over → left ≡ [] → over ≡ true
    → IsFirstCnfCause (LineStands vars fields) OutOfRange
line_outside vars fields left before after over to end outside =
    let at : LineTo vars fields left before after true = subst (LineTo vars fields left before after) outside to in
    let whole = all_front vars fields left before after true at end in
    record {
      stands = subst (HasOver vars) whole at.says.1;
      first = λ other s. least (subst (λ fs. HasNoSigned fs → ⊥) whole at.says.0) other s;
    }
  where
    least : (HasNoSigned fields → ⊥) → (other : CnfCause) → LineStands vars fields other → 4 ≤ cnf_rank other
    least none NoHeader s = absurd s
    least none BadHeader s = absurd s
    least none BadNumber s = absurd (none s)
    least none OutOfRange s = omega arith
    least none ClauseCount s = omega arith

-- the next line leads on
pub reads_more : (end vars count : ℕ) (before after : Cut) (old left : List LineText) (line : LineText)
    (result : Result (List (List Lit)) (ℕ × CnfCause)) → old ≡ line ∷ left
    → Leads vars (field_texts line.text) before after → ReadsTo end vars count after left result
    → ReadsTo end vars count before old result
reads_more end vars count before after old left line result cut leads rest =
    subst (λ ls. ReadsTo end vars count before ls result) (sym cut) (inl (after, leads, rest))
