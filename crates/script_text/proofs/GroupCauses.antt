-- Which cause is told of a line, by where its session stands.
use Rattle.std.proofs.Common.{◌≡◌, ℕ, ◌≤◌, List, [], ◌∷◌, length, refl, sym, ap, subst, ◌∙◌, inl, inr, arith}
use Rattle.std.specs.Prelude.{codes}
use Rattle.std.proofs.lemmas.Bool.{cases_lt}
use Rattle.std.proofs.lemmas.Slice.Zip.{AllZip-long}
use Rattle.num_text.specs.Cuts.{field_texts}
use Rattle.num_text.specs.Number.{IsNumber}
use Rattle.edit_rules.specs.declared.edit.Edit.{Edit}
use Rattle.edit_rules.specs.declared.edit.TheConstants.{MAX_GROUP}
use Rattle.iccma_tasks.specs.Tasks.{task_name}
use Rattle.script_text.specs.declared.fault.LineStop.{LineStop}
use Rattle.script_text.specs.declared.fault.LineStop.TheVariants.{Wrong, Memory}
use Rattle.script_text.specs.declared.fault.ScriptCause.{ScriptCause}
use Rattle.script_text.specs.declared.fault.ScriptCause.TheVariants.{BadSession, BadCommand, BadTask, BadNumber}
use Rattle.script_text.specs.declared.fault.ScriptCause.TheVariants.{BadQuery, EmptyGroup, GroupTooLong, OpenGroup}
use Rattle.script_text.specs.declared.fault.ScriptCause.TheVariants.{BadFramework}
use Rattle.script_text.specs.declared.open_groups.Place.{Place}
use Rattle.script_text.specs.declared.open_groups.Place.TheVariants.{Unbegun, Between, Inside}
use Rattle.script_text.specs.declared.text_line.LineCommand.{LineCommand}
use Rattle.script_text.specs.declared.text_line.LineCommand.TheVariants.{Ask, Begin, Edit as change_by, End, Use as on}
use Rattle.script_text.specs.declared.text_line.TextLine.{TextLine}
use Rattle.script_text.specs.Changes.{change_name, change_of, edit_numbers}
use Rattle.script_text.specs.Groups.{FitsPlace, Places}
use Rattle.script_text.specs.ScriptFaults.{rank, BeginWithSession, HaveChangeForm, IsFirstCause, IsMisplaced}
use Rattle.script_text.specs.ScriptFaults.{IsMisplacedName, StandsAmong, StandsByPlace, StandsAtPlace, StandsOn}
use Rattle.script_text.specs.ScriptText.{AreCommandFields, AreEditFields, IsTextLine}
use Rattle.script_text.specs.Steps.{BreaksIn, BreaksLimit, FitsIn, IfWrong, IsFirstIn, IsMisplacedIn, TakesSession}
use Rattle.script_text.proofs.CommandCauses.{first_same, marks_no_change, others_same}
use Rattle.script_text.proofs.LineCauses.{begins, edit_takes, line_is_good}
use Rattle.script_text.proofs.Names.{ask_is_no_change, begin_is_no_change, begin_is_no_end}
use Rattle.script_text.proofs.Names.{end_is_no_ask, end_is_no_change}
use Rattle.script_text.proofs.Names.{use_is_no_ask, use_is_no_begin, use_is_no_change, use_is_no_end}

-- ---- the session of a line, and its command's name

-- fields begin with one session at most
session_same : (fields : List (List ℕ)) (s t : ℕ) (us vs : List (List ℕ)) → TakesSession fields s us
    → TakesSession fields t vs → s ≡ t
session_same fields s t us vs a b =
    let texts : a.text ≡ b.text = first_same a.text b.text us vs (sym a.fields_are ∙ b.fields_are) in
    sym (subst (λ text. IsNumber text s) texts a.session_is.number).value ∙ b.session_is.number.value

takes_place : (places : Places) (fields : List (List ℕ)) (cause : ScriptCause)
    → (g : StandsByPlace places fields cause) → TakesSession fields g.session g.others
takes_place places fields cause g =
    record { text = g.text; fields_are = g.fields_are; session_is = g.session_is }

takes_line : (text : List ℕ) (line : TextLine) → (h : IsTextLine text line)
    → TakesSession (field_texts text) line.session h.others
takes_line text line h = record { text = h.session; fields_are = h.fields; session_is = h.session_is }

-- what stands by a group, at the session and the fields that were read
pub stands_there : (places : Places) (fields others : List (List ℕ)) (session : ℕ) (cause : ScriptCause)
    → TakesSession fields session others → StandsByPlace places fields cause
    → StandsAtPlace (places session) others cause
stands_there places fields others session cause takes g =
    let own = takes_place places fields cause g in
    let sessions : g.session ≡ session = session_same fields g.session session g.others others own takes in
    let behind : g.others ≡ others = others_same g.text takes.text g.others others (sym g.fields_are ∙ takes.fields_are) in
    subst (λ fs. StandsAtPlace (places session) fs cause) behind
    (subst (λ s. StandsAtPlace (places s) g.others cause) sessions g.stands)

pub stands_by : (places : Places) (fields others : List (List ℕ)) (session : ℕ) (cause : ScriptCause)
    → TakesSession fields session others → StandsAtPlace (places session) others cause
    → StandsByPlace places fields cause
stands_by places fields others session cause takes stands = record {
  session = session;
  text = takes.text;
  others = others;
  fields_are = takes.fields_are;
  session_is = takes.session_is;
  stands = stands;
}

-- ---- where a name may stand

pub no_session : (places : Places) (fields : List (List ℕ)) → (BeginWithSession fields → ⊥)
    → IsMisplacedIn places fields → ⊥
no_session places fields none g = none (begins fields g.others g.session (takes_place places fields BadCommand g))

pub no_name : (places : Places) (fields others : List (List ℕ)) (session : ℕ) → TakesSession fields session others
    → others ≡ [] → IsMisplacedIn places fields → ⊥
no_name places fields others session takes none g =
    let m = stands_there places fields others session BadCommand takes g in
    let long : 0 ≡ length (m.name ∷ m.others) = ap length (sym none ∙ m.fields_are) in
    absurd (omega (arith, long))

pub name_there : (places : Places) (fields others more : List (List ℕ)) (session : ℕ) (name : List ℕ)
    → TakesSession fields session others → others ≡ name ∷ more → IsMisplacedName (places session) name
    → IsMisplacedIn places fields
name_there places fields others more session name takes e misplaced =
    stands_by places fields others session BadCommand takes
    (record { name = name; others = more; fields_are = e; misplaced = misplaced })

pub name_placed : (places : Places) (fields others more : List (List ℕ)) (session : ℕ) (name : List ℕ)
    → TakesSession fields session others → others ≡ name ∷ more → (IsMisplacedName (places session) name → ⊥)
    → IsMisplacedIn places fields → ⊥
name_placed places fields others more session name takes e placed g =
    let m = stands_there places fields others session BadCommand takes g in
    let names : m.name ≡ name = first_same m.name name m.others more (sym m.fields_are ∙ e) in
    placed (subst (λ n. IsMisplacedName (places session) n) names m.misplaced)

-- ---- ranks

-- causes of fields come before those of a group's length
of_fields : (fields : List (List ℕ)) (cause : ScriptCause) → StandsOn fields cause → rank cause ≤ 5
of_fields fields BadSession stands = omega arith
of_fields fields BadCommand stands = omega arith
of_fields fields BadTask stands = omega arith
of_fields fields BadNumber stands = omega arith
of_fields fields BadQuery stands = omega arith
of_fields fields OpenGroup stands = absurd stands
of_fields fields GroupTooLong stands = absurd stands
of_fields fields EmptyGroup stands = absurd stands
of_fields fields BadFramework stands = absurd stands

behind_session : (fields : List (List ℕ)) → BeginWithSession fields → (cause : ScriptCause) → StandsOn fields cause
    → 2 ≤ rank cause
behind_session fields session BadSession stands = absurd (stands session)
behind_session fields session BadCommand stands = omega arith
behind_session fields session BadTask stands = omega arith
behind_session fields session BadNumber stands = omega arith
behind_session fields session BadQuery stands = omega arith
behind_session fields session OpenGroup stands = absurd stands
behind_session fields session GroupTooLong stands = absurd stands
behind_session fields session EmptyGroup stands = absurd stands
behind_session fields session BadFramework stands = absurd stands

of_place : (place : Place) (fields : List (List ℕ)) (cause : ScriptCause)
    → StandsAtPlace place fields cause → 2 ≤ rank cause
of_place place fields BadSession stands = absurd stands
of_place place fields BadCommand stands = omega arith
of_place place fields BadTask stands = absurd stands
of_place place fields BadNumber stands = absurd stands
of_place place fields BadQuery stands = absurd stands
of_place place fields OpenGroup stands = absurd stands
of_place place fields GroupTooLong stands = omega arith
of_place place fields EmptyGroup stands = omega arith
of_place place fields BadFramework stands = absurd stands

-- where the name may stand, a group's causes are those of its length
of_length : (places : Places) (fields : List (List ℕ)) → (IsMisplacedIn places fields → ⊥) → (cause : ScriptCause)
    → StandsByPlace places fields cause → 7 ≤ rank cause
of_length places fields placed BadSession g = absurd g.stands
of_length places fields placed BadCommand g = absurd (placed g)
of_length places fields placed BadTask g = absurd g.stands
of_length places fields placed BadNumber g = absurd g.stands
of_length places fields placed BadQuery g = absurd g.stands
of_length places fields placed OpenGroup g = absurd g.stands
of_length places fields placed GroupTooLong g = omega arith
of_length places fields placed EmptyGroup g = omega arith
of_length places fields placed BadFramework g = absurd g.stands

-- a framework that isn't there comes last
last_of_all : (frameworks : ℕ) (fields : List (List ℕ)) (cause : ScriptCause) → StandsAmong frameworks fields cause
    → rank cause ≡ 9
last_of_all frameworks fields cause among = ap rank among.0

-- ---- the cause that is told

pub misplaced_told : (frameworks : ℕ) (places : Places) (fields : List (List ℕ)) → IsMisplacedIn places fields
    → IsFirstIn frameworks places fields BadCommand
misplaced_told frameworks places fields g =
    let session = begins fields g.others g.session (takes_place places fields BadCommand g) in
    record {
      stands = inr (inl g);
      first = λ other stands. elim stands [
        | inl own ↦ behind_session fields session other own
        | inr (inl by) ↦ of_place (places by.session) by.others other by.stands
        | inr (inr among) ↦ let last = last_of_all frameworks fields other among in omega (arith, last)
      ];
    }

field_told : (frameworks : ℕ) (places : Places) (fields : List (List ℕ)) (cause : ScriptCause)
    → (IsMisplacedIn places fields → ⊥) → IsFirstCause (StandsOn fields) cause
    → IsFirstIn frameworks places fields cause
field_told frameworks places fields cause placed told =
    let soon = of_fields fields cause told.stands in
    record {
      stands = inl told.stands;
      first = λ other stands. elim stands [
        | inl own ↦ told.first other own
        | inr (inl by) ↦ let late = of_length places fields placed other by in omega (arith, late, soon)
        | inr (inr among) ↦ let last = last_of_all frameworks fields other among in omega (arith, last, soon)
      ];
    }

pub halt_in_group : (frameworks : ℕ) (places : Places) (fields : List (List ℕ)) (halt : LineStop)
    → (IsMisplacedIn places fields → ⊥) → IfWrong halt (IsFirstCause (StandsOn fields))
    → IfWrong halt (IsFirstIn frameworks places fields)
halt_in_group frameworks places fields (Wrong cause) placed told =
    field_told frameworks places fields cause placed told
halt_in_group frameworks places fields Memory placed told = tt

edit_form : (fields : List (List ℕ)) (edit : Edit) → AreEditFields fields edit → HaveChangeForm fields
edit_form fields edit h = record {
  change = change_of edit;
  arguments = h.numbers;
  fields_are = h.fields_are;
  takes = edit_takes edit (length h.numbers)
      (sym (AllZip-long IsNumber h.numbers (edit_numbers edit) h.spelled));
}

no_edits : (edits : List Edit) → length edits ≡ 0 → edits ≡ []
no_edits [] e = refl
no_edits (edit ∷ edits) e = absurd (omega arith)

-- an edit too many, or an end behind no edits
limit_first : (frameworks : ℕ) (places : Places) (fields others : List (List ℕ)) (session : ℕ) (command : LineCommand)
    (edits : List Edit) (cause : ScriptCause) → TakesSession fields session others → AreCommandFields others command
    → (IsMisplacedIn places fields → ⊥) → ((c : ScriptCause) → StandsOn fields c → ⊥)
    → places session ≡ Inside edits → BreaksLimit command (length edits) cause
    → IsFirstIn frameworks places fields cause
limit_first frameworks places fields others session (change_by edit) edits cause takes are placed good opened breaks =
    subst (IsFirstIn frameworks places fields) (sym breaks.1) (record {
      stands = inr (inl (stands_by places fields others session GroupTooLong takes
          (subst (λ group. StandsAtPlace group others GroupTooLong) (sym opened) (edit_form others edit are, breaks.0))));
      first = λ other stands. elim stands [
        | inl own ↦ absurd (good other own)
        | inr (inl by) ↦ of_length places fields placed other by
        | inr (inr among) ↦ let last = last_of_all frameworks fields other among in omega (arith, last)
      ];
    })
limit_first frameworks places fields others session (Ask asked) edits cause takes are placed good opened breaks =
    absurd breaks
limit_first frameworks places fields others session Begin edits cause takes are placed good opened breaks =
    absurd breaks
limit_first frameworks places fields others session (on k) edits cause takes are placed good opened breaks =
    absurd breaks
limit_first frameworks places fields others session End edits cause takes are placed good opened breaks =
    subst (IsFirstIn frameworks places fields) (sym breaks.1) (record {
      stands = inr (inl (stands_by places fields others session EmptyGroup takes
          (are, opened ∙ ap Inside (no_edits edits breaks.0))));
      first = λ other stands. elim stands [
        | inl own ↦ absurd (good other own)
        | inr (inl by) ↦ at_end other by
        | inr (inr among) ↦ let last = last_of_all frameworks fields other among in omega (arith, last)
      ];
    })
  where
    at_end : (other : ScriptCause) → StandsByPlace places fields other → 8 ≤ rank other
    at_end BadSession by = absurd by.stands
    at_end BadCommand by = absurd (placed by)
    at_end BadTask by = absurd by.stands
    at_end BadNumber by = absurd by.stands
    at_end BadQuery by = absurd by.stands
    at_end OpenGroup by = absurd by.stands
    at_end GroupTooLong by =
        let form = subst (λ group. StandsAtPlace group others GroupTooLong) opened
        (stands_there places fields others session GroupTooLong takes by) in
        absurd (marks_no_change others (inr are) form.0)
    at_end EmptyGroup by = omega arith
    at_end BadFramework by = absurd by.stands

pub limit_told : (frameworks : ℕ) (places : Places) (text : List ℕ) (line : TextLine) (cause : ScriptCause)
    → IsTextLine text line → (IsMisplacedIn places (field_texts text) → ⊥) → BreaksIn places line cause
    → IsFirstIn frameworks places (field_texts text) cause
limit_told frameworks places text line cause h placed b =
    limit_first frameworks places (field_texts text) h.others line.session line.command b.edits cause
    (takes_line text line h) h.command_is placed (line_is_good text line h) b.opened b.breaks

-- ---- a line that fits

-- where a session stands is told by the edits of its group
fits_at : (command : LineCommand) (place : Place) (fields : List (List ℕ))
    → AreCommandFields fields command → (IsMisplaced place fields → ⊥)
    → ((edits : List Edit) (cause : ScriptCause) → place ≡ Inside edits → BreaksLimit command (length edits) cause → ⊥)
    → FitsPlace command place
fits_at (change_by edit) Unbegun fields are placed free = tt
fits_at (change_by edit) Between fields are placed free = tt
fits_at (change_by edit) (Inside edits) fields are placed free = elim (cases_lt (length edits) MAX_GROUP) [
  | inl room ↦ room
  | inr full ↦ absurd (free edits GroupTooLong refl (full, refl))
]
fits_at (Ask asked) Unbegun fields are placed free = tt
fits_at (Ask asked) Between fields are placed free = tt
fits_at (Ask asked) (Inside edits) fields are placed free = placed (record {
  name = codes "ask";
  others = task_name asked.task ∷ are.numbers;
  fields_are = are.fields_are;
  misplaced = inl refl;
})
fits_at Begin Unbegun fields are placed free = tt
fits_at Begin Between fields are placed free = tt
fits_at Begin (Inside edits) fields are placed free =
    placed (record { name = codes "begin"; others = []; fields_are = are; misplaced = inr (inl refl) })
fits_at End Unbegun fields are placed free =
    placed (record { name = codes "end"; others = []; fields_are = are; misplaced = refl })
fits_at End Between fields are placed free =
    placed (record { name = codes "end"; others = []; fields_are = are; misplaced = inl refl })
fits_at End (Inside edits) fields are placed free = elim (cases_lt 0 (length edits)) [
  | inl some ↦ some
  | inr none ↦ absurd (free edits EmptyGroup refl (omega arith, refl))
]
fits_at (on k) Unbegun fields are placed free = tt
fits_at (on k) Between fields are placed free =
    placed (record { name = codes "use"; others = are.numbers; fields_are = are.fields_are; misplaced = inr refl })
fits_at (on k) (Inside edits) fields are placed free = placed (record {
  name = codes "use";
  others = are.numbers;
  fields_are = are.fields_are;
  misplaced = inr (inr refl);
})

pub line_fits : (places : Places) (text : List ℕ) (line : TextLine) → IsTextLine text line
    → (IsMisplacedIn places (field_texts text) → ⊥) → ((cause : ScriptCause) → BreaksIn places line cause → ⊥)
    → FitsIn places line
line_fits places text line h placed free =
    fits_at line.command (places line.session) h.others h.command_is
    (λ m. placed (stands_by places (field_texts text) h.others line.session BadCommand (takes_line text line h) m))
    (λ edits cause opened breaks. free cause (record { edits = edits; opened = opened; breaks = breaks }))

-- such a line has no cause by where its session stands
change_placed : (edit : Edit) (place : Place) (fields : List (List ℕ)) (name : List ℕ) (more : List (List ℕ))
    → AreEditFields fields edit → fields ≡ name ∷ more → IsMisplacedName place name → ⊥
change_placed edit place fields name more are e is = at place is
  where
    names : change_name (change_of edit) ≡ name
    names = first_same (change_name (change_of edit)) name are.numbers more (sym are.fields_are ∙ e)

    at : (place : Place) → IsMisplacedName place name → ⊥
    at Unbegun is = end_is_no_change (change_of edit) (names ∙ is)
    at Between (inl is) = end_is_no_change (change_of edit) (names ∙ is)
    at Between (inr is) = use_is_no_change (change_of edit) (names ∙ is)
    at (Inside edits) (inl is) = ask_is_no_change (change_of edit) (names ∙ is)
    at (Inside edits) (inr (inl is)) = begin_is_no_change (change_of edit) (names ∙ is)
    at (Inside edits) (inr (inr is)) = use_is_no_change (change_of edit) (names ∙ is)

name_is : (fields : List (List ℕ)) (name own : List ℕ) (more numbers : List (List ℕ)) → fields ≡ own ∷ numbers
    → fields ≡ name ∷ more → own ≡ name
name_is fields name own more numbers f e = first_same own name numbers more (sym f ∙ e)

misplaced_name : (command : LineCommand) (place : Place) (fields : List (List ℕ)) (name : List ℕ)
    (more : List (List ℕ)) → AreCommandFields fields command → FitsPlace command place → fields ≡ name ∷ more
    → IsMisplacedName place name → ⊥
misplaced_name (change_by edit) place fields name more are fits e is = change_placed edit place fields name more are e is
misplaced_name (Ask asked) Unbegun fields name more are fits e is = end_is_no_ask
    (name_is fields name (codes "ask") more (task_name asked.task ∷ are.numbers) are.fields_are e ∙ is)
misplaced_name (Ask asked) Between fields name more are fits e (inl is) = end_is_no_ask
    (name_is fields name (codes "ask") more (task_name asked.task ∷ are.numbers) are.fields_are e ∙ is)
misplaced_name (Ask asked) Between fields name more are fits e (inr is) = use_is_no_ask
    (name_is fields name (codes "ask") more (task_name asked.task ∷ are.numbers) are.fields_are e ∙ is)
misplaced_name (Ask asked) (Inside edits) fields name more are fits e is = fits
misplaced_name Begin Unbegun fields name more are fits e is =
    begin_is_no_end (name_is fields name (codes "begin") more [] are e ∙ is)
misplaced_name Begin Between fields name more are fits e (inl is) =
    begin_is_no_end (name_is fields name (codes "begin") more [] are e ∙ is)
misplaced_name Begin Between fields name more are fits e (inr is) =
    use_is_no_begin (name_is fields name (codes "begin") more [] are e ∙ is)
misplaced_name Begin (Inside edits) fields name more are fits e is = fits
misplaced_name End Unbegun fields name more are fits e is = fits
misplaced_name End Between fields name more are fits e is = fits
misplaced_name End (Inside edits) fields name more are fits e (inl is) =
    end_is_no_ask (sym (name_is fields name (codes "end") more [] are e ∙ is))
misplaced_name End (Inside edits) fields name more are fits e (inr (inl is)) =
    begin_is_no_end (sym (name_is fields name (codes "end") more [] are e ∙ is))
misplaced_name End (Inside edits) fields name more are fits e (inr (inr is)) =
    use_is_no_end (name_is fields name (codes "end") more [] are e ∙ is)
misplaced_name (on k) Unbegun fields name more are fits e is =
    use_is_no_end (sym (name_is fields name (codes "use") more are.numbers are.fields_are e ∙ is))
misplaced_name (on k) Between fields name more are fits e is = fits
misplaced_name (on k) (Inside edits) fields name more are fits e is = fits

too_many : (command : LineCommand) (place : Place) (fields : List (List ℕ))
    → AreCommandFields fields command → FitsPlace command place → StandsAtPlace place fields GroupTooLong → ⊥
too_many command Unbegun fields are fits many = many
too_many command Between fields are fits many = many
too_many (change_by edit) (Inside edits) fields are fits many = absurd (omega (arith, fits, many.1))
too_many (Ask asked) (Inside edits) fields are fits many = fits
too_many Begin (Inside edits) fields are fits many = fits
too_many End (Inside edits) fields are fits many = marks_no_change fields (inr are) many.0
too_many (on k) (Inside edits) fields are fits many = fits

-- the number of edits, and 1 where no group is open
abbrev count_of : Place → ℕ
count_of Unbegun = 1
count_of Between = 1
count_of (Inside edits) = length edits

too_few : (command : LineCommand) (place : Place) (fields : List (List ℕ))
    → AreCommandFields fields command → FitsPlace command place → StandsAtPlace place fields EmptyGroup → ⊥
too_few command Unbegun fields are fits few =
    let count : 1 ≡ 0 = ap count_of few.1 in absurd (omega (arith, count))
too_few command Between fields are fits few =
    let count : 1 ≡ 0 = ap count_of few.1 in absurd (omega (arith, count))
too_few (change_by edit) (Inside edits) fields are fits few =
    marks_no_change fields (inr few.0) (edit_form fields edit are)
too_few (Ask asked) (Inside edits) fields are fits few = fits
too_few Begin (Inside edits) fields are fits few = fits
too_few End (Inside edits) fields are fits few =
    let count : length edits ≡ 0 = ap count_of few.1 in absurd (omega (arith, fits, count))
too_few (on k) (Inside edits) fields are fits few = fits

good_at : (command : LineCommand) (place : Place) (fields : List (List ℕ))
    → AreCommandFields fields command → FitsPlace command place → (cause : ScriptCause)
    → StandsAtPlace place fields cause → ⊥
good_at command place fields are fits BadSession stands = stands
good_at command place fields are fits BadCommand m =
    misplaced_name command place fields m.name m.others are fits m.fields_are m.misplaced
good_at command place fields are fits BadTask stands = stands
good_at command place fields are fits BadNumber stands = stands
good_at command place fields are fits BadQuery stands = stands
good_at command place fields are fits OpenGroup stands = stands
good_at command place fields are fits GroupTooLong stands = too_many command place fields are fits stands
good_at command place fields are fits EmptyGroup stands = too_few command place fields are fits stands
good_at command place fields are fits BadFramework stands = stands

pub fitting_is_good : (places : Places) (text : List ℕ) (line : TextLine) → IsTextLine text line → FitsIn places line
    → (cause : ScriptCause) → StandsByPlace places (field_texts text) cause → ⊥
fitting_is_good places text line h fits cause g =
    good_at line.command (places line.session) h.others h.command_is fits cause
    (stands_there places (field_texts text) h.others line.session cause (takes_line text line h) g)
