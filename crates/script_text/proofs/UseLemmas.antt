-- The frameworks of the sessions of a script.
use Rattle.std.proofs.Common.{◌≡◌, ℕ, ◌≤◌, Bool, List, [], ◌∷◌, ◌++◌, refl, sym, ap, subst, ◌∙◌, inl, inr, arith}
use Rattle.std.specs.Prelude.{◌==◌, if◌then◌else◌}
use Rattle.std.proofs.lemmas.Bool.{cases_Bool}
use Rattle.std.proofs.lemmas.Slice.Zip.{AllZip-long}
use Rattle.num_text.specs.Cuts.{field_texts}
use Rattle.num_text.specs.Number.{IsNumber}
use Rattle.iccma_tasks.specs.AnswerText.{behind_first}
use Rattle.script_text.specs.declared.fault.ScriptCause.{ScriptCause}
use Rattle.script_text.specs.declared.script.ScriptUse.{ScriptUse}
use Rattle.script_text.specs.declared.text_line.LineCommand.{LineCommand}
use Rattle.script_text.specs.declared.text_line.LineCommand.TheVariants.{Ask, Begin, Edit as change_by, End, Use as on}
use Rattle.script_text.specs.declared.text_line.TextLine.{TextLine}
use Rattle.script_text.specs.Groups.{Places}
use Rattle.script_text.specs.ScriptFaults.{rank, HaveStrayUse}
use Rattle.script_text.specs.ScriptText.{AreCommandFields, IsTextLine}
use Rattle.script_text.specs.Steps.{FitsIn, IsFirstIn, IsStrayIn}
use Rattle.script_text.specs.Uses.{AreAmong, IsAmong, use_of, used_at, used_by}
use Rattle.script_text.proofs.GroupCauses.{fitting_is_good}
use Rattle.script_text.proofs.LineCauses.{line_is_good}
use Rattle.script_text.proofs.OneScript.{command_same}

-- ---- among so many

pub first_among : (frameworks : ℕ) (uses more : List ScriptUse) → AreAmong frameworks (uses ++ more)
    → AreAmong frameworks uses
first_among frameworks [] more are = tt
first_among frameworks (one ∷ uses) more are = (are.0, first_among frameworks uses more are.1)

pub others_among : (frameworks : ℕ) (uses more : List ScriptUse) → AreAmong frameworks (uses ++ more)
    → AreAmong frameworks more
others_among frameworks [] more are = are
others_among frameworks (one ∷ uses) more are = others_among frameworks uses more are.1

-- each session is on a framework that there is
pub use_among : (frameworks : ℕ) (uses : List ScriptUse) → AreAmong frameworks uses → 1 ≤ frameworks → (session : ℕ)
    → IsAmong frameworks (use_of uses session)
use_among frameworks [] are some session = record { low = omega arith; high = some }
use_among frameworks (one ∷ more) are some session = elim (cases_Bool (one.session == session)) [
  | inl e ↦ subst (λ (b : Bool). IsAmong frameworks (if b then one.framework else use_of more session)) (sym e) are.0
  | inr e ↦ subst (λ (b : Bool). IsAmong frameworks (if b then one.framework else use_of more session)) (sym e)
      (use_among frameworks more are.1 some session)
]

-- ---- strays

-- a line whose framework is there uses no other
pub is_no_stray : (frameworks : ℕ) (text : List ℕ) (line : TextLine) → IsTextLine text line
    → AreAmong frameworks (used_at line) → HaveStrayUse frameworks (behind_first (field_texts text)) → ⊥
is_no_stray frameworks text line h among stray =
    let behind : behind_first (field_texts text) ≡ h.others = ap behind_first h.fields in
    let commands : line.command ≡ on stray.number = command_same h.others line.command (on stray.number) h.command_is
    (record {
      numbers = stray.form.arguments;
      fields_are = sym behind ∙ stray.form.fields_are;
      spelled = stray.spelled;
    }) in
    let those = subst (λ command. AreAmong frameworks (used_by line.session command)) commands among in
    stray.stray those.0

stray_by : (frameworks session : ℕ) (fields : List (List ℕ)) (command : LineCommand) → AreCommandFields fields command
    → (AreAmong frameworks (used_by session command) → ⊥) → HaveStrayUse frameworks fields
stray_by frameworks session fields (on k) are none = record {
  form = record {
    arguments = are.numbers;
    fields_are = are.fields_are;
    one = sym (AllZip-long IsNumber are.numbers (k ∷ []) are.spelled);
  };
  number = k;
  spelled = are.spelled;
  stray = λ among. none (among, tt);
}
stray_by frameworks session fields (change_by edit) are none = absurd (none tt)
stray_by frameworks session fields (Ask asked) are none = absurd (none tt)
stray_by frameworks session fields Begin are none = absurd (none tt)
stray_by frameworks session fields End are none = absurd (none tt)

-- the only cause that stands at a line whose framework isn't there, where else it may stand
pub stray_told : (frameworks : ℕ) (places : Places) (text : List ℕ) (line : TextLine) (cause : ScriptCause)
    → IsTextLine text line → FitsIn places line → IsStrayIn frameworks line cause
    → IsFirstIn frameworks places (field_texts text) cause
stray_told frameworks places text line cause h fits stray =
    let behind : behind_first (field_texts text) ≡ h.others = ap behind_first h.fields in
    let form = stray_by frameworks line.session h.others line.command h.command_is stray.1 in
    subst (IsFirstIn frameworks places (field_texts text)) (sym stray.0) (record {
      stands = inr (inr (refl, subst (HaveStrayUse frameworks) (sym behind) form));
      first = λ other stands. elim stands [
        | inl on_line ↦ absurd (line_is_good text line h other on_line)
        | inr (inl by) ↦ absurd (fitting_is_good places text line h fits other by)
        | inr (inr among) ↦ let last : rank other ≡ 9 = ap rank among.0 in omega (arith, last)
      ];
    })
