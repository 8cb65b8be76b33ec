-- The lines that were read, and those that are left.
use Rattle.std.proofs.Common.{◌≡◌, ℕ, List, [], ◌∷◌, ◌++◌, refl, sym, ap, subst, ◌∙◌}
use Rattle.std.proofs.lemmas.List.{append_assoc, append-nil}
use Rattle.std.proofs.lemmas.Slice.Zip.{all_zipped_more}
use Rattle.num_text.specs.Cuts.{LineText}
use Rattle.script_text.specs.declared.fault.ScriptFault.{ScriptFault}
use Rattle.script_text.specs.declared.fault.ScriptFault.TheVariants.{At, Memory}
use Rattle.script_text.specs.declared.script.Script.{Script}
use Rattle.script_text.specs.declared.script.ScriptUse.{ScriptUse}
use Rattle.script_text.specs.declared.text_line.TextLine.{TextLine}
use Rattle.script_text.specs.Groups.{FitPlaces, Places, after_line, after_lines, commands_of, all_unbegun, told_at}
use Rattle.script_text.specs.ScriptText.{IsTextLine}
use Rattle.script_text.specs.Steps.{AreRead, BreaksAt, FitsIn, HasRead, StopsAt, TellsNext}
use Rattle.script_text.specs.Uses.{AreAmong, used_at, uses_of}

-- ---- a line more

fit_more : (places : Places) (read : List TextLine) (line : TextLine) → FitPlaces places read
    → FitsIn (after_lines read places) line → FitPlaces places (read ++ line ∷ [])
fit_more places [] line fit fits = (fits, tt)
fit_more places (first ∷ read) line fit fits = (fit.0, fit_more (after_line first places) read line fit.1 fits)

after_more : (places : Places) (read : List TextLine) (line : TextLine)
    → after_lines (read ++ line ∷ []) places ≡ after_line line (after_lines read places)
after_more places [] line = refl
after_more places (first ∷ read) line = after_more (after_line first places) read line

commands_more : (places : Places) (read : List TextLine) (line : TextLine)
    → commands_of places (read ++ line ∷ [])
    ≡ commands_of places read ++ told_at line (after_lines read places line.session)
commands_more places [] line = append-nil (told_at line (places line.session))
commands_more places (first ∷ read) line =
    let here = told_at first (places first.session) in
    let later = after_line first places in
    ap (λ told. here ++ told) (commands_more later read line)
    ∙ sym (append_assoc here (commands_of later read) (told_at line (after_lines read later line.session)))

uses_more : (read : List TextLine) (line : TextLine) → uses_of (read ++ line ∷ []) ≡ uses_of read ++ used_at line
uses_more [] line = append-nil (used_at line)
uses_more (first ∷ read) line =
    ap (λ uses. used_at first ++ uses) (uses_more read line)
    ∙ sym (append_assoc (used_at first) (uses_of read) (used_at line))

both_among : (frameworks : ℕ) (uses more : List ScriptUse) → AreAmong frameworks uses → AreAmong frameworks more
    → AreAmong frameworks (uses ++ more)
both_among frameworks [] more are those = those
both_among frameworks (one ∷ uses) more are those = (are.0, both_among frameworks uses more are.1 those)

-- ---- what was read

pub read_none : (frameworks : ℕ) (lines : List LineText) (places : Places) (script : Script) → places ≡ all_unbegun
    → script.lines ≡ [] → script.uses ≡ [] → HasRead frameworks lines lines places script
read_none frameworks lines places script none no_line no_use = record {
  before = [];
  lines_are = refl;
  are_read = record {
    read = [];
    are_lines = tt;
    fit = tt;
    places_are = none;
    commands = no_line;
    uses = no_use;
    among = tt;
  };
}

pub read_next : (frameworks : ℕ) (lines left rest : List LineText) (places later : Places) (script more : Script)
    (told : TextLine) → HasRead frameworks lines left places script → TellsNext left rest told → FitsIn places told
    → AreAmong frameworks (used_at told) → later ≡ after_line told places
    → more.lines ≡ script.lines ++ told_at told (places told.session) → more.uses ≡ script.uses ++ used_at told
    → HasRead frameworks lines rest later more
read_next frameworks lines left rest places later script more told h next fits among after commands used =
    let r = h.are_read in
    let places_are = r.places_are in
    record {
      before = h.before ++ next.line ∷ [];
      lines_are = h.lines_are ∙ ap (λ ls. h.before ++ ls) next.lines_are
          ∙ sym (append_assoc h.before (next.line ∷ []) rest);
      are_read = record {
        read = r.read ++ told ∷ [];
        are_lines = all_zipped_more (λ text line. IsTextLine text.text line) h.before r.read next.line told r.are_lines
            next.told_is;
        fit = fit_more all_unbegun r.read told r.fit (subst (λ g. FitsIn g told) places_are fits);
        places_are = after ∙ ap (after_line told) places_are ∙ sym (after_more all_unbegun r.read told);
        commands = commands ∙ ap (λ c. c ++ told_at told (places told.session)) r.commands
            ∙ ap (λ g. commands_of all_unbegun r.read ++ told_at told (g told.session)) places_are
            ∙ sym (commands_more all_unbegun r.read told);
        uses = used ∙ ap (λ uses. uses ++ used_at told) r.uses ∙ sym (uses_more r.read told);
        among = subst (AreAmong frameworks) (sym (uses_more r.read told))
            (both_among frameworks (uses_of r.read) (used_at told) r.among among);
      };
    }

pub read_all : (frameworks : ℕ) (lines left : List LineText) (places : Places) (script : Script)
    → HasRead frameworks lines left places script → left ≡ [] → AreRead frameworks lines places script
read_all frameworks lines left places script h e =
    subst (λ ls. AreRead frameworks ls places script)
    (sym (h.lines_are ∙ ap (λ ls. h.before ++ ls) e ∙ append-nil h.before)) h.are_read

pub breaks_at : (frameworks : ℕ) (lines left : List LineText) (places : Places) (script : Script)
    (fault : ScriptFault) → HasRead frameworks lines left places script → StopsAt frameworks places left fault
    → BreaksAt frameworks lines fault
breaks_at frameworks lines left places script (At number cause) h stops =
    record { left = left; places = places; script = script; has_read = h; bad = stops }
breaks_at frameworks lines left places script Memory h stops = tt
