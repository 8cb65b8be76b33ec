-- Files that are replaced one after the other.
use Rattle.std.proofs.Common.{◌≡◌, ◌∙◌, ℕ, ◌+◌, ◌<◌, List, [], ◌∷◌, ◌++◌, ◌≤◌, zero, suc, get_or, length, take, map, refl, sym, ap, subst, inl, inr, arith}
use Rattle.std.proofs.lemmas.List.{map_more, take_all}
use Rattle.argue_outside.specs.Outside.{KnownFile}
use Rattle.argue_outside.specs.declared.Role.{Role}
use Rattle.argue_commands.specs.Replacing.{FileText, file_text, BreaksFiles, BreaksReplacing, RefusesFile, Replaces, WritesFiles}
use Rattle.argue_commands.specs.declared.replacing.Written.{Written}

-- the files before an index were written, and no fault was counted
pub record WritesUpTo (list : List Written) (index : ℕ) (old new : List ℕ → KnownFile) (old_count new_count : ℕ)
    (old_reads new_reads : Role → ℕ) : Type 0 where
  pub files : WritesFiles (map file_text (take index list)) old new
  pub quiet : new_count ≡ old_count
  pub reads : new_reads ≡ old_reads

-- one file more
pub WritesFiles-snoc : (written : List FileText) (file : FileText) (old mid new : List ℕ → KnownFile)
    → WritesFiles written old mid → Replaces file mid new → WritesFiles (written ++ file ∷ []) old new
WritesFiles-snoc [] file old mid new same step =
    let P : (List ℕ → KnownFile) → Type 0 = λ holds. Replaces file holds new in (new, subst P same step, refl)
WritesFiles-snoc (first ∷ written) file old mid new (next, replaced, more) step =
    (next, replaced, WritesFiles-snoc written file next mid new more step)

-- the next file of the list is written
pub written_more : (list : List Written) (i : ℕ) (file : Written) (old mid new : List ℕ → KnownFile) → i < length list
    → file ≡ get_or list i file → WritesFiles (map file_text (take i list)) old mid → Replaces (file_text file) mid new
    → WritesFiles (map file_text (take (i + 1) list)) old new
written_more list i file old mid new lt is written step =
    let next : map file_text (take (i + 1) list) ≡ map file_text (take i list) ++ file_text file ∷ [] =
    map_more file_text list i file lt ∙ ap (λ f. map file_text (take i list) ++ file_text f ∷ []) (sym is) in
    let P : List FileText → Type 0 = λ files. WritesFiles files old new in
    subst P (sym next) (WritesFiles-snoc (map file_text (take i list)) (file_text file) old mid new written step)

-- the next file of the list can't be written
pub broken_next : (list : List Written) (i : ℕ) (file : Written) (old mid new : List ℕ → KnownFile) → i < length list
    → file ≡ get_or list i file → WritesFiles (map file_text (take i list)) old mid
    → BreaksReplacing (file_text file) mid new
    → BreaksFiles (map file_text list) old new
broken_next [] i file old mid new lt is written broken = absurd (omega arith)
broken_next (first ∷ list) zero file old mid new lt is written broken =
    let P : (List ℕ → KnownFile) → Type 0 = λ holds. BreaksReplacing (file_text file) holds new in
    let Q : Written → Type 0 = λ f. BreaksReplacing (file_text f) old new in
    inl (subst Q is (subst P written broken))
broken_next (first ∷ list) (suc i) file old mid new lt is written broken =
    inr (written.0, written.1, broken_next list i file written.0 mid new (omega arith) is written.2 broken)

-- the next file of the list has a name that isn't accepted
pub refused_next : (accepts : List ℕ → Type 0) (list : List Written) (i : ℕ) (file : Written) → i < length list
    → file ≡ get_or list i file → ¬ accepts (file_text file).name → RefusesFile accepts (map file_text list)
refused_next accepts [] i file lt is refused = absurd (omega arith)
refused_next accepts (first ∷ list) zero file lt is refused =
    let P : Written → Type 0 = λ f. ¬ accepts (file_text f).name in inl (subst P is refused)
refused_next accepts (first ∷ list) (suc i) file lt is refused =
    inr (refused_next accepts list i file (omega arith) is refused)

-- all files of the list are written
pub written_all : (list : List Written) (i : ℕ) (old new : List ℕ → KnownFile) → length list ≤ i
    → WritesFiles (map file_text (take i list)) old new → WritesFiles (map file_text list) old new
written_all list i old new all written =
    let P : List Written → Type 0 = λ files. WritesFiles (map file_text files) old new in
    subst P (take_all i list all) written

-- each of the files has another name
abbrev pub HaveOtherNames : List ℕ → List FileText → Type 0
HaveOtherNames name [] = Unit {0}
HaveOtherNames name (file ∷ more) = (name ≡ file.name → ⊥) × HaveOtherNames name more

-- files of other names stay
pub written_other : (name : List ℕ) (files : List FileText) (old new : List ℕ → KnownFile) → HaveOtherNames name files
    → WritesFiles files old new → new name ≡ old name
written_other name [] old new other written = ap (λ (holds : List ℕ → KnownFile). holds name) written
written_other name (file ∷ more) old new other (mid, replaced, rest) =
    written_other name more mid new other.1 rest
    ∙ replaced.added_alone name other.0 ∙ replaced.cleared_alone name other.0

breaking_other : (name : List ℕ) (file : FileText) (old new : List ℕ → KnownFile) → (name ≡ file.name → ⊥)
    → BreaksReplacing file old new → new name ≡ old name
breaking_other name file old new other (inl same) = ap (λ (holds : List ℕ → KnownFile). holds name) same
breaking_other name file old new other (inr part) = part.added_alone name other ∙ part.cleared_alone name other

pub broken_other : (name : List ℕ) (files : List FileText) (old new : List ℕ → KnownFile) → HaveOtherNames name files
    → BreaksFiles files old new → new name ≡ old name
broken_other name [] old new other broken = absurd broken
broken_other name (file ∷ more) old new other (inl breaking) = breaking_other name file old new other.0 breaking
broken_other name (file ∷ more) old new other (inr (mid, replaced, rest)) =
    broken_other name more mid new other.1 rest
    ∙ replaced.added_alone name other.0 ∙ replaced.cleared_alone name other.0
