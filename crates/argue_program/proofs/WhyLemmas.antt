-- A run that ends by the session of its query alone.
use Rattle.std.proofs.Common.{◌≡◌, ◌≢◌, ℕ, List, [], ◌∷◌, refl, ap, subst, inl, inr, Option, None, Some}
use Rattle.argue_outside.specs.Outside.{KnownFile}
use Rattle.argue_words.specs.Words.{AfTexts, CheckTexts, IsNamesQuery, IsSolveQuery, LiveTexts, NamesTexts, Request}
use Rattle.argue_words.specs.Words.{SolveTexts, version, problems, solving, checking, living, benching, by_name}
use Rattle.argue_words.specs.Words.{ExportTexts, numbering, verifying, exporting, unknown, requested}
use Rattle.argue_words.proofs.RequestLaws.{names_requested_by, query_requested}
use Rattle.apx_tgf.specs.declared.format.NameFormat.{NameFormat}
use Rattle.named_commands.specs.Namings.{format_named, naming_by}
use Rattle.named_commands.specs.declared.naming.Naming.{Naming}
use Rattle.lrat_text.specs.CnfText.{Formula}
use Rattle.lrat_commands.specs.Exporting.{ExportEnds, exporting_by}
use Rattle.lrat_commands.specs.Verifying.{LratEnds}
use Rattle.lrat_commands.specs.declared.exporting.Exporting.{Exporting}
use Rattle.semantics.specs.Frameworks.{Framework as AnyFramework}
use Rattle.argue_commands.specs.Inputs.{Input, Reading, StopsAt, StopsAtFirst}
use Rattle.argue_program.specs.Rows.{EndsCommand, af_row, bench_row, check_row, live_row, names_row, row_of, export_row}
use Rattle.argue_program.specs.Rows.{solve_row}
use Rattle.iccma_tasks.specs.Tasks.{Asked}
use Rattle.argue_program.specs.LargeInputs.{large_by}
use Rattle.argue_commands.specs.Queries.{asked_by, budget_of, solving_by}
use Rattle.argue_commands.specs.Solves.{status_of}
use Rattle.argue_program.specs.declared.large.LargeInput.{LargeInput}
use Rattle.argue_commands.specs.declared.query.Solving.{Solving}
use Rattle.argue_commands.proofs.SolveLemmas.{fills, spends_all}
use Rattle.argue_commands.specs.Checks.{CheckEnds}
use Rattle.iccma_tasks.specs.declared.answer.Answer.{Answer}
use Rattle.certificate_claims.specs.declared.certificate.Certificate.{Certificate}
use Rattle.argue_program.specs.Runs.{AsksSession, FillsLog, SpendsBudget}
use Rattle.argue_commands.specs.declared.ended.KeptSession.{KeptSession}
use Rattle.argue_commands.specs.declared.ended.Status.{Status}
use Rattle.argue_commands.specs.declared.ended.Status.TheVariants.{Done, Usage, InputRefused, ReadFault, WriteFault}
use Rattle.argue_commands.specs.declared.ended.Status.TheVariants.{WantOfMemory, Unknown, Limit, Rejected}
use Rattle.argue_commands.specs.declared.ended.Refusal.TheVariants.{UnknownName}
use Rattle.argue_program.specs.declared.ended.Transcript.{Transcript}
use Rattle.argue_program.proofs.KeptLemmas.{asks_name, asks_number}
use Rattle.argue_commands.specs.declared.ended.Limit.TheVariants as limit

-- ---- a run that ends by its session alone

-- a status that says why a query that fits has no answer
abbrev pub SaysWhy : Status → Type 0
SaysWhy Unknown = Unit {0}
SaysWhy (Limit limit.Extensions) = Unit {0}
SaysWhy (Limit limit.Log) = Unit {0}
SaysWhy _ = ⊥

-- the run keeps the session of the words' query, and ends as its reply says
pub record KeepsAsked (words : List (List ℕ)) (holds : List ℕ → KnownFile) (kept : Transcript) (end : Status) : Type 0 where
  pub session : KeptSession
  pub keeps : kept.session ≡ Some session
  pub asks : AsksSession words holds session
  pub ends : end ≡ status_of session.reply

pub no_why : (found : Reading) (end : Status) (one : Input) → SaysWhy end → ¬ StopsAt found end one
no_why found Unknown one why stops = stops
no_why found (Limit limit.Extensions) one why stops = stops
no_why found (Limit limit.Log) one why stops = stops
no_why found (Limit limit.Input) one why stops = why
no_why found Done one why stops = why
no_why found Usage one why stops = why
no_why found (InputRefused refusal) one why stops = why
no_why found (ReadFault r) one why stops = why
no_why found WriteFault one why stops = why
no_why found WantOfMemory one why stops = why
no_why found (Rejected rejection) one why stops = why

pub no_first_why : (found : Reading) (end : Status) (inputs : List Input) → SaysWhy end → ¬ StopsAtFirst found end inputs
no_first_why found end [] why stops = stops
no_first_why found end (one ∷ more) why (inl stops) = no_why found end one why stops.0
no_first_why found end (one ∷ more) why (inr passes) = no_first_why found end more why passes.1

pub no_check_why : (f : AnyFramework) (asked : Asked) (answer : Answer) (certificate : Certificate) (end : Status) → SaysWhy
    end
    → ¬ CheckEnds f asked answer certificate end
no_check_why f asked answer certificate Unknown why ends = ends
no_check_why f asked answer certificate (Limit l) why ends = ends
no_check_why f asked answer certificate Done why ends = why
no_check_why f asked answer certificate Usage why ends = why
no_check_why f asked answer certificate (InputRefused refusal) why ends = why
no_check_why f asked answer certificate (ReadFault r) why ends = why
no_check_why f asked answer certificate WriteFault why ends = why
no_check_why f asked answer certificate WantOfMemory why ends = why
no_check_why f asked answer certificate (Rejected rejection) why ends = why

pub not_why : (end other : Status) → SaysWhy end → (SaysWhy other → ⊥) → end ≢ other
not_why end other why none is = none (subst SaysWhy is why)

pub check_why : (holds : List ℕ → KnownFile) (asked : Option Asked) (texts : CheckTexts) (kept : Transcript) (end : Status)
    → SaysWhy end → ¬ (check_row holds asked texts).Ends kept end
check_why holds None texts kept end why unasked = not_why end Usage why (λ w. w) unasked.1
check_why holds (Some asked) texts kept end why checks =
    no_check_why checks.1.framework asked checks.1.answer checks.1.certificate end why checks.1.ends

pub solve_why : (found : Reading) (words : List (List ℕ)) (texts : SolveTexts) (by : Option Solving) (kept : Transcript)
    (end : Status) → SaysWhy end → IsSolveQuery words texts → solving_by texts ≡ by
    → (solve_row found.holds by texts).Ends kept end → KeepsAsked words found.holds kept end
solve_why found words texts None kept end why asks query_is unasked =
    absurd (not_why end Usage why (λ w. w) unasked.1)
solve_why found words texts (Some query) kept end why asks query_is solved = record {
  session = solved.session;
  keeps = ap (λ (k : Transcript). k.session) solved.keeps;
  asks = asks_number words found.holds texts query solved.session asks query_is solved.on;
  ends = solved.ends;
}

pub live_why : (holds : List ℕ → KnownFile) (by : Option ℕ) (texts : LiveTexts) (kept : Transcript) (end : Status)
    → SaysWhy end → ¬ (live_row holds by texts).Ends kept end
live_why holds None texts kept end why unasked = not_why end Usage why (λ w. w) unasked.1
live_why holds (Some budget) texts kept end why lives = not_why end Done why (λ w. w) lives.ends

pub bench_why : (by : Option LargeInput) (kept : Transcript) (end : Status) → SaysWhy end → ¬ (bench_row by).Ends kept end
bench_why None kept end why unasked = not_why end Usage why (λ w. w) unasked.1
bench_why (Some large) kept end why ends = not_why end Done why (λ w. w) ends.ends

pub names_why : (found : Reading) (words : List (List ℕ)) (texts : NamesTexts) (by : Option Naming) (kept : Transcript)
    (end : Status) → SaysWhy end → IsNamesQuery words texts → naming_by texts ≡ by
    → (names_row found.holds by texts).Ends kept end → KeepsAsked words found.holds kept end
names_why found words texts None kept end why asks naming_is unasked =
    absurd (not_why end Usage why (λ w. w) unasked.1)
names_why found words texts (Some naming) kept end why asks naming_is (inr unnamed) =
    absurd (not_why end (InputRefused UnknownName) why (λ w. w) unnamed.ends)
names_why found words texts (Some naming) kept end why asks naming_is (inl named) = record {
  session = named.session;
  keeps = ap (λ (k : Transcript). k.session) named.keeps;
  asks = asks_name words found.holds texts naming named.session named.text asks naming_is named.answers;
  ends = named.ends;
}

pub af_why : (holds : List ℕ → KnownFile) (by : Option NameFormat) (texts : AfTexts) (kept : Transcript) (end : Status)
    → SaysWhy end → ¬ (af_row holds by texts).Ends kept end
af_why holds None texts kept end why unasked = not_why end Usage why (λ w. w) unasked.1
af_why holds (Some format) texts kept end why numbered = not_why end Done why (λ w. w) numbered.ends

pub lrat_why : (f : Formula) (bytes : List ℕ) (end : Status) → SaysWhy end → ¬ LratEnds f bytes end
lrat_why f bytes Unknown why ends = ends
lrat_why f bytes (Limit l) why ends = ends
lrat_why f bytes Done why ends = why
lrat_why f bytes Usage why ends = why
lrat_why f bytes (InputRefused refusal) why ends = why
lrat_why f bytes (ReadFault r) why ends = why
lrat_why f bytes WriteFault why ends = why
lrat_why f bytes WantOfMemory why ends = why
lrat_why f bytes (Rejected rejection) why ends = why

no_export_why : (f : AnyFramework) (asked : Asked) (answer : Answer) (certificate : Certificate) (number : ℕ)
    (end : Status) → SaysWhy end → ¬ ExportEnds f asked answer certificate number end
no_export_why f asked answer certificate number Unknown why ends = ends
no_export_why f asked answer certificate number (Limit l) why ends = ends
no_export_why f asked answer certificate number Done why ends = why
no_export_why f asked answer certificate number Usage why ends = why
no_export_why f asked answer certificate number (InputRefused refusal) why ends = why
no_export_why f asked answer certificate number (ReadFault r) why ends = why
no_export_why f asked answer certificate number WriteFault why ends = why
no_export_why f asked answer certificate number WantOfMemory why ends = why
no_export_why f asked answer certificate number (Rejected rejection) why ends = why

export_why : (holds : List ℕ → KnownFile) (by : Option Exporting) (texts : ExportTexts) (kept : Transcript)
    (end : Status) → SaysWhy end → ¬ (export_row holds by texts).Ends kept end
export_why holds None texts kept end why unasked = not_why end Usage why (λ w. w) unasked.1
export_why holds (Some wanted) texts kept end why exports =
    no_export_why exports.1.framework wanted.query exports.1.answer exports.1.certificate wanted.number end why
    exports.1.ends

pub keeps_asked : (found : Reading) (words : List (List ℕ)) (request : Request) (kept : Transcript) (end : Status)
    → SaysWhy end → requested words ≡ request → EndsCommand found (row_of found.holds request) kept end
    → KeepsAsked words found.holds kept end
keeps_asked found words request kept end why asked (inl (nothing, inl stops)) =
    absurd (no_first_why found end (row_of found.holds request).inputs why stops)
keeps_asked found words request kept end why asked (inl (nothing, inr memory)) =
    absurd (not_why end WantOfMemory why (λ w. w) memory.0)
keeps_asked found words version kept end why asked (inr done) = absurd (not_why end Done why (λ w. w) done.1)
keeps_asked found words problems kept end why asked (inr done) = absurd (not_why end Done why (λ w. w) done.1)
keeps_asked found words (checking texts) kept end why asked (inr checks) =
    absurd (check_why found.holds (asked_by texts.task texts.number) texts kept end why checks)
keeps_asked found words unknown kept end why asked (inr unasked) = absurd (not_why end Usage why (λ w. w) unasked.1)
keeps_asked found words (living texts) kept end why asked (inr ends) =
    absurd (live_why found.holds (budget_of texts.budget) texts kept end why ends)
keeps_asked found words (benching texts) kept end why asked (inr ends) =
    absurd (bench_why (large_by texts) kept end why ends)
keeps_asked found words (by_name texts) kept end why asked (inr ends) =
    names_why found words texts (naming_by texts) kept end why (names_requested_by words texts asked) refl ends
keeps_asked found words (numbering texts) kept end why asked (inr ends) =
    absurd (af_why found.holds (format_named texts.kind) texts kept end why ends)
keeps_asked found words (verifying texts) kept end why asked (inr ends) =
    absurd (lrat_why ends.1.formula ends.1.bytes end why ends.1.ends)
keeps_asked found words (exporting texts) kept end why asked (inr ends) =
    absurd (export_why found.holds (exporting_by texts) texts kept end why ends)
keeps_asked found words (solving texts) kept end why asked (inr ends) =
    solve_why found words texts (solving_by texts) kept end why (query_requested words texts asked) refl ends

pub spends_budget : (words : List (List ℕ)) (holds : List ℕ → KnownFile) (kept : Transcript)
    → KeepsAsked words holds kept Unknown → SpendsBudget words holds kept
spends_budget words holds kept asked =
    let asks = asked.asks in
    let all = spends_all asks.framework asks.query asked.session asks.is asked.ends in
    record {
      session = asked.session;
      keeps = asked.keeps;
      asks = asked.asks;
      units = all.units;
      fresh = all.fresh;
      in_hand = all.in_hand;
      pending = all.pending;
      further = all.further;
      in_hand_serves = all.in_hand_serves;
    }

pub fills_log : (words : List (List ℕ)) (holds : List ℕ → KnownFile) (kept : Transcript)
    → KeepsAsked words holds kept (Limit limit.Log) → FillsLog words holds kept
fills_log words holds kept asked = record {
  session = asked.session;
  keeps = asked.keeps;
  asks = asked.asks;
  full = fills asked.asks.framework asked.asks.query asked.session asked.asks.is asked.ends;
}
