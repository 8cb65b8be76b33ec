-- What is counted of a run of a large input, and its summary.
use Rattle.std.specs.Prelude.{◌≡◌, ℕ, ◌+◌, ◌*◌, Bool, true, false, List, [], ◌∷◌, ◌++◌, codes, count_by, length, take}
use Rattle.std.specs.Fmt.{decimal}
use Rattle.std.specs.List.{sum_by}
use Rattle.std.specs.List.Sorted.{IsStrictlyIncreasing}
use Rattle.semantics.specs.Frameworks.{Framework}
use Rattle.certificate_claims.specs.declared.verdict.Verdict.{Verdict}
use Rattle.certificate_claims.specs.declared.verdict.Verdict.TheVariants.{Accepted, Rejected}
use Rattle.certificate_claims.specs.Rights.{IsExtension}
use Rattle.certificate_claims.specs.Verdicts.{IsVerdict}
use Rattle.iccma_tasks.specs.declared.task.Semantics.TheVariants.{Grounded}
use Rattle.edit_history.specs.declared.entry.HistoryEntry.{HistoryEntry}
use Rattle.edit_history.specs.Entries.{framework_after}
use Rattle.script_text.specs.declared.script.ScriptCommand.{ScriptCommand}
use Rattle.script_text.specs.declared.script.ScriptCommand.TheVariants.{Ask}
use Rattle.script_text.specs.declared.script.ScriptLine.{ScriptLine}
use Rattle.session_replies.specs.declared.reply.Body.{Body}
use Rattle.session_replies.specs.declared.reply.Body.TheVariants.{Done, EditRefused, Full, Answered}
use Rattle.session_replies.specs.declared.reply.Reply.{Reply}
use Rattle.bench_runs.specs.Served.{lines_of}
use Rattle.bench_runs.specs.Generator.{bench_framework}
use Rattle.bench_runs.specs.Scripts.{asked_about}
use Rattle.bench_runs.specs.declared.script.TheConstants.{BENCH_SESSIONS}
use Rattle.bench_runs.specs.declared.counts.Counts.{Counts}

-- ---- the text

-- the seven lines: a name and a number each
abbrev pub counts_text : Counts → List ℕ
counts_text c =
    codes "arguments " ++ (decimal c.arguments ++ (codes "\nattacks " ++ (decimal c.attacks
    ++ (codes "\nsessions " ++ (decimal BENCH_SESSIONS ++ (codes "\nedits " ++ (decimal c.edits
    ++ (codes "\nqueries " ++ (decimal c.queries ++ (codes "\nrejected " ++ (decimal c.rejected
    ++ (codes "\ngrounded " ++ (decimal c.grounded ++ codes "\n")))))))))))))

-- what there is to count of n arguments and a seed, whatever the run: each argument that is asked about has two edits
-- and two queries, no answer is rejected, and no argument is without attackers at the end
abbrev pub bench_counts : ℕ → ℕ → Counts
bench_counts n seed = record {
  arguments = n;
  attacks = length (bench_framework n seed).attacks;
  edits = 2 * asked_about n;
  queries = 2 * asked_about n;
  rejected = 0;
  grounded = 0;
}

-- the summary of n arguments and a seed
abbrev pub summary : ℕ → ℕ → List ℕ
summary n seed = counts_text (bench_counts n seed)

-- ---- what is counted

-- the reply is one to a query
abbrev pub is_told_query : Body → Bool
is_told_query (Done effects) = false
is_told_query (EditRefused place fault) = false
is_told_query Full = false
is_told_query _ = true

-- the replies to queries of all sessions
abbrev pub queries_told : List (List Reply) → ℕ
queries_told sessions = sum_by (λ replies. count_by (λ reply. is_told_query reply.body) replies) sessions

-- one for a certificate that is rejected
abbrev pub rejections : Verdict → ℕ
rejections Accepted = 0
rejections (Rejected cause refutation step) = 1

-- how many certificates of a reply are rejected on a framework: that of an answer may be, and other replies have none
abbrev pub IsRejection : Framework → ScriptCommand → Body → ℕ → Type 0
IsRejection f (Ask asked) (Answered answer certificate) count =
    (verdict : Verdict) × IsVerdict f asked answer certificate verdict × (count ≡ rejections verdict)
IsRejection f command body count = count ≡ 0

-- of the replies of a session to its lines, each on the framework behind the entries up to its front
abbrev pub AreRejections : Framework → List HistoryEntry → List ScriptLine → List Reply → ℕ → Type 0
AreRejections f history (line ∷ lines) (reply ∷ replies) count = (here : ℕ) × (more : ℕ)
    × IsRejection (framework_after f (take reply.front history)) line.command reply.body here
    × AreRejections f history lines replies more
    × (count ≡ here + more)
AreRejections f history lines replies count = count ≡ 0

-- of the sessions from s on
abbrev pub AreRejected : Framework → List HistoryEntry → List ScriptLine → ℕ → List (List Reply) → ℕ → Type 0
AreRejected f history lines s [] count = count ≡ 0
AreRejected f history lines s (replies ∷ sessions) count = (here : ℕ) × (more : ℕ)
    × AreRejections f history (lines_of s lines) replies here
    × AreRejected f history lines (s + 1) sessions more
    × (count ≡ here + more)

-- the grounded set of the framework has so many members
pub record IsGroundedSize (f : Framework) (size : ℕ) : Type 0 where
  pub set : List ℕ
  pub rises : IsStrictlyIncreasing set
  pub grounded : IsExtension f Grounded set
  pub size_is : size ≡ length set
