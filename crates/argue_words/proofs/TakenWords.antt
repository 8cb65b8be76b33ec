-- Words that clap takes for each command, and words that it does not.
use Rattle.std.proofs.Common.{◌≡◌, ◌≢◌, ◌∙◌, ◌&&◌, Bool, true, false, true≢false, refl, sym, ap, subst}
use Rattle.std.proofs.Common.{List, [], ◌∷◌, Option, None, Some, codes}
use Rattle.std.specs.List.{list_all}
use Rattle.std.specs.Prelude.{fold, slice_get}
use Rattle.clap.specs.Walk.{Held, Walk, finished, nothing_held, walk, walked}
use Rattle.clap.specs.Takes.{default_passes, is_valid, settle_passes, walk_passes}
use Rattle.clap.specs.Words.{Shape, Text, built, first_of, takes}
use Rattle.clap.proofs.TakesLemmas.{leaf_takes}
use Rattle.clap.proofs.OnLiterals.{clap_on_literals}
use Rattle.argue_words.specs.declared.words.CommandName.TheVariants as command
use Rattle.argue_words.specs.Words.{AreUnknown, AreValues, IsAfQuery, IsBenchQuery, IsCheckQuery, IsExportQuery}
use Rattle.argue_words.specs.Words.{IsLiveQuery, IsLratQuery, IsNamesQuery, IsSolveQuery, SolveTexts, command_app}
use Rattle.argue_words.specs.Words.{command_named}
use Rattle.argue_words.specs.Words.{options_of, solve_app, solve_values, words_are_problems}
use Rattle.argue_words.proofs.RequestLaws.{are_unknown}
use Rattle.argue_words.proofs.RequestNames.{other_if, refused_by, requested_other}
use Rattle.argue_words.proofs.ValueWords.{no_flag, value_turn, value_walked}
use Rattle.lists.proofs.TruthValues.{both_from}

-- the shape of the built command
abbrev top : Shape
top = (built solve_app).top

-- what stands at the end of the words passes
abbrev ends : Walk → Bool
ends w = settle_passes top.rules top.args_override_self w.held
    && (list_all default_passes top.rules && is_valid top (finished top.rules w.held) false)

abbrev held_after : List Text → Held
held_after words = (walk top.rules [] nothing_held words).held

abbrev walked_on : Walk → List Text → Walk
walked_on w words = fold (walked top.rules []) w words

abbrev task_words : List Text
task_words = codes "-p" ∷ codes "SE-GR" ∷ []

-- a query for a task and a file alone
abbrev plain_texts : Text → Text → SolveTexts
plain_texts task file = record { task = task; file = file; number = None; budget = None; certificate = None }

-- the values of such a query
abbrev HasTexts : Text → (Text → Option Text) → Type 0
HasTexts file value = AreValues value (solve_values (plain_texts (codes "SE-GR") file))

-- any name of a file that begins with no hyphen, after the task
pub task_first : (file : Text) → slice_get file 0 ≢ Some 45
    → IsSolveQuery (codes "-p" ∷ codes "SE-GR" ∷ codes "-f" ∷ file ∷ []) (plain_texts (codes "SE-GR") file)
unfolding clap_on_literals command_app options_of
task_first file other =
    let words : List Text = codes "-p" ∷ codes "SE-GR" ∷ codes "-f" ∷ file ∷ [] in
    let h : Held = held_after (codes "-p" ∷ codes "SE-GR" ∷ codes "-f" ∷ []) in
    let step = value_walked [] (codes "file") 1 h file (no_flag file other) top.rules in
    let turn = value_turn [] (codes "file") 1 h file (no_flag file other) top in
    let values : Walk → Text → Option Text = λ w id. first_of id (finished top.rules w.held) in
    record {
      no_name = refl;
      no_list = refl;
      has = record {
        taken = both_from _ _ refl (leaf_takes (built solve_app) nothing_held words refl
            (both_from _ _ (both_from _ _ refl (both_from _ _ refl (both_from _ _ refl (both_from _ _ turn refl))))
            (subst (λ w. ends w ≡ true) (sym step) refl)));
        values_are = subst (HasTexts file) (sym (ap values step)) (refl, (refl, (refl, (refl, (refl, tt)))));
      };
    }

-- and before it
pub file_first : (file : Text) → slice_get file 0 ≢ Some 45
    → IsSolveQuery (codes "-f" ∷ file ∷ codes "-p" ∷ codes "SE-GR" ∷ []) (plain_texts (codes "SE-GR") file)
unfolding clap_on_literals command_app options_of
file_first file other =
    let words : List Text = codes "-f" ∷ file ∷ task_words in
    let h : Held = held_after (codes "-f" ∷ []) in
    let step = value_walked [] (codes "file") 1 h file (no_flag file other) top.rules in
    let turn = value_turn [] (codes "file") 1 h file (no_flag file other) top in
    let values : Walk → Text → Option Text = λ w id. first_of id (finished top.rules (walked_on w task_words).held) in
    record {
      no_name = refl;
      no_list = refl;
      has = record {
        taken = both_from _ _ refl (leaf_takes (built solve_app) nothing_held words refl
            (both_from _ _
            (both_from _ _ refl
            (both_from _ _ turn (subst (λ w. walk_passes top [] w task_words ≡ true) (sym step) refl)))
            (subst (λ w. ends (walked_on w task_words) ≡ true) (sym step) refl)));
        values_are = subst (HasTexts file) (sym (ap values step)) (refl, (refl, (refl, (refl, (refl, tt)))));
      };
    }

pub values_attached : IsSolveQuery (codes "-pSE-GR" ∷ codes "-fa.af" ∷ []) (plain_texts (codes "SE-GR") (codes "a.af"))
unfolding clap_on_literals command_app options_of
values_attached = record {
  no_name = refl;
  no_list = refl;
  has = record { taken = refl; values_are = (refl, (refl, (refl, (refl, (refl, tt))))) };
}

abbrev query_words : List Text
query_words = codes "-p" ∷ codes "DC-CO" ∷ codes "-f" ∷ codes "a.af" ∷ codes "-a" ∷ codes "3" ∷ codes "-b" ∷ codes "10"
    ∷ codes "-c" ∷ codes "c" ∷ []

pub query_with_all : IsSolveQuery query_words (record {
  task = codes "DC-CO";
  file = codes "a.af";
  number = Some (codes "3");
  budget = Some (codes "10");
  certificate = Some (codes "c");
})
unfolding clap_on_literals command_app options_of
query_with_all = record {
  no_name = refl;
  no_list = refl;
  has = record { taken = refl; values_are = (refl, (refl, (refl, (refl, (refl, tt))))) };
}

abbrev check_words : List Text
check_words = codes "-p" ∷ codes "DS-PR" ∷ codes "-f" ∷ codes "a.af" ∷ codes "-a" ∷ codes "4" ∷ codes "-r"
    ∷ codes "b" ∷ codes "-c" ∷ codes "c" ∷ []

pub check_with_number : IsCheckQuery (codes "check" ∷ check_words) (record {
  task = codes "DS-PR";
  number = Some (codes "4");
  file = codes "a.af";
  answer = codes "b";
  certificate = codes "c";
})
unfolding clap_on_literals command_app options_of
check_with_number = record {
  rest = check_words;
  words_are = refl;
  has = record { taken = refl; values_are = (refl, (refl, (refl, (refl, (refl, tt))))) };
}

abbrev live_words : List Text
live_words = codes "-s" ∷ codes "s" ∷ codes "-b" ∷ codes "10" ∷ codes "-f" ∷ codes "a.af" ∷ codes "-c" ∷ codes "c" ∷ []

pub live_with_all : IsLiveQuery (codes "live" ∷ live_words) (record {
  file = codes "a.af";
  script = codes "s";
  budget = Some (codes "10");
  certificate = Some (codes "c");
})
unfolding clap_on_literals command_app options_of
live_with_all = record {
  rest = live_words;
  words_are = refl;
  has = record { taken = refl; values_are = (refl, (refl, (refl, (refl, tt)))) };
}

abbrev script_words : List Text
script_words = codes "-f" ∷ codes "a.af" ∷ codes "-s" ∷ codes "s" ∷ []

pub live_alone : IsLiveQuery (codes "live" ∷ script_words)
    (record { file = codes "a.af"; script = codes "s"; budget = None; certificate = None })
unfolding clap_on_literals command_app options_of
live_alone = record {
  rest = script_words;
  words_are = refl;
  has = record { taken = refl; values_are = (refl, (refl, (refl, (refl, tt)))) };
}

-- a script's run wants a script
pub no_script : AreUnknown (codes "live" ∷ codes "-f" ∷ codes "a.af" ∷ [])
unfolding clap_on_literals command_app options_of
no_script =
    are_unknown _ (λ none. cc) (refused_by (Some command.Live) (codes "-f" ∷ codes "a.af" ∷ []) refl) (λ none. cc)

abbrev names_words : List Text
names_words = codes "-p" ∷ codes "DC-CO" ∷ codes "-f" ∷ codes "a.apx" ∷ codes "-a" ∷ codes "b" ∷ codes "-k"
    ∷ codes "apx" ∷ []

pub names_with_name : IsNamesQuery (codes "names" ∷ names_words) (record {
  task = codes "DC-CO";
  kind = codes "apx";
  file = codes "a.apx";
  name = Some (codes "b");
  budget = None;
  certificate = None;
})
unfolding clap_on_literals command_app options_of
names_with_name = record {
  rest = names_words;
  words_are = refl;
  has = record { taken = refl; values_are = (refl, (refl, (refl, (refl, (refl, (refl, tt)))))) };
}

abbrev af_words : List Text
af_words = codes "-f" ∷ codes "a.tgf" ∷ codes "-k" ∷ codes "tgf" ∷ []

pub af_with_both : IsAfQuery (codes "af" ∷ af_words) (record { kind = codes "tgf"; file = codes "a.tgf" })
unfolding clap_on_literals command_app options_of
af_with_both =
    record { rest = af_words; words_are = refl; has = record { taken = refl; values_are = (refl, (refl, tt)) } }

abbrev lrat_words : List Text
lrat_words = codes "-l" ∷ codes "a.lrat" ∷ codes "-d" ∷ codes "a.cnf" ∷ []

pub lrat_with_both : IsLratQuery (codes "lrat" ∷ lrat_words) (record { cnf = codes "a.cnf"; lrat = codes "a.lrat" })
unfolding clap_on_literals command_app options_of
lrat_with_both =
    record { rest = lrat_words; words_are = refl; has = record { taken = refl; values_are = (refl, (refl, tt)) } }

abbrev export_words : List Text
export_words = codes "-o" ∷ codes "a" ∷ codes "-i" ∷ codes "0" ∷ codes "-p" ∷ codes "DS-PR" ∷ codes "-f" ∷ codes "a.af"
    ∷ codes "-r" ∷ codes "a.out" ∷ codes "-c" ∷ codes "a.cert" ∷ codes "-a" ∷ codes "3" ∷ []

pub export_with_all : IsExportQuery (codes "export" ∷ export_words) (record {
  check = record {
    task = codes "DS-PR";
    number = Some (codes "3");
    file = codes "a.af";
    answer = codes "a.out";
    certificate = codes "a.cert";
  };
  refutation = codes "0";
  output = codes "a";
})
unfolding clap_on_literals command_app options_of
export_with_all = record {
  rest = export_words;
  words_are = refl;
  has = record { taken = refl; values_are = (refl, (refl, (refl, (refl, (refl, (refl, (refl, tt))))))) };
}

abbrev bench_words : List Text
bench_words = codes "-x" ∷ codes "7" ∷ codes "-n" ∷ codes "40" ∷ []

pub bench_with_both : IsBenchQuery (codes "bench" ∷ bench_words) (record { arguments = codes "40"; seed = codes "7" })
unfolding clap_on_literals command_app options_of
bench_with_both =
    record { rest = bench_words; words_are = refl; has = record { taken = refl; values_are = (refl, (refl, tt)) } }

pub list_alone : words_are_problems (codes "--problems" ∷ []) ≡ true
list_alone = refl

refused : (words : List Text) → (words ≡ [] → ⊥) → command_named words ≡ None → words_are_problems words ≡ false
    → takes solve_app words ≡ false → AreUnknown words
refused words some none listed e =
    are_unknown words some
    (requested_other words some none ∙ ap (λ b. other_if b words) listed ∙ refused_by None words e)
    (λ _. record {
      no_list = λ is. true≢false (sym is ∙ listed);
      refused = λ taken. true≢false (sym taken ∙ e);
    })

pub no_task : AreUnknown (codes "-f" ∷ codes "a.af" ∷ [])
unfolding clap_on_literals command_app options_of
no_task = refused _ (λ none. cc) refl refl refl

pub no_file : AreUnknown (codes "-p" ∷ codes "SE-GR" ∷ [])
unfolding clap_on_literals command_app options_of
no_file = refused _ (λ none. cc) refl refl refl

pub file_twice : AreUnknown
    (codes "-p" ∷ codes "SE-GR" ∷ codes "-f" ∷ codes "a.af" ∷ codes "-f" ∷ codes "a.af" ∷ [])
unfolding clap_on_literals command_app options_of
file_twice = refused _ (λ none. cc) refl refl refl

pub list_with_a_file : AreUnknown (codes "--problems" ∷ codes "-f" ∷ codes "a.af" ∷ [])
unfolding clap_on_literals command_app options_of
list_with_a_file = refused _ (λ none. cc) refl refl refl

pub help_asked : AreUnknown (codes "--help" ∷ [])
unfolding clap_on_literals command_app options_of
help_asked = refused _ (λ none. cc) refl refl refl
