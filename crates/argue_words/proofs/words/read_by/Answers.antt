use Rattle.clap.specs.Words.{first_value, found_of}
use Rattle.argue_words.proofs.FoundLaws.{matched, query_known, refused_at, refused_query}
use Rattle.argue_words.proofs.words.read_by.Goals as goal

pub returns-in-Ok : goal.returns-in-Ok
returns-in-Ok c = record {
  request = matched _ _ (first_value (found_of c.in-Ok.matches)) _ c.in-Ok.ensures.taken c.in-Ok.ensures.values
      c.asked_of.ensures;
  unknown = λ is none. absurd (query_known _ (first_value (found_of c.in-Ok.matches)) _ c.asked_of.ensures
      c.in-Ok.ensures.given is none);
}

pub returns-in-Err : goal.returns-in-Err
returns-in-Err c = record {
  request = refused_at _ _ _ _ c.in-Err.ensures.refused c.refusal.ensures.unknown;
  unknown = refused_query _ _ _ _ c.in-Err.ensures.refused c.refusal.ensures.unknown;
}
