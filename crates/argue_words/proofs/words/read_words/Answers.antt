use Rattle.std.proofs.Common.{◌≡◌, ◌∙◌, ap, map, rules, sym}
use Rattle.std.specs.String.{string_bytes}
use Rattle.argue_words.specs.Words.{named}
use Rattle.argue_words.proofs.FoundLaws.{named_unknown}
use Rattle.argue_words.proofs.words.read_words.Goals as goal

pub returns-in-Some-named-clause-unknown : goal.returns-in-Some-named-clause-unknown
returns-in-Some-named-clause-unknown c =
    named_unknown (map string_bytes c.args.words.now) (map string_bytes c.in-Some.rest.now)
    (string_bytes c.in-Some.first.now) c.in-Some-named.name c.read_by.result (search rules)
    (ap named (sym c.as_str.ensures.value) ∙ sym c.named.ensures ∙ c.in-Some-named.is) c.read_by.ensures.request
