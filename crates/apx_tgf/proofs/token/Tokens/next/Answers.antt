use Rattle.std.proofs.Common.{◌+◌, sym, ◌∙◌, arith}
use Rattle.std.proofs.lemmas.Bool.{eqb-true, eqb-false}
use Rattle.num_text.proofs.CutLemmas.{rest_length}
use Rattle.apx_tgf.proofs.TokenLemmas.{first_is_no_blank, next_token, last_token}
use Rattle.apx_tgf.proofs.token.Tokens.next.Goals as goal

pub returns-then-is_empty-clause-none : goal.returns-then-is_empty-clause-none
returns-then-is_empty-clause-none c =
    let empty = eqb-true _ _ (sym c.if-is_empty.ensures) in
    let n = rest_length (c.self.inside.start + c.blanks_length.result) c.self.inside.text.now in
    sym c.self.view_is
    ∙ last_token c.self.inside.start c.self.inside.text.now c.blanks_length.result c.blanks_length.ensures.index
    (omega arith)

pub token_length-length-requires-clause-token : goal.token_length-length-requires-clause-token
token_length-length-requires-clause-token c =
    let some = eqb-false _ _ (sym c.if-is_empty.ensures) in
    let n = rest_length (c.self.inside.start + c.blanks_length.result) c.self.inside.text.now in
    first_is_no_blank c.self.inside.start c.self.inside.text.now c.blanks_length.result c.blanks_length.ensures.index
    (omega arith)

pub returns-clause-some : goal.returns-clause-some
returns-clause-some c = sym c.self.view_is
    ∙ next_token c.self.inside.start c.self.inside.text.now c.blanks_length.result c.token_length-length.result
    c.blanks_length.ensures.index c.token_length-length.ensures.token
