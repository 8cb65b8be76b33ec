use Rattle.std.proofs.Common.{◌≡◌, ◌∷◌, take, drop, sym, subst, ◌∙◌}
use Rattle.apx_tgf.specs.ApxText.{tokens_of, IsToken}
use Rattle.apx_tgf.proofs.TokenLemmas.{name_token, name_token-form, name_prefix-first, byte_token, byte_token-form}
use Rattle.apx_tgf.proofs.token.token_length.Goals as goal

pub returns-then-is_name_byte-clause-token : goal.returns-then-is_name_byte-clause-token
returns-then-is_name_byte-clause-token c =
    subst (λ n. tokens_of c.args.bytes.now ≡ take n c.args.bytes.now ∷ tokens_of (drop n c.args.bytes.now))
    (sym c.name_length.ensures.index) (name_token c.args.bytes.now
    (name_prefix-first c.args.bytes.now c.requires.some (sym c.is_name_byte.ensures ∙ c.if-is_name_byte.true)))

pub returns-else-is_name_byte-clause-token : goal.returns-else-is_name_byte-clause-token
returns-else-is_name_byte-clause-token c = byte_token c.args.bytes.now c.requires.some c.requires.token
    (sym c.is_name_byte.ensures ∙ c.if-is_name_byte.false)

pub returns-then-is_name_byte-clause-form : goal.returns-then-is_name_byte-clause-form
returns-then-is_name_byte-clause-form c =
    subst (λ n. IsToken (take n c.args.bytes.now)) (sym c.name_length.ensures.index)
    (name_token-form c.args.bytes.now c.requires.some
    (name_prefix-first c.args.bytes.now c.requires.some (sym c.is_name_byte.ensures ∙ c.if-is_name_byte.true)))

pub returns-else-is_name_byte-clause-form : goal.returns-else-is_name_byte-clause-form
returns-else-is_name_byte-clause-form c =
    byte_token-form c.args.bytes.now c.requires.some (sym c.is_name_byte.ensures ∙ c.if-is_name_byte.false)
