use Rattle.apx_tgf.proofs.SeriesLemmas.{decimal_if_spelled}
use Rattle.apx_tgf.proofs.series.spelled.Goals as goal

pub returns : goal.returns
returns c = decimal_if_spelled c.args.digits.now c.decimal.result c.decimal.ensures.number
    (c.has_leading_zero.ensures c.if-has_leading_zero.false)
