use Rattle.apx_tgf.proofs.SeriesLemmas.{name_cut}
use Rattle.apx_tgf.proofs.series.number_behind.Goals as goal

pub returns : goal.returns
returns c = name_cut c.args.prefix.now c.args.name.now c.in_ok-digits.digits.now c.spelled.result
    c.in_ok-digits.ensures.cases.0 c.in_ok-digits.ensures.cases.1 c.spelled.ensures
