use Rattle.std.proofs.Common.{◌≡◌, ◌∙◌, arith, sym, true, false, rules}
use Rattle.std.proofs.lemmas.List.{get_or_default}
use Rattle.dung_notions.specs.Search.{is_out}
use Rattle.dung_notions.proofs.SearchLemmas.{defeats_one}
use Rattle.dung_notions.proofs.af_plain.AfPlain.defeat.Goals as goal

pub index-requires : goal.index-requires
index-requires c =
    let w = c.requires.attacked in
    let live = (c.requires.form.form.ends w.0 c.args.argument w.2).1 in
    omega (arith, c.requires.state.wide c.args.argument live, c.args.search.now.out.ok.0)

pub index_mut-requires : goal.index_mut-requires
index_mut-requires c =
    let w = c.requires.attacked in
    let live = (c.requires.form.form.ends w.0 c.args.argument w.2).1 in
    omega (arith, c.requires.state.wide c.args.argument live, c.args.search.now.out.ok.0)

pub returns : goal.returns
returns c =
    let w = c.requires.attacked in
    let live = (c.requires.form.form.ends w.0 c.args.argument w.2).1 in
    let lt = c.requires.state.wide c.args.argument live in
    let fresh : is_out c.args.search.now.out.items c.args.argument ≡ false =
    get_or_default c.args.search.now.out.items c.args.argument true c.index.result.now lt
    ∙ sym c.index.ensures ∙ c.if-index.false in
    search (rules, defeats_one c.args.self.now _ _ _ _ c.args.argument lt c.requires.state fresh c.requires.attacked)
