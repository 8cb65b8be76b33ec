use Rattle.std.proofs.Common.{◌<◌, length, arith, map, refl, subst, sym}
use Rattle.oracle_face.specs.AbaNeeded.{Heads}
use Rattle.aba_encoding.specs.Listing.{heading}
use Rattle.aba_encoding.specs.Places.{IsNextAfter}
use Rattle.aba_encoding.proofs.HeadLemmas.{head_next, head_none, long, number_of}
use Rattle.aba_encoding.proofs.places.next_after.Goals as goal

pub returns-then-first-headed_by-clause-none : goal.returns-then-first-headed_by-clause-none
returns-then-first-headed_by-clause-none c =
    let f = c.args.plain.now in
    let same = long f c.next-next.ensures.form c.args.atom (map number_of f.rules) c.headed_by.result.now refl
    c.headed_by.ensures.rise c.headed_by.ensures.rules in
    let all = c.if-first-headed_by.true in
    head_none f c.next-next.ensures.form c.args.atom c.args.number c.rules_below-first.result
    c.rules_below-first.ensures.cut (omega arith)

pub number_at-requires : goal.number_at-requires
number_at-requires c =
    let f = c.args.plain.now in
    let same = long f c.next-next.ensures.form c.args.atom (map number_of f.rules) c.headed_by.result.now refl
    c.headed_by.ensures.rise c.headed_by.ensures.rules in
    let some = c.if-first-headed_by.false in
    let bound = c.rules_below-first.ensures.bound in
    omega arith

pub returns-clause-some : goal.returns-clause-some
returns-clause-some c =
    let f = c.args.plain.now in
    let same = long f c.next-next.ensures.form c.args.atom (map number_of f.rules) c.headed_by.result.now refl
    c.headed_by.ensures.rise c.headed_by.ensures.rules in
    let some = c.if-first-headed_by.false in
    let bound = c.rules_below-first.ensures.bound in
    let within : c.rules_below-first.result < length (heading f c.args.atom) = omega arith in
    subst (λ m. IsNextAfter (Heads f c.args.atom) c.args.number m) (sym c.number_at.ensures)
    (head_next f c.next-next.ensures.form c.args.atom c.args.number c.rules_below-first.result
    c.rules_below-first.ensures.cut within)
