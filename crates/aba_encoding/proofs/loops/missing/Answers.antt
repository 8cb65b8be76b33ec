use Rattle.std.proofs.Common.{ℕ, List, rules}
use Rattle.std.specs.Prelude.{Contains}
use Rattle.lists.specs.Members.{IsSetOf}
use Rattle.semantics.specs.Frameworks.{aba}
use Rattle.semantics.specs.AbaFrameworks.{IsAtom}
use Rattle.semantics.specs.Rules.{Derives}
use Rattle.af_encoding.specs.Decoded.{Affirms}
use Rattle.meaning_atoms.specs.declared.atom.Atom.TheVariants.{Asm, Der}
use Rattle.meaning_atoms.specs.declared.atom.Closure.{Closure}
use Rattle.meaning_atoms.specs.declared.atom.Closure.TheVariants.{Own, Rest}
use Rattle.oracle_face.specs.Decoding.{IsDecoded, IsNewLoop}
use Rattle.aba_encoding.specs.AbaModels.{IsFirstLoop, IsFounded, IsLoopBeside, IsLoopName}
use Rattle.aba_encoding.proofs.LoopLemmas.{
  all_founded,
  found_there,
  found_weaker,
  loop_is,
  none_else,
  none_there,
  own_first,
  own_loop_new,
  own_unfounded,
  rest_first,
  rest_loop_new,
  rest_unfounded,
}
use Rattle.aba_encoding.proofs.ModelReadings.{model_reads_back}
use Rattle.aba_encoding.proofs.loops.missing.Goals as goal

pub returns-in-Some : goal.returns-in-Some
returns-in-Some c =
    let f = c.args.plain.now in
    let values = c.args.values.now in
    let own = c.in_ok-own.own in
    let name = c.in-Some.name in
    let form = c.loop_beside.ensures.form in
    let derives = c.in_ok-own.ensures in
    let is = found_there (IsLoopBeside f values own Own) c.in_ok-name.field-0 name c.in-Some.is
    c.in_ok-name.ensures.some in
    record {
      loops = loop_is f values own Own name form is;
      lacks = λ model tells. own_loop_new f values own form derives model tells name is;
      first = λ set members. own_first f values own set name derives members is;
      unfounded = λ set members. own_unfounded f values own set name derives members is;
      founded = search rules;
      reads = search rules;
    }

pub returns-clause-first : goal.returns-clause-first
returns-clause-first c =
    let f = c.args.plain.now in
    let values = c.args.values.now in
    let own = c.in_ok-own.own in
    found_weaker (IsLoopBeside f values c.in_ok-rest.rest Rest)
    (λ name. (set : List ℕ) → IsSetOf (IsDecoded Asm values) set → IsFirstLoop f values set name)
    c.in_ok-found.found
    (λ name h set is. rest_first f values own set c.in_ok-rest.rest name c.in_ok-own.ensures is c.in_ok-rest.ensures
    (none_else ((x : ℕ) → IsAtom f.atoms x → Affirms values (Der Own x) → Derives f.rules (Contains own) x)
    c.in_ok-name.field-0 c.in_default.not-Some c.in_ok-name.ensures.none) h)
    c.in_ok-found.ensures.some

pub returns-clause-unfounded : goal.returns-clause-unfounded
returns-clause-unfounded c =
    let f = c.args.plain.now in
    let values = c.args.values.now in
    found_weaker (IsLoopBeside f values c.in_ok-rest.rest Rest)
    (λ name. (set : List ℕ) → IsSetOf (IsDecoded Asm values) set → ¬ ((k : Closure) → IsFounded f values set k))
    c.in_ok-found.found
    (λ name h set is. rest_unfounded f values c.in_ok-own.own set c.in_ok-rest.rest name c.in_ok-own.ensures is
    c.in_ok-rest.ensures h)
    c.in_ok-found.ensures.some

pub returns-clause-loops : goal.returns-clause-loops
returns-clause-loops c =
    let f = c.args.plain.now in
    let values = c.args.values.now in
    found_weaker (IsLoopBeside f values c.in_ok-rest.rest Rest) IsLoopName c.in_ok-found.found
    (λ name h. loop_is f values c.in_ok-rest.rest Rest name c.loop_beside.ensures.form h) c.in_ok-found.ensures.some

pub returns-clause-lacks : goal.returns-clause-lacks
returns-clause-lacks c =
    let f = c.args.plain.now in
    let values = c.args.values.now in
    λ model tells.
    found_weaker (IsLoopBeside f values c.in_ok-rest.rest Rest) (IsNewLoop (aba f) values) c.in_ok-found.found
    (λ name h. rest_loop_new f values c.in_ok-own.own c.loop_beside.ensures.form c.in_ok-own.ensures model
    c.in_ok-rest.rest c.in_ok-rest.ensures name h)
    c.in_ok-found.ensures.some

pub returns-clause-founded : goal.returns-clause-founded
returns-clause-founded c =
    let f = c.args.plain.now in
    let values = c.args.values.now in
    let own = c.in_ok-own.own in
    λ none set is k. all_founded f values c.loop_beside.ensures.form own c.in_ok-rest.rest c.in_ok-own.ensures
    c.in_ok-rest.ensures
    (none_else ((x : ℕ) → IsAtom f.atoms x → Affirms values (Der Own x) → Derives f.rules (Contains own) x)
    c.in_ok-name.field-0 c.in_default.not-Some c.in_ok-name.ensures.none)
    (none_there ((x : ℕ) → IsAtom f.atoms x → Affirms values (Der Rest x)
    → Derives f.rules (Contains c.in_ok-rest.rest) x)
    c.in_ok-found.found none c.in_ok-found.ensures.none)
    set is k

pub returns-clause-reads : goal.returns-clause-reads
returns-clause-reads c =
    let f = c.args.plain.now in
    let values = c.args.values.now in
    λ none model set is. model_reads_back f values set c.loop_beside.ensures.form model is
    (returns-clause-founded c none set is Own) (returns-clause-founded c none set is Rest)
