use Rattle.std.proofs.Common.{rules}
use Rattle.af_format.proofs.Reading.{ends_are_arguments, bad_text_told, header_few, read_is_solid, reads_as}
use Rattle.af_format.proofs.Readings.{ReadsAs-same}
use Rattle.af_format.proofs.read.read_af.Goals as goal

pub framework_of-requires-clause-ends : goal.framework_of-requires-clause-ends
framework_of-requires-clause-ends c =
    ends_are_arguments c.in_ok-count.count _ c.in_ok-attacks.attacks c.in_ok-attacks.ensures.ok

pub returns-in_err-attacks-clause-fault : goal.returns-in_err-attacks-clause-fault
returns-in_err-attacks-clause-fault c = search (
  rules,
  bad_text_told c.args.bytes.now c.in_ok-count.count c.read_count.new.left c.in_err-attacks.field-0.0
      c.in_ok-count.ensures.ok c.in_err-attacks.ensures.fault,
)

pub returns-clause-no_other : goal.returns-clause-no_other
returns-clause-no_other c = λ g read. ReadsAs-same c.args.bytes.now g c.in_ok-framework_of.field-0 read
    (reads_as c.args.bytes.now c.in_ok-count.count c.read_count.new.left c.in_ok-attacks.attacks
    c.in_ok-framework_of.field-0 c.in_ok-count.ensures.ok c.in_ok-attacks.ensures.ok c.in_ok-framework_of.ensures)

pub returns-clause-solid : goal.returns-clause-solid
returns-clause-solid c =
    read_is_solid c.in_ok-count.count c.in_ok-attacks.attacks c.in_ok-framework_of.field-0
    (header_few c.args.bytes.now c.in_ok-count.count c.read_count.new.left c.in_ok-count.ensures.ok)
    c.in_ok-framework_of.ensures
