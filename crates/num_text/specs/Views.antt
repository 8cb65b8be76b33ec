-- What contracts see of a line or a field that an iterator yields.
use Rattle.num_text.specs.declared.line.Line.{Line}
use Rattle.num_text.specs.declared.field.Field.{Field}
use Rattle.num_text.specs.Cuts.{LineText, FieldText}

-- the line, with its bytes in place of the reference to them
abbrev pub line_text : Line → LineText
line_text line = record { number = line.number; span = line.span; text = line.text.now }

-- the field, with its bytes in place of the reference to them
abbrev pub field_text : Field → FieldText
field_text field = record { span = field.span; text = field.text.now }
