use Rattle.program.specs.Notes.{nrrd_fault_text}
use Rattle.program.proofs.notes.put_nrrd.Goals as goal

pub returns-in-BadLine-clause-text : goal.returns-in-BadLine-clause-text
unfolding nrrd_fault_text
returns-in-BadLine-clause-text c = rw c.in-BadLine.is (rw c.from.ensures at c.put_counted-in-BadLine.ensures.text)

pub returns-in-NotThreeAxes-clause-text : goal.returns-in-NotThreeAxes-clause-text
unfolding nrrd_fault_text
returns-in-NotThreeAxes-clause-text c = rw c.in-NotThreeAxes.is c.put_counted-in-NotThreeAxes.ensures.text

pub returns-in-ShortSamples-clause-text : goal.returns-in-ShortSamples-clause-text
unfolding nrrd_fault_text
returns-in-ShortSamples-clause-text c = rw c.in-ShortSamples.is c.put_counted_twice.ensures.text

pub returns-in-UnsupportedKind-clause-text : goal.returns-in-UnsupportedKind-clause-text
unfolding nrrd_fault_text
returns-in-UnsupportedKind-clause-text c = rw c.in-UnsupportedKind.is c.push_str-in-UnsupportedKind.ensures.bytes

pub returns-in-NoEndian-clause-text : goal.returns-in-NoEndian-clause-text
unfolding nrrd_fault_text
returns-in-NoEndian-clause-text c = rw c.in-NoEndian.is c.push_str-in-NoEndian.ensures.bytes

pub returns-in-MissingField-clause-text : goal.returns-in-MissingField-clause-text
unfolding nrrd_fault_text
returns-in-MissingField-clause-text c = rw c.in-MissingField.is (rw c.name_of_field-in-MissingField.ensures.name at c.put_named-in-MissingField.ensures.text)

pub returns-in-BadValue-clause-text : goal.returns-in-BadValue-clause-text
unfolding nrrd_fault_text
returns-in-BadValue-clause-text c = rw c.in-BadValue.is (rw c.name_of_field-in-BadValue.ensures.name at c.put_named-in-BadValue.ensures.text)

pub returns-in-SkipUnsupported-clause-text : goal.returns-in-SkipUnsupported-clause-text
unfolding nrrd_fault_text
returns-in-SkipUnsupported-clause-text c = rw c.in-SkipUnsupported.is (rw c.name_of_field-in-SkipUnsupported.ensures.name at c.put_named-in-SkipUnsupported.ensures.text)

pub returns-in-UnsupportedEncoding-clause-text : goal.returns-in-UnsupportedEncoding-clause-text
unfolding nrrd_fault_text
returns-in-UnsupportedEncoding-clause-text c = rw c.in-UnsupportedEncoding.is (rw c.name_of_encoding.ensures.name at c.put_named-in-UnsupportedEncoding.ensures.text)
