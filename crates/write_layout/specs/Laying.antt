-- The lists that are lent as one value, as the definition has them.
-- Assumes nothing.
use Rattle.definition.specs.Writing as def
use Rattle.write_layout.specs.declared.Lists.{Lists}

-- lists as the call is lent them
abbrev pub lists_in : Lists → def.Lists
lists_in l = record {
  trees = l.trees;
  kinds = l.kinds.now;
  measures = l.measures.now;
  text = l.text.now;
  operations = l.operations.now;
  counts = l.counts.now;
  rules = l.rules.now;
  targets = l.targets.now;
  listed = l.listed.now;
  inputs = l.inputs.now;
  outputs = l.outputs.now;
  noted = l.noted.now;
  numbers = l.numbers.now;
}
