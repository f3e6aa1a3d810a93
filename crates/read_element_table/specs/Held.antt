-- The elements of an accepted batch as one value.
-- Assumes nothing.
use Rattle.definition.specs.Elements.{Table}
use Rattle.read_element_table.specs.View.{view}
use Rattle.read_element_table.specs.declared.elements.Elements.{Elements}

-- what their words tell
abbrev pub view_of : Elements → Table
view_of e = view e.count e.table.now e.source.now
