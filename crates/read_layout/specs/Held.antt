-- A batch with its layout as one value.
-- Assumes nothing.
use Rattle.definition.specs.Batch as def
use Rattle.read_layout.specs.Layout.{arrays_at}
use Rattle.read_layout.specs.declared.batch.Batch.{Batch}

-- the arrays that it holds
abbrev pub arrays_of : Batch → def.Batch
arrays_of b = arrays_at b.layout b.bytes.now
