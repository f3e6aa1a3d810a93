use lib.ListN.{length}
use mathlib.Core.Path.{◌≡◌}
use Rattle.series_move.specs.Packing.{Packing}
use Rattle.series_move.proofs.pack_bookmarks.Given as goal

abbrev pub invariant-loop-i : goal.invariant-loop-i
invariant-loop-i l = (length l.path ≡ length l.initial.path) × Packing l.ways.run.source.now l.ways.run.elements l.ways.run.marks.now l.ways.run.rows.words.now l.ways.run.rows.count l.initial.bookmarks l.bookmarks l.k l.i l.to
