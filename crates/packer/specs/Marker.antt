-- What the program's marker says, and which buffers it holds. Definitions only.
use Rattle.std.specs.Prelude.{◌≡◌}
use Rattle.packer.specs.declared.Marker.{Marker}
use Rattle.packer.specs.Mark.{Marking, marking}

abbrev pub marking_of : Marker → Marking
marking_of w = marking w.marks.now w.found.now w.size

-- Both hold the same two buffers.
abbrev pub SameBuffers : Marker → Marker → Type 0
SameBuffers v w = (v.marks.ghost_name ≡ w.marks.ghost_name) × (v.found.ghost_name ≡ w.found.ghost_name)
