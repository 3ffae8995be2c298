-- What a handle owns: at null nothing, else the box at the pointer and the right to free it.
use Rattle.std.specs.Prelude.{Option, Some, None}
use base.Fml.{Fml, feq}
use denote.RawPtr.{Ptr, null_ptr}
use Rattle.std_alloc.specs.Box.Ownership.{box_owns}
use Rattle.gltf_c_block.specs.Heap.{right_to_free}
use Rattle.gltf_c_open.specs.declared.file.File.{File}
use Rattle.gltf_c_open.specs.contracts.file.File.{the_row}

abbrev pub handle_owns : Ptr → Option File → Fml
handle_owns at None = feq Ptr at null_ptr
handle_owns at (Some file) = box_owns right_to_free the_row at file
