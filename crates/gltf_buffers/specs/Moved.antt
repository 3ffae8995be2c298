-- The memory of a blob.
use Rattle.std.specs.Prelude.{◌≡◌, ◌%◌, ℕ, List, Option, Some, None, is_some, true, take, slice_get}
use Rattle.std.specs.Prelude.{⊤, Vec, length}
use Rattle.std.specs.List.{list_all}
use Rattle.std.specs.declared.alloc.Global.{Global}
use Rattle.gltf_buffers.specs.Buffers.{Source}
use Rattle.gltf_buffers.specs.declared.data.Data.{Data}

-- the data of a buffer are this blob itself, in the memory that it had, where no zeros go after it
abbrev pub IsHandedOn : Option (Vec ℕ Global) → Data → Type 0
IsHandedOn None read = ⊤
IsHandedOn (Some blob) read = length blob.items % 4 ≡ 0 → read.0 ≡ blob

-- the same of the buffer to which the blob belongs, the first without URI (glTF 2.0, section
-- 3.6.1.2)
abbrev pub HandsOn : List Source → Option (Vec ℕ Global) → List Data → Type 0
HandsOn sources blob all =
    (i : ℕ) (source : Source) (read : Data) → slice_get sources i ≡ Some source
    → slice_get all i ≡ Some read → list_all (λ s. is_some s.uri) (take i sources) ≡ true
    → source.uri ≡ None → IsHandedOn blob read
