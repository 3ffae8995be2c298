-- What a value of the crate says.
use Rattle.std.specs.Prelude.{⊤}
use Rattle.std.specs.Cow.{cow_str_bytes, IsBorrowedStr}
use Rattle.gltf_buffers.specs.Uri.{Meaning, Payload, File as FileAt, Relative as RelativeTo}
use Rattle.gltf_buffers.specs.Uri.{Unsupported as NotSupported}
use Rattle.gltf_buffers.specs.declared.uri.Uri.{Uri}
use Rattle.gltf_buffers.specs.declared.uri.Uri.TheVariants.{Data, File, Relative, Unsupported}

-- where it leads
abbrev pub meaning : Uri → Meaning
meaning (Data payload) = Payload payload.now
meaning (File path) = FileAt path.now
meaning (Relative path) = RelativeTo (cow_str_bytes path)
meaning Unsupported = NotSupported

-- it holds no memory of its own
abbrev pub IsLent : Uri → Type 0
IsLent (Data _) = ⊤
IsLent (File _) = ⊤
IsLent (Relative path) = IsBorrowedStr path
IsLent Unsupported = ⊤
