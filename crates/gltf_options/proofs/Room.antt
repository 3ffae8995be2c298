-- The memory of a blob: from the file to its buffers.
use Rattle.std.proofs.Common.{◌≡◌, ℕ, List, Result, Ok, Err, Vec, Global, sym, subst}
use Rattle.std.specs.Prelude.{Option, Some, None, IfOk, IfSome}
use Rattle.std.specs.Cow.{cow_slice_items}
use Rattle.std.specs.declared.borrow.CowSlice.{CowSlice}
use Rattle.gltf_buffers.specs.Buffers.{Source}
use Rattle.gltf_buffers.specs.Moved.{HandsOn}
use Rattle.gltf_buffers.specs.declared.data.Data.{Data}
use Rattle.gltf_glb.specs.declared.error.Error.{Error}
use Rattle.gltf_json.specs.declared.root.Root.{Root}
use Rattle.gltf.specs.Import.{AreParts}
use Rattle.gltf.specs.Laws.{OneTextAndBlob}
use Rattle.gltf.specs.Room.{IsInRoomOf}
use Rattle.gltf.specs.Shown.{blob_bytes}
use Rattle.gltf_options.specs.Opened.{IsOpened}
use Rattle.gltf_options.specs.Room.{BlobStays}
use Rattle.gltf_options.specs.declared.file.Opened.{Opened}

-- what holds of the blob of the records holds of that of the file
pub ok_moved : (also : List (List ℕ)) (whole : Root) (blob : Option (Vec ℕ Global))
    (P : Vec ℕ Global → Type 0) (result : Result Opened Error) → IfSome blob P
    → IfOk result (IsOpened also whole blob) → IfOk result (λ file. IfSome file.gltf.blob P)
ok_moved also whole blob P (Ok file) moved opened =
    subst (λ b. IfSome b P) (sym opened.blob_is) moved
ok_moved also whole blob P (Err e) moved opened = tt

-- the buffer of a blob that stayed in the room of the bytes is in it
pub blob_stays : OneTextAndBlob → (given : CowSlice ℕ Global) (text : List ℕ)
    (held : Option (Vec ℕ Global)) (sources : List Source) (all : List Data)
    → AreParts (cow_slice_items given) text (blob_bytes held) → IfSome held (IsInRoomOf given)
    → HandsOn sources held all → BlobStays given sources all
blob_stays law given text None sources all parts moved hands =
    λ other blob is whole i source read there at first none.
    let same = law (cow_slice_items given) text other None (Some blob) parts is in
    let apart = same.1 in cc
blob_stays law given text (Some held) sources all parts moved hands =
    λ other blob is whole i source read there at first none.
    let same = law (cow_slice_items given) text other (Some held.items) (Some blob) parts is in
    let blobs = same.1 in
    let items : blob ≡ held.items = cc in
    let handed = hands i source read there at first none (rw items at whole) in
    subst (λ v. IsInRoomOf given v) (sym handed) moved
