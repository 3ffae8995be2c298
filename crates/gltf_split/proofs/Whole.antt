-- What was gathered is what the file is split into.
use Rattle.std.proofs.Common.{◌≡◌, ◌≤◌, ℕ, List, length, Bool, true, false, sym, subst, ◌∙◌}
use Rattle.std.proofs.Common.{◌++◌, Option, Some, None, refl, true≢false}
use Rattle.std.proofs.Common.{string_bytes}
use Rattle.serde_json.specs.Data.{Data, depth}
use Rattle.serde_json.specs.Read.{max_depth}
use Rattle.serde_json.specs.Written.{IsInOrder}
use Rattle.gltf_json.specs.Reading.{Reads}
use Rattle.gltf_json.specs.declared.root.Root.{Root}
use Rattle.gltf_detach.specs.Detached.{detached}
use Rattle.gltf_detach.specs.DetachedLaws.{detached_depth}
use Rattle.gltf_detach.specs.Naming.{buffer_uris, image_uris}
use Rattle.gltf_names.specs.Named.{Named}
use Rattle.gltf_buffers.specs.Names.{Names}
use Rattle.gltf_buffers.specs.Shown.{bytes_of_each}
use Rattle.gltf_buffers.specs.declared.data.Data.{Data as Buffer}
use Rattle.gltf_trim.specs.Lengths.{lengths}
use Rattle.gltf_trim.specs.Marks.{staying}
use Rattle.gltf_trim.specs.TrimmedLaws.{trimmed_depth}
use Rattle.gltf_mend.specs.declared.mends.Mends.{Mends}
use Rattle.gltf_required.specs.Required.{ReadsAsItStands}
use Rattle.gltf_required.specs.declared.required.Required.{Required}
use Rattle.gltf_bundle.specs.Bundle.{IsSource}
use Rattle.gltf_split.specs.Images.{AreImages}
use Rattle.gltf_split.specs.Splits.{Splits, IsLaidOut, AreNamed, bytes_of_parts, value_left}
use Rattle.gltf_split.specs.Splits.{bytes_left, drops_by}
use Rattle.gltf_split.specs.declared.options.SplitOptions.{SplitOptions}
use Rattle.gltf_split.specs.declared.splitting.Pieces.{Pieces}
use Rattle.gltf_split.proofs.Made.{as_many}
use Rattle.gltf_bundle.specs.declared.options.Keep.{Keep}

left_depth : (drop : Bool) (value : Data) (whole : List (List ℕ)) → depth value ≤ max_depth
    → depth (value_left drop value whole) ≤ max_depth
left_depth true value whole nests =
    trimmed_depth (staying value) (lengths (staying value) value whole) value max_depth nests
left_depth false value whole nests = nests

-- views go only where nothing is mended
pub stands_by : (mends : Option Mends) (options : SplitOptions) → drops_by mends options ≡ true
    → mends ≡ None
stands_by None options is = refl
stands_by (Some mends) options is = absurd (true≢false (sym is))

pub is_split : (required : Required) (names : Names) (path stem : List ℕ) (keep : Keep)
    (drop : Bool) (value : Data) (r : Root) (buffers : List Buffer)
    → IsSource required names path value r (bytes_of_each buffers)
    → (drop ≡ true → ReadsAsItStands required)
    → (left : List Buffer) → bytes_of_each left ≡ bytes_left drop value (bytes_of_each buffers)
    → (set : Pieces) → bytes_of_parts set.buffers.items ≡ bytes_of_each left
    → AreNamed stem (length left) 0 set.buffers.items
    → (lost : List Named)
    → AreImages keep names stem (bytes_of_each buffers) value set.images.items lost
    → (shown : Data)
    → shown
    ≡ detached (buffer_uris set.buffers.items) (image_uris set.images.items)
    (value_left drop value (bytes_of_each buffers))
    → (depth shown ≤ max_depth → Reads (string_bytes set.json) shown)
    → IsInOrder (string_bytes set.json) shown → (pretty : Bool)
    → IsLaidOut pretty (string_bytes set.json)
    → (old new : List Named) → new ≡ lost ++ old
    → Splits required names path stem keep drop old new set
is_split required names path stem keep drop value r buffers source stands left left_is set bytes
    named lost images shown is_shown reads order pretty layout old new after =
    let us = buffer_uris set.buffers.items in
    let vs = image_uris set.images.items in
    let nests : depth shown ≤ max_depth =
    subst (λ (d : Data). depth d ≤ max_depth) (sym is_shown)
    (detached_depth us vs (value_left drop value (bytes_of_each buffers)) max_depth
    (left_depth drop value (bytes_of_each buffers) source.nests)) in (
      record {
        value = value;
        root_ = r;
        whole = bytes_of_each buffers;
        source = source;
        stands = stands;
        bytes = bytes ∙ left_is;
        named =
            subst (λ (n : ℕ). AreNamed stem n 0 set.buffers.items)
            (as_many set.buffers.items left bytes) named;
        lost = lost;
        images = images;
        reads = subst (λ (d : Data). Reads (string_bytes set.json) d) is_shown (reads nests);
        order = subst (λ (d : Data). IsInOrder (string_bytes set.json) d) is_shown order;
        layout = (pretty, layout);
      },
      after,
    )
