-- The names of files, and the URIs that lead to them (glTF 2.0, section 2.8).
use Rattle.std.specs.Prelude.{ℕ, List, [], ◌++◌, map, Option, Some, None, option_map, codes}
use Rattle.std.specs.Prelude.{string_bytes, bytes_eq, if◌then◌else◌, ◌==◌}
use Rattle.std.specs.Fmt.{decimal}
use Rattle.percent_encoding.specs.Percent.{percent_encode}
use Rattle.gltf_detach.specs.declared.naming.TheConstants.{ESCAPED}
use Rattle.gltf_detach.specs.declared.part.Part.{Part}

-- one of so many needs no number where it is the only one
abbrev pub numeral : ℕ → ℕ → List ℕ
numeral count i = if count == 1 then [] else decimal i

abbrev pub buffer_name : List ℕ → ℕ → ℕ → List ℕ
buffer_name stem count i = stem ++ (numeral count i ++ codes ".bin")

abbrev pub image_name : List ℕ → ℕ → List ℕ → List ℕ
image_name stem i ending = stem ++ (codes "_image" ++ (decimal i ++ ending))

-- the ending for a media type, of one of six
abbrev pub ending_for : List ℕ → List ℕ
ending_for media =
    if bytes_eq media (codes "image/png") then codes ".png"
    else if bytes_eq media (codes "image/jpeg") then codes ".jpg"
    else if bytes_eq media (codes "image/webp") then codes ".webp"
    else if bytes_eq media (codes "image/ktx2") then codes ".ktx2"
    else if bytes_eq media (codes "image/avif") then codes ".avif"
    else if bytes_eq media (codes "image/vnd-ms.dds") then codes ".dds"
    else codes ".bin"

-- that of what an image begins as goes before that of what it says
abbrev pub ending_of : Option (List ℕ) → Option (List ℕ) → List ℕ
ending_of (Some media) own = ending_for media
ending_of None (Some media) = ending_for media
ending_of None None = codes ".bin"

-- the URI of a name
abbrev pub uri_text : List ℕ → List ℕ
uri_text name = percent_encode ESCAPED name

abbrev pub uri_of_part : Part → List ℕ
uri_of_part p = uri_text (string_bytes p.name)

-- those of the files of buffers, and of images
abbrev pub buffer_uris : List Part → List (Option (List ℕ))
buffer_uris ps = map (λ p. Some (uri_of_part p)) ps

abbrev pub image_uri : Option Part → Option (List ℕ)
image_uri p = option_map uri_of_part p

abbrev pub image_uris : List (Option Part) → List (Option (List ℕ))
image_uris ps = map image_uri ps
