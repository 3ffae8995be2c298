-- The media types of images (glTF 2.0, section 3.8.3).
use Rattle.std.specs.Prelude.{ℕ, List, [], ◌∷◌, Option, Some, None, Bool, nat_eq, drop, codes}
use Rattle.std.specs.Prelude.{if◌then◌else◌, ◌&&◌, ◌||◌, ◌==◌, option_and_then, nat_lt, length}
use Rattle.std.specs.Char.{is_ascii_alphanumeric}
use Rattle.std.specs.List.{starts_with, list_all, list_any, before_first}

abbrev pub begins : List ℕ → List ℕ → Bool
begins bytes word = starts_with nat_eq bytes word

-- ---- the names of media types

-- a byte that may stand in the name of a media type (RFC 6838, section 4.2)
abbrev pub is_type_byte : ℕ → Bool
is_type_byte b = is_ascii_alphanumeric b || list_any (λ c. c == b) (codes "!#$&-^_.+")

-- `image/` with such a name behind it
abbrev pub is_image_type : List ℕ → Bool
is_image_type text =
    begins text (codes "image/") && (nat_lt 6 (length text) && list_all is_type_byte (drop 6 text))

-- a text that is a media type of images
abbrev pub image_type : List ℕ → Option (List ℕ)
image_type text = if is_image_type text then Some text else None

-- ---- what a URI names

-- what stands behind `data:` in a text that begins so
abbrev pub behind_data : List ℕ → Option (List ℕ)
behind_data text = if begins text (codes "data:") then Some (drop 5 text) else None

-- what stands between `data:` and the first semicolon, or the end, of a URI that begins so
abbrev pub data_head : List ℕ → Option (List ℕ)
data_head uri = behind_data (before_first (λ b. b == 59) uri)

-- the media type of images that a `data:` URI names
abbrev pub named_media : List ℕ → Option (List ℕ)
named_media uri = option_and_then image_type (data_head uri)

-- ---- what bytes are

-- RIFF, four bytes of its length, and WEBP
abbrev pub is_webp : List ℕ → Bool
is_webp bytes = begins bytes (codes "RIFF") && begins (drop 8 bytes) (codes "WEBP")

-- a box of the type of the file, behind its length: of AVIF, as a still image or as a sequence
abbrev pub is_avif : List ℕ → Bool
is_avif bytes =
    begins (drop 4 bytes) (codes "ftypavif") || begins (drop 4 bytes) (codes "ftypavis")

-- what a file is that begins so: the signatures of PNG, of JPEG, of WebP, of KTX 2.0, of AVIF and
-- of DDS
abbrev pub begun_media : List ℕ → Option (List ℕ)
begun_media bytes =
    if begins bytes (137 ∷ 80 ∷ 78 ∷ 71 ∷ 13 ∷ 10 ∷ 26 ∷ 10 ∷ []) then Some (codes "image/png")
    else if begins bytes (255 ∷ 216 ∷ 255 ∷ []) then Some (codes "image/jpeg")
    else if is_webp bytes then Some (codes "image/webp")
    else if begins bytes (171 ∷ 75 ∷ 84 ∷ 88 ∷ 32 ∷ 50 ∷ 48 ∷ 187 ∷ 13 ∷ 10 ∷ 26 ∷ 10 ∷ [])
    then Some (codes "image/ktx2")
    else if is_avif bytes then Some (codes "image/avif")
    else if begins bytes (codes "DDS ") then Some (codes "image/vnd-ms.dds")
    else None

-- ---- images

-- the first that is there
abbrev pub or_else : Option (List ℕ) → Option (List ℕ) → Option (List ℕ)
or_else None o = o
or_else (Some x) o = Some x

-- the media type of an image with this `mimeType` and these bytes
abbrev pub own_media : Option (List ℕ) → List ℕ → Option (List ℕ)
own_media own bytes = or_else (option_and_then image_type own) (begun_media bytes)

-- that of an image with this URI, this `mimeType` and these bytes
abbrev pub media_of : List ℕ → Option (List ℕ) → List ℕ → Option (List ℕ)
media_of uri own bytes = or_else (named_media uri) (own_media own bytes)
