-- What `Glb::to_writer` leaves in a writer.
use Rattle.std.specs.Prelude.{◌≤◌, ◌<◌, ◌^◌, ◌⊎◌, ℕ, List, Option}
use Rattle.std.specs.Io.KnownBytes.{Appends, Keeps}
use Rattle.gltf_stream.specs.Streams.{WritesBeginning}
use Rattle.gltf_glb.specs.declared.error.Error.{Error}
use Rattle.gltf_glb.specs.declared.error.Error.TheVariants.{Io}
use Rattle.gltf_glb.specs.Written.{container_bytes, total_of}

abbrev pub WritesContainer : Option (List ℕ) → Option (List ℕ) → List ℕ → Option (List ℕ) → Type 0
WritesContainer before after json bin =
    (total_of json bin < 2 ^ 32) × Appends before after (container_bytes json bin)

-- the whole is too long for its header, and nothing was written; or a beginning of it was
abbrev pub RefusesToWriteTo : Option (List ℕ) → Option (List ℕ) → List ℕ → Option (List ℕ) → Error
    → Type 0
RefusesToWriteTo before after json bin (Io cause) =
    ((2 ^ 32 ≤ total_of json bin) × Keeps before after)
    ⊎ ((total_of json bin < 2 ^ 32) × WritesBeginning before after (container_bytes json bin))
RefusesToWriteTo before after json bin _ = ⊥
