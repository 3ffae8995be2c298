-- The times of animations (glTF 2.0, section 3.11, "Animations").
use Rattle.std.specs.Prelude.{◌≡◌, ℕ, not, if◌then◌else◌, Bool, true, false, List, [], map, codes}
use Rattle.std.specs.Prelude.{Option, Some, None, slice_get}
use Rattle.std.specs.List.{list_any}
use Rattle.std.specs.Float.{Float, float_zero}
use Rattle.std.specs.Float.Ieee.{lt, le}
use Rattle.gltf_json.specs.declared.root.Root.{Root}
use Rattle.gltf_json_record.specs.declared.validation.Checked.{Checked}
use Rattle.gltf_json_record.specs.declared.validation.Checked.TheVariants.{Valid}
use Rattle.gltf_json_animation.specs.declared.animation.Animation.{Animation}
use Rattle.gltf_json_animation.specs.declared.animation.Sampler.{Sampler}
use Rattle.gltf_json_geometry.specs.declared.accessor.Accessor.{Accessor}
use Rattle.gltf_json_geometry.specs.declared.accessor.ComponentType.{ComponentType}
use Rattle.gltf_json_geometry.specs.declared.accessor.ComponentType.TheVariants.{F32}
use Rattle.gltf_json_geometry.specs.declared.accessor.«Type» as shape
use Rattle.gltf_inspect_values.specs.Items.{as_bytes}
use Rattle.gltf_items.specs.Floats.{float_of}
use Rattle.gltf_findings.specs.declared.code.Code.TheVariants.{AnimationInputNegative}
use Rattle.gltf_findings.specs.declared.code.Code.TheVariants.{AnimationInputNonIncreasing}
use Rattle.gltf_findings.specs.Checks.{Checks, Condition, ◌&◌, member, list_checks}
use Rattle.gltf_inspect_items.specs.Reading.{Bytes, items_at}
use Rattle.gltf_inspect_values.specs.Falls.{falls}
use Rattle.gltf_inspect_values.specs.declared.times.Found.{Found}

-- times are single floats, one an item
abbrev pub are_times : Checked ComponentType → Checked shape.«Type» → Bool
are_times (Valid F32) (Valid shape.TheVariants.Scalar) = true
are_times _ _ = false

abbrev pub times_of : Root → Bytes → ℕ → Option Accessor → List Float
times_of r bytes i None = []
times_of r bytes i (Some a) =
    if are_times a.component_type a.type_ then map float_of (items_at (as_bytes 4) r bytes i)
    else []

-- those of the accessor at an index, where it is one of times and can be read
abbrev pub times : Root → Bytes → ℕ → List Float
times r bytes i = times_of r bytes i (slice_get r.accessors.items i)

-- "MUST start with 0.0 or greater": below zero, as -0 is not
abbrev pub is_negative : Float → Bool
is_negative time = lt time float_zero

-- "MUST be strictly increasing": what is not a number is neither above nor not above another
abbrev pub is_not_later : Float → Float → Bool
is_not_later before time = le time before

abbrev pub times_checks : List Float → Checks
times_checks times =
    Condition (not (list_any is_negative times)) AnimationInputNegative
    & Condition (not (falls is_not_later None times)) AnimationInputNonIncreasing

-- both
abbrev pub found_in_times : List Float → Found
found_in_times times =
    record { negative = list_any is_negative times; not_later = falls is_not_later None times }

-- the checks of times in which that was found
abbrev pub found_checks : Found → Checks
found_checks found =
    Condition (not found.negative) AnimationInputNegative
    & Condition (not found.not_later) AnimationInputNonIncreasing

-- what was found so far, at the index of each accessor
abbrev pub AreFound : Root → Bytes → List (Option Found) → Type 0
AreFound r bytes table = (i : ℕ) (found : Found) → slice_get table i ≡ Some (Some found)
    → found ≡ found_in_times (times r bytes i)

abbrev pub sampler_checks : Root → Bytes → Sampler → Checks
sampler_checks r bytes s = member (codes "input") (times_checks (times r bytes s.input))

abbrev pub animation_checks : Root → Bytes → Animation → Checks
animation_checks r bytes a =
    member (codes "samplers") (list_checks (sampler_checks r bytes) a.samplers.items)
