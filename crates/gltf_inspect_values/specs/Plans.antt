-- The checks of the values of a document where some accessors are left out: of each of these it is
-- said that its items were not looked at, and nothing of times that these have.
use Rattle.std.specs.Prelude.{◌≡◌, ℕ, if◌then◌else◌, Bool, false, List, Option, Some, slice_get}
use Rattle.std.specs.Prelude.{codes}
use Rattle.gltf_json.specs.declared.root.Root.{Root}
use Rattle.gltf_json_animation.specs.declared.animation.Animation.{Animation}
use Rattle.gltf_json_animation.specs.declared.animation.Sampler.{Sampler}
use Rattle.gltf_json_geometry.specs.declared.accessor.Accessor.{Accessor}
use Rattle.gltf_findings.specs.declared.code.Code.TheVariants.{ItemsNotLookedAt}
use Rattle.gltf_findings.specs.Checks.{Checks, Nothing, Condition, ◌&◌, member, list_checks}
use Rattle.gltf_inspect_items.specs.Reading.{Bytes}
use Rattle.gltf_inspect_values.specs.Accessors.{accessor_checks}
use Rattle.gltf_inspect_values.specs.Bounds.{each_checks}
use Rattle.gltf_inspect_values.specs.Items.{item_bytes}
use Rattle.gltf_inspect_values.specs.Summaries.{IsSummaryOf}
use Rattle.gltf_inspect_values.specs.Times.{times, times_checks}
use Rattle.gltf_inspect_values.specs.declared.summary.Summary.{Summary}

abbrev pub accessor_checks_but : (ℕ → Bool) → Root → Bytes → ℕ → Accessor → Checks
accessor_checks_but out r bytes i a =
    if out i then Condition false ItemsNotLookedAt else accessor_checks r bytes i a

-- of the times at an accessor
abbrev pub input_checks_but : (ℕ → Bool) → Root → Bytes → ℕ → Checks
input_checks_but out r bytes i = if out i then Nothing else times_checks (times r bytes i)

abbrev pub sampler_checks_but : (ℕ → Bool) → Root → Bytes → Sampler → Checks
sampler_checks_but out r bytes s = member (codes "input") (input_checks_but out r bytes s.input)

abbrev pub animation_checks_but : (ℕ → Bool) → Root → Bytes → Animation → Checks
animation_checks_but out r bytes a =
    member (codes "samplers") (list_checks (sampler_checks_but out r bytes) a.samplers.items)

abbrev pub values_checks_but : (ℕ → Bool) → Root → Bytes → Checks
values_checks_but out r bytes =
    member (codes "accessors") (each_checks (accessor_checks_but out r bytes) 0 r.accessors.items)
    & member (codes "animations") (list_checks (animation_checks_but out r bytes) r.animations.items)

-- what was found so far in the items of accessors, at the index of each
abbrev pub AreSummaries : Root → Bytes → List (Option Summary) → Type 0
AreSummaries r bytes table = (i : ℕ) (found : Summary) (a : Accessor)
    → slice_get table i ≡ Some (Some found) → slice_get r.accessors.items i ≡ Some a
    → IsSummaryOf a.component_type (item_bytes r bytes i a) found
