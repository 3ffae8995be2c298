-- Indices at accessors that read the same have the same checks.
use Rattle.std.proofs.Common.{◌≡◌, ℕ, Bool, true, false, Option, Some, None, inl, inr, refl, sym, ap, ◌∙◌}
use Rattle.std.specs.Prelude.{slice_get, if◌then◌else◌}
use Rattle.std.proofs.lemmas.Bool.{cond-true, true≢false}
use Rattle.gltf_json.specs.declared.root.Root.{Root}
use Rattle.gltf_json_record.specs.declared.validation.Checked.{Checked}
use Rattle.gltf_json_record.specs.declared.validation.Checked.TheVariants.{Invalid, Valid}
use Rattle.gltf_json_geometry.specs.declared.accessor.Accessor.{Accessor}
use Rattle.gltf_json_geometry.specs.declared.accessor.ComponentType.{ComponentType}
use Rattle.gltf_json_geometry.specs.declared.accessor.ComponentType.TheVariants.{I8, U8, I16, U16}
use Rattle.gltf_json_geometry.specs.declared.accessor.ComponentType.TheVariants.{U32, F32}
use Rattle.gltf_findings.specs.Checks.{Checks, Nothing, optional_checks}
use Rattle.gltf_ranges.specs.Alike.{ReadTheSame}
use Rattle.gltf_inspect_items.specs.AlikeLaws.{same_items}
use Rattle.gltf_inspect_items.specs.Indices.{numbers_checks, typed_checks, index_checks}
use Rattle.gltf_inspect_items.specs.Plans.{index_checks_but}
use Rattle.gltf_inspect_items.specs.Reading.{Bytes, number}

module _ (r : Root) (bytes : Bytes) (vertices : Option ℕ) (triangles : Bool) (i j : ℕ)
    (same : ReadTheSame r.accessors.items i j) where
  same_typed : (c : Checked ComponentType)
      → typed_checks r bytes vertices triangles i c ≡ typed_checks r bytes vertices triangles j c
  same_typed (Valid U8) =
      ap (numbers_checks (λ n. n) 255 vertices triangles) (same_items (number 1) r bytes i j same)
  same_typed (Valid U16) =
      ap (numbers_checks (λ n. n) 65535 vertices triangles) (same_items (number 2) r bytes i j same)
  same_typed (Valid U32) =
      ap (numbers_checks (λ n. n) 4294967295 vertices triangles)
      (same_items (number 4) r bytes i j same)
  same_typed (Valid I8) = refl
  same_typed (Valid I16) = refl
  same_typed (Valid F32) = refl
  same_typed Invalid = refl

abbrev checks_of : Root → Bytes → Option ℕ → Bool → ℕ → Option Accessor → Checks
checks_of r bytes vertices triangles k a =
    optional_checks (λ (b : Accessor). typed_checks r bytes vertices triangles k b.component_type) a

pub same_checks : (r : Root) (bytes : Bytes) (vertices : Option ℕ) (triangles : Bool) (i j : ℕ)
    → ReadTheSame r.accessors.items i j
    → index_checks r bytes vertices triangles i ≡ index_checks r bytes vertices triangles j
same_checks r bytes vertices triangles i j (inl one) =
    ap (λ (k : ℕ). index_checks r bytes vertices triangles k) one
same_checks r bytes vertices triangles i j (inr two) =
    let same : ReadTheSame r.accessors.items i j = inr two in
    ap (checks_of r bytes vertices triangles i) two.first
    ∙ same_typed r bytes vertices triangles i j same two.a.component_type
    ∙ ap (λ (c : Checked ComponentType). typed_checks r bytes vertices triangles j c)
    two.alike.component
    ∙ sym (ap (checks_of r bytes vertices triangles j) two.second)

-- ---- the checks of an index, by the first accessor that reads the same

looked_at : (b : Bool) (checks : Checks) → b ≡ false → checks ≡ (if b then Nothing else checks)
looked_at true checks is = absurd (true≢false is)
looked_at false checks is = refl

pub checked : (r : Root) (bytes : Bytes) (vertices : Option ℕ) (triangles : Bool) (out : ℕ → Bool)
    (i j : ℕ) (a : Accessor) → ReadTheSame r.accessors.items i j
    → slice_get r.accessors.items j ≡ Some a → out i ≡ false
    → typed_checks r bytes vertices triangles j a.component_type
    ≡ index_checks_but out r bytes vertices triangles i
checked r bytes vertices triangles out i j a same here is =
    sym (ap (checks_of r bytes vertices triangles j) here)
    ∙ sym (same_checks r bytes vertices triangles i j same)
    ∙ looked_at (out i) (index_checks r bytes vertices triangles i) is

pub none_checked : (r : Root) (bytes : Bytes) (vertices : Option ℕ) (triangles : Bool)
    (out : ℕ → Bool) (i j : ℕ) → ReadTheSame r.accessors.items i j
    → slice_get r.accessors.items j ≡ None → out i ≡ false
    → Nothing ≡ index_checks_but out r bytes vertices triangles i
none_checked r bytes vertices triangles out i j same here is =
    sym (ap (checks_of r bytes vertices triangles j) here)
    ∙ sym (same_checks r bytes vertices triangles i j same)
    ∙ looked_at (out i) (index_checks r bytes vertices triangles i) is

pub left_out : (r : Root) (bytes : Bytes) (vertices : Option ℕ) (triangles : Bool)
    (out : ℕ → Bool) (i : ℕ) → out i ≡ true
    → Nothing ≡ index_checks_but out r bytes vertices triangles i
left_out r bytes vertices triangles out i is =
    sym (cond-true (out i) Nothing (index_checks r bytes vertices triangles i) is)
