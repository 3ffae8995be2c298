-- The bytes of an item, by the codes of its components and its shape.
use Rattle.std.proofs.Common.{◌≡◌, ◌≤◌, ℕ, zero, suc, ◌*◌, ap, sym, ◌∙◌, arith}
use Rattle.gltf_json_record.specs.declared.validation.Checked.{Checked}
use Rattle.gltf_json_record.specs.declared.validation.Checked.TheVariants.{Invalid, Valid}
use Rattle.gltf_json_geometry.specs.declared.accessor.ComponentType.{ComponentType}
use Rattle.gltf_json_geometry.specs.declared.accessor.«Type» as shape
use Rattle.gltf_handles.specs.Sizes.{code_of, component_size, data_type, dimensions, multiplicity}
use Rattle.gltf_inspect_values.specs.Items.{front}

pub front_few : (n : ℕ) → n ≤ 64 → front n ≤ 64
front_few zero h = omega arith
front_few (suc n) h = h

-- components of n bytes in a shape
pub in_shape : (n : ℕ) (s : Checked shape.«Type») (kind t : shape.«Type») → s ≡ Valid kind
    → kind ≡ t → n * multiplicity (dimensions t) ≡ n * code_of (λ c. multiplicity (dimensions c)) s
in_shape n s kind t is same =
    ap (λ k. n * multiplicity (dimensions k)) (sym same)
    ∙ ap (λ x. n * code_of (λ c. multiplicity (dimensions c)) x) (sym is)

pub in_no_shape : (n : ℕ) (s : Checked shape.«Type») → s ≡ Invalid
    → n * 0 ≡ n * code_of (λ c. multiplicity (dimensions c)) s
in_no_shape n s is = ap (λ x. n * code_of (λ c. multiplicity (dimensions c)) x) (sym is)

-- components of a type, as many as there are
pub of_type : (k : ℕ) (s : Checked ComponentType) (kind t : ComponentType) → s ≡ Valid kind
    → kind ≡ t → component_size (data_type t) * k ≡ code_of
    (λ c. component_size (data_type c)) s * k
of_type k s kind t is same =
    ap (λ x. component_size (data_type x) * k) (sym same)
    ∙ ap (λ x. code_of (λ c. component_size (data_type c)) x * k) (sym is)

none : (k : ℕ) → 0 ≡ 0 * k
none k = omega arith

pub of_no_type : (k : ℕ) (s : Checked ComponentType) → s ≡ Invalid
    → 0 ≡ code_of (λ c. component_size (data_type c)) s * k
of_no_type k s is = none k ∙ ap (λ x. code_of (λ c. component_size (data_type c)) x * k) (sym is)
