-- What mending leaves of a document: lemmas.
use Rattle.std.proofs.Common.{◌≡◌, ℕ, List, Option, Bool, true, false, codes, refl, sym, ap, ◌∙◌}
use Rattle.std.proofs.Common.{map, option_map}
use Rattle.std.specs.Prelude.{IsSome}
use Rattle.serde_json.specs.Data.{Data, null, boolean, number, string, array, object}
use Rattle.serde_json.specs.Find.{get, as_object}
use Rattle.gltf_edit.specs.Bundled.{with_some, each_item}
use Rattle.gltf_edit.specs.BundledLaws.{get_with_some_other}
use Rattle.gltf_mend.specs.Attributes.{with_attributes}
use Rattle.gltf_mend.specs.Channels.{with_nodes}
use Rattle.gltf_mend.specs.Edits.{changed}
use Rattle.gltf_mend.specs.Mended.{mended, with_channels_mended, with_meshes_mended}
use Rattle.gltf_mend.specs.Mended.{with_textures_mended}
use Rattle.gltf_mend.specs.Textures.{with_source}
use Rattle.gltf_mend.specs.declared.mends.Mends.{Mends}
use Rattle.gltf_mended.specs.Laws.{IsNotMended, LeavesMembers, LeavesEdits}
use Rattle.gltf_mended.specs.Puts.{some_swap}

-- ---- another member

pub left_changed : (k l : List ℕ) (f : Data → Data) (d : Data) → (k ≡ l → ⊥)
    → get k (changed l f d) ≡ get k d
left_changed k l f d apart = get_with_some_other k l (option_map f (get l d)) d apart

pub put_changed : (k l : List ℕ) (f : Data → Data) (o : Option Data) (d : Data) → (k ≡ l → ⊥)
    → changed l f (with_some k o d) ≡ with_some k o (changed l f d)
put_changed k l f o d apart =
    let other = λ (same : l ≡ k). apart (sym same) in
    ap (λ (p : Option Data). with_some l (option_map f p) (with_some k o d))
    (get_with_some_other l k o d other)
    ∙ some_swap l k (option_map f (get l d)) o d other

-- ---- the three mends

abbrev of_animation : Data → Data
of_animation = each_item (changed (codes "channels") with_nodes)

abbrev of_mesh : Data → Data
of_mesh =
    each_item (changed (codes "primitives") (each_item (changed (codes "attributes")
    with_attributes)))

get_channels : (b : Bool) (k : List ℕ) (d : Data) → IsNotMended k
    → get k (with_channels_mended b d) ≡ get k d
get_channels true k d is = left_changed k (codes "animations") of_animation d is.no_animations
get_channels false k d is = refl

get_meshes : (b : Bool) (k : List ℕ) (d : Data) → IsNotMended k
    → get k (with_meshes_mended b d) ≡ get k d
get_meshes true k d is = left_changed k (codes "meshes") of_mesh d is.no_meshes
get_meshes false k d is = refl

get_textures : (names : List (List ℕ)) (k : List ℕ) (d : Data) → IsNotMended k
    → get k (with_textures_mended names d) ≡ get k d
get_textures names k d is =
    left_changed k (codes "textures") (each_item (with_source names)) d is.no_textures

pub get_mended : LeavesMembers
get_mended mends k is d =
    let first = with_channels_mended mends.skip_channels_without_node d in
    let second = with_meshes_mended mends.skip_unknown_attributes first in
    get_textures (map (λ n. n.now) mends.texture_sources.now) k second is
    ∙ get_meshes mends.skip_unknown_attributes k first is
    ∙ get_channels mends.skip_channels_without_node k d is

put_channels : (b : Bool) (k : List ℕ) (o : Option Data) (d : Data) → IsNotMended k
    → with_channels_mended b (with_some k o d) ≡ with_some k o (with_channels_mended b d)
put_channels true k o d is = put_changed k (codes "animations") of_animation o d is.no_animations
put_channels false k o d is = refl

put_meshes : (b : Bool) (k : List ℕ) (o : Option Data) (d : Data) → IsNotMended k
    → with_meshes_mended b (with_some k o d) ≡ with_some k o (with_meshes_mended b d)
put_meshes true k o d is = put_changed k (codes "meshes") of_mesh o d is.no_meshes
put_meshes false k o d is = refl

put_textures : (names : List (List ℕ)) (k : List ℕ) (o : Option Data) (d : Data) → IsNotMended k
    → with_textures_mended names (with_some k o d) ≡ with_some k o (with_textures_mended names d)
put_textures names k o d is =
    put_changed k (codes "textures") (each_item (with_source names)) o d is.no_textures

pub put_mended : LeavesEdits
put_mended mends k is o d =
    let names = map (λ n. n.now) mends.texture_sources.now in
    let first = with_channels_mended mends.skip_channels_without_node d in
    ap (λ (x : Data). with_textures_mended names
    (with_meshes_mended mends.skip_unknown_attributes x))
    (put_channels mends.skip_channels_without_node k o d is)
    ∙ ap (with_textures_mended names) (put_meshes mends.skip_unknown_attributes k o first is)
    ∙ put_textures names k o (with_meshes_mended mends.skip_unknown_attributes first) is

-- ---- what is mended to an object is one

object_changed : (k : List ℕ) (f : Data → Data) (d : Data) → IsSome (as_object (changed k f d))
    → IsSome (as_object d)
object_changed k f null is = is
object_changed k f (boolean b) is = is
object_changed k f (number n) is = is
object_changed k f (string s) is = is
object_changed k f (array ds) is = is
object_changed k f (object ms) is = refl

object_channels : (b : Bool) (d : Data) → IsSome (as_object (with_channels_mended b d))
    → IsSome (as_object d)
object_channels true d is = object_changed (codes "animations") of_animation d is
object_channels false d is = is

object_meshes : (b : Bool) (d : Data) → IsSome (as_object (with_meshes_mended b d))
    → IsSome (as_object d)
object_meshes true d is = object_changed (codes "meshes") of_mesh d is
object_meshes false d is = is

pub object_mended : (mends : Mends) (d : Data) → IsSome (as_object (mended mends d))
    → IsSome (as_object d)
object_mended mends d is =
    let names = map (λ n. n.now) mends.texture_sources.now in
    let first = with_channels_mended mends.skip_channels_without_node d in
    let second = with_meshes_mended mends.skip_unknown_attributes first in
    object_channels mends.skip_channels_without_node d
    (object_meshes mends.skip_unknown_attributes first
    (object_changed (codes "textures") (each_item (with_source names)) second is))
