-- A document whose records are read as it stands has nothing to mend but the names of attributes:
-- lemmas.
use Rattle.std.proofs.Common.{◌≡◌, ℕ, List, Option, Some, None, Bool, true, false, refl, ap, subst, ◌∙◌}
use Rattle.std.proofs.Common.{codes, map, option_map, if◌then◌else◌}
use Rattle.std.specs.Prelude.{MatchOption, ⊤, ◌&&◌, is_some, is_none, option_and_then}
use Rattle.std.specs.Prelude.{unwrap_or}
use Rattle.serde_json.specs.Data.{Data, null, boolean, number, string, array, object, Items}
use Rattle.serde_json.specs.Data.{no_items, item, Members, put}
use Rattle.serde_json.specs.Find.{get, get_member, as_array, as_object}
use Rattle.gltf_json_record.specs.Items.{AllFit}
use Rattle.gltf_json_record.specs.Member.{member_at, unless_null}
use Rattle.gltf_json_animation.specs.Animations.{animation, channel, target}
use Rattle.gltf_json_scene.specs.Textures.{texture}
use Rattle.gltf_json.specs.Documents.{root}
use Rattle.gltf_edit.specs.Bundled.{with_some, mapped, each_item, whole}
use Rattle.gltf_mend.specs.Channels.{kept, lacks_node, names_no_node, with_nodes}
use Rattle.gltf_mend.specs.Edits.{changed}
use Rattle.gltf_mend.specs.Mended.{with_channels_mended, with_meshes_mended}
use Rattle.gltf_mend.specs.Mended.{with_textures_mended}
use Rattle.gltf_mend.specs.Textures.{first_source, with_source}
use Rattle.gltf_mended.specs.Laws.{LeavesWhole}
use Rattle.gltf_mended.specs.Ordered.{IsOrdered, AreOrdered, InOrder, put_back, get_ordered}
use Rattle.gltf_mended.specs.Ordered.{read_ordered}

there : (o : Option Data) (P : Data → Type 0) → MatchOption o ⊥ P → is_some o ≡ true
there None P is = absurd is
there (Some d) P is = refl

-- ---- a member that is changed to itself

member_same : (k : List ℕ) (f : Data → Data) (ms : Members) (o : Option Data) → InOrder ms
    → get_member k ms ≡ o → ((e : Data) → o ≡ Some e → f e ≡ e)
    → with_some k (option_map f o) (object ms) ≡ object ms
member_same k f ms None all is same = refl
member_same k f ms (Some d) all is same =
    ap object (ap (λ (e : Data). put k e ms) (same d refl) ∙ put_back k d ms all is)

changed_same : (k : List ℕ) (f : Data → Data) (d : Data) → IsOrdered d
    → ((e : Data) → get k d ≡ Some e → f e ≡ e) → changed k f d ≡ d
changed_same k f null all same = refl
changed_same k f (boolean b) all same = refl
changed_same k f (number n) all same = refl
changed_same k f (string s) all same = refl
changed_same k f (array ds) all same = refl
changed_same k f (object ms) all same = member_same k f ms (get_member k ms) all refl same

get_in : (k : List ℕ) (d e : Data) → IsOrdered d → get k d ≡ Some e → IsOrdered e
get_in k null e all is = cc
get_in k (boolean b) e all is = cc
get_in k (number n) e all is = cc
get_in k (string s) e all is = cc
get_in k (array ds) e all is = cc
get_in k (object ms) e all is = get_ordered k e ms all is

-- ---- lists

-- what fits a list, where it is no null
abbrev FitsList : (Data → Type 0) → Type 0 → Data → Type 0
FitsList P absent e =
    MatchOption (unless_null e) absent (λ d. MatchOption (as_array d) ⊥ (λ ds. AllFit P ds))

each_same : (P : Data → Type 0) (absent : Type 0) (f : Data → Data) (e : Data)
    → ((ds : Items) → AllFit P ds → AreOrdered ds → mapped f ds ≡ ds) → IsOrdered e
    → FitsList P absent e → each_item f e ≡ e
each_same P absent f null same all fits = refl
each_same P absent f (boolean b) same all fits = refl
each_same P absent f (number n) same all fits = refl
each_same P absent f (string s) same all fits = refl
each_same P absent f (array ds) same all fits = ap array (same ds fits all)
each_same P absent f (object ms) same all fits = refl

found : (o : Option Data) (e : Data) (absent : Type 0) (P : Data → Type 0) → o ≡ Some e
    → MatchOption (option_and_then unless_null o) absent P
    → MatchOption (unless_null e) absent P
found o e absent P is fits =
    subst (λ (p : Option Data). MatchOption (option_and_then unless_null p) absent P) is fits

-- ---- textures

texture_same : (names : List (List ℕ)) (d : Data) → texture.fits d → with_source names d ≡ d
unfolding texture
texture_same names d fits =
    ap (λ (b : Bool).
    if b then d
    else with_some (codes "source") (option_map whole (first_source names d)) d)
    (there (member_at (codes "source") d) _ fits.1.1.0)

textures_same : (names : List (List ℕ)) (ds : Items) → AllFit texture.fits ds → AreOrdered ds
    → mapped (with_source names) ds ≡ ds
textures_same names no_items fits all = refl
textures_same names (item d ds) fits all =
    ap (λ (e : Data). item e (mapped (with_source names) ds)) (texture_same names d fits.0)
    ∙ ap (item d) (textures_same names ds fits.1 all.1)

-- ---- channels

node_there : (t : Data) → target.fits t → lacks_node t ≡ false
unfolding target
node_there t fits =
    node_in (is_some (as_object t)) (member_at (codes "node") t) _ fits.1.0 where
      node_in : (b : Bool) (o : Option Data) (P : Data → Type 0) → MatchOption o ⊥ P
          → (b && is_none o) ≡ false
      node_in b None P is = absurd is
      node_in true (Some d) P is = refl
      node_in false (Some d) P is = refl

names_node : (d : Data) → channel.fits d → names_no_node d ≡ false
unfolding channel
names_node d fits = target_in (member_at (codes "target") d) fits.1.1.0 where
  target_in : (o : Option Data) → MatchOption o ⊥ target.fits
      → unwrap_or (option_map lacks_node o) false ≡ false
  target_in None is = absurd is
  target_in (Some t) is = node_there t is

channels_same : (ds : Items) → AllFit channel.fits ds → kept ds ≡ ds
channels_same no_items fits = refl
channels_same (item d ds) fits =
    ap (λ (b : Bool). if b then kept ds else item d (kept ds)) (names_node d fits.0)
    ∙ ap (item d) (channels_same ds fits.1)

nodes_same : (e : Data) → FitsList channel.fits ⊥ e → with_nodes e ≡ e
nodes_same null fits = refl
nodes_same (boolean b) fits = refl
nodes_same (number n) fits = refl
nodes_same (string s) fits = refl
nodes_same (array ds) fits = ap array (channels_same ds fits)
nodes_same (object ms) fits = refl

animation_same : (d : Data) → animation.fits d → IsOrdered d
    → changed (codes "channels") with_nodes d ≡ d
unfolding animation
animation_same d fits all =
    changed_same (codes "channels") with_nodes d all
    (λ e is. nodes_same e (found (get (codes "channels") d) e _ _ is fits.1.0))

animations_same : (ds : Items) → AllFit animation.fits ds → AreOrdered ds
    → mapped (changed (codes "channels") with_nodes) ds ≡ ds
animations_same no_items fits all = refl
animations_same (item d ds) fits all =
    ap (λ (e : Data). item e (mapped (changed (codes "channels") with_nodes) ds))
    (animation_same d fits.0 all.0)
    ∙ ap (item d) (animations_same ds fits.1 all.1)

-- ---- documents

channels_whole : (b : Bool) (d : Data) → IsOrdered d → root.fits d
    → with_channels_mended b d ≡ d
unfolding root
channels_whole true d all fits =
    changed_same (codes "animations") (each_item (changed (codes "channels") with_nodes)) d all
    (λ e is.
    each_same animation.fits ⊤ (changed (codes "channels") with_nodes) e animations_same
    (get_in (codes "animations") d e all is)
    (found (get (codes "animations") d) e _ _ is fits.1.1.1.0))
channels_whole false d all fits = refl

textures_whole : (names : List (List ℕ)) (d : Data) → IsOrdered d → root.fits d
    → with_textures_mended names d ≡ d
unfolding root
textures_whole names d all fits =
    changed_same (codes "textures") (each_item (with_source names)) d all
    (λ e is.
    each_same texture.fits ⊤ (with_source names) e (textures_same names)
    (get_in (codes "textures") d e all is)
    (found (get (codes "textures") d) e _ _ is fits.1.1.1.1.1.1.1.1.1.1.1.1.1.1.1.0))

pub leaves_whole : LeavesWhole
leaves_whole mends none text d reads fits =
    let all = read_ordered text d reads.1 in
    let names = map (λ n. n.now) mends.texture_sources.now in
    let first = with_channels_mended mends.skip_channels_without_node d in
    ap (with_textures_mended names)
    (ap (λ (b : Bool). with_meshes_mended b first) none
    ∙ channels_whole mends.skip_channels_without_node d all fits)
    ∙ textures_whole names d all fits
