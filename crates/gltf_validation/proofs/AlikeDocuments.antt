-- Documents that show the same break the same rules: `faults_alike`, for the law
-- `what_shows_the_same_breaks_the_same_rules`. Rules depend on a document and on the lengths of its
-- lists, so there are two steps: `counts_of-alike` and `root_rules-alike`. Both go through the
-- members of the root in the order of `counts_of` and `root_rules`, one line each, by the lemma for
-- that member's records in the other files `Alike*`. A new list at the root needs its line in both.
use Rattle.std.proofs.Common.{◌≡◌, Option, Some, None, option_map, refl, ap, ◌∙◌}
use Rattle.std.specs.Prelude.{codes, [], length}
use Rattle.gltf_json_record.specs.Scalars.{text}
use Rattle.gltf_json_animation.specs.Animations.{animation}
use Rattle.gltf_json_geometry.specs.Accessors.{accessor}
use Rattle.gltf_json_geometry.specs.Buffers.{buffer, buffer_view}
use Rattle.gltf_json_geometry.specs.Meshes.{mesh}
use Rattle.gltf_json_material.specs.Materials.{material}
use Rattle.gltf_json_scene.specs.Cameras.{camera}
use Rattle.gltf_json_scene.specs.Images.{image}
use Rattle.gltf_json_scene.specs.Lights.{light}
use Rattle.gltf_json_scene.specs.Scenes.{node, scene}
use Rattle.gltf_json_scene.specs.Skins.{skin}
use Rattle.gltf_json_scene.specs.Textures.{sampler, texture}
use Rattle.gltf_json.specs.Alike.{AreAlikeInEachMember}
use Rattle.gltf_json.specs.Documents.{root_lights, root_extensions}
use Rattle.gltf_json.specs.declared.extensions.root.KhrLightsPunctual.{KhrLightsPunctual}
use Rattle.gltf_json.specs.declared.extensions.root.Root as extended
use Rattle.gltf_json.specs.declared.root.Root.{Root}
use Rattle.gltf_validation.specs.declared.counts.Counts.{Counts}
use Rattle.gltf_json_record.specs.Member.{is_one_of}
use Rattle.gltf_validation.specs.declared.error.Error.TheVariants.{Unsupported}
use Rattle.gltf_validation.specs.Rules.{Condition, checks_at, broken}
use Rattle.gltf_validation.specs.Members.{index_rules, optional_rules}
use Rattle.gltf_validation.specs.Accessors.{accessor_rules}
use Rattle.gltf_validation.specs.Animations.{animation_rules}
use Rattle.gltf_validation.specs.Buffers.{buffer_rules, view_rules}
use Rattle.gltf_validation.specs.Cameras.{camera_rules}
use Rattle.gltf_validation.specs.Images.{image_rules}
use Rattle.gltf_validation.specs.Lights.{light_rules, lights_within, lights_of}
use Rattle.gltf_validation.specs.Materials.{material_rules}
use Rattle.gltf_validation.specs.Meshes.{mesh_rules}
use Rattle.gltf_validation.specs.Scenes.{node_rules, scene_rules}
use Rattle.gltf_validation.specs.Skins.{skin_rules}
use Rattle.gltf_validation.specs.Textures.{sampler_rules, texture_rules}
use Rattle.gltf_validation.specs.Documents.{counts_of, supported_extensions}
use Rattle.gltf_validation.specs.Documents.{supported_rules, root_lights_rules}
use Rattle.gltf_validation.specs.Documents.{root_extensions_rules, root_rules, Faults}
use Rattle.gltf_validation.proofs.Alike.{at, both, optional_alike, list_alike, length_alike}
use Rattle.gltf_validation.proofs.AlikeAccessors.{accessor_rules-alike}
use Rattle.gltf_validation.proofs.AlikeAnimations.{animation_rules-alike}
use Rattle.gltf_validation.proofs.AlikeBuffers.{buffer_rules-alike, view_rules-alike}
use Rattle.gltf_validation.proofs.AlikeCameras.{camera_rules-alike}
use Rattle.gltf_validation.proofs.AlikeImages.{image_rules-alike}
use Rattle.gltf_validation.proofs.AlikeLights.{light_rules-alike}
use Rattle.gltf_validation.proofs.AlikeMaterials.{material_rules-alike}
use Rattle.gltf_validation.proofs.AlikeMeshes.{mesh_rules-alike}
use Rattle.gltf_validation.proofs.AlikeScenes.{node_rules-alike, scene_rules-alike}
use Rattle.gltf_validation.proofs.AlikeSkins.{skin_rules-alike}
use Rattle.gltf_validation.proofs.AlikeTextures.{sampler_rules-alike, texture_rules-alike}

-- ---- the lights

lights_within-alike : (o p : Option KhrLightsPunctual)
    → option_map root_lights.content o ≡ option_map root_lights.content p
    → length (lights_within o) ≡ length (lights_within p)
unfolding root_lights
lights_within-alike None None e = refl
lights_within-alike None (Some y) e = cc
lights_within-alike (Some x) None e = cc
lights_within-alike (Some x) (Some y) e =
    length_alike light.content x.lights.items y.lights.items cc

lights_of-alike : (o p : Option extended.Root)
    → option_map root_extensions.content o ≡ option_map root_extensions.content p
    → length (lights_of o) ≡ length (lights_of p)
unfolding root_extensions
lights_of-alike None None e = refl
lights_of-alike None (Some y) e = cc
lights_of-alike (Some x) None e = cc
lights_of-alike (Some x) (Some y) e =
    let shown : root_extensions.content x ≡ root_extensions.content y = cc in
    lights_within-alike x.khr_lights_punctual y.khr_lights_punctual (ap (λ s. s.0) shown)

root_lights_rules-alike : (c : Counts) (x y : KhrLightsPunctual)
    → root_lights.content x ≡ root_lights.content y → root_lights_rules c x ≡ root_lights_rules c y
unfolding root_lights
root_lights_rules-alike c x y e =
    at (codes "lights") (list_alike light.content (light_rules c)
    (light_rules-alike c) x.lights.items y.lights.items e)

root_extensions_rules-alike : (c : Counts) (x y : extended.Root)
    → root_extensions.content x ≡ root_extensions.content y
    → root_extensions_rules c x ≡ root_extensions_rules c y
unfolding root_extensions
root_extensions_rules-alike c x y e =
    at (codes "KHR_lights_punctual")
    (optional_alike root_lights.content (root_lights_rules c)
    (root_lights_rules-alike c) x.khr_lights_punctual y.khr_lights_punctual (ap (λ s. s.0) e))

-- ---- the whole

counts_of-alike : (r s : Root) → AreAlikeInEachMember r s → counts_of r ≡ counts_of s
counts_of-alike r s same =
    rw (
      length_alike accessor.content r.accessors.items s.accessors.items same.accessors,
      length_alike buffer.content r.buffers.items s.buffers.items same.buffers,
      length_alike camera.content r.cameras.items s.cameras.items same.cameras,
      length_alike image.content r.images.items s.images.items same.images,
      lights_of-alike r.extensions s.extensions same.extensions,
      length_alike material.content r.materials.items s.materials.items same.materials,
      length_alike mesh.content r.meshes.items s.meshes.items same.meshes,
      length_alike node.content r.nodes.items s.nodes.items same.nodes,
      length_alike sampler.content r.samplers.items s.samplers.items same.samplers,
      length_alike scene.content r.scenes.items s.scenes.items same.scenes,
      length_alike skin.content r.skins.items s.skins.items same.skins,
      length_alike texture.content r.textures.items s.textures.items same.textures,
      length_alike buffer_view.content r.buffer_views.items s.buffer_views.items same.buffer_views,
    ) refl

root_rules-alike : (c : Counts) (r s : Root) → AreAlikeInEachMember r s
    → root_rules c r ≡ root_rules c s
root_rules-alike c r s same =
    both
    (both (at (codes "accessors") (list_alike accessor.content (accessor_rules c)
    (accessor_rules-alike c) r.accessors.items s.accessors.items same.accessors))
    (both (at (codes "animations") (list_alike animation.content (animation_rules c)
    (animation_rules-alike c) r.animations.items s.animations.items same.animations))
    (both (at (codes "buffers") (list_alike buffer.content (buffer_rules c)
    (buffer_rules-alike c) r.buffers.items s.buffers.items same.buffers))
    (both (at (codes "bufferViews") (list_alike buffer_view.content (view_rules c)
    (view_rules-alike c) r.buffer_views.items s.buffer_views.items same.buffer_views))
    (both (at (codes "cameras") (list_alike camera.content (camera_rules c)
    (camera_rules-alike c) r.cameras.items s.cameras.items same.cameras))
    (both (at (codes "images") (list_alike image.content (image_rules c)
    (image_rules-alike c) r.images.items s.images.items same.images))
    (both (at (codes "materials") (list_alike material.content (material_rules c)
    (material_rules-alike c) r.materials.items s.materials.items same.materials))
    (both (at (codes "meshes") (list_alike mesh.content (mesh_rules c)
    (mesh_rules-alike c) r.meshes.items s.meshes.items same.meshes))
    (both (at (codes "nodes") (list_alike node.content (node_rules c)
    (node_rules-alike c) r.nodes.items s.nodes.items same.nodes))
    (at (codes "samplers") (list_alike sampler.content (sampler_rules c)
    (sampler_rules-alike c) r.samplers.items s.samplers.items same.samplers)))))))))))
    (both (at (codes "scene") (ap (λ o. optional_rules (index_rules c.scenes) o) same.scene))
    (both (at (codes "scenes") (list_alike scene.content (scene_rules c)
    (scene_rules-alike c) r.scenes.items s.scenes.items same.scenes))
    (both (at (codes "skins") (list_alike skin.content (skin_rules c)
    (skin_rules-alike c) r.skins.items s.skins.items same.skins))
    (both (at (codes "textures") (list_alike texture.content (texture_rules c)
    (texture_rules-alike c) r.textures.items s.textures.items same.textures))
    (both (at (codes "extensionsRequired")
    (list_alike text.content supported_rules
    (λ x y. ap (λ t. Condition (is_one_of supported_extensions t) Unsupported))
    r.extensions_required.items s.extensions_required.items same.extensions_required))
    (at (codes "extensions") (optional_alike root_extensions.content (root_extensions_rules c)
    (root_extensions_rules-alike c) r.extensions s.extensions same.extensions)))))))

pub faults_alike : (r s : Root) → AreAlikeInEachMember r s → Faults r ≡ Faults s
unfolding Faults
faults_alike r s same =
    ap (λ t. broken (checks_at [] t))
    (ap (λ c. root_rules c r) (counts_of-alike r s same) ∙ root_rules-alike (counts_of s) r s same)
