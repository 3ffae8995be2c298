-- What the contracts of the exports cite of the crates below this one.
pub use Rattle.gltf_c_bytes.specs.Info.{buffer_of, accessor_of, image_of}
pub use Rattle.gltf_c_bytes.specs.Lists.{numbers_of}
pub use Rattle.gltf_c_bytes.specs.Places.{buffer_place, view_place, accessor_place}
pub use Rattle.gltf_c_extensions.specs.Materials.{IsClearcoat, IsSheen, IsIridescence}
pub use Rattle.gltf_c_extensions.specs.Materials.{IsAnisotropy, IsDispersion}
pub use Rattle.gltf_c_extensions.specs.Materials.{IsDiffuseTransmission}
pub use Rattle.gltf_c_extensions.specs.Metadata.{IsPacket}
pub use Rattle.gltf_c_extensions.specs.Nodes.{IsInstancing, IsVisibility}
pub use Rattle.gltf_c_extensions.specs.Textures.{IsBasisu, IsWebp}
pub use Rattle.gltf_c_extensions.specs.Views.{IsMeshopt}
pub use Rattle.gltf_c_look.specs.Cameras.{camera_of}
pub use Rattle.gltf_c_look.specs.Lights.{light_of}
pub use Rattle.gltf_c_look.specs.Materials.{material_of}
pub use Rattle.gltf_c_look.specs.Texts.{text_of}
pub use Rattle.gltf_c_look.specs.Textures.{texture_of, sampler_of}
pub use Rattle.gltf_c_look.specs.Views.{view_of}
pub use Rattle.gltf_c_scene.specs.Animations.{shown_animation_of, shown_channel_of}
pub use Rattle.gltf_c_scene.specs.Attributes.{shown_attribute_of, found_attribute_of}
pub use Rattle.gltf_c_scene.specs.Attributes.{attribute_name_of}
pub use Rattle.gltf_c_scene.specs.Meshes.{shown_mesh_of, shown_primitive_of}
pub use Rattle.gltf_c_scene.specs.Meshes.{variant_material_of}
pub use Rattle.gltf_c_scene.specs.Names.{name_of}
pub use Rattle.gltf_c_scene.specs.Nodes.{shown_node_of, shown_scene_of}
pub use Rattle.gltf_c_scene.specs.Skins.{shown_skin_of, node_list_of}
pub use Rattle.gltf_c_scene.specs.Variants.{variant_fault_of}
pub use Rattle.gltf_c_handle.specs.Calls.{Gives, GivesRead, said, shown}
pub use Rattle.gltf_c_handle.specs.Opened.{IsOpened, wanted_of}
pub use Rattle.gltf_c_handle.specs.Waiting.{IsGivenBytes}
