use Rattle.gltf_converted.proofs.Held.{holds_each_image}
use Rattle.gltf_converted.proofs.laws.each_image_is_kept_by_bundles.Goals as goal

pub returns : goal.returns
returns c =
    holds_each_image c.uris_lead_to_names.ensures c.images_in_views_have_files.ensures
    c.images_with_uris_have_files.ensures c.images_are_kept_by_bundles.ensures
