use Rattle.std.specs.Prelude.{Result}
use Rattle.std.specs.declared.alloc.AllocError.{AllocError}
use Rattle.std.specs.BTreeMap.{BTreeMap}
use Rattle.std.proofs.Common.{ℕ, rules}
use Rattle.gltf_json_record.specs.contracts.index.IndexClone.TheImpl.{ghosts}
use Rattle.gltf_json_geometry.specs.declared.semantic.Semantic.{Semantic}
use Rattle.gltf_json_geometry.proofs.Copies.{clone_names}
use Rattle.gltf_json_geometry.proofs.attributes.attributes_copy.Lts.{impl_arg-0-0}
use Rattle.gltf_json_geometry.proofs.attributes.attributes_copy.Goals as goal

pub returns : goal.returns
returns c =
    let m : BTreeMap Semantic ℕ = c.args.attributes.now in
    let r : Result (BTreeMap Semantic ℕ) AllocError = c.clone.result in
    clone_names ((ghosts (impl_arg-0-0 c.clone.lifetimes)).is_clone)
    (λ x y same. search rules) m r _ c.clone.ensures.cases
