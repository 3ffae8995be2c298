-- From the accessors that a sampler gives to the indices that the channel's record leads to.
use Rattle.std.proofs.Common.{◌≡◌, ℕ, sym, ap, subst, ◌∙◌}
use Rattle.std.specs.Prelude.{Option, Some, option_map}
use Rattle.gltf_json.specs.declared.root.Root.{Root}
use Rattle.gltf_json_animation.specs.declared.animation.Animation.{Animation as AnimationRecord}
use Rattle.gltf_json_animation.specs.declared.animation.Channel.{Channel as ChannelRecord}
use Rattle.gltf_json_animation.specs.declared.animation.Property.{Property}
use Rattle.gltf_json_animation.specs.declared.animation.Sampler.{Sampler as SamplerRecord}
use Rattle.gltf_rules.specs.contracts.records.ValidRecords.TheImpl as valid
use Rattle.gltf_handles.specs.Accessors.{IsAccessor, accessor_handle}
use Rattle.gltf_handles.specs.Handle.{Handle}
use Rattle.gltf_handles.specs.Members.{Follows, IsCode}
use Rattle.gltf_handles.specs.declared.accessor.Accessor.{Accessor}
use Rattle.gltf_anim.specs.Animations.{IsSampler, IsTarget, sampler_handle, target_handle}
use Rattle.gltf_anim.specs.declared.animation.Sampler.{Sampler}
use Rattle.gltf_anim.specs.declared.animation.Target.{Target}
use Rattle.gltf_casting.specs.declared.outputs.ReadOutputs.{ReadOutputs}
use Rattle.gltf_data.specs.Answers.{Results}
use Rattle.gltf_read.specs.Channels.{property_of, sampler_of, output_of}
use Rattle.gltf_read.specs.Outputs.{AreOutputs}
use Rattle.gltf_read.specs.Reading.{Table, IsRead, ReadsMember, meant}
use Rattle.gltf_read.proofs.Members.{of_member}

-- of the sampler's index for times, or of that for values
pub sampler_read : {E : Type 0} (index : SamplerRecord → ℕ) (Are : Table E) (Gives : Results)
    (a : Handle AnimationRecord) (c : ChannelRecord) (sampler : Sampler Root valid.ghosts)
    (accessor : Accessor Root valid.ghosts) (result : Option E)
    → IsSampler a c.sampler sampler
    → IsAccessor (sampler_handle sampler).animation.document (index (sampler_handle sampler).json)
    accessor
    → Are (IsRead Gives (accessor_handle accessor).document (accessor_handle accessor).json)
    (accessor_handle accessor).json result
    → ReadsMember Are Gives a.document (option_map index (sampler_of a.json c)) result
sampler_read index Are Gives a c sampler accessor result is at reads =
    let s = (sampler_handle sampler).json in
    let followed : Follows (IsAccessor a.document) (option_map index (sampler_of a.json c))
    (Some accessor) =
    subst (λ found. Follows (IsAccessor a.document) (option_map index found) (Some accessor))
    (sym is.json)
    (subst (λ h. IsAccessor h.document (index s) accessor) is.animation at) in
    of_member Are Gives a.document (option_map index (sampler_of a.json c)) accessor result
    followed reads

pub outputs_read : (Gives : Results) (a : Handle AnimationRecord) (c : ChannelRecord)
    (target : Target Root valid.ghosts) (property : Property) (sampler : Sampler Root valid.ghosts)
    (accessor : Accessor Root valid.ghosts) (result : Option ReadOutputs)
    → IsTarget a c.target target → IsCode (target_handle target).json.path property
    → IsSampler a c.sampler sampler
    → IsAccessor (sampler_handle sampler).animation.document (sampler_handle sampler).json.output
    accessor
    → AreOutputs (Some property)
    (IsRead Gives (accessor_handle accessor).document (accessor_handle accessor).json)
    (accessor_handle accessor).json result
    → ReadsMember (AreOutputs (property_of c)) Gives a.document (output_of a.json c) result
outputs_read Gives a c target property sampler accessor result aims code is at reads =
    let means : property_of c ≡ Some property =
    ap (λ x. meant (λ p. p) x.path) (sym aims.json) ∙ ap (meant (λ p. p)) code in
    subst (λ p. ReadsMember (AreOutputs p) Gives a.document (output_of a.json c) result)
    (sym means)
    (sampler_read (λ x. x.output) (AreOutputs (Some property)) Gives a c sampler accessor result
    is at reads)
