-- Handles of records that are read from extensions.
use Rattle.std.specs.Prelude.{Option, MatchResult}
use Rattle.std.specs.declared.result.Result.{Result}
use Rattle.serde_json.specs.Data.{Data}
use Rattle.serde_json.specs.View.{view}
use Rattle.serde_json.specs.declared.value.Value.{Value}
use Rattle.gltf_json.specs.declared.root.Root.{Root}
use Rattle.gltf_json_record.specs.Kind.{Kind}
use Rattle.gltf_rules.specs.declared.records.Records.{Ghosts}
use Rattle.gltf_handles.specs.Handle.{Inner, IsIn}
use Rattle.gltf_handles.specs.Members.{Follows}
use Rattle.gltf_validation.specs.Rules.{Rules}
use Rattle.gltf_validation.specs.declared.counts.Counts.{Counts}
use Rattle.gltf_validation.specs.declared.validate.Validate.{Ghosts as HasRules}
use Rattle.gltf_extensions.specs.Faults.{IsFault}
use Rattle.gltf_extensions.specs.declared.fault.ExtensionFault.{ExtensionFault}
use Rattle.gltf_extensions.specs.declared.handle.Handle.{Handle}

module _ {T D : Type 0} {V : HasRules T} {G : Ghosts D} where
  -- what a handle shows
  abbrev pub handle_of : Handle T D V G → Inner T
  handle_of h = record { document = G.root h.document.now; json = h.json }

  -- the handle of a record, in the document r
  abbrev pub IsHandle : Root → T → Handle T D V G → Type 0
  IsHandle r x h = IsIn r x (handle_of h)

  -- the handle of the reading of a value of this kind, in the document r
  abbrev pub IsHandleOf : Kind T → Root → Data → Handle T D V G → Type 0
  IsHandleOf K r d h = (x : T) × K.is d x × IsHandle r x h

  -- what is read of the value of an extension, where it is there
  abbrev pub IsRead : Kind T → (Counts → T → Rules) → Root → Option Value
      → Option (Result (Handle T D V G) ExtensionFault) → Type 0
  IsRead K R r member result =
      Follows (λ v found. MatchResult found (IsHandleOf K r (view v)) (IsFault K R r (view v)))
      member result
