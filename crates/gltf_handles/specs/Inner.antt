-- What is inside a handle.
use Rattle.std.specs.Prelude.{ℕ}
use Rattle.gltf_validation.specs.declared.validate.Validate.{Ghosts as HasRules}
use Rattle.gltf_rules.specs.declared.records.Records.{Ghosts}
use Rattle.gltf_handles.specs.Handle.{Handle, Inner}
use Rattle.gltf_handles.specs.declared.inner.Inner.{Inner as Inside}

-- what a handle with this inside shows: of a record in a list, and of one that stands alone
module _ {T D : Type 0} {V : HasRules T} {G : Ghosts D} where
  abbrev pub handle_at : Inside T D V G → ℕ → Handle T
  handle_at inner i =
      record { document = G.root inner.document.now; index = i; json = inner.json.now }

  abbrev pub handle_in : Inside T D V G → Inner T
  handle_in inner = record { document = G.root inner.document.now; json = inner.json.now }
