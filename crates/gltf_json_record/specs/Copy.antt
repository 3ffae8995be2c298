-- Copies of what was read.
use Rattle.std.specs.Prelude.{◌≡◌}
use Rattle.gltf_json_record.specs.Kind.{Kind}

-- the copy shows what the original shows
abbrev pub IsCopy : {T : Type 0} → Kind T → T → T → Type 0
IsCopy K x copy = K.content copy ≡ K.content x
