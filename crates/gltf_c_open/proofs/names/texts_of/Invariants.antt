use Rattle.std.proofs.Common.{◌≡◌, map, take}
use Rattle.std.specs.List.{filter}
use Rattle.std.specs.Str.{is_utf8}
use Rattle.gltf_c_open.proofs.names.texts_of.Given as goal

abbrev pub invariant-loop-part : goal.invariant-loop-part
invariant-loop-part l =
    map (λ k. k.now) l.texts.items ≡ filter is_utf8 (take l.part-index (map (λ k. k.now) l.parts))
